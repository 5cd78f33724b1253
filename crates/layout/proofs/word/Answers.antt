-- `layout::word` meets its contract: bytes that do not meet, joined by `|`, are their sum.
use Rattle.layout.proofs.Joined.{eight_joined}
use Rattle.layout.proofs.word.Goals as goal

pub returns : goal.returns
returns c =
    let x = c.args in
    let r = c.ranges in
    eight_joined x.a x.b x.c x.d x.e x.f x.g x.h
    r.b.fits r.c.fits r.d.fits r.e.fits r.f.fits r.g.fits r.h.fits
