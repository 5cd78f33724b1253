use mathlib.Core.Path.{sym}
use Rattle.asking.proofs.Events.{precharged_shorts}
use Rattle.asking.proofs.minima.precharged_shorts.Goals as goal

pub returns : goal.returns
returns c = rw (c.short_stored.ensures, c.short_closed.ensures, c.short_opened.ensures, c.none.ensures) (sym (precharged_shorts _ _ _ _))
