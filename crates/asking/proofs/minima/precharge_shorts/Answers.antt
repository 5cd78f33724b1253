use mathlib.Core.Path.{sym}
use Rattle.asking.proofs.Events.{precharge_shorts}
use Rattle.asking.proofs.minima.precharge_shorts.Goals as goal

pub returns : goal.returns
returns c = rw (c.or-3.ensures, c.or-2.ensures, c.or.ensures, c.covered_shorts-fourth.ensures, c.covered_shorts-third.ensures, c.covered_shorts-second.ensures, c.covered_shorts-first.ensures) (sym (precharge_shorts _ _ _ _ _ c.well_formed.1.1.0.1.0.1))
