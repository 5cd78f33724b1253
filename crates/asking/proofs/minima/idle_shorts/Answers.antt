use mathlib.Core.Path.{sym}
use Rattle.asking.proofs.Events.{idle_shorts}
use Rattle.asking.proofs.minima.idle_shorts.Goals as goal

pub returns : goal.returns
returns c = rw (c.short_closings.ensures, c.none.ensures) (sym (idle_shorts _ _ _ _ c.well_formed.1.1.0.1.0.1))
