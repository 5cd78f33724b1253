-- `asking::minima::active_shorts` meets its contract.
use Rattle.asking.proofs.Events.{active_shorts}
use mathlib.Core.Path.{sym}
use Rattle.asking.proofs.minima.active_shorts.Goals as goal

pub returns : goal.returns
returns c = rw (c.short_others.ensures, c.short_closed.ensures, c.short_since.ensures, c.none.ensures, c.requires.1) (sym (active_shorts _ _ _ _ _ c.well_formed.1.1.1.0.1.0.1))
