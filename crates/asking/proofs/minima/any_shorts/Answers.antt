use mathlib.Core.Path.{sym}
use Rattle.asking.proofs.Events.{any_shorts}
use Rattle.asking.proofs.minima.any_shorts.Goals as goal

pub returns : goal.returns
returns c = rw (c.short_since-3.ensures, c.short_since-2.ensures, c.short_since.ensures, c.at-mrd.ensures, c.last_load.ensures, c.last-refresh.ensures, c.none.ensures) (sym (any_shorts _ _ _ _))
