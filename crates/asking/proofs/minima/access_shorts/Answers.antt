-- `asking::minima::access_shorts` meets its contract.
use Rattle.asking.proofs.Events.{access_shorts}
use mathlib.Core.Path.{sym}
use Rattle.asking.proofs.minima.access_shorts.Goals as goal

pub returns : goal.returns
returns c = rw (c.short_opened.ensures, c.none.ensures) (sym (access_shorts _ _ _ c.args.access c.args.b))
