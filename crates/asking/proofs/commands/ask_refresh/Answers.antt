-- `asking::commands::ask_refresh` meets its contract, by the ladder of 14 to 16.
use Rattle.asking.proofs.Ladders.{refresh_ladder}
use Rattle.asking.proofs.commands.ask_refresh.Goals as goal

pub returns-then-not-all_closed : goal.returns-then-not-all_closed
returns-then-not-all_closed c =
    rw (refresh_ladder _ c.args.c _ _ _ _ c.requires.1, ← c.all_closed.ensures, c.if-not-all_closed.true)

pub returns : goal.returns
returns c =
    rw (refresh_ladder _ c.args.c _ _ _ _ c.requires.1, ← c.all_closed.ensures, c.if-not-all_closed.false, ← c.any_shorts-any.ensures, ← c.idle_shorts-idle.ensures, ← c.or.ensures, ← c.lowest.ensures)
