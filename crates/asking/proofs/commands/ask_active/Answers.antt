-- `asking::commands::ask_active` meets its contract, by the ladder of 14 to 16.
use Rattle.asking.proofs.Ladders.{active_ladder}
use Rattle.asking.proofs.commands.ask_active.Goals as goal

pub returns-then-not-allows_all : goal.returns-then-not-allows_all
returns-then-not-allows_all c =
    rw (active_ladder _ c.args.c _ _ _ _, ← c.allows_all.ensures, c.if-not-allows_all.true)

pub returns-then-not-is_closed : goal.returns-then-not-is_closed
returns-then-not-is_closed c =
    rw (active_ladder _ c.args.c _ _ _ _, ← c.allows_all.ensures, c.if-not-allows_all.false, ← c.requires.1, ← c.is_closed.ensures, c.if-not-is_closed.true)

pub returns : goal.returns
returns c =
    rw (active_ladder _ c.args.c _ _ _ _, ← c.allows_all.ensures, c.if-not-allows_all.false, ← c.requires.1, ← c.is_closed.ensures, c.if-not-is_closed.false, ← c.any_shorts-any.ensures, ← c.active_shorts-others.ensures, ← c.or.ensures, ← c.lowest.ensures)
