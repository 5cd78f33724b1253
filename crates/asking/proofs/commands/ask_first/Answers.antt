-- `asking::commands::ask_first` meets its contract: 14 alone.
use Rattle.asking.proofs.Ladders.{unbegun}
use Rattle.asking.proofs.commands.ask_first.Goals as goal

pub returns-then-not-begins : goal.returns-then-not-begins
returns-then-not-begins c = rw (unbegun _ c.args.c _ _ _ _ _ c.requires, ← c.begins.ensures, c.if-not-begins.true)

pub returns : goal.returns
returns c = rw (unbegun _ c.args.c _ _ _ _ _ c.requires, ← c.begins.ensures, c.if-not-begins.false)
