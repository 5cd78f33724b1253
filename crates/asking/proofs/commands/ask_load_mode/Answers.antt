-- `asking::commands::ask_load_mode` meets its contract, by the ladder of 14 to 18.
use borrow.Author.Rules.{rules}
use mathlib.Core.Path.{◌≡◌}
use Rattle.asking.proofs.Ladders.{load_ladder}
use Rattle.asking.proofs.commands.ask_load_mode.Goals as goal

pub returns-then-not-two_done : goal.returns-then-not-two_done
returns-then-not-two_done c =
    rw (load_ladder _ c.args.c _ _ _ _ c.requires.1, ← c.two_done.ensures, c.if-not-two_done.true)

pub returns-then-not-all_closed : goal.returns-then-not-all_closed
returns-then-not-all_closed c =
    rw (load_ladder _ c.args.c _ _ _ _ c.requires.1, ← c.two_done.ensures, c.if-not-two_done.false, ← c.all_closed.ensures, c.if-not-all_closed.true)

pub returns-in_err-lowest : goal.returns-in_err-lowest
returns-in_err-lowest c =
    let e : c.from_residual.result ≡ c.lowest.result = search rules in
    rw (e, load_ladder _ c.args.c _ _ _ _ c.requires.1, ← c.two_done.ensures, c.if-not-two_done.false, ← c.all_closed.ensures, c.if-not-all_closed.false, ← c.any_shorts-any.ensures, ← c.idle_shorts-idle.ensures, ← c.or.ensures, ← c.lowest.ensures, c.in_err-lowest.was)

pub returns : goal.returns
returns c =
    rw (
      c.mode_verdict.ensures,
      c.of_grade.ensures,
      load_ladder _ c.args.c _ _ _ _ c.requires.1,
      ← c.two_done.ensures,
      c.if-not-two_done.false,
      ← c.all_closed.ensures,
      c.if-not-all_closed.false,
      ← c.any_shorts-any.ensures,
      ← c.idle_shorts-idle.ensures,
      ← c.or.ensures,
      ← c.lowest.ensures,
      c.in_ok-lowest.was,
    )
