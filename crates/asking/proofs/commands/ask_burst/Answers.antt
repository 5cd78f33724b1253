-- `asking::commands::ask_burst` meets its contract, by the ladder of 14 to 22.
use borrow.Author.Rules.{rules}
use mathlib.Core.Path.{◌≡◌}
use Rattle.asking.proofs.Ladders.{burst_ladder}
use Rattle.asking.proofs.commands.ask_burst.Goals as goal

pub returns-then-not-allows_all : goal.returns-then-not-allows_all
returns-then-not-allows_all c =
    rw (burst_ladder _ c.args.c _ _ _ _ c.args.k c.requires.2, ← c.allows_all.ensures, c.if-not-allows_all.true)

pub returns-then-not-finds_open : goal.returns-then-not-finds_open
returns-then-not-finds_open c =
    rw (burst_ladder _ c.args.c _ _ _ _ c.args.k c.requires.2, ← c.allows_all.ensures, c.if-not-allows_all.false, ← c.is_access-access.ensures, ← c.requires.1, ← c.finds_open.ensures, c.if-not-finds_open.true)

pub returns-in_err-lowest : goal.returns-in_err-lowest
returns-in_err-lowest c =
    let e : c.from_residual.result ≡ c.lowest.result = search rules in
    rw (
      e,
      burst_ladder _ c.args.c _ _ _ _ c.args.k c.requires.2,
      ← c.allows_all.ensures,
      c.if-not-allows_all.false,
      ← c.is_access-access.ensures,
      ← c.requires.1,
      ← c.finds_open.ensures,
      c.if-not-finds_open.false,
      ← c.any_shorts-any.ensures,
      ← c.access_shorts-rcd.ensures,
      ← c.or.ensures,
      ← c.lowest.ensures,
      c.in_err-lowest.was,
    )

pub returns : goal.returns
returns c =
    rw (
      c.bus_verdict.ensures,
      burst_ladder _ c.args.c _ _ _ _ c.args.k c.requires.2,
      ← c.allows_all.ensures,
      c.if-not-allows_all.false,
      ← c.is_access-access.ensures,
      ← c.requires.1,
      ← c.finds_open.ensures,
      c.if-not-finds_open.false,
      ← c.any_shorts-any.ensures,
      ← c.access_shorts-rcd.ensures,
      ← c.or.ensures,
      ← c.lowest.ensures,
      c.in_ok-lowest.was,
    )
