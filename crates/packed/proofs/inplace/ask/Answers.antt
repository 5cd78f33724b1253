-- `packed::inplace::ask` meets its contract.
use borrow.Author.Rules as author
use Rattle.rules.specs.Banks.{every, open_within}
use mathlib.Core.Bool.{true}
use Rattle.packed.specs.Packed.{banks_in}
use Rattle.asking.proofs.Moment.{moment_then_13}
use Rattle.asking.proofs.Ladders.{first_join}
use Rattle.rules.proofs.Kept.{every_clock}
use Rattle.rules.specs.Rules.{rules}
use mathlib.Core.Path.{◌≡◌, sym, ◌∙◌}
use Rattle.packed.proofs.inplace.ask.Goals as goal

pub returns-in_err-ask_moment : goal.returns-in_err-ask_moment
unfolding rules
returns-in_err-ask_moment c =
    let e : c.from_residual.result ≡ c.ask_moment.result = search author.rules in
    rw (e, first_join, ← c.at-moment.ensures, moment_then_13, ← c.ask_moment.ensures, c.in_err-ask_moment.was)

pub ask_command-requires : goal.ask_command-requires
ask_command-requires c =
    let a = c.args in
    let l = banks_in a.held.now in
    let within : every (λ b. open_within a.c.period a.t.trasmax c.at-moment.result b.status) l ≡ true =
    sym c.rows_within.ensures ∙ c.if-not-rows_within.false in (
      c.requires.0,
      every_clock a.t a.c.period a.c.startup.refreshes l a.r a.n c.at-moment.result
          (rw (moment_then_13 a.t a.c.period a.c.startup.refreshes l a.r a.n c.at-moment.result, sym c.ask_moment.ensures ∙ c.in_ok-ask_moment.was, within)),
    )

pub returns-then-not-rows_within : goal.returns-then-not-rows_within
unfolding rules
returns-then-not-rows_within c =
    rw (
      first_join,
      ← c.at-moment.ensures,
      moment_then_13,
      ← c.ask_moment.ensures,
      c.in_ok-ask_moment.was,
      ← c.rows_within.ensures,
      c.if-not-rows_within.true,
    )

pub returns : goal.returns
unfolding rules
returns c =
    rw (
      c.ask_command.ensures,
      first_join,
      ← c.at-moment.ensures,
      moment_then_13,
      ← c.ask_moment.ensures,
      c.in_ok-ask_moment.was,
      ← c.rows_within.ensures,
      c.if-not-rows_within.false,
    )
