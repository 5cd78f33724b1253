-- What every record is asked in two steps: 10, 23, 11 and 12, and then 13 of the banks. Assumes nothing.
use Rattle.std.specs.Prelude.{Ok, Err}
use mathlib.Core.Path.{◌≡◌, refl, ap, ◌∙◌}
use mathlib.Core.Bool.{Bool, true, false, cond}
use mathlib.Core.List.{List, [], ◌∷◌, ◌++◌}
use Rattle.units.specs.declared.Clock.{Clock}
use Rattle.units.specs.declared.Ps.{Ps}
use Rattle.speed.specs.declared.SpeedTable.{SpeedTable}
use Rattle.layout.specs.declared.Record.{Record}
use Rattle.rules.specs.declared.Refusal.TheVariants.{LongRow}
use Rattle.rules.specs.declared.Refreshes.{Refreshes}
use Rattle.rules.specs.declared.Bank.{Bank}
use Rattle.rules.specs.Numbers.{rule, first_broken}
use Rattle.rules.specs.Banks.{every, open_within}
use Rattle.rules.specs.Rules.{every_rules}
use Rattle.asking.specs.Moment.{moment_rules}
use Rattle.asking.proofs.Ladders.{then, first_join}

last_row : (kept : Bool) → first_broken (rule LongRow kept ∷ []) ≡ cond kept (Ok tt) (Err LongRow)
last_row true = refl
last_row false = refl

-- number 13 is kept: no bank's row is "open longer than tRAS max"
abbrev pub none_too_long : SpeedTable → Ps → Ps → List Bank → Bool
none_too_long t period now bs = every (λ b. open_within period t.trasmax now b.status) bs

module _ (t : SpeedTable) (period : Ps) (refreshes : Refreshes) (bs : List Bank) (r : Record) (n : Clock) (now : Ps) where
  -- "tried in the order listed": 13 is the one row after the four
  pub rows_then_13 : every_rules t period refreshes bs r n now ≡ moment_rules t period refreshes r n now ++ (rule LongRow (none_too_long t period now bs) ∷ [])
  unfolding every_rules moment_rules
  rows_then_13 = refl

  pub moment_then_13 : first_broken (every_rules t period refreshes bs r n now)
      ≡ then (first_broken (moment_rules t period refreshes r n now)) (cond (none_too_long t period now bs) (Ok tt) (Err LongRow))
  moment_then_13 =
      ap first_broken rows_then_13
      ∙ (first_join (moment_rules t period refreshes r n now) (rule LongRow (none_too_long t period now bs) ∷ [])
      ∙ ap (then (first_broken (moment_rules t period refreshes r n now))) (last_row (none_too_long t period now bs)))
