-- What is tried before the first of many records, after and by number 1. Assumes nothing.
use Rattle.std.specs.Prelude.{Err}
use Prim.Native.Nat.{ℕ, ◌%◌}
use mathlib.Core.Path.{◌≡◌}
use mathlib.Core.Bool.{true, false}
use lib.Dec.{eqb}
use Rattle.rules.specs.declared.Refusal.TheVariants.{WrongLength}
use Rattle.rules.specs.declared.State.{State}
use Rattle.rules.specs.declared.Setup.{Setup}
use Rattle.rules.specs.Numbers.{first_broken}
use Rattle.rules.specs.OneRecord.{state_rules}
use Rattle.rules.specs.Report.{records_rules}

-- after number 1
pub records_ladder : (u : Setup) (s : State) (bytes lent : ℕ) → eqb (bytes % 16) 0 ≡ true
    → first_broken (records_rules u s bytes lent) ≡ first_broken (state_rules u s lent)
unfolding records_rules
records_ladder u s bytes lent h = rw h

pub records_wrong : (u : Setup) (s : State) (bytes lent : ℕ) → eqb (bytes % 16) 0 ≡ false → first_broken (records_rules u s bytes lent) ≡ Err WrongLength
unfolding records_rules
records_wrong u s bytes lent h = rw h
