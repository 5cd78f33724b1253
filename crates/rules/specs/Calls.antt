-- What the functions behind a call may rely on: its own checks 3, 6 and 25 (its clocks and times), as facts. Definitions only.
use Rattle.std.specs.Prelude.{ℕ, suc, ◌+◌, ◌≤◌, ◌<◌, List}
use Rattle.units.specs.Reach.{FitPeriod}
use Rattle.speed.specs.declared.SpeedTable.{SpeedTable}
use Rattle.speed.specs.Bounds.{Bounds}
use Rattle.layout.specs.declared.Record.{Record}
use Rattle.layout.specs.Widths.{Widths}
use Rattle.rules.specs.declared.Bank.{Bank}
use Rattle.rules.specs.declared.Core.{Core}
use Rattle.rules.specs.declared.State.{State}
use Rattle.rules.specs.declared.Setup.{Setup}
use Rattle.rules.specs.Fits.{number_max}
use Rattle.rules.specs.Banks.{bank_at}
use Rattle.rules.specs.Admitted.{FitBank, FitCore, Admitted}

-- number 25, of each bank by its number
pub record BanksFit (bs : List Bank) : Type 0 where
  pub each : (i : ℕ) → FitBank (bank_at bs i)

-- a call that 1, 3, 4, 6, 7 and 25 passed
pub record Call (t : SpeedTable) (c : Core) (bs : List Bank) (r : Record) : Type 0 where
  pub table : Bounds t
  pub period : FitPeriod c.period
  pub core : FitCore c
  pub banks : BanksFit bs
  pub widths : Widths r

-- a state from which so many records may still be judged; the last of them may have number 2^41, and after it none is judged
pub record Able (u : Setup) (s : State) (count : ℕ) : Type 0 where
  pub table : Bounds u.table
  pub period : FitPeriod s.core.period
  pub state : 0 < count → Admitted s
  pub room : s.core.number + count ≤ suc number_max
