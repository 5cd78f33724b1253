-- The state after these records as looking back finds it. Definitions, and the clock that they leave free.
use Prim.Native.Nat.{ℕ}
use mathlib.Core.Path.{◌≡◌, refl}
use mathlib.Core.List.{List, [], ◌∷◌}
use Rattle.units.specs.declared.Ps.{Ps}
use Rattle.speed.specs.declared.SpeedTable.{SpeedTable}
use Rattle.layout.specs.declared.Record.{Record}
use Rattle.bursts.specs.declared.Bus.{Bus}
use Rattle.rules.specs.declared.Core.{Core}
use Rattle.rules.specs.declared.State.{State}
use Rattle.rules.specs.Parts.{next_clock}
use Rattle.lookback.specs.Past.{first_free, count, newest}
use Rattle.lookback.specs.StartUp.{startup_in}
use Rattle.lookback.specs.Look.{banks_in}
use Rattle.lookback.proofs.Held.{uncut, write_back, held}
use Rattle.lookback.proofs.HeldMasks.{masks_held}

abbrev pub bus_in : List Record → Bus
bus_in past = record { write = write_back uncut past; reads = held past; masks = masks_held past }

abbrev pub core_in : Ps → ℕ → ℕ → ℕ → List Record → Core
core_in period grade bank row past =
    record {
      period = period;
      grade = grade;
      bank = bank;
      row = row;
      number = count past;
      last = newest past;
      startup = startup_in past;
      bus = bus_in past;
    }

abbrev pub state_in : SpeedTable → Ps → ℕ → ℕ → ℕ → List Record → State
state_in t period grade bank row past = record { core = core_in period grade bank row past; banks = banks_in t period past }

pub free_clock : (past : List Record) → next_clock (newest past) ≡ first_free past
free_clock [] = refl
free_clock (r ∷ past) = refl
