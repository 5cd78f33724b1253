-- The judge that looks back: each record meets the verdict table with what the earlier records show (02, K6). Definitions only.
use Rattle.std.specs.Prelude.{ℕ, List, [], ◌∷◌, Ok, Err}
use Rattle.units.specs.declared.Clock.{Clock}
use Rattle.units.specs.declared.Ps.{Ps}
use Rattle.units.specs.declared.Module.{Module}
use Rattle.units.specs.Time.{at}
use Rattle.speed.specs.declared.SpeedTable.{SpeedTable}
use Rattle.layout.specs.declared.Record.{Record}
use Rattle.rules.specs.declared.Bank.{Bank}
use Rattle.rules.specs.declared.Setup.{Setup}
use Rattle.rules.specs.Numbers.{first_broken, Verdict}
use Rattle.rules.specs.Parts.{bank_of}
use Rattle.rules.specs.Rules.{Found, rules}
use Rattle.rules.specs.Run.{Line, Run, with_line}
use Rattle.lookback.specs.Past.{clock_in, count}
use Rattle.lookback.specs.StartUp.{startup_in}
use Rattle.lookback.specs.Banks.{last_active, status_in}
use Rattle.lookback.specs.Bursts.{finished_in}
use Rattle.lookback.specs.Beats.{stored_in, clear_in, beat_in}

-- bank i after these records
abbrev pub bank_in : SpeedTable → Ps → ℕ → List Record → Bank
bank_in t period i past = bank_of (status_in t period i past) (last_active i past) (stored_in i past)

-- "4 banks"
abbrev pub banks_in : SpeedTable → Ps → List Record → List Bank
banks_in t period past =
    bank_in t period 0 past ∷ bank_in t period 1 past ∷ bank_in t period 2 past ∷ bank_in t period 3 past ∷ []

-- what the rows read, for a record on clock n after these
abbrev pub found_in : SpeedTable → Ps → List Record → Clock → Found
found_in t period past n =
    record { startup = startup_in past; banks = banks_in t period past; finished = finished_in n past; clear = clear_in past n }

-- may record r stand after these?
unfoldable pub look : Setup → Module → Ps → List Record → Record → Verdict
look u m period past r =
    let n = clock_in past r in
    first_broken (rules u.table m period (found_in u.table period past n) r n (at period n))

-- what record r after these reports: its clock, and the beat on it
abbrev pub line_in : List Record → Record → Line
line_in past r = record { clock = clock_in past r; beat = beat_in past r }

-- record after record, each looking back over those before it, up to the first refused one
unfoldable pub look_run : Setup → Module → Ps → List Record → List Record → Run
look_run u m period past [] = record { verdict = Ok tt; reported = count past; lines = [] }
look_run u m period past (r ∷ rs) =
    elim (look u m period past r) [
      | Ok x ↦ with_line (line_in past r) (look_run u m period (r ∷ past) rs)
      | Err w ↦ record { verdict = Err w; reported = count past; lines = [] }
    ]
