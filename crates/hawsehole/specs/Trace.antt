-- A whole trace from its bytes: verdicts 1 to 7, then record after record; verdict, beats and page (01, Verdicts). Definitions only.
use Rattle.rules.specs.declared.Refusal.{Refusal}
use Rattle.std.specs.Prelude.{ℕ, ◌+◌, ◌*◌, List, [], ◌∷◌, eqb, length, take, drop, Ok, Err}
use Rattle.units.specs.declared.Module.{Module}
use Rattle.units.specs.Module.{page_bytes, module_of}
use Rattle.units.specs.Time.{time}
use Rattle.speed.specs.Table.{table_fits}
use Rattle.layout.specs.declared.Header.{Header}
use Rattle.layout.specs.declared.Record.{Record}
use Rattle.layout.specs.Bytes.{header_of, read_header, header_number, records_of}
use Rattle.rules.specs.declared.Refusal.TheVariants.{HeaderZeros, WrongGrade, WrongLength, WrongPage, WrongPeriod, WrongTable, WrongVersion}
use Rattle.rules.specs.declared.State.{State}
use Rattle.rules.specs.declared.Setup.{Setup}
use Rattle.rules.specs.Numbers.{Rule, rule, first_broken, Verdict}
use Rattle.rules.specs.Parts.{start}
use Rattle.rules.specs.Run.{Line, Run, run, page_after}
use Rattle.rules.specs.OneRecord.{period_fits, grade_known}

-- 5, 6 and 7, with a page of so many bytes
unfoldable pub lent_rules : Setup → Header → ℕ → List Rule
lent_rules u h lent =
    rule HeaderZeros (eqb h.zeros 0)
    ∷ rule WrongTable (table_fits u.table)
    ∷ rule WrongPage (eqb lent (page_bytes (module_of h.grade)))
    ∷ []

-- rows 1 to 7, for a trace of so many bytes with this header: "length not 16 + 16 x count"
unfoldable pub whole_rules : Setup → Header → ℕ → ℕ → List Rule
whole_rules u h bytes lent =
    rule WrongLength (eqb bytes (16 + 16 * h.count))
    ∷ rule WrongVersion (eqb h.version 1)
    ∷ rule WrongPeriod (period_fits (time h.period))
    ∷ rule WrongGrade (grade_known h.grade)
    ∷ lent_rules u h lent

-- the same from the trace's bytes: "under 16 bytes" there is no header
abbrev pub trace_rules : Setup → List ℕ → ℕ → List Rule
trace_rules u trace lent =
    rule WrongLength (eqb (header_number (read_header trace)) 0) ∷ whole_rules u (header_of trace) (length trace) lent

-- verdict, reported record, a line for each record taken, and the page left
pub record Judged : Type 0 where
  pub verdict : Verdict
  pub reported : ℕ
  pub lines : List Line
  pub page : List ℕ

-- "The grade in header or state fixes the geometry" (02, K9)
abbrev pub module_in : List ℕ → Module
module_in trace = module_of (header_of trace).grade

-- the state before the first record of a trace with this header
abbrev pub start_of : Header → State
start_of h = start (time h.period) h.grade h.bank h.row

-- the records of a trace
abbrev pub records : List ℕ → List Record
records trace = records_of (module_in trace) (header_of trace).count (drop 16 trace)

abbrev pub run_of : Setup → List ℕ → Run
run_of u trace = run u (start_of (header_of trace)) (records trace)

-- the page of a trace's watched bank and row after these lines
abbrev pub page_of : List ℕ → List Line → List ℕ → List ℕ
page_of trace lines page = page_after (module_in trace) (header_of trace).bank (header_of trace).row (records trace) lines page

abbrev pub judged : List ℕ → List ℕ → Run → Judged
judged trace page v =
    record { verdict = v.verdict; reported = v.reported; lines = v.lines; page = page_of trace v.lines page }

-- "1 to 7 leave page and state untouched, report record 0 and look at no record"
abbrev pub refused : Refusal → List ℕ → Judged
refused w page = record { verdict = Err w; reported = 0; lines = []; page = page }

-- 1 to 7, then what this run of its records leaves
abbrev pub judged_by : Setup → List ℕ → List ℕ → Run → Judged
judged_by u trace page v =
    elim (first_broken (trace_rules u trace (length page))) [
      | Ok x ↦ judged trace page v
      | Err w ↦ refused w page
    ]

unfoldable pub judge : Setup → List ℕ → List ℕ → Judged
judge u trace page = judged_by u trace page (run_of u trace)

-- the page when the first k records were taken
abbrev pub page_when : Setup → List ℕ → List ℕ → ℕ → List ℕ
page_when u trace page k = page_of trace (take k (judge u trace page).lines) page
