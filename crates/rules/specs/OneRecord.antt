-- One record from bytes and a state: asked, taken, or asked and then taken (01, Verdicts; 02, K7). Definitions only.
use Rattle.std.specs.Prelude.{ℕ, Bool, ◌&&◌, ◌||◌, List, [], ◌∷◌, leb, eqb, length, Ok, Err}
use Rattle.units.specs.declared.Ps.{Ps}
use Rattle.units.specs.Module.{page_bytes}
use Rattle.speed.specs.Table.{table_fits}
use Rattle.layout.specs.declared.Record.{Record}
use Rattle.layout.specs.Bytes.{record_of, read_record, record_number}
use Rattle.bursts.specs.declared.Beat.{Beat}
use Rattle.bursts.specs.declared.Beat.TheVariants.{Quiet}
use Rattle.rules.specs.declared.Refusal.TheVariants.{UnfitState, WrongGrade, WrongLength, WrongPage, WrongPeriod, WrongTable}
use Rattle.rules.specs.declared.State.{State}
use Rattle.rules.specs.declared.Setup.{Setup}
use Rattle.rules.specs.declared.Answer.{Answer}
use Rattle.rules.specs.Parts.{state_module}
use Rattle.rules.specs.Numbers.{Rule, rule, first_broken, Verdict}
use Rattle.rules.specs.Rules.{ask}
use Rattle.rules.specs.Run.{Run, run, page_left, state_left, beat_left}
use Rattle.rules.specs.Fits.{fits}

-- "period outside 1,000 to 65,535"
abbrev pub period_fits : Ps → Bool
period_fits p = leb 1_000 p.0 && leb p.0 65_535

-- "speed grade 8 (1 = -13E, 2 = -133)"
abbrev pub grade_known : ℕ → Bool
grade_known g = eqb g 1 || eqb g 2

-- 6, 7 and 25: table, page and state are what they must be
abbrev pub fit_rules : Setup → State → ℕ → List Rule
fit_rules u s lent =
    rule WrongTable (table_fits u.table)
    ∷ rule WrongPage (eqb lent (page_bytes (state_module s)))
    ∷ rule UnfitState (fits s)
    ∷ []

-- 3, 4, 6, 7 and 25, of a state and a page of so many bytes: "4 (also for the state's grade)" (02, K9)
unfoldable pub state_rules : Setup → State → ℕ → List Rule
state_rules u s lent =
    rule WrongPeriod (period_fits s.core.period)
    ∷ rule WrongGrade (grade_known s.core.grade)
    ∷ fit_rules u s lent

-- "A record not 16 bytes long gives 1, then 3, 6, 7, 25", with 4 at its place: what is tried before the record is looked at
unfoldable pub entry_rules : Setup → State → List ℕ → List ℕ → List Rule
entry_rules u s bytes page =
    rule WrongLength (eqb (record_number (read_record (state_module s) bytes)) 0) ∷ state_rules u s (length page)

-- the record that these bytes are to the state's module
abbrev pub record_for : State → List ℕ → Record
record_for s bytes = record_of (state_module s) bytes

abbrev pub answer_of : Verdict → ℕ → Beat → Answer
answer_of v reported beat = record { verdict = v; reported = reported; beat = beat }

-- ── Asking ──

-- what is found, and of which record; no beat runs where nothing is taken
abbrev pub found_of : Verdict → ℕ → Answer
found_of v reported = answer_of v reported Quiet

-- "1 to 7 and 25 .. report record 0 and look at no record"; "10 and all below it report the record's number", "a taken record 0 and its
-- own number". The page is lent for number 7 alone
unfoldable pub ask_call : Setup → State → List ℕ → List ℕ → Answer
ask_call u s bytes page =
    elim (first_broken (entry_rules u s bytes page)) [
      | Ok x ↦ found_of (ask u s (record_for s bytes)) s.core.number
      | Err w ↦ found_of (Err w) 0
    ]

-- ── Taking ──

-- what it leaves: the beat on the record's clock, the next state, and the page
pub record Took : Type 0 where
  pub beat : Beat
  pub next : State
  pub page : List ℕ

abbrev pub took : Beat → State → List ℕ → Took
took beat s page = record { beat = beat; next = s; page = page }

-- what a run of these records leaves
abbrev pub left_by : Setup → State → List Record → List ℕ → Run → Took
left_by u s rs page v = took (beat_left v) (state_left u s rs v) (page_left s rs v page)

-- a run of the one record
abbrev pub take_record : Setup → State → Record → List ℕ → Took
take_record u s r page = left_by u s (r ∷ []) page (run u s (r ∷ []))

-- "1 to 7 and 25 leave page and state untouched", and there is no beat
unfoldable pub take_call : Setup → State → List ℕ → List ℕ → Took
take_call u s bytes page =
    elim (first_broken (entry_rules u s bytes page)) [
      | Ok x ↦ take_record u s (record_for s bytes) page
      | Err w ↦ took Quiet s page
    ]

-- ── Asking, then taking ──

-- what the call leaves: "the state goes in, and the answer comes back beside the next state"; and the page
pub record Stepped : Type 0 where
  pub answer : Answer
  pub next : State
  pub page : List ℕ

abbrev pub stepped : Answer → State → List ℕ → Stepped
stepped a s page = record { answer = a; next = s; page = page }

-- an answer, and what was taken after it
abbrev pub both : Answer → Took → Stepped
both a t = stepped (answer_of a.verdict a.reported t.beat) t.next t.page

unfoldable pub step : Setup → State → List ℕ → List ℕ → Stepped
step u s bytes page = both (ask_call u s bytes page) (take_call u s bytes page)
