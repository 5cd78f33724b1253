-- Record after record up to the first refused one: verdict, reported beats, stores (01, Verdicts and Beats). Definitions only.
use Rattle.rules.specs.Numbers.{Verdict}
use Rattle.std.specs.Prelude.{ℕ, List, [], ◌∷◌, length, take, Ok, Err}
use Rattle.units.specs.declared.Clock.{Clock}
use Rattle.units.specs.declared.Module.{Module}
use Rattle.layout.specs.declared.Record.{Record}
use Rattle.bursts.specs.declared.Beat.{Beat}
use Rattle.bursts.specs.declared.Beat.TheVariants.{Quiet}
use Rattle.page.specs.Store.{stored}
use Rattle.rules.specs.declared.State.{State}
use Rattle.rules.specs.declared.Setup.{Setup}
use Rattle.rules.specs.Parts.{clock_of, state_module}
use Rattle.rules.specs.Rules.{ask}
use Rattle.rules.specs.After.{own_beat, next}

-- what an accepted record reports: its clock, and the beat on it
pub record Line : Type 0 where
  pub clock : Clock
  pub beat : Beat

-- the verdict, the record that it reports, and a line for each record taken
pub record Run : Type 0 where
  pub verdict : Verdict
  pub reported : ℕ
  pub lines : List Line

abbrev pub line : State → Record → Line
line s r = record { clock = clock_of s.core r; beat = own_beat s r }

abbrev pub with_line : Line → Run → Run
with_line l u = record { verdict = u.verdict; reported = u.reported; lines = l ∷ u.lines }

-- ask, then take or leave: "the page holds the stores of the records before it, .. and nothing after it is read"; at the end "number 0
-- and its record count"
unfoldable pub run : Setup → State → List Record → Run
run u s [] = record { verdict = Ok tt; reported = s.core.number; lines = [] }
run u s (r ∷ rs) =
    elim (ask u s r) [
      | Ok x ↦ with_line (line s r) (run u (next u s r) rs)
      | Err w ↦ record { verdict = Err w; reported = s.core.number; lines = [] }
    ]

-- the page of bank `bank`, row `row`, after these lines: each record's data beside its beat
unfoldable pub page_after : Module → ℕ → ℕ → List Record → List Line → List ℕ → List ℕ
page_after m bank row [] ls page = page
page_after m bank row (r ∷ rs) [] page = page
page_after m bank row (r ∷ rs) (l ∷ ls) page = page_after m bank row rs ls (stored m bank row r.dq l.beat page)

-- ── What a run leaves ──

-- the page of the watched bank and row
abbrev pub page_left : State → List Record → Run → List ℕ → List ℕ
page_left s rs v page = page_after (state_module s) s.core.bank s.core.row rs v.lines page

-- the state after these records, each taken in its turn
unfoldable pub all_taken : Setup → State → List Record → State
all_taken u s [] = s
all_taken u s (r ∷ rs) = all_taken u (next u s r) rs

-- the state after those that the run took: "the refused record changes neither state nor page"
abbrev pub state_left : Setup → State → List Record → Run → State
state_left u s rs v = all_taken u s (take (length v.lines) rs)

-- the beat of the last of these lines, and that before them where there is none
abbrev pub last_beat : Beat → List Line → Beat
last_beat w [] = w
last_beat w (l ∷ ls) = last_beat l.beat ls

-- the beat of the last record that the run took
abbrev pub beat_left : Run → Beat
beat_left v = last_beat Quiet v.lines
