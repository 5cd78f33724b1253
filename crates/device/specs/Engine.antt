-- What the engine leaves of records in turn: verdict, last beat and state, with page and beats lent. Definitions only.
use Rattle.rules.specs.declared.Refusal.TheVariants.{UnfitState}
use Rattle.rules.specs.Numbers.{Verdict}
use Rattle.std.specs.Prelude.{ℕ, List, Ok, Err}
use Rattle.layout.specs.declared.Record.{Record}
use Rattle.bursts.specs.declared.Beat.{Beat}
use Rattle.rules.specs.declared.State.{State}
use Rattle.rules.specs.declared.Setup.{Setup}
use Rattle.rules.specs.Run.{Run, run, page_left, state_left, last_beat}
use Rattle.rules.specs.Report.{lines_into}
use Rattle.device.specs.declared.Went.{Went}

abbrev pub went : Verdict → ℕ → Beat → State → Went
went v reported beat s = record { verdict = v; reported = reported; beat = beat; next = s }

-- the same with the page and the beats
pub record Gone : Type 0 where
  pub went : Went
  pub page : List ℕ
  pub beats : List ℕ

abbrev pub gone : Went → List ℕ → List ℕ → Gone
gone w page beats = record { went = w; page = page; beats = beats }

-- what this run of the records leaves, after a record with this beat
abbrev pub run_left : Setup → State → List Record → Beat → List ℕ → List ℕ → Run → Gone
run_left u s rs beat page beats v =
    gone (went v.verdict v.reported (last_beat beat v.lines) (state_left u s rs v)) (page_left s rs v page)
    (lines_into s.core.number v.lines beats)

unfoldable pub went_by : Setup → State → List Record → Beat → List ℕ → List ℕ → Gone
went_by u s rs beat page beats = run_left u s rs beat page beats (run u s rs)

-- where all records that may be judged were taken and more follow: 25, "report record 0"
abbrev pub above_max : Went → Went
above_max w =
    elim w.verdict [
      | Ok x ↦ went (Err UnfitState) 0 w.beat w.next
      | Err v ↦ went (Err v) w.reported w.beat w.next
    ]

-- "a taken record 0 and its own number"; a refused one what was found
abbrev pub reported_by : Verdict → ℕ → ℕ → ℕ
reported_by v reported own = elim v [ Ok x ↦ own | Err w ↦ reported ]
