-- Beats as two words for each record in a lent slice of numbers, and a run of records with what it leaves. Definitions only.
use Rattle.std.specs.Prelude.{ℕ, suc, ◌+◌, ◌-◌, ◌*◌, ◌/◌, ◌%◌, ◌^◌, cond, List, [], ◌∷◌, leb, eqb, length, set, Ok, Err}
use Rattle.layout.specs.declared.Record.{Record}
use Rattle.layout.specs.Bytes.{records_of}
use Rattle.bursts.specs.declared.Cells.{Cells}
use Rattle.bursts.specs.declared.Beat.{Beat}
use Rattle.bursts.specs.declared.Beat.TheVariants.{Quiet, Stores, Drives}
use Rattle.rules.specs.declared.Refusal.TheVariants.{UnfitState, WrongLength}
use Rattle.rules.specs.declared.State.{State}
use Rattle.rules.specs.declared.Setup.{Setup}
use Rattle.rules.specs.declared.Ran.{Ran}
use Rattle.rules.specs.Parts.{state_module}
use Rattle.rules.specs.Numbers.{Rule, rule, first_broken, Verdict}
use Rattle.rules.specs.Fits.{number_max}
use Rattle.rules.specs.Run.{Line, Run, run, page_left, state_left}
use Rattle.rules.specs.OneRecord.{state_rules}

-- bits 0 to 7 the lanes, 8 to 23 the column, 24 to 39 the row, 40 to 47 the bank, 48 to 55 the kind: 1 read, 2 write
abbrev pub cells_word : ℕ → Cells → ℕ
cells_word kind c = kind * 2 ^ 48 + c.bank * 2 ^ 40 + c.row * 2 ^ 24 + c.column * 2 ^ 8 + c.lanes

unfoldable pub beat_word : Beat → ℕ
beat_word Quiet = 0
beat_word (Drives c) = cells_word 1 c
beat_word (Stores c) = cells_word 2 c

-- record k's two words, where the slice has their places: the beat, and the record's clock
unfoldable pub put_line : ℕ → Line → List ℕ → List ℕ
put_line k l beats = set (set beats (2 * k) (beat_word l.beat)) (2 * k + 1) l.clock.0

-- the lines of records from number k on
unfoldable pub lines_into : ℕ → List Line → List ℕ → List ℕ
lines_into k [] beats = beats
lines_into k (l ∷ ls) beats = lines_into (k + 1) ls (put_line k l beats)

-- what judging records one after another leaves
pub record Left : Type 0 where
  pub ran : Ran
  pub page : List ℕ
  pub beats : List ℕ

abbrev pub left : Ran → List ℕ → List ℕ → Left
left ran page beats = record { ran = ran; page = page; beats = beats }

abbrev pub ran : Verdict → ℕ → Ran
ran v k = record { verdict = v; reported = k }

-- what a run of these records leaves, with page and beats lent
unfoldable pub fold : Setup → State → List Record → List ℕ → List ℕ → Left
fold u s rs page beats =
    let v = run u s rs in
    left (ran v.verdict v.reported) (page_left s rs v page) (lines_into s.core.number v.lines beats)

-- what is tried before the first of the records: 1, where the bytes are no whole records; 3, 4, 6, 7 and 25
unfoldable pub records_rules : Setup → State → ℕ → ℕ → List Rule
records_rules u s bytes lent = rule WrongLength (eqb (bytes % 16) 0) ∷ state_rules u s lent

-- how many records come before one whose number is above 2^41
abbrev pub room : State → ℕ
room s = suc number_max - s.core.number

-- where there are more and those before it were taken, that one gets 25 as from the one-record call: "report record 0"
abbrev pub above_number_max : Ran → Ran
above_number_max r = elim r.verdict [ Ok x ↦ ran (Err UnfitState) 0 | Err w ↦ ran (Err w) r.reported ]

abbrev pub past_room : Left → Left
past_room l = left (above_number_max l.ran) l.page l.beats

-- so many of these records, those before one whose number is above 2^41
abbrev pub within_room : State → ℕ → ℕ
within_room s count = cond (leb count (room s)) count (room s)

-- the records of these bytes that a call may take
abbrev pub records_in : State → List ℕ → List Record
records_in s bytes = records_of (state_module s) (within_room s (length bytes / 16)) bytes

-- the call that judges the records of a lent slice from a state, each as the one-record call would; number 7 is asked of `lent`
unfoldable pub records_lent : Setup → State → List ℕ → ℕ → List ℕ → List ℕ → Left
records_lent u s bytes lent page beats =
    elim (first_broken (records_rules u s (length bytes) lent)) [
      | Ok x ↦
          cond (leb (length bytes / 16) (room s)) (fold u s (records_of (state_module s) (length bytes / 16) bytes) page beats)
          (past_room (fold u s (records_of (state_module s) (room s) bytes) page beats))
      | Err w ↦ left (ran (Err w) 0) page beats
    ]

abbrev pub records_call : Setup → State → List ℕ → List ℕ → List ℕ → Left
records_call u s bytes page beats = records_lent u s bytes (length page) page beats

-- the run behind the call: none where it looks at no record
unfoldable pub call_run : Setup → State → List ℕ → ℕ → Run
call_run u s bytes lent =
    elim (first_broken (records_rules u s (length bytes) lent)) [
      | Ok x ↦ run u s (records_in s bytes)
      | Err w ↦ record { verdict = Err w; reported = 0; lines = [] }
    ]

-- the state that the call leaves
abbrev pub records_next : Setup → State → List ℕ → ℕ → State
records_next u s bytes lent = state_left u s (records_in s bytes) (call_run u s bytes lent)
