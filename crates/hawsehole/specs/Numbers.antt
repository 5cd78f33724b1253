-- The judge for C: plain numbers in, one number out, page and beats lent (01, The console's C service tool). Definitions only.
use Rattle.std.specs.Prelude.{ℕ, ◌+◌, ◌*◌, ◌%◌, ◌^◌, List, []}
use Rattle.speed.specs.declared.SpeedTable.{SpeedTable}
use Rattle.rules.specs.declared.Setup.{Setup}
use Rattle.rules.specs.declared.Ran.{Ran}
use Rattle.rules.specs.Numbers.{number_of, interval_of}
use Rattle.rules.specs.Report.{Left, left, ran, lines_into}
use Rattle.hawsehole.specs.Trace.{judge}

-- what the whole-trace judge leaves: the verdict with the record it reports, the page, and the beats in a lent slice
unfoldable pub whole_call : Setup → List ℕ → List ℕ → List ℕ → Left
whole_call u trace page beats =
    let j = judge u trace page in
    left (ran j.verdict j.reported) j.page (lines_into 0 j.lines beats)

-- bits 0 to 7 the number, 8 to 15 the interval, 16 to 39 the record
abbrev pub word_of : ℕ → ℕ → ℕ → ℕ
word_of number interval reported = number + interval * 2 ^ 8 + reported % 2 ^ 24 * 2 ^ 16

unfoldable pub answer_word : Ran → ℕ
answer_word r = word_of (number_of r.verdict) (interval_of r.verdict) r.reported

-- what the call leaves
pub record Answered : Type 0 where
  pub word : ℕ
  pub page : List ℕ
  pub beats : List ℕ

abbrev pub answered : ℕ → List ℕ → List ℕ → Answered
answered word page beats = record { word = word; page = page; beats = beats }

abbrev pub packed : Left → Answered
packed l = answered (answer_word l.ran) l.page l.beats

abbrev pub with_table : SpeedTable → Setup
with_table t = record { table = t }

unfoldable pub judge_beats : SpeedTable → List ℕ → List ℕ → List ℕ → Answered
judge_beats t trace page beats = packed (whole_call (with_table t) trace page beats)

-- the same with no beats lent
pub record Alone : Type 0 where
  pub word : ℕ
  pub page : List ℕ

abbrev pub alone : ℕ → List ℕ → Alone
alone word page = record { word = word; page = page }

unfoldable pub judge_alone : SpeedTable → List ℕ → List ℕ → Alone
judge_alone t trace page =
    let a = judge_beats t trace page [] in
    alone a.word a.page
