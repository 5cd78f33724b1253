-- The one-record call on records in turn, each from what the call before it left (01, Verdicts). Definitions only.
use Rattle.std.specs.Prelude.{ℕ, zero, suc, cond, List, eqb, take, drop, Ok}
use Rattle.rules.specs.declared.State.{State}
use Rattle.rules.specs.declared.Setup.{Setup}
use Rattle.rules.specs.declared.Answer.{Answer}
use Rattle.rules.specs.declared.Ran.{Ran}
use Rattle.rules.specs.Numbers.{number_of}
use Rattle.rules.specs.Run.{Line}
use Rattle.rules.specs.OneRecord.{Stepped, step}
use Rattle.rules.specs.Report.{put_line, Left, left, ran}
use Rattle.hawsehole.specs.Monitor.{last_clock}

-- the line of a record that a call took: the clock that the next state holds, and the answer's beat
abbrev pub line_of : Stepped → Line
line_of x = record { clock = last_clock x.next.core.last; beat = x.answer.beat }

-- what a call that did not take its record answers: its verdict and the record that it reports
abbrev pub ran_of : Answer → Ran
ran_of a = ran a.verdict a.reported

-- the call on each of so many records of 16 bytes, up to the first whose answer is not number 0; a line for each record taken
unfoldable pub walk : Setup → State → ℕ → List ℕ → List ℕ → List ℕ → Left
walk u s zero bytes page beats = left (ran (Ok tt) s.core.number) page beats
walk u s (suc k) bytes page beats =
    let x = step u s (take 16 bytes) page in
    cond (eqb (number_of x.answer.verdict) 0)
    (walk u x.next k (drop 16 bytes) x.page (put_line x.answer.reported (line_of x) beats))
    (left (ran_of x.answer) x.page beats)
