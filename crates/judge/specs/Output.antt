-- What the program prints for what it reads (01, The module and what we judge; The printed case). Definitions only.
use Rattle.layout.specs.declared.Header.{Header}
use Rattle.std.specs.Prelude.{ℕ, ◌*◌, cond, List, ltb, length, replicate, Option, None, Some}
use Rattle.units.specs.declared.Module.TheVariants.{Bench}
use Rattle.units.specs.Module.{page_bytes}
use Rattle.speed.specs.Table.{of_grade}
use Rattle.layout.specs.Bytes.{read_header}
use Rattle.hawsehole.specs.Numbers.{Answered, judge_beats}
use Rattle.lines.specs.Text.{report, too_long}

-- "A program reads a trace of at most 65,536 bytes": 4,095 records
abbrev pub trace_max : ℕ
trace_max = 65_536

abbrev pub records_max : ℕ
records_max = 4_095

-- "The program takes the header's grade"; with no header the trace gets 1 by any table
abbrev pub grade_of : Option Header → ℕ
grade_of (Some h) = h.grade
grade_of None = 0

-- the judge's answer, "from a page of zeros" (either grade is the bench's), and two words for each record
unfoldable pub answer_of : List ℕ → Answered
answer_of trace =
    judge_beats (of_grade (grade_of (read_header trace))) trace (replicate (page_bytes Bench) 0) (replicate (2 * records_max) 0)

-- what is printed of a trace
unfoldable pub printed : List ℕ → List ℕ
printed trace = report (answer_of trace).beats (answer_of trace).word

-- "longer input prints `TOO LONG` alone"
unfoldable pub output : List ℕ → List ℕ
output input = cond (ltb trace_max (length input)) too_long (printed input)
