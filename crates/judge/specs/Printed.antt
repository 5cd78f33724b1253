-- The printed case of document 01, from its 144 bytes to its three lines. Assumes nothing.
use Rattle.std.specs.Prelude.{ℕ, ◌≡◌, refl, List, replicate}
use Rattle.std.proofs.Common.{ap, ◌∙◌}
use Rattle.speed.specs.Table.{table_fits}
use Rattle.units.specs.Module.{module_of}
use Rattle.layout.specs.Bytes.{header_from, read_header}
use Rattle.facts.specs.Cases.{with_133}
use Rattle.rules.specs.Report.{ran, beat_word, put_line, lines_into}
use Rattle.hawsehole.specs.Trace.{Judged, judge, whole_rules, lent_rules}
use Rattle.hawsehole.specs.Numbers.{answer_word, whole_call, judge_beats}
use Rattle.hawsehole.specs.Printed.{bytes}
use Rattle.hawsehole.specs.Printed as case
use Rattle.lines.specs.Text.{glyph, digits, fields, beat_line, beat_text, beat_lines, ok_line, last_line, report}
use Rattle.lines.specs.Printed.{three_lines}
use Rattle.judge.specs.Output.{answer_of, printed, output}

-- what is printed of a judged trace
abbrev text_of : Judged → List ℕ
text_of j = report (lines_into 0 j.lines (replicate 8190 0)) (answer_word (ran j.verdict j.reported))

-- "DQ bits not named are 0"
abbrev trace : List ℕ
trace = bytes (replicate 8 0) (replicate 8 0)

-- the lines do not depend on what the page holds
by_definition : output trace ≡ text_of (judge with_133 trace (replicate 16384 255))
unfolding module_of output printed answer_of judge_beats whole_call read_header header_from judge whole_rules lent_rules table_fits
by_definition = refl

as_lines : text_of (judge with_133 trace (replicate 16384 255)) ≡ three_lines
unfolding beat_word put_line lines_into answer_word glyph digits fields beat_line beat_text beat_lines ok_line last_line report
as_lines = ap text_of case.printed

-- THE PRINTED CASE: what the program prints of these bytes
pub printed_case : output trace ≡ three_lines
printed_case = by_definition ∙ as_lines
