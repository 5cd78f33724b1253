-- What is printed of a trace, from what the judge answered of it. Assumes nothing.
use Rattle.layout.specs.declared.Header.{Header}
use Rattle.std.specs.Prelude.{Option}
use Prim.Native.Nat.{ℕ}
use mathlib.Core.Path.{◌≡◌, ap, sym, ◌∙◌}
use mathlib.Core.List.{List}
use native.Mathlib.Omega.{arith}
use lib.ListN.{length, replicate}
use Rattle.units.proofs.Sizes.{bench_page}
use Rattle.speed.specs.declared.SpeedTable.{SpeedTable}
use Rattle.speed.specs.Table.{of_grade}
use Rattle.layout.specs.Bytes.{read_header}
use Rattle.hawsehole.specs.Numbers.{Answered, answered, judge_beats}
use Rattle.lines.specs.Text.{report}
use Rattle.lines.specs.Place.{laid, lay, Holds}
use Rattle.lines.proofs.Fits.{laid_holds, report_length}
use Rattle.judge.specs.Output.{grade_of, answer_of, printed}

-- a call with the table of the header's grade, from zeros, gives the program's answer
report_printed : (trace : List ℕ) (h : Option Header) (g : ℕ) (t : SpeedTable) (word : ℕ) (page words : List ℕ)
    → h ≡ read_header trace → g ≡ grade_of h → t ≡ of_grade g
    → answered word page words ≡ judge_beats t trace (replicate 16384 0) (replicate 8190 0)
    → report words word ≡ printed trace
unfolding printed answer_of
report_printed trace h g t word page words p q r e =
    let table : t ≡ of_grade (grade_of (read_header trace)) = r ∙ ap of_grade (q ∙ ap grade_of p) in
    ap (λ (a : Answered). report a.beats a.word)
    (e
    ∙ ap (λ (t : SpeedTable). judge_beats t trace (replicate 16384 0) (replicate 8190 0)) table
    ∙ ap (λ (n : ℕ). judge_beats (of_grade (grade_of (read_header trace))) trace (replicate n 0) (replicate 8190 0)) (sym bench_page))

-- a buffer of 450,560 bytes holds the report of 4,095 records
report_holds : (words buf after : List ℕ) (word bytes : ℕ) → length words ≡ 8190 → length buf ≡ 450560
    → laid after bytes ≡ lay (report words word) (laid buf 0) → Holds (report words word) after bytes
report_holds words buf after word bytes w b e = laid_holds (report words word) buf after bytes (omega (arith, report_length words word)) e

pub printed_held : (trace : List ℕ) (h : Option Header) (g : ℕ) (t : SpeedTable) (word : ℕ) (page words buf after : List ℕ) (bytes : ℕ)
    → h ≡ read_header trace → g ≡ grade_of h → t ≡ of_grade g
    → answered word page words ≡ judge_beats t trace (replicate 16384 0) (replicate 8190 0)
    → length words ≡ 8190 → length buf ≡ 450560
    → laid after bytes ≡ lay (report words word) (laid buf 0)
    → Holds (printed trace) after bytes
printed_held trace h g t word page words buf after bytes p q r e w b l =
    rw (report_printed trace h g t word page words p q r e) at (report_holds words buf after word bytes w b l)
