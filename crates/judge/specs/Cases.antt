-- What the program prints for what it reads, by cases from 01, The module and what we judge; The printed case. Assumes nothing.
use Rattle.std.specs.Prelude.{ℕ, ◌+◌, ◌*◌, Bool, List, [], ◌∷◌, ◌++◌, eqb, T, length, take, replicate}
use Prim.Native.String.{String}
use Rattle.units.specs.Facts.{all_true, same_numbers}
use Rattle.units.specs.Module.{module_of}
use Rattle.speed.specs.Table.{table_fits}
use Rattle.layout.specs.Commands.{column_on}
use Rattle.layout.specs.Bytes.{has_pins, lane_masks, header_from, record_from, read_header, records_of}
use Rattle.mode.specs.Word.{length_of}
use Rattle.mode.specs.Order.{beat_column}
use Rattle.bursts.specs.Burst.{has_beat, write_beat, read_beat, finished}
use Rattle.bursts.specs.Bus.{masks_on, masks_after, reads_from, bus_after, beat_on, bursts_finished, driven, bus_clear}
use Rattle.page.specs.Store.{put_lanes, stored}
use Rattle.rules.specs.StartUp.{allowed}
use Rattle.rules.specs.Banks.{banks_found}
use Rattle.rules.specs.Minima.{of_closing, of_any, of_active, of_access, of_precharged, of_precharge, of_idle, events, minima}
use Rattle.rules.specs.Rules.{every_rules, place_rules, minimum_rules, mode_rules, bus_rules, command_rules, rules, ask}
use Rattle.rules.specs.After.{
  startup_after,
  beat,
  core_from,
  core_after,
  bank_after,
  commanded,
  mark_banks,
  banks_after,
  next,
}
use Rattle.rules.specs.Run.{run, page_after}
use Rattle.rules.specs.Report.{beat_word, put_line, lines_into}
use Rattle.hawsehole.specs.Trace.{judge, whole_rules, lent_rules}
use Rattle.hawsehole.specs.Numbers.{whole_call, answer_word, judge_beats}
use Rattle.hawsehole.specs.Traces.{header, all_banks, refresh, read, nop, up, up_active}
use Rattle.hawsehole.specs.WholeCases.{writing}
use Rattle.hawsehole.specs.NumberCases.{refused_trace, read_trace}
use Rattle.lines.specs.Text.{
  glyph,
  digits,
  fields,
  beat_line,
  beat_text,
  beat_lines,
  ok_line,
  refused_line,
  last_line,
  report,
}
use Rattle.lines.specs.Cases.{text}
use Rattle.judge.specs.Output.{trace_max, records_max, answer_of, printed, output}

-- the program reads this and prints that
abbrev prints : List ℕ → String → Bool
prints input expected = same_numbers (output input) (text expected)

-- a header of this grade with period 7,500, bank 1 and row 7, for so many records
abbrev graded : ℕ → ℕ → List ℕ
graded grade count = header 1 7_500 count grade 1 7 0

abbrev pub outputs : List Bool
outputs =
    -- "Zero records is a clean trace", of either grade
    prints (graded 1 0) "OK 0\n"
    ∷ prints (graded 2 0) "OK 0\n"
    -- "`OK` with the record count"
    ∷ prints (graded 2 4 ++ up 0x31) "OK 4\n"
    -- "1 to 7 .. report record 0"; 6 and 7 the program cannot meet: its table and its page are right
    ∷ prints [] "REFUSED 0 1 0\n"
    ∷ prints (take 15 (graded 2 0)) "REFUSED 0 1 0\n"
    ∷ prints (graded 2 0 ++ (0 ∷ [])) "REFUSED 0 1 0\n"
    ∷ prints (graded 2 1) "REFUSED 0 1 0\n"
    ∷ prints (header 2 7_500 0 2 1 7 0) "REFUSED 0 2 0\n"
    ∷ prints (header 1 999 0 2 1 7 0) "REFUSED 0 3 0\n"
    ∷ prints (header 1 65_536 0 2 1 7 0) "REFUSED 0 3 0\n"
    ∷ prints (graded 0 0) "REFUSED 0 4 0\n"
    ∷ prints (graded 3 0) "REFUSED 0 4 0\n"
    ∷ prints (header 1 7_500 0 2 1 7 1) "REFUSED 0 5 0\n"
    -- "`REFUSED` with record, number, interval"
    ∷ prints (graded 2 2 ++ all_banks 13_334 ++ refresh 1) "REFUSED 1 16 4\n"
    ∷ prints (graded 2 1 ++ all_banks 13_333) "REFUSED 0 14 0\n"
    ∷ prints (graded 2 4 ++ all_banks 13_334 ++ refresh 2 ++ refresh 8 ++ nop 1_041 255 0) "REFUSED 3 12 0\n"
    -- "one line per reported beat: W or R, record, clock, bank, row, column in decimal, lanes as two hex digits"
    ∷ prints read_trace "W 5 13360 1 7 1 ff\nW 6 13361 1 7 0 ff\nR 10 13365 1 7 9 f0\nR 11 13366 1 7 8 01\nOK 13\n"
    -- the beats before a refused record are printed, its own is not
    ∷ prints refused_trace "W 5 13360 1 7 1 ff\nREFUSED 6 11 0\n"
    -- beats are printed of every bank and row, not only of those watched
    ∷ prints (header 1 7_500 6 2 0 0 0 ++ writing) "W 5 13360 1 7 1 ff\nOK 6\n"
    -- "The program takes the header's grade": P5, READ 2 clocks after ACTIVE, and P4, mode 0021
    ∷ prints (graded 1 6 ++ up_active 0x31 ++ read 1 1 0) "OK 6\n"
    ∷ prints (graded 2 6 ++ up_active 0x31 ++ read 1 1 0) "REFUSED 5 16 1\n"
    ∷ prints (graded 1 4 ++ up 0x21) "OK 4\n"
    ∷ prints (graded 2 4 ++ up 0x21) "REFUSED 3 18 0\n"
    -- "a trace of at most 65,536 bytes": 4,095 records, of which the first has CKE LOW; one byte more
    ∷ prints (graded 2 4_095 ++ replicate 65_520 0) "REFUSED 0 11 0\n"
    ∷ prints (graded 2 4_095 ++ replicate 65_521 0) "TOO LONG\n"
    ∷ prints (graded 2 4_094 ++ replicate 65_519 0) "REFUSED 0 1 0\n"
    ∷ prints (graded 2 0 ++ replicate 65_536 0) "TOO LONG\n"
    ∷ eqb (16 + 16 * records_max) 65_536
    ∷ eqb trace_max 65_536
    -- two words for each of 4,095 records; "starts from a page of zeros"
    ∷ eqb (length (answer_of (graded 2 0)).beats) 8_190
    ∷ same_numbers (answer_of (graded 2 0)).page (replicate 16_384 0)
    ∷ []

pub outputs_right : T (all_true outputs)
unfolding answer_of printed output glyph digits fields beat_line beat_text beat_lines ok_line refused_line last_line report beat_word put_line lines_into answer_word whole_call judge_beats read_header module_of column_on has_pins lane_masks judge whole_rules lent_rules table_fits header_from record_from records_of length_of beat_column has_beat write_beat read_beat finished masks_on masks_after reads_from bus_after beat_on bursts_finished driven bus_clear put_lanes stored allowed banks_found of_closing of_any of_active of_access of_precharged of_precharge of_idle events minima every_rules place_rules minimum_rules mode_rules bus_rules command_rules rules ask startup_after beat core_from core_after bank_after commanded mark_banks banks_after next run page_after
outputs_right = tt
