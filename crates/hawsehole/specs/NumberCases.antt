-- The judge for C, by cases: the answer's bits, the page, and each word of the lent beats (01, The console's C service tool). Assumes
-- nothing.
use Rattle.rules.specs.declared.Interval.TheVariants.{Rcd, Mrd}
use Rattle.std.specs.Prelude.{ℕ, ◌+◌, Bool, ◌&&◌, List, [], ◌∷◌, ◌++◌, eqb, T, length, take, replicate, Ok, Err}
use Rattle.units.specs.Facts.{all_true, same_numbers}
use Rattle.units.specs.Module.{module_of}
use Rattle.speed.specs.Table.{table, grade_13E, grade_133, table_fits}
use Rattle.layout.specs.Commands.{column_on}
use Rattle.layout.specs.Bytes.{has_pins, lane_masks, header_from, read_header, record_from, records_of}
use Rattle.mode.specs.Word.{length_of}
use Rattle.mode.specs.Order.{beat_column}
use Rattle.bursts.specs.Burst.{has_beat, write_beat, read_beat, finished}
use Rattle.bursts.specs.Bus.{masks_on, masks_after, reads_from, bus_after, beat_on, bursts_finished, driven, bus_clear}
use Rattle.page.specs.Store.{put_lanes, stored}
use Rattle.rules.specs.declared.Refusal.TheVariants.{LateClosing, UnfitState, WrongLength, TooSoon}
use Rattle.rules.specs.Numbers.{number_of, interval_of}
use Rattle.rules.specs.StartUp.{allowed}
use Rattle.rules.specs.Banks.{banks_found}
use Rattle.rules.specs.Minima.{of_closing, of_any, of_active, of_access, of_precharged, of_precharge, of_idle, events, minima}
use Rattle.rules.specs.Rules.{every_rules, place_rules, minimum_rules, mode_rules, bus_rules, command_rules, rules, ask}
use Rattle.rules.specs.After.{
  startup_after,
  beat,
  core_from,
  core_after,
  bank_after,
  commanded,
  mark_banks,
  banks_after,
  next,
}
use Rattle.rules.specs.Run.{run, page_after}
use Rattle.rules.specs.Report.{Left, ran, beat_word, put_line, lines_into}
use Rattle.hawsehole.specs.Trace.{judge, whole_rules, lent_rules}
use Rattle.hawsehole.specs.Numbers.{Answered, Alone, whole_call, answer_word, with_table, judge_beats, judge_alone}
use Rattle.hawsehole.specs.Traces.{header, bits_of, read, nop, up_active}
use Rattle.hawsehole.specs.WholeCases.{
  good,
  second_data,
  page,
  writing,
  column_1,
  second_beat,
  both_columns,
  reading,
}

-- ── The answer ──

-- bits 0 to 7 the number, 8 to 15 the interval, 16 to 39 the record
abbrev pub words : List Bool
words =
    eqb (answer_word (ran (Ok tt) 0)) 0
    ∷ eqb (answer_word (ran (Ok tt) 1)) 0x10000
    ∷ eqb (answer_word (ran (Ok tt) 8)) 0x80000
    ∷ eqb (answer_word (ran (Ok tt) 65_535)) 0xffff0000
    -- the record at its last value, and one past it, of which 24 bits are kept
    ∷ eqb (answer_word (ran (Ok tt) 16_777_215)) 0xffffff0000
    ∷ eqb (answer_word (ran (Ok tt) 16_777_216)) 0
    ∷ eqb (answer_word (ran (Ok tt) 16_777_217)) 0x10000
    ∷ eqb (answer_word (ran (Err WrongLength) 0)) 0x1
    ∷ eqb (answer_word (ran (Err LateClosing) 65_535)) 0xffff0016
    ∷ eqb (answer_word (ran (Err UnfitState) 0)) 0x19
    ∷ eqb (answer_word (ran (Err (TooSoon Rcd)) 0)) 0x0110
    ∷ eqb (answer_word (ran (Err (TooSoon Mrd)) 65_535)) 0xffff0810
    ∷ eqb (answer_word (ran (Err (TooSoon Mrd)) 16_777_215)) 0xffffff0810
    ∷ []

pub words_right : T (all_true words)
unfolding answer_word
words_right = tt

-- ── What the call leaves ──

-- six records are taken and the seventh, CKE LOW, is refused; one more follows. Bank 1 and row 7 are watched
abbrev pub refused_trace : List ℕ
refused_trace = good 8 ++ writing ++ bits_of 0 0 7 0 0 0x00 0 second_data ++ second_beat

-- a WRITE's two beats and a READ's two, 13 records
abbrev pub read_trace : List ℕ
read_trace = good 13 ++ writing ++ second_beat ++ reading

-- READ 2 clocks after ACTIVE (P5), 6 records
abbrev early_read : List ℕ
early_read = good 6 ++ up_active 0x31 ++ read 1 1 0

-- so many words, 99 in each
abbrev lent : ℕ → List ℕ
lent k = replicate k 99

-- the two words of each of the first six records: 0 and its clock; of record 5 its beat, kind 02, bank 01, row 0007, column 0001, lanes ff
abbrev six : List ℕ
six =
    0 ∷ 13_334 ∷ 0 ∷ 13_337 ∷ 0 ∷ 13_346 ∷ 0 ∷ 13_355 ∷ 0 ∷ 13_357
    ∷ 0x020100070001ff ∷ 13_360 ∷ []

-- the same of the 13 records of the other trace: record 6 has the WRITE's second beat, 10 and 11 the READ's, kind 01
abbrev thirteen : List ℕ
thirteen =
    six
    ++ (0x020100070000ff ∷ 13_361 ∷ 0 ∷ 13_362 ∷ 0 ∷ 13_363 ∷ 0 ∷ 13_364 ∷ [])
    ++ (0x010100070009f0 ∷ 13_365 ∷ 0x01010007000801 ∷ 13_366 ∷ 0 ∷ 13_367 ∷ [])

-- of a page this is the start, and the column after it is 255; it has 16,384 bytes
abbrev starts : List ℕ → List ℕ → Bool
starts start p = same_numbers (take (length start + 8) p) (start ++ replicate 8 255) && eqb (length p) 16_384

-- answer word, start of the page, beats
abbrev leaves : ℕ → List ℕ → List ℕ → Answered → Bool
leaves word start beats a = eqb a.word word && starts start a.page && same_numbers a.beats beats

abbrev calls : List ℕ → ℕ → ℕ → List ℕ → List ℕ → Bool
calls trace k word start beats = leaves word start beats (judge_beats grade_133 trace page (lent k))

-- the same before it is packed: number, interval, record
abbrev left_by : ℕ → ℕ → ℕ → List ℕ → List ℕ → Left → Bool
left_by number interval reported start beats l =
    eqb (number_of l.ran.verdict) number
    && eqb (interval_of l.ran.verdict) interval
    && eqb l.ran.reported reported
    && starts start l.page
    && same_numbers l.beats beats

-- the call with no beats lent
abbrev leaves_alone : ℕ → List ℕ → Alone → Bool
leaves_alone word start a = eqb a.word word && starts start a.page

-- a page of three bytes stays as it is, and so do the words lent
abbrev untouched : ℕ → Answered → Bool
untouched word a = eqb a.word word && same_numbers a.page (1 ∷ 2 ∷ 3 ∷ []) && same_numbers a.beats (99 ∷ 99 ∷ 99 ∷ [])

abbrev short : List ℕ → Answered
short trace = judge_beats grade_133 trace (1 ∷ 2 ∷ 3 ∷ []) (lent 3)

abbrev pub calls_for_c : List Bool
calls_for_c =
    -- two words for each accepted record; those of the refused record, of the one after it, and past them stay as they were
    calls refused_trace 20 0x6000b column_1 (six ++ lent 8)
    ∷ calls refused_trace 13 0x6000b column_1 (six ++ lent 1)
    ∷ calls refused_trace 12 0x6000b column_1 six
    -- each word is written where the slice has its place: here the last clock has none, then the last beat too, .., then every word
    ∷ calls refused_trace 11 0x6000b column_1 (take 11 six)
    ∷ calls refused_trace 10 0x6000b column_1 (take 10 six)
    ∷ calls refused_trace 3 0x6000b column_1 (0 ∷ 13_334 ∷ 0 ∷ [])
    ∷ calls refused_trace 2 0x6000b column_1 (0 ∷ 13_334 ∷ [])
    ∷ calls refused_trace 1 0x6000b column_1 (0 ∷ [])
    ∷ calls refused_trace 0 0x6000b column_1 []
    -- a clean trace, with a READ's beats: all of its words, and fewer
    ∷ calls read_trace 28 0xd0000 both_columns (thirteen ++ lent 2)
    ∷ calls read_trace 26 0xd0000 both_columns thirteen
    ∷ calls read_trace 21 0xd0000 both_columns (take 21 thirteen)
    -- 16 with its interval: READ 2 clocks after ACTIVE. The table is the lent one
    ∷ calls early_read 12 0x50110 [] (take 10 six ++ lent 2)
    ∷ leaves 0x60000 [] (take 10 six ++ (0 ∷ 13_359 ∷ [])) (judge_beats grade_13E early_read page (lent 12))
    -- no record at all
    ∷ calls (good 0) 2 0 [] (lent 2)
    -- "1 to 7 leave page .. untouched, report record 0 and look at no record": no word is written
    ∷ untouched 1 (short [])
    ∷ untouched 1 (short (good 2 ++ nop 0 255 0))
    ∷ untouched 2 (short (header 0 7_500 1 2 1 7 0 ++ nop 0 255 0))
    ∷ untouched 3 (short (header 1 0 1 2 1 7 0 ++ nop 0 255 0))
    ∷ untouched 4 (short (header 1 7_500 1 0 1 7 0 ++ nop 0 255 0))
    ∷ untouched 5 (short (header 1 7_500 1 2 1 7 1 ++ nop 0 255 0))
    ∷ untouched 6 (judge_beats (table 0 0 0 0 0 0 0 0 0 0 0 0 16) (good 1 ++ nop 0 255 0) (1 ∷ 2 ∷ 3 ∷ []) (lent 3))
    ∷ untouched 7 (short (good 1 ++ nop 0 255 0))
    -- the call before its answer is packed
    ∷ left_by 11 0 6 column_1 (six ++ lent 1) (whole_call (with_table grade_133) refused_trace page (lent 13))
    ∷ left_by 0 0 13 both_columns thirteen (whole_call (with_table grade_133) read_trace page (lent 26))
    -- the call with no beats lent gives the same answer and the same page
    ∷ leaves_alone 0x6000b column_1 (judge_alone grade_133 refused_trace page)
    ∷ leaves_alone 0xd0000 both_columns (judge_alone grade_133 read_trace page)
    ∷ leaves_alone 0x50110 [] (judge_alone grade_133 early_read page)
    ∷ leaves_alone 0x60000 [] (judge_alone grade_13E early_read page)
    ∷ []

pub calls_right : T (all_true calls_for_c)
unfolding beat_word put_line lines_into answer_word whole_call judge_beats judge_alone module_of column_on has_pins lane_masks judge whole_rules lent_rules table_fits header_from read_header record_from records_of length_of beat_column has_beat write_beat read_beat finished masks_on masks_after reads_from bus_after beat_on bursts_finished driven bus_clear put_lanes stored allowed banks_found of_closing of_any of_active of_access of_precharged of_precharge of_idle events minima every_rules place_rules minimum_rules mode_rules bus_rules command_rules rules ask startup_after beat core_from core_after bank_after commanded mark_banks banks_after next run page_after
calls_right = tt
