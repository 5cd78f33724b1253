-- The whole-trace judge from bytes, by cases from 01, Verdicts: 1 to 7 from both sides and in their order, what is reported, and what is
-- left of the page. Assumes nothing.
use Rattle.std.specs.Prelude.{ℕ, ◌+◌, ◌^◌, Bool, ◌&&◌, List, [], ◌∷◌, ◌++◌, eqb, T, length, take, drop, replicate}
use Rattle.units.specs.Facts.{all_true, same_numbers}
use Rattle.units.specs.Module.{module_of}
use Rattle.speed.specs.declared.SpeedTable.{SpeedTable}
use Rattle.speed.specs.Table.{table, grade_13E, grade_133, table_fits}
use Rattle.layout.specs.Commands.{column_on}
use Rattle.layout.specs.Bytes.{header_of, has_pins, lane_masks, header_from, read_header, record_from, records_of}
use Rattle.mode.specs.Word.{length_of}
use Rattle.mode.specs.Order.{beat_column}
use Rattle.bursts.specs.Burst.{has_beat, write_beat, read_beat, finished}
use Rattle.bursts.specs.Bus.{masks_on, masks_after, reads_from, bus_after, beat_on, bursts_finished, driven, bus_clear}
use Rattle.page.specs.Store.{put_lanes, stored}
use Rattle.rules.specs.declared.Core.{Core}
use Rattle.rules.specs.Numbers.{number_of, interval_of}
use Rattle.rules.specs.StartUp.{allowed}
use Rattle.rules.specs.Banks.{banks_found}
use Rattle.rules.specs.Minima.{of_closing, of_any, of_active, of_access, of_precharged, of_precharge, of_idle, events, minima}
use Rattle.rules.specs.Rules.{every_rules, place_rules, minimum_rules, mode_rules, bus_rules, command_rules, rules, ask}
use Rattle.rules.specs.After.{
  startup_after,
  beat,
  core_from,
  core_after,
  bank_after,
  commanded,
  mark_banks,
  banks_after,
  next,
}
use Rattle.rules.specs.Run.{run, page_after}
use Rattle.hawsehole.specs.Trace.{Judged, start_of, judge, whole_rules, lent_rules, page_when}
use Rattle.hawsehole.specs.Numbers.{with_table}
use Rattle.hawsehole.specs.Traces.{header, bits_of, pins, all_banks, refresh, active, read, write, nop, up, up_active, of_lines}

-- ── Numbers 1 to 7 ──

-- a header of grade -133 with period 7,500, bank 1 and row 7, for so many records
abbrev pub good : ℕ → List ℕ
good count = header 1 7_500 count 2 1 7 0

-- a record that is refused wherever it stands: CKE LOW and a zero bit set
abbrev bad_record : List ℕ
bad_record = bits_of 0 0 7 0 0 255 1 0

-- this answer, the interval 0, record 0, no line, and the page as it was
abbrev untouched : ℕ → List ℕ → Judged → Bool
untouched number page j =
    eqb (number_of j.verdict) number
    && eqb (interval_of j.verdict) 0
    && eqb j.reported 0
    && same_numbers (of_lines j.lines) []
    && same_numbers j.page page

-- the number of a trace with -133's table and a page of three bytes, which is "not 16,384 bytes": 7 where 1 to 6 let it pass
abbrev numbered : ℕ → List ℕ → Bool
numbered number trace = untouched number (1 ∷ 2 ∷ 3 ∷ []) (judge (with_table grade_133) trace (1 ∷ 2 ∷ 3 ∷ []))

-- the same with another table
abbrev numbered_by : SpeedTable → ℕ → List ℕ → Bool
numbered_by t number trace = untouched number (1 ∷ 2 ∷ 3 ∷ []) (judge (with_table t) trace (1 ∷ 2 ∷ 3 ∷ []))

-- the number of a trace of no record with -133's table and a page of so many bytes
abbrev paged : ℕ → ℕ → ℕ → Bool
paged number grade lent =
    untouched number (replicate lent 9) (judge (with_table grade_133) (header 1 7_500 0 grade 1 7 0) (replicate lent 9))

-- a table outside the bounds: tMRD 16
abbrev bad_table : SpeedTable
bad_table = table 0 0 0 0 0 0 0 0 0 0 0 0 16

abbrev pub before_records : List Bool
before_records =
    -- 1, "under 16 bytes": none, 15, 16, 17
    numbered 1 []
    ∷ numbered 1 (take 15 (good 0))
    ∷ numbered 7 (good 0)
    ∷ numbered 1 (good 0 ++ (0 ∷ []))
    -- 1, "or length not 16 + 16 x count": a byte too few and too many, a record too few and too many
    ∷ numbered 1 (good 1)
    ∷ numbered 1 (good 1 ++ replicate 15 0)
    ∷ numbered 7 (good 1 ++ replicate 16 0)
    ∷ numbered 1 (good 1 ++ replicate 17 0)
    ∷ numbered 1 (good 1 ++ replicate 32 0)
    ∷ numbered 1 (good 0 ++ replicate 16 0)
    ∷ numbered 1 (good 2 ++ replicate 16 0)
    ∷ numbered 7 (good 2 ++ replicate 32 0)
    ∷ numbered 1 (good 65_535 ++ replicate 16 0)
    ∷ numbered 7 (good 256 ++ replicate 4_096 0)
    ∷ numbered 1 (good 256 ++ replicate 4_095 0)
    -- under 16 bytes, though the count is read as 0 of them
    ∷ numbered 1 (1 ∷ 0 ∷ 0x1d ∷ 0x4c ∷ 0 ∷ 0 ∷ 2 ∷ [])
    -- 2, "version not 1"
    ∷ numbered 2 (header 0 7_500 0 2 1 7 0)
    ∷ numbered 2 (header 2 7_500 0 2 1 7 0)
    ∷ numbered 2 (header 3 7_500 0 2 1 7 0)
    ∷ numbered 2 (header 129 7_500 0 2 1 7 0)
    ∷ numbered 2 (header 255 7_500 0 2 1 7 0)
    -- 3, "period outside 1,000 to 65,535"
    ∷ numbered 3 (header 1 0 0 2 1 7 0)
    ∷ numbered 3 (header 1 999 0 2 1 7 0)
    ∷ numbered 7 (header 1 1_000 0 2 1 7 0)
    ∷ numbered 7 (header 1 65_535 0 2 1 7 0)
    ∷ numbered 3 (header 1 65_536 0 2 1 7 0)
    ∷ numbered 3 (header 1 (65_536 + 7_500) 0 2 1 7 0)
    ∷ numbered 3 (header 1 16_777_215 0 2 1 7 0)
    -- 4, "grade not 1 or 2"
    ∷ numbered 4 (header 1 7_500 0 0 1 7 0)
    ∷ numbered 7 (header 1 7_500 0 1 1 7 0)
    ∷ numbered 7 (header 1 7_500 0 2 1 7 0)
    ∷ numbered 4 (header 1 7_500 0 3 1 7 0)
    ∷ numbered 4 (header 1 7_500 0 4 1 7 0)
    ∷ numbered 4 (header 1 7_500 0 129 1 7 0)
    ∷ numbered 4 (header 1 7_500 0 255 1 7 0)
    -- 5, "a zero bit of the header set": the first of the 57 and the last, and the ends of bytes between; bank and row are not among them
    ∷ numbered 5 (header 1 7_500 0 2 1 7 (2 ^ 56))
    ∷ numbered 5 (header 1 7_500 0 2 1 7 (2 ^ 55))
    ∷ numbered 5 (header 1 7_500 0 2 1 7 (2 ^ 49))
    ∷ numbered 5 (header 1 7_500 0 2 1 7 (2 ^ 48))
    ∷ numbered 5 (header 1 7_500 0 2 1 7 (2 ^ 32))
    ∷ numbered 5 (header 1 7_500 0 2 1 7 (2 ^ 31))
    ∷ numbered 5 (header 1 7_500 0 2 1 7 (2 ^ 8))
    ∷ numbered 5 (header 1 7_500 0 2 1 7 (2 ^ 7))
    ∷ numbered 5 (header 1 7_500 0 2 1 7 1)
    ∷ numbered 7 (header 1 7_500 0 2 3 8_191 0)
    ∷ numbered 7 (header 1 7_500 0 2 0 0 0)
    -- 6, "table outside the bounds above"; "in the library the lent table decides", also where the header's grade has another
    ∷ numbered_by bad_table 6 (good 0)
    ∷ numbered_by (table 0 0 0 0 0 0 0 0 0 0 0 0 15) 7 (good 0)
    ∷ numbered_by (table 0 0 0 0 0 0 0 0 0 0 0 200_000_001 0) 6 (good 0)
    ∷ numbered_by (table 0 0 0 0 0 0 0 0 0 0 0 200_000_000 0) 7 (good 0)
    ∷ numbered_by (table 0 0 1 0 0 0 0 0 0 0 0 0 0) 6 (good 0)
    ∷ numbered_by grade_13E 7 (good 0)
    -- 7, "page not 16,384 bytes". "Zero records is a clean trace": number 0, and its record count is 0
    ∷ paged 7 2 0
    ∷ paged 7 2 512
    ∷ paged 7 2 16_383
    ∷ paged 0 2 16_384
    ∷ paged 0 1 16_384
    ∷ paged 7 2 16_385
    -- "tried in the order listed": all seven wrong, then one after the other mended; a bad record follows, and none looks at it
    ∷ numbered_by bad_table 1 (header 0 999 2 3 1 7 1 ++ bad_record)
    ∷ numbered_by bad_table 2 (header 0 999 1 3 1 7 1 ++ bad_record)
    ∷ numbered_by bad_table 3 (header 1 999 1 3 1 7 1 ++ bad_record)
    ∷ numbered_by bad_table 4 (header 1 7_500 1 3 1 7 1 ++ bad_record)
    ∷ numbered_by bad_table 5 (header 1 7_500 1 2 1 7 1 ++ bad_record)
    ∷ numbered_by bad_table 6 (header 1 7_500 1 2 1 7 0 ++ bad_record)
    ∷ numbered_by grade_133 7 (header 1 7_500 1 2 1 7 0 ++ bad_record)
    ∷ []

pub before_records_right : T (all_true before_records)
unfolding module_of column_on has_pins lane_masks judge whole_rules lent_rules table_fits header_from read_header record_from records_of run page_after
before_records_right = tt

-- ── Records ──

-- data with a different byte in each lane, lane 0 the last
abbrev pub first_data : ℕ
first_data = 0x1817161514131211

abbrev pub second_data : ℕ
second_data = 0x2827262524232221

-- the bytes of those
abbrev first_bytes : List ℕ
first_bytes = 0x11 ∷ 0x12 ∷ 0x13 ∷ 0x14 ∷ 0x15 ∷ 0x16 ∷ 0x17 ∷ 0x18 ∷ []

abbrev second_bytes : List ℕ
second_bytes = 0x21 ∷ 0x22 ∷ 0x23 ∷ 0x24 ∷ 0x25 ∷ 0x26 ∷ 0x27 ∷ 0x28 ∷ []

-- a page of 255s
abbrev pub page : List ℕ
page = replicate 16_384 255

abbrev column_of_255 : List ℕ
column_of_255 = replicate 8 255

-- number, interval, record and lines are these; of the page this is the start, the six columns after it are 255, and its length stays
abbrev shows : ℕ → ℕ → ℕ → List ℕ → List ℕ → Judged → Bool
shows number interval reported lines start j =
    eqb (number_of j.verdict) number
    && eqb (interval_of j.verdict) interval
    && eqb j.reported reported
    && same_numbers (of_lines j.lines) lines
    && same_numbers (take (length start + 48) j.page) (start ++ replicate 48 255)
    && eqb (length j.page) 16_384

-- a trace with this table, over a page of 255s: number, interval, record, lines, and the start of the page
abbrev judges_by : SpeedTable → List ℕ → ℕ → ℕ → ℕ → List ℕ → List ℕ → Bool
judges_by t trace number interval reported lines start = shows number interval reported lines start (judge (with_table t) trace page)

-- so many records, with -133's table and the header above: bank 1 and row 7 are watched
abbrev judges : ℕ → List ℕ → ℕ → ℕ → ℕ → List ℕ → List ℕ → Bool
judges count records = judges_by grade_133 (good count ++ records)

-- the lines of start-up, and with the ACTIVE after it: no beats
abbrev up_lines : List ℕ
up_lines = 13_334 ∷ 0 ∷ 13_337 ∷ 0 ∷ 13_346 ∷ 0 ∷ 13_355 ∷ 0 ∷ []

abbrev active_lines : List ℕ
active_lines = up_lines ++ (13_357 ∷ 0 ∷ [])

-- a burst of two from column 1, with all masks LOW on its first beat: six records
abbrev pub writing : List ℕ
writing = up_active 0x31 ++ write 2 1 1 0x00 first_data

-- its line
abbrev writing_lines : List ℕ
writing_lines = active_lines ++ (13_360 ∷ 2 ∷ 1 ∷ 7 ∷ 1 ∷ 0xff ∷ [])

-- what it stores: column 1
abbrev pub column_1 : List ℕ
column_1 = column_of_255 ++ first_bytes

-- the second beat, on a NOP with all masks LOW: column 0
abbrev pub second_beat : List ℕ
second_beat = nop 0 0x00 second_data

abbrev both_lines : List ℕ
both_lines = writing_lines ++ (13_361 ∷ 2 ∷ 1 ∷ 7 ∷ 0 ∷ 0xff ∷ [])

abbrev pub both_columns : List ℕ
both_columns = second_bytes ++ first_bytes

-- a READ of column 9 and five NOPs, with data on the bus
abbrev pub reading : List ℕ
reading =
    read 0 1 9
    ++ nop 0 0x0f first_data
    ++ nop 0 0xfe first_data
    ++ nop 0 0x00 first_data
    ++ nop 0 0x00 first_data
    ++ nop 0 0x00 first_data

abbrev reading_lines : List ℕ
reading_lines =
    both_lines
    ++ (13_362 ∷ 0 ∷ 13_363 ∷ 0 ∷ 13_364 ∷ 0 ∷ [])
    ++ (13_365 ∷ 1 ∷ 1 ∷ 7 ∷ 9 ∷ 0xf0 ∷ [])
    ++ (13_366 ∷ 1 ∷ 1 ∷ 7 ∷ 8 ∷ 0x01 ∷ [])
    ++ (13_367 ∷ 0 ∷ [])

-- both beats, by a trace that watches this bank and row
abbrev watching : ℕ → ℕ → List ℕ
watching bank row = header 1 7_500 7 2 bank row 0 ++ writing ++ second_beat

-- clean, and the last column is the first data; the byte before it is as it was
abbrev at_the_end : Judged → Bool
at_the_end j = eqb (number_of j.verdict) 0 && same_numbers (drop 16_375 j.page) (255 ∷ first_bytes)

-- period, grade, watched bank and row, and the number of the next record
abbrev begins : Core → List ℕ
begins c = c.period.0 ∷ c.grade ∷ c.bank ∷ c.row ∷ c.number ∷ []

abbrev pub with_records : List Bool
with_records =
    -- the state before the first record has what the header says: "the state holds period, watched bank and row"
    same_numbers (begins (start_of (header_of (header 1 7_500 0 2 1 7 0))).core) (7_500 ∷ 2 ∷ 1 ∷ 7 ∷ 0 ∷ [])
    ∷ same_numbers (begins (start_of (header_of (header 1 65_535 9 1 3 8_191 0))).core) (65_535 ∷ 1 ∷ 3 ∷ 8_191 ∷ 0 ∷ [])
    -- "1 to 7 .. leave page and state untouched", also where the page has its 16,384 bytes: 1 to 6
    ∷ judges 3 (up 0x31) 1 0 0 [] []
    ∷ judges_by grade_133 (header 2 7_500 4 2 1 7 0 ++ up 0x31) 2 0 0 [] []
    ∷ judges_by grade_133 (header 1 65_536 4 2 1 7 0 ++ up 0x31) 3 0 0 [] []
    ∷ judges_by grade_133 (header 1 7_500 4 3 1 7 0 ++ up 0x31) 4 0 0 [] []
    ∷ judges_by grade_133 (header 1 7_500 4 2 1 7 1 ++ up 0x31) 5 0 0 [] []
    ∷ judges_by bad_table (good 4 ++ up 0x31) 6 0 0 [] []
    -- "A clean trace gives number 0 and its record count"; each record its clock, and the beat on it: kind, bank, row, column, lanes
    ∷ judges 7 (writing ++ second_beat) 0 0 7 both_lines both_columns
    ∷ judges 7 (writing ++ nop 0 0xf0 second_data) 0 0 7 (writing_lines ++ (13_361 ∷ 2 ∷ 1 ∷ 7 ∷ 0 ∷ 0x0f ∷ [])) (0x21 ∷ 0x22 ∷ 0x23 ∷ 0x24 ∷ replicate 4 255 ++ first_bytes)
    -- "a beat with no lane stored or driven is reported with lanes 00"
    ∷ judges 7 (writing ++ nop 0 0xff second_data) 0 0 7 (writing_lines ++ (13_361 ∷ 2 ∷ 1 ∷ 7 ∷ 0 ∷ 0x00 ∷ [])) column_1
    -- "Beats on skipped clocks are not reported", and nothing is stored on them
    ∷ judges 7 (writing ++ nop 1 0x00 second_data) 0 0 7 (writing_lines ++ (13_362 ∷ 0 ∷ [])) column_1
    -- a READ on 13,362 with CL 3: beats on 13,365 and 13,366, whose lanes had DQMB LOW two clocks earlier; it stores nothing
    ∷ judges 13 (writing ++ second_beat ++ reading) 0 0 13 reading_lines both_columns
    -- "10 and all below it report the record's number", its own beat is not stored, and nothing after it is read: record 6 has the
    -- second beat on its clock, and a good one follows. 10: the first zero bit and the last
    ∷ judges 8 (writing ++ bits_of 0 1 7 0 0 0x00 0x800 second_data ++ second_beat) 10 0 6 writing_lines column_1
    ∷ judges 8 (writing ++ bits_of 0 1 7 0 0 0x00 0x001 second_data ++ second_beat) 10 0 6 writing_lines column_1
    -- 11, "CKE LOW"; 10 before it
    ∷ judges 8 (writing ++ bits_of 0 0 7 0 0 0x00 0 second_data ++ second_beat) 11 0 6 writing_lines column_1
    ∷ judges 8 (writing ++ bits_of 0 0 7 0 0 0x00 1 second_data ++ second_beat) 10 0 6 writing_lines column_1
    -- 15: ACTIVE of the open bank
    ∷ judges 8 (writing ++ pins 0 3 1 8 0x00 second_data ++ second_beat) 15 0 6 writing_lines column_1
    -- 16 with the lowest interval: PRECHARGE before tRAS min, 2, and before tWR, 7; before tWR alone
    ∷ judges 8 (writing ++ pins 0 2 1 0 0x00 second_data ++ second_beat) 16 2 6 writing_lines column_1
    ∷ judges 8 (up_active 0x31 ++ write 5 1 1 0x00 first_data ++ pins 0 2 1 0 0x00 second_data ++ second_beat) 16 7 6
    (active_lines ++ (13_363 ∷ 2 ∷ 1 ∷ 7 ∷ 1 ∷ 0xff ∷ [])) column_1
    -- 21, auto precharge in full page, of a WRITE; its own first beat is not stored
    ∷ judges 6 (up_active 0x37 ++ write 2 1 0x401 0x00 first_data) 21 0 5 active_lines []
    -- the first refused record is reported, not a later one: 11 on record 6, 10 on record 7
    ∷ judges 8 (writing ++ bits_of 0 0 7 0 0 0x00 0 second_data ++ bits_of 0 1 7 0 0 0x00 1 second_data) 11 0 6 writing_lines column_1
    -- the refused record may be the last, and the first: P1's 14
    ∷ judges 7 (writing ++ bits_of 0 0 7 0 0 0x00 0 second_data) 11 0 6 writing_lines column_1
    ∷ judges 1 (all_banks 13_333) 14 0 0 [] []
    ∷ judges 1 (all_banks 13_334) 0 0 1 (13_334 ∷ 0 ∷ []) []
    -- P2, P3, P4 and P11 from bytes
    ∷ judges 2 (all_banks 13_334 ++ refresh 1) 16 4 1 (13_334 ∷ 0 ∷ []) []
    ∷ judges 2 (all_banks 13_334 ++ refresh 2) 0 0 2 (13_334 ∷ 0 ∷ 13_337 ∷ 0 ∷ []) []
    ∷ judges 3 (all_banks 13_334 ++ refresh 2 ++ refresh 7) 16 6 2 (13_334 ∷ 0 ∷ 13_337 ∷ 0 ∷ []) []
    ∷ judges 4 (up 0x31) 0 0 4 up_lines []
    ∷ judges 4 (up 0x34) 17 0 3 (13_334 ∷ 0 ∷ 13_337 ∷ 0 ∷ 13_346 ∷ 0 ∷ []) []
    ∷ judges 4 (up 0x21) 18 0 3 (13_334 ∷ 0 ∷ 13_337 ∷ 0 ∷ 13_346 ∷ 0 ∷ []) []
    ∷ judges 4 (all_banks 13_334 ++ refresh 2 ++ refresh 8 ++ nop 1_041 0 0) 12 0 3 (13_334 ∷ 0 ∷ 13_337 ∷ 0 ∷ 13_346 ∷ 0 ∷ []) []
    ∷ judges 4 (all_banks 13_334 ++ refresh 2 ++ refresh 8 ++ nop 1_040 0 0) 0 0 4 (13_334 ∷ 0 ∷ 13_337 ∷ 0 ∷ 13_346 ∷ 0 ∷ 14_387 ∷ 0 ∷ []) []
    -- "The first record stands on the clock equal to its skipped count; each later one on the previous clock plus its skipped count plus 1"
    ∷ judges 3 (nop 0 255 0 ++ nop 0 255 0 ++ nop 3 255 0) 0 0 3 (0 ∷ 0 ∷ 1 ∷ 0 ∷ 5 ∷ 0 ∷ []) []
    ∷ judges 2 (nop 16_777_215 255 0 ++ nop 16_777_215 255 0) 0 0 2 (16_777_215 ∷ 0 ∷ 33_554_431 ∷ 0 ∷ []) []
    -- "one watched bank and row": the header's, and no other. One bit of it differs in each
    ∷ judges_by grade_133 (watching 1 7) 0 0 7 both_lines both_columns
    ∷ judges_by grade_133 (watching 0 7) 0 0 7 both_lines []
    ∷ judges_by grade_133 (watching 3 7) 0 0 7 both_lines []
    ∷ judges_by grade_133 (watching 1 6) 0 0 7 both_lines []
    ∷ judges_by grade_133 (watching 1 71) 0 0 7 both_lines []
    ∷ judges_by grade_133 (watching 1 135) 0 0 7 both_lines []
    ∷ judges_by grade_133 (watching 1 4_103) 0 0 7 both_lines []
    ∷ judges_by grade_133 (header 1 7_500 6 2 3 8_191 0 ++ up 0x30 ++ active 1 3 8_191 ++ write 2 3 0 0x00 first_data) 0 0 6
    (active_lines ++ (13_360 ∷ 2 ∷ 3 ∷ 8_191 ∷ 0 ∷ 0xff ∷ [])) first_bytes
    ∷ judges_by grade_133 (header 1 7_500 6 2 0 0 0 ++ up 0x30 ++ active 1 0 0 ++ write 2 0 0 0x00 first_data) 0 0 6
    (active_lines ++ (13_360 ∷ 2 ∷ 0 ∷ 0 ∷ 0 ∷ 0xff ∷ [])) first_bytes
    -- the last column, A11 and A9 to A0 HIGH, is the page's end
    ∷ at_the_end (judge (with_table grade_133) (good 6 ++ up_active 0x30 ++ write 2 1 0xbff 0x00 first_data) page)
    -- "in the library the lent table decides": READ 2 clocks after ACTIVE (P5) and mode 0021 (P4), with either grade in the header
    ∷ judges_by grade_133 (header 1 7_500 6 2 1 7 0 ++ up_active 0x31 ++ read 1 1 0) 16 1 5 active_lines []
    ∷ judges_by grade_133 (header 1 7_500 6 1 1 7 0 ++ up_active 0x31 ++ read 1 1 0) 16 1 5 active_lines []
    ∷ judges_by grade_13E (header 1 7_500 6 2 1 7 0 ++ up_active 0x31 ++ read 1 1 0) 0 0 6 (active_lines ++ (13_359 ∷ 0 ∷ [])) []
    ∷ judges_by grade_13E (header 1 7_500 6 1 1 7 0 ++ up_active 0x31 ++ read 1 1 0) 0 0 6 (active_lines ++ (13_359 ∷ 0 ∷ [])) []
    ∷ judges_by grade_13E (good 4 ++ up 0x21) 0 0 4 up_lines []
    -- the period is the header's: 13,334 clocks of 7,499 ps are under 100,000,000 ps, of 65,535 ps far above
    ∷ judges_by grade_133 (header 1 7_499 1 2 1 7 0 ++ all_banks 13_334) 14 0 0 [] []
    ∷ judges_by grade_133 (header 1 7_499 1 2 1 7 0 ++ all_banks 13_336) 0 0 1 (13_336 ∷ 0 ∷ []) []
    ∷ judges_by grade_133 (header 1 65_535 1 2 1 7 0 ++ all_banks 1_525) 14 0 0 [] []
    ∷ judges_by grade_133 (header 1 65_535 1 2 1 7 0 ++ all_banks 1_526) 0 0 1 (1_526 ∷ 0 ∷ []) []
    -- "the page holds the stores of the records before it": of the first 5, 6 and 7 records
    ∷ same_numbers (take 24 (page_when (with_table grade_133) (watching 1 7) page 5)) (replicate 24 255)
    ∷ same_numbers (take 24 (page_when (with_table grade_133) (watching 1 7) page 6)) (column_1 ++ column_of_255)
    ∷ same_numbers (take 24 (page_when (with_table grade_133) (watching 1 7) page 7)) (both_columns ++ column_of_255)
    ∷ []

pub with_records_right : T (all_true with_records)
unfolding module_of column_on has_pins lane_masks judge whole_rules lent_rules table_fits header_from read_header record_from records_of length_of beat_column has_beat write_beat read_beat finished masks_on masks_after reads_from bus_after beat_on bursts_finished driven bus_clear put_lanes stored allowed banks_found of_closing of_any of_active of_access of_precharged of_precharge of_idle events minima every_rules place_rules minimum_rules mode_rules bus_rules command_rules rules ask startup_after beat core_from core_after bank_after commanded mark_banks banks_after next run page_after
with_records_right = tt
