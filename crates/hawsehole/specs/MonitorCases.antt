-- The calls of the live monitor by cases: the answer's word, each word of the state, the page and the lent beat (02, K7). Assumes
-- nothing.
use Rattle.std.specs.Prelude.{ℕ, ◌+◌, ◌*◌, ◌^◌, ◌≡◌, refl, List, [], ◌∷◌, ◌++◌, replicate, set}
use Rattle.bursts.specs.Cases.{Row, ◌gives◌, found, expected}
use Rattle.units.specs.Module.{module_of}
use Rattle.speed.specs.declared.SpeedTable.{SpeedTable}
use Rattle.speed.specs.Table.{table, grade_133, table_fits}
use Rattle.layout.specs.Commands.{column_on}
use Rattle.layout.specs.Bytes.{has_pins, lane_masks, record_from, read_record}
use Rattle.mode.specs.Word.{length_of}
use Rattle.mode.specs.Order.{beat_column}
use Rattle.bursts.specs.Burst.{has_beat, write_beat, read_beat, finished}
use Rattle.bursts.specs.Bus.{masks_on, masks_after, reads_from, bus_after, beat_on, bursts_finished, driven, bus_clear}
use Rattle.page.specs.Store.{put_lanes, stored}
use Rattle.rules.specs.StartUp.{allowed}
use Rattle.rules.specs.Banks.{banks_found}
use Rattle.rules.specs.Minima.{of_closing, of_any, of_active, of_access, of_precharged, of_precharge, of_idle, events, minima}
use Rattle.rules.specs.Rules.{every_rules, place_rules as bank_rules, minimum_rules, mode_rules, bus_rules, command_rules, rules, ask}
use Rattle.rules.specs.After.{
  startup_after,
  beat,
  core_from,
  core_after,
  bank_after,
  commanded,
  mark_banks,
  banks_after,
  next,
}
use Rattle.rules.specs.Run.{run, page_after, all_taken}
use Rattle.rules.specs.Fits.{bank_fits, burst_fits, core_fits, fits}
use Rattle.rules.specs.OneRecord.{state_rules, entry_rules, ask_call, take_call}
use Rattle.rules.specs.Report.{beat_word, put_line}
use Rattle.words.specs.Words.{
  small,
  middle,
  flag,
  event_in,
  refreshes_in,
  register_in,
  startup_in,
  burst_in,
  masks_in,
  bus_in,
  core_in,
  status_in,
  bank_in,
  state_in,
  words_of,
  same,
  holds,
  put_words,
}
use Rattle.hawsehole.specs.Numbers.{with_table}
use Rattle.hawsehole.specs.Monitor.{
  place_rules,
  grade_rules,
  start_rules,
  Started,
  start_call,
  monitor_rules,
  ask_words,
  Monitored,
  take_words,
}

-- ── Before the first record ──

-- no burst: its mode word is a legal one
abbrev no_burst : List ℕ
no_burst = replicate 8 0 ++ (0x30 ∷ [])

-- the words before the first record, with these first seven, start-up and masks
abbrev words_with : List ℕ → ℕ → ℕ → ℕ → List ℕ
words_with first a b c =
    first ++ replicate 7 0 ++ no_burst ++ no_burst ++ no_burst ++ no_burst ++ no_burst ++ (a ∷ b ∷ c ∷ []) ++ replicate 32 0

-- period 7,500, grade 2, bank 1, row 7, of this record number
abbrev start_of : ℕ → List ℕ
start_of number = words_with (7500 ∷ 2 ∷ 1 ∷ 7 ∷ number ∷ 0 ∷ 0 ∷ []) 255 255 255

-- what starting leaves
abbrev begun : ℕ → List ℕ → Started
begun number words = record { number = number; words = words }

-- refused with this number, and nothing written
abbrev unwritten : ℕ → ℕ → ℕ → ℕ → ℕ → ℕ → Row Started
unwritten words period grade bank row number = start_call (replicate words 9) period grade bank row gives begun number (replicate words 9)

abbrev starts : List (Row Started)
starts =
    -- "answers 0 and writes every word"
    start_call (replicate 94 9) 7500 2 1 7 gives begun 0 (start_of 0)
    ∷ start_call (replicate 94 9) 65_535 1 3 8191 gives begun 0 (words_with (65_535 ∷ 1 ∷ 3 ∷ 8191 ∷ 0 ∷ 0 ∷ 0 ∷ []) 255 255 255)
    -- 3, 4 and 25 in this order: all faults at once, mended one by one
    ∷ unwritten 93 999 3 4 8192 3
    ∷ unwritten 93 65_536 3 4 8192 3
    ∷ unwritten 93 (2 ^ 64 + 7500) 3 4 8192 3
    ∷ unwritten 93 1_000 0 4 8192 4
    ∷ unwritten 93 1_000 3 4 8192 4
    ∷ unwritten 93 1_000 257 4 8192 4
    ∷ unwritten 93 1_000 1 3 8191 25
    ∷ unwritten 95 1_000 1 3 8191 25
    ∷ unwritten 0 1_000 1 3 8191 25
    ∷ unwritten 94 1_000 1 4 8191 25
    ∷ unwritten 94 1_000 1 257 8191 25
    ∷ unwritten 94 1_000 1 3 8192 25
    ∷ unwritten 94 1_000 1 3 65_537 25
    ∷ []

-- ── Asking ──

abbrev rec : ℕ → ℕ → List ℕ
rec pins address = 0 ∷ 0 ∷ 0 ∷ pins ∷ address ∷ replicate 11 0

abbrev nop : List ℕ
nop = rec 0xb8 0

abbrev active_1 : List ℕ
active_1 = rec 0x9a 0

-- "a time above 200,000,000"
abbrev unfit : SpeedTable
unfit = table 10_000 7_500 44_000 120_000_000 66_000 20_000 20_000 15_000 66_000 15_000 7_500 200_000_001 2

abbrev asked : SpeedTable → List ℕ → List ℕ → ℕ → ℕ → Row ℕ
asked t words bytes lent word = ask_words (with_table t) words bytes (replicate lent 7) gives word

-- past start-up: PRECHARGE ALL on clock 0, the second refresh on 10, LOAD MODE of 0x30 on 20; bank 1 has row 7 open since clock 30
abbrev opened : ℕ → ℕ → List ℕ → List ℕ → List ℕ → List ℕ
opened number last write masks stored =
    (7500 ∷ 2 ∷ 1 ∷ 7 ∷ number ∷ 1 ∷ last ∷ 1 ∷ 0 ∷ 2 ∷ 10 ∷ 1 ∷ 0x30 ∷ 20 ∷ [])
    ++ write ++ no_burst ++ no_burst ++ no_burst ++ no_burst ++ masks
    ++ replicate 8 0 ++ (1 ∷ 7 ∷ 30 ∷ 0 ∷ 1 ∷ 30 ∷ []) ++ stored ++ replicate 16 0

-- with this clock of the last record
abbrev open_after : ℕ → List ℕ
open_after last = opened 5 last no_burst (1 ∷ 2 ∷ 3 ∷ []) (0 ∷ 0 ∷ [])

-- a WRITE of bank 1, column 5, lane 0
abbrev write_1 : List ℕ
write_1 = 0 ∷ 0 ∷ 0 ∷ 0xa2 ∷ 0 ∷ 0x5f ∷ 0xe0 ∷ 0 ∷ 1 ∷ 2 ∷ 3 ∷ 4 ∷ 5 ∷ 6 ∷ 7 ∷ 8 ∷ []

-- one word of the start in another way
abbrev other : ℕ → ℕ → List ℕ
other place word = set (start_of 5) place word

abbrev asks : List (Row ℕ)
asks =
    -- bits 0 to 7 the number, 8 to 15 the interval, 16 to 39 the record, modulo 2^24
    asked grade_133 (start_of 0) nop 16384 0
    ∷ asked grade_133 (start_of 5) nop 16384 (5 * 65_536)
    ∷ asked grade_133 (start_of 5) active_1 16384 (5 * 65_536 + 14)
    ∷ asked grade_133 (start_of (2 ^ 24 + 3)) nop 16384 (3 * 65_536)
    ∷ asked grade_133 (open_after 33) write_1 16384 (5 * 65_536)
    -- 16, interval 1: the second clock after its ACTIVE
    ∷ asked grade_133 (open_after 31) write_1 16384 (5 * 65_536 + 1 * 256 + 16)
    -- 1, 25 for the number of words, 3, 4, 6, 7 and 25 in this order
    ∷ asked unfit (replicate 93 0) (replicate 15 0) 16383 1
    ∷ asked unfit (replicate 93 0) (replicate 17 0) 16383 1
    ∷ asked unfit (replicate 93 0) nop 16383 25
    ∷ asked unfit (replicate 95 0) nop 16383 25
    ∷ asked unfit [] nop 16383 25
    ∷ asked unfit (replicate 94 0) nop 16383 3
    ∷ asked unfit (set (replicate 94 0) 0 7500) nop 16383 4
    ∷ asked unfit (set (other 6 1) 1 258) nop 16383 4
    ∷ asked unfit (other 6 1) nop 16383 6
    ∷ asked grade_133 (other 6 1) nop 16383 7
    ∷ asked grade_133 (other 6 1) nop 16385 7
    -- words that are no state's: a clock of what never was, a kind, a bank and a row past their bits, a flag
    ∷ asked grade_133 (other 6 1) nop 16384 25
    ∷ asked grade_133 (other 9 3) nop 16384 25
    ∷ asked grade_133 (other 2 257) nop 16384 25
    ∷ asked grade_133 (other 3 65_543) nop 16384 25
    ∷ asked grade_133 (other 14 2) nop 16384 25
    ∷ asked grade_133 (other 63 1) nop 16384 25
    -- those of a state that 25 refuses: a bank, a row, a record number, a reserved mode word
    ∷ asked grade_133 (other 2 4) nop 16384 25
    ∷ asked grade_133 (other 3 8192) nop 16384 25
    ∷ asked grade_133 (other 4 (2 ^ 41 + 1)) nop 16384 25
    ∷ asked grade_133 (other 58 0x34) nop 16384 25
    ∷ []

-- ── Taking ──

-- what taking leaves
abbrev leaves : ℕ → List ℕ → List ℕ → List ℕ → Monitored
leaves word words page beat = record { word = word; words = words; page = page; beat = beat }

abbrev takes : List ℕ → List ℕ → List ℕ → Monitored
takes words bytes beat = take_words (with_table grade_133) words bytes (replicate 16384 7) beat

-- a NOP with masks 00 as the first record, on clock 0
abbrev after_nop : List ℕ
after_nop = words_with (7500 ∷ 2 ∷ 1 ∷ 7 ∷ 6 ∷ 1 ∷ 0 ∷ []) 0 255 255

abbrev taken : List (Row Monitored)
taken =
    -- the next state's words; "a taken record's two beat words go to `beat` as far as it has room"
    takes (start_of 5) nop (9 ∷ 9 ∷ 9 ∷ []) gives leaves (5 * 65_536) after_nop (replicate 16384 7) (0 ∷ 0 ∷ 9 ∷ [])
    ∷ takes (start_of 5) nop (9 ∷ []) gives leaves (5 * 65_536) after_nop (replicate 16384 7) (0 ∷ [])
    ∷ takes (start_of 5) nop [] gives leaves (5 * 65_536) after_nop (replicate 16384 7) []
    -- the second stands on clock 1
    ∷ takes after_nop nop (9 ∷ 9 ∷ []) gives leaves (6 * 65_536)
    (words_with (7500 ∷ 2 ∷ 1 ∷ 7 ∷ 7 ∷ 1 ∷ 1 ∷ []) 0 0 255) (replicate 16384 7) (0 ∷ 1 ∷ [])
    -- a WRITE: its burst, the bank's store, the byte in the page, its beat on clock 34
    ∷ takes (open_after 33) write_1 (9 ∷ 9 ∷ []) gives leaves (5 * 65_536)
    (opened 6 34 (1 ∷ 0 ∷ 1 ∷ 7 ∷ 5 ∷ 34 ∷ 0 ∷ 0 ∷ 0x30 ∷ []) (0xfe ∷ 1 ∷ 2 ∷ []) (1 ∷ 34 ∷ [])) (set (replicate 16384 7) 40 8)
    ((2 * 2 ^ 48 + 1 * 2 ^ 40 + 7 * 2 ^ 24 + 5 * 2 ^ 8 + 1) ∷ 34 ∷ [])
    -- what asking refuses leaves words, page and beat
    ∷ takes (open_after 31) write_1 (9 ∷ 9 ∷ []) gives leaves (5 * 65_536 + 1 * 256 + 16) (open_after 31) (replicate 16384 7) (9 ∷ 9 ∷ [])
    ∷ takes (start_of 5) active_1 (9 ∷ 9 ∷ []) gives leaves (5 * 65_536 + 14) (start_of 5) (replicate 16384 7) (9 ∷ 9 ∷ [])
    ∷ takes (other 6 1) nop (9 ∷ 9 ∷ []) gives leaves 25 (other 6 1) (replicate 16384 7) (9 ∷ 9 ∷ [])
    ∷ takes (replicate 93 0) nop (9 ∷ 9 ∷ []) gives leaves 25 (replicate 93 0) (replicate 16384 7) (9 ∷ 9 ∷ [])
    ∷ takes (start_of 5) (replicate 15 0) (9 ∷ []) gives leaves 1 (start_of 5) (replicate 16384 7) (9 ∷ [])
    ∷ []

pub monitor_right : (found starts ≡ expected starts) × (found asks ≡ expected asks) × (found taken ≡ expected taken)
unfolding bank_rules beat_word put_line module_of column_on has_pins lane_masks table_fits record_from length_of beat_column has_beat write_beat read_beat finished masks_on masks_after reads_from bus_after beat_on bursts_finished driven bus_clear put_lanes stored allowed banks_found of_closing of_any of_active of_access of_precharged of_precharge of_idle events minima every_rules place_rules minimum_rules mode_rules bus_rules command_rules rules ask startup_after beat core_from core_after bank_after commanded mark_banks banks_after next run page_after read_record state_rules entry_rules bank_fits burst_fits core_fits fits all_taken ask_call take_call small middle flag event_in refreshes_in register_in startup_in burst_in masks_in bus_in core_in status_in bank_in state_in words_of same holds put_words grade_rules start_rules start_call monitor_rules ask_words take_words
monitor_right = (refl, refl, refl)
