-- Beats as numbers, the page after a run, and the call of many records: rows from document 01's sentences and from the layout of the
-- two words (include/hawsehole.h). Assumes nothing.
use Rattle.rules.specs.declared.Refusal.{Refusal}
use Rattle.rules.specs.declared.Refusal.TheVariants.{
  WrongLength,
  WrongVersion,
  WrongPeriod,
  WrongGrade,
  HeaderZeros,
  WrongTable,
  WrongPage,
  RecordZeros,
  CkeLow,
  LateRefresh,
  LongRow,
  StartUpStep,
  BankState,
  ReservedMode,
  ShortClock,
  UnfinishedBurst,
  BusNotClear,
  EndlessBurst,
  LateClosing,
  HighClock,
  UnfitState,
  TooSoon,
}
use Rattle.rules.specs.declared.Interval.TheVariants.{Rcd, Ras, Rc, Rp, Rrd, Rfc, Wr, Mrd}
use Rattle.rules.specs.Numbers.{Verdict, number, interval, number_of, interval_of}
use Rattle.std.specs.Prelude.{ℕ, ◌+◌, ◌-◌, ◌*◌, ◌^◌, ◌≡◌, refl, true, false, List, [], ◌∷◌, ◌++◌, replicate, None, Some, Ok, Err}
use Rattle.units.specs.declared.Module.TheVariants.{Bench, Handheld}
use Rattle.units.specs.Time.{clock}
use Rattle.units.specs.Module.{module_of}
use Rattle.speed.specs.declared.SpeedTable.{SpeedTable}
use Rattle.speed.specs.Table.{table, grade_133, table_fits}
use Rattle.layout.specs.declared.Record.{Record}
use Rattle.layout.specs.Commands.{column_on}
use Rattle.layout.specs.Bytes.{has_pins, lane_masks, record_from, records_of}
use Rattle.mode.specs.Word.{length_of}
use Rattle.mode.specs.Order.{beat_column}
use Rattle.bursts.specs.declared.Cells.{Cells}
use Rattle.bursts.specs.declared.Beat.TheVariants.{Quiet, Stores, Drives}
use Rattle.bursts.specs.Burst.{has_beat, write_beat, read_beat, finished}
use Rattle.bursts.specs.Bus.{
  all_masks_high,
  no_reads,
  quiet_bus,
  masks_on,
  masks_after,
  reads_from,
  bus_after,
  beat_on,
  bursts_finished,
  driven,
  bus_clear,
}
use Rattle.bursts.specs.Cases.{Row, ◌gives◌, found, expected}
use Rattle.page.specs.Store.{put_lanes, stored}
use Rattle.rules.specs.declared.Status.TheVariants.{Open}
use Rattle.rules.specs.declared.State.{State}
use Rattle.rules.specs.Parts.{no_bank}
use Rattle.rules.specs.StartUp.{allowed}
use Rattle.rules.specs.Banks.{banks_found}
use Rattle.rules.specs.Minima.{of_closing, of_any, of_active, of_access, of_precharged, of_precharge, of_idle, events, minima}
use Rattle.rules.specs.Rules.{every_rules, place_rules, minimum_rules, mode_rules, bus_rules, command_rules, rules, ask}
use Rattle.rules.specs.After.{
  startup_after,
  beat,
  core_from,
  core_after,
  bank_after,
  commanded,
  mark_banks,
  banks_after,
  next,
}
use Rattle.rules.specs.Run.{Line, run, page_after, all_taken}
use Rattle.rules.specs.Fits.{bank_fits, burst_fits, core_fits, fits}
use Rattle.rules.specs.OneRecord.{state_rules}
use Rattle.rules.specs.Report.{Left, beat_word, put_line, lines_into, fold, records_rules, records_lent, records_call, call_run, records_next}
use Rattle.facts.specs.Cases.{active, with_133}
use Rattle.facts.specs.StateCases.{over, state, of_grade, bank}

-- ── The two words of a record ──

abbrev cells : ℕ → ℕ → ℕ → ℕ → Cells
cells bank row column lanes = record { bank = bank; row = row; column = column; lanes = lanes }

abbrev words : List (Row ℕ)
words =
    -- bits 0 to 7 the lanes, 8 to 23 the column, 24 to 39 the row, 40 to 47 the bank, 48 to 55 the kind: 0 none, 1 read, 2 write
    beat_word Quiet gives 0
    ∷ beat_word (Drives (cells 0 0 0 0)) gives 0x0001_00_0000_0000_00
    ∷ beat_word (Stores (cells 0 0 0 0)) gives 0x0002_00_0000_0000_00
    -- each part at its end, the others 0
    ∷ beat_word (Drives (cells 0 0 0 255)) gives 0x0001_00_0000_0000_ff
    ∷ beat_word (Drives (cells 0 0 1 0)) gives 0x0001_00_0000_0001_00
    ∷ beat_word (Drives (cells 0 0 2047 0)) gives 0x0001_00_0000_07ff_00
    ∷ beat_word (Drives (cells 0 1 0 0)) gives 0x0001_00_0001_0000_00
    ∷ beat_word (Stores (cells 0 8191 0 0)) gives 0x0002_00_1fff_0000_00
    ∷ beat_word (Stores (cells 1 0 0 0)) gives 0x0002_01_0000_0000_00
    ∷ beat_word (Stores (cells 3 0 0 0)) gives 0x0002_03_0000_0000_00
    -- each 0, the others at their ends
    ∷ beat_word (Drives (cells 3 8191 2047 255)) gives 0x0001_03_1fff_07ff_ff
    ∷ beat_word (Stores (cells 3 8191 2047 255)) gives 0x0002_03_1fff_07ff_ff
    ∷ beat_word (Stores (cells 0 8191 2047 255)) gives 0x0002_00_1fff_07ff_ff
    ∷ beat_word (Stores (cells 3 0 2047 255)) gives 0x0002_03_0000_07ff_ff
    ∷ beat_word (Stores (cells 3 8191 0 255)) gives 0x0002_03_1fff_0000_ff
    ∷ beat_word (Stores (cells 3 8191 2047 0)) gives 0x0002_03_1fff_07ff_00
    -- the widest that the parts' types hold
    ∷ beat_word (Drives (cells 255 65_535 65_535 255)) gives 0x0001_ff_ffff_ffff_ff
    ∷ []

-- a WRITE's beat of bank 1, row 7, column 5 on all lanes, on clock 99; a record without one on 98
abbrev stores_5 : Line
stores_5 = record { clock = clock 99; beat = Stores (cells 1 7 5 255) }

abbrev silent : Line
silent = record { clock = clock 98; beat = Quiet }

-- its word
abbrev word_5 : ℕ
word_5 = 0x0002_01_0007_0005_ff

abbrev places : List (Row (List ℕ))
places =
    -- word 2k the beat, word 2k + 1 the clock, "where the slice has its place"; every other word stays
    put_line 0 stores_5 (11 ∷ 12 ∷ 13 ∷ 14 ∷ []) gives (word_5 ∷ 99 ∷ 13 ∷ 14 ∷ [])
    ∷ put_line 1 stores_5 (11 ∷ 12 ∷ 13 ∷ 14 ∷ []) gives (11 ∷ 12 ∷ word_5 ∷ 99 ∷ [])
    ∷ put_line 2 stores_5 (11 ∷ 12 ∷ 13 ∷ 14 ∷ []) gives (11 ∷ 12 ∷ 13 ∷ 14 ∷ [])
    ∷ put_line 1 stores_5 (11 ∷ 12 ∷ 13 ∷ []) gives (11 ∷ 12 ∷ word_5 ∷ [])
    ∷ put_line 1 stores_5 (11 ∷ 12 ∷ []) gives (11 ∷ 12 ∷ [])
    ∷ put_line 0 stores_5 (11 ∷ []) gives (word_5 ∷ [])
    ∷ put_line 0 stores_5 [] gives []
    ∷ put_line 0 silent (11 ∷ 12 ∷ 13 ∷ []) gives (0 ∷ 98 ∷ 13 ∷ [])
    -- lines from number k on
    ∷ lines_into 0 (silent ∷ stores_5 ∷ []) (11 ∷ 12 ∷ 13 ∷ 14 ∷ 15 ∷ []) gives (0 ∷ 98 ∷ word_5 ∷ 99 ∷ 15 ∷ [])
    ∷ lines_into 1 (silent ∷ stores_5 ∷ []) (11 ∷ 12 ∷ 13 ∷ 14 ∷ 15 ∷ []) gives (11 ∷ 12 ∷ 0 ∷ 98 ∷ word_5 ∷ [])
    ∷ lines_into 0 [] (11 ∷ 12 ∷ []) gives (11 ∷ 12 ∷ [])
    ∷ []

-- ── The page after lines ──

-- a NOP whose data are 08 to 01 in lanes 7 to 0, and one with FF in each
abbrev data_of : ℕ → Record
data_of dq = record { skipped = 0; cke = 1; code = 7; ba = 0; addr = 0; column = 0; masks = 0; zeros = 0; dq = dq }

abbrev ones_to_eight : Record
ones_to_eight = data_of 0x0807060504030201

-- a WRITE's beat of this bank and row in column 1, on these lanes
abbrev stores_1 : ℕ → ℕ → ℕ → Line
stores_1 bank row lanes = record { clock = clock 99; beat = Stores (cells bank row 1 lanes) }

abbrev reads_1 : Line
reads_1 = record { clock = clock 99; beat = Drives (cells 1 7 1 255) }

-- the page of bank 1, row 7, from 24 zeros
abbrev paged : List Record → List Line → List ℕ
paged rs ls = page_after Bench 1 7 rs ls (replicate 24 0)

abbrev pages : List (Row (List ℕ))
pages =
    paged (ones_to_eight ∷ []) (stores_1 1 7 255 ∷ [])
    gives (replicate 8 0 ++ (1 ∷ 2 ∷ 3 ∷ 4 ∷ 5 ∷ 6 ∷ 7 ∷ 8 ∷ []) ++ replicate 8 0)
    ∷ paged (ones_to_eight ∷ []) (stores_1 1 7 0x81 ∷ [])
    gives (replicate 8 0 ++ (1 ∷ 0 ∷ 0 ∷ 0 ∷ 0 ∷ 0 ∷ 0 ∷ 8 ∷ []) ++ replicate 8 0)
    -- another bank, another row, a READ, no beat: nothing is stored
    ∷ paged (ones_to_eight ∷ []) (stores_1 2 7 255 ∷ []) gives replicate 24 0
    ∷ paged (ones_to_eight ∷ []) (stores_1 1 6 255 ∷ []) gives replicate 24 0
    ∷ paged (ones_to_eight ∷ []) (reads_1 ∷ []) gives replicate 24 0
    ∷ paged (ones_to_eight ∷ []) (silent ∷ []) gives replicate 24 0
    -- each record's data beside its own beat; of two stores the later
    ∷ paged (data_of 0 ∷ ones_to_eight ∷ []) (silent ∷ stores_1 1 7 1 ∷ []) gives (replicate 8 0 ++ (1 ∷ []) ++ replicate 15 0)
    ∷ paged (ones_to_eight ∷ data_of 9 ∷ []) (stores_1 1 7 3 ∷ stores_1 1 7 1 ∷ [])
    gives (replicate 8 0 ++ (9 ∷ 2 ∷ []) ++ replicate 14 0)
    -- records after the last line were not taken
    ∷ paged (ones_to_eight ∷ ones_to_eight ∷ []) (silent ∷ []) gives replicate 24 0
    ∷ paged [] (stores_1 1 7 255 ∷ []) gives replicate 24 0
    ∷ page_after Handheld 1 7 (ones_to_eight ∷ []) (stores_1 1 7 255 ∷ []) (replicate 24 0)
    gives (replicate 2 0 ++ (1 ∷ 2 ∷ []) ++ replicate 20 0)
    ∷ []

-- ── Records one after another, from a state ──

-- record `number` comes after clock 1,000; a WRITE of the watched row, from column 0 in mode 0037, has run since 1,000
abbrev running : ℕ → State
running number =
    state 7500 1 7 number (Some (clock 1_000)) over
    (record {
      write = record { live = true; auto = false; bank = 1; row = 7; column = 0; start = clock 1_000; cut = None; word = 0x37 };
      reads = no_reads;
      masks = all_masks_high;
    })
    (no_bank ∷ bank (Open 7 (clock 900)) (Some (clock 900)) None ∷ no_bank ∷ no_bank ∷ [])

abbrev left : Verdict → ℕ → List ℕ → List ℕ → Left
left v reported page beats = record { ran = record { verdict = v; reported = reported }; page = page; beats = beats }

-- the words of the beat in column c on all lanes
abbrev word_of : ℕ → ℕ
word_of c = 0x0002_01_0007_0000_ff + c * 256

abbrev folded : List Record → List ℕ → Left
folded rs beats = fold with_133 (running 1) rs (replicate 32 0) beats

abbrev folds : List (Row Left)
folds =
    -- "A clean trace gives number 0 and its record count", here of the state's number on; a beat on 1,001 in column 1, on 1,002 in column 2
    folded (ones_to_eight ∷ data_of 9 ∷ []) (replicate 7 3)
    gives left (Ok tt) 3
    (replicate 8 0 ++ (1 ∷ 2 ∷ 3 ∷ 4 ∷ 5 ∷ 6 ∷ 7 ∷ 8 ∷ 9 ∷ []) ++ replicate 15 0)
    (3 ∷ 3 ∷ word_of 1 ∷ 1_001 ∷ word_of 2 ∷ 1_002 ∷ 3 ∷ [])
    -- "the page holds the stores of the records before it, .. and nothing after it is read"
    ∷ folded (ones_to_eight ∷ active 0 1 7 ∷ data_of 9 ∷ []) (replicate 7 3)
    gives left (Err BankState) 2
    (replicate 8 0 ++ (1 ∷ 2 ∷ 3 ∷ 4 ∷ 5 ∷ 6 ∷ 7 ∷ 8 ∷ []) ++ replicate 16 0)
    (3 ∷ 3 ∷ word_of 1 ∷ 1_001 ∷ 3 ∷ 3 ∷ 3 ∷ [])
    ∷ folded [] (3 ∷ []) gives left (Ok tt) 1 (replicate 32 0) (3 ∷ [])
    ∷ []

-- ── The call of many records ──

-- NOP and ACTIVE of bank 1 as 16 bytes: masks 00, lane 0's data 9
abbrev nop_bytes : List ℕ
nop_bytes = 0 ∷ 0 ∷ 0 ∷ 0xb8 ∷ 0 ∷ 0 ∷ 0 ∷ 0 ∷ 0 ∷ 0 ∷ 0 ∷ 0 ∷ 0 ∷ 0 ∷ 0 ∷ 9 ∷ []

abbrev active_bytes : List ℕ
active_bytes = 0 ∷ 0 ∷ 0 ∷ 0x9a ∷ 0 ∷ 0 ∷ 0 ∷ 0 ∷ 0 ∷ 0 ∷ 0 ∷ 0 ∷ 0 ∷ 0 ∷ 0 ∷ 9 ∷ []

-- with the table of -133, a page of zeros of the right size, and a slice of six words
abbrev calls : State → List ℕ → Verdict → ℕ → List ℕ → List ℕ → Row Left
calls s bytes v reported page beats = records_call with_133 s bytes (replicate 16384 0) (replicate 6 3) gives left v reported page beats

-- the page after beats in columns 1 to k, with 9 in lane 0 of each
abbrev after_one : List ℕ
after_one = replicate 8 0 ++ (9 ∷ []) ++ replicate 16375 0

abbrev after_two : List ℕ
after_two = replicate 8 0 ++ (9 ∷ []) ++ replicate 7 0 ++ (9 ∷ []) ++ replicate 16367 0

abbrev zeros : List ℕ
zeros = replicate 16384 0

-- refused before any record: with this table, page and state
abbrev unasked : SpeedTable → ℕ → State → List ℕ → Refusal → Row Left
unasked t lent s bytes why =
    records_call (record { table = t }) s bytes (replicate lent 0) (3 ∷ 3 ∷ [])
    gives left (Err why) 0 (replicate lent 0) (3 ∷ 3 ∷ [])

-- "a time above 200,000,000"
abbrev unfit : SpeedTable
unfit = table 10_000 7_500 44_000 120_000_000 66_000 20_000 20_000 15_000 66_000 15_000 7_500 200_000_001 2

-- a state that 25 refuses, of this period and grade
abbrev wrong : ℕ → ℕ → State
wrong period grade = of_grade grade (state period 1 7 (2 ^ 41 + 1) None over quiet_bus (no_bank ∷ no_bank ∷ no_bank ∷ no_bank ∷ []))

abbrev many : List (Row Left)
many =
    calls (running 0) (nop_bytes ++ nop_bytes) (Ok tt) 2 after_two (word_of 1 ∷ 1_001 ∷ word_of 2 ∷ 1_002 ∷ 3 ∷ 3 ∷ [])
    ∷ calls (running 1) nop_bytes (Ok tt) 2 after_one (3 ∷ 3 ∷ word_of 1 ∷ 1_001 ∷ 3 ∷ 3 ∷ [])
    ∷ calls (running 1) (nop_bytes ++ active_bytes ++ nop_bytes) (Err BankState) 2 after_one
    (3 ∷ 3 ∷ word_of 1 ∷ 1_001 ∷ 3 ∷ 3 ∷ [])
    ∷ calls (running 7) [] (Ok tt) 7 zeros (replicate 6 3)
    -- from record number 2^41: the first as from the one-record call, a second gets 25 with record 0; a refused first one ends it
    ∷ calls (running (2 ^ 41)) nop_bytes (Ok tt) (2 ^ 41 + 1) after_one (replicate 6 3)
    ∷ calls (running (2 ^ 41)) (nop_bytes ++ nop_bytes) (Err UnfitState) 0 after_one (replicate 6 3)
    ∷ calls (running (2 ^ 41)) (nop_bytes ++ active_bytes) (Err UnfitState) 0 after_one (replicate 6 3)
    ∷ calls (running (2 ^ 41)) (active_bytes ++ nop_bytes) (Err BankState) (2 ^ 41) zeros (replicate 6 3)
    ∷ calls (running (2 ^ 41)) [] (Ok tt) (2 ^ 41) zeros (replicate 6 3)
    -- one before
    ∷ calls (running (2 ^ 41 - 1)) (nop_bytes ++ nop_bytes) (Ok tt) (2 ^ 41 + 1) after_two (replicate 6 3)
    ∷ calls (running (2 ^ 41 - 1)) (nop_bytes ++ nop_bytes ++ nop_bytes) (Err UnfitState) 0 after_two (replicate 6 3)
    ∷ calls (running (2 ^ 41 - 1)) (nop_bytes ++ active_bytes ++ nop_bytes) (Err BankState) (2 ^ 41) after_one (replicate 6 3)
    -- 2^41 + 1: 25 before any
    ∷ calls (running (2 ^ 41 + 1)) nop_bytes (Err UnfitState) 0 zeros (replicate 6 3)
    ∷ calls (running (2 ^ 41 + 1)) [] (Err UnfitState) 0 zeros (replicate 6 3)
    -- 1, 3, 4, 6, 7 and 25 in this order: all faults at once, mended one by one
    ∷ unasked unfit 16383 (wrong 999 3) (replicate 15 0) WrongLength
    ∷ unasked unfit 16383 (wrong 999 3) (replicate 17 0) WrongLength
    ∷ unasked unfit 16383 (wrong 999 3) (replicate 8 0) WrongLength
    ∷ unasked unfit 16383 (wrong 999 3) (replicate 24 0) WrongLength
    ∷ unasked unfit 16383 (wrong 999 3) nop_bytes WrongPeriod
    ∷ unasked unfit 16383 (wrong 65_536 3) (nop_bytes ++ nop_bytes) WrongPeriod
    ∷ unasked unfit 16383 (wrong 1_000 3) nop_bytes WrongGrade
    ∷ unasked unfit 16383 (wrong 65_535 2) nop_bytes WrongTable
    ∷ unasked grade_133 16383 (wrong 7_500 2) nop_bytes WrongPage
    ∷ unasked grade_133 16385 (wrong 7_500 1) nop_bytes WrongPage
    ∷ unasked grade_133 16384 (wrong 7_500 2) nop_bytes UnfitState
    ∷ unasked grade_133 16384 (wrong 7_500 2) [] UnfitState
    ∷ []

-- ── The state that it leaves ──

-- 7 and a refused first record leave it
abbrev unmoved : List (Row State)
unmoved =
    records_next with_133 (running 1) nop_bytes 16383 gives running 1
    ∷ records_next with_133 (running 1) (nop_bytes ++ nop_bytes) 16385 gives running 1
    ∷ records_next with_133 (running 1) (active_bytes ++ nop_bytes) 16384 gives running 1
    ∷ records_next with_133 (running 1) [] 16384 gives running 1
    ∷ []

-- the number of the next record, from this state
abbrev moved : ℕ → List ℕ → ℕ → Row ℕ
moved number bytes after = (records_next with_133 (running number) bytes 16384).core.number gives after

abbrev moves : List (Row ℕ)
moves =
    moved 1 nop_bytes 2
    ∷ moved 1 (nop_bytes ++ nop_bytes) 3
    -- the refused record does not count, nor those after it; nor one whose number is above 2^41
    ∷ moved 1 (nop_bytes ++ active_bytes ++ nop_bytes) 2
    ∷ moved (2 ^ 41) (nop_bytes ++ nop_bytes) (2 ^ 41 + 1)
    ∷ moved (2 ^ 41 - 1) (nop_bytes ++ nop_bytes ++ nop_bytes) (2 ^ 41 + 1)
    ∷ []

-- the verdict table's numbers, with the interval of 16: "1 tRCD, 2 tRAS, 3 tRC, 4 tRP, 5 tRRD, 6 tRFC, 7 tWR, 8 tMRD"
abbrev numbered : Refusal → ℕ → ℕ → Row (List ℕ)
numbered w n i = (number w ∷ interval w ∷ number_of (Err w) ∷ interval_of (Err w) ∷ []) gives (n ∷ i ∷ n ∷ i ∷ [])

abbrev refusals : List (Row (List ℕ))
refusals =
    ((number_of (Ok tt) ∷ interval_of (Ok tt) ∷ []) gives (0 ∷ 0 ∷ []))
    ∷ numbered WrongLength 1 0
    ∷ numbered WrongVersion 2 0
    ∷ numbered WrongPeriod 3 0
    ∷ numbered WrongGrade 4 0
    ∷ numbered HeaderZeros 5 0
    ∷ numbered WrongTable 6 0
    ∷ numbered WrongPage 7 0
    ∷ numbered RecordZeros 10 0
    ∷ numbered CkeLow 11 0
    ∷ numbered LateRefresh 12 0
    ∷ numbered LongRow 13 0
    ∷ numbered StartUpStep 14 0
    ∷ numbered BankState 15 0
    ∷ numbered (TooSoon Rcd) 16 1
    ∷ numbered (TooSoon Ras) 16 2
    ∷ numbered (TooSoon Rc) 16 3
    ∷ numbered (TooSoon Rp) 16 4
    ∷ numbered (TooSoon Rrd) 16 5
    ∷ numbered (TooSoon Rfc) 16 6
    ∷ numbered (TooSoon Wr) 16 7
    ∷ numbered (TooSoon Mrd) 16 8
    ∷ numbered ReservedMode 17 0
    ∷ numbered ShortClock 18 0
    ∷ numbered UnfinishedBurst 19 0
    ∷ numbered BusNotClear 20 0
    ∷ numbered EndlessBurst 21 0
    ∷ numbered LateClosing 22 0
    ∷ numbered HighClock 23 0
    ∷ numbered UnfitState 25 0
    ∷ []

pub report_right :
    (found words ≡ expected words)
    × (found places ≡ expected places)
    × (found pages ≡ expected pages)
    × (found folds ≡ expected folds)
    × (found many ≡ expected many)
    × (found unmoved ≡ expected unmoved)
    × (found moves ≡ expected moves)
    × (found refusals ≡ expected refusals)
unfolding module_of column_on has_pins lane_masks table_fits record_from records_of length_of beat_column has_beat write_beat read_beat finished masks_on masks_after reads_from bus_after beat_on bursts_finished driven bus_clear put_lanes stored allowed banks_found of_closing of_any of_active of_access of_precharged of_precharge of_idle events minima every_rules place_rules minimum_rules mode_rules bus_rules command_rules rules ask startup_after beat core_from core_after bank_after commanded mark_banks banks_after next page_after bank_fits burst_fits core_fits fits state_rules beat_word put_line lines_into run all_taken fold records_rules records_lent call_run
report_right = (refl, refl, refl, refl, refl, refl, refl, refl)
