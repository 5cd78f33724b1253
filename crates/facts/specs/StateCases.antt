-- The one-record call from states, also from such as no trace reaches: 1, 3, 4, 6, 7 and 25 in their order, each bound of 25 from both
-- sides, and what an event ahead or a bank not started gives. From document 01's sentences, and 02's K9 for 4. Assumes nothing.
use Rattle.units.specs.declared.Clock.{Clock}
use Rattle.std.specs.Prelude.{ℕ, ◌+◌, ◌^◌, ◌≡◌, refl, Bool, true, false, List, [], ◌∷◌, ◌++◌, set, replicate, Option, None, Some}
use Rattle.units.specs.Time.{clock, time}
use Rattle.speed.specs.declared.SpeedTable.{SpeedTable}
use Rattle.speed.specs.Table.{table, grade_133, table_fits}
use Rattle.units.specs.Module.{module_of}
use Rattle.layout.specs.Commands.{column_on}
use Rattle.layout.specs.Bytes.{has_pins, lane_masks, record_from, read_record}
use Rattle.mode.specs.Word.{length_of}
use Rattle.mode.specs.Order.{beat_column}
use Rattle.bursts.specs.declared.Burst.{Burst}
use Rattle.bursts.specs.declared.Bus.{Bus}
use Rattle.bursts.specs.declared.Beat.TheVariants.{Quiet}
use Rattle.bursts.specs.Burst.{no_burst, has_beat, write_beat, read_beat, finished}
use Rattle.bursts.specs.Bus.{
  all_masks_high,
  quiet_bus,
  masks_on,
  masks_after,
  reads_from,
  bus_after,
  beat_on,
  bursts_finished,
  driven,
  bus_clear,
}
use Rattle.bursts.specs.Cases.{Row, ◌gives◌, found, expected}
use Rattle.page.specs.Store.{put_lanes, stored}
use Rattle.facts.specs.Cases.{Answered, answered, in_numbers, Leaves, left_in_numbers}
use Rattle.rules.specs.declared.Refreshes.TheVariants.{Zero, One, Two}
use Rattle.rules.specs.declared.StartUp.{StartUp}
use Rattle.rules.specs.declared.Status.{Status}
use Rattle.rules.specs.declared.Status.TheVariants.{NotStarted, Open, Closed}
use Rattle.rules.specs.declared.Bank.{Bank}
use Rattle.rules.specs.declared.State.{State}
use Rattle.rules.specs.Numbers.{tRC, tRP}
use Rattle.rules.specs.Parts.{no_bank, loaded}
use Rattle.rules.specs.StartUp.{allowed}
use Rattle.rules.specs.Banks.{banks_found}
use Rattle.rules.specs.Minima.{of_closing, of_any, of_active, of_access, of_precharged, of_precharge, of_idle, events, minima}
use Rattle.rules.specs.Rules.{every_rules, place_rules, minimum_rules, mode_rules, bus_rules, command_rules, rules, ask}
use Rattle.rules.specs.After.{
  startup_after,
  beat,
  core_from,
  core_after,
  bank_after,
  commanded,
  mark_banks,
  banks_after,
  next,
}
use Rattle.rules.specs.Fits.{bank_fits, burst_fits, core_fits, fits}
use Rattle.rules.specs.Run.{run, page_after, all_taken}
use Rattle.rules.specs.OneRecord.{Stepped, state_rules, entry_rules, ask_call, take_call, step}

-- ── Records as bytes: skipped clocks up to 255, CKE HIGH, masks FF, DQ 0 ──

-- the byte of CKE, CS# RAS# CAS# WE#, BA and A12; and A11 to A4
abbrev rec : ℕ → ℕ → ℕ → List ℕ
rec skipped pins address = 0 ∷ 0 ∷ skipped ∷ pins ∷ address ∷ 0x0f ∷ 0xf0 ∷ 0 ∷ replicate 8 0

abbrev nop : List ℕ
nop = rec 0 0xb8 0

-- A10 HIGH is bit 6 of A11 to A4
abbrev all_banks : ℕ → List ℕ
all_banks skipped = rec skipped 0x90 0x40

abbrev precharge_1 : List ℕ
precharge_1 = rec 0 0x92 0

abbrev active_1 : List ℕ
active_1 = rec 0 0x9a 0

-- a bit that must be 0; CKE LOW
abbrev zero_set : List ℕ
zero_set = 0 ∷ 0 ∷ 0 ∷ 0xb8 ∷ 0 ∷ 0x0f ∷ 0xf0 ∷ 1 ∷ replicate 8 0

abbrev cke_low : List ℕ
cke_low = rec 0 0x38 0

-- ── States ──

abbrev pub not_begun : StartUp
not_begun = record { allclosed = None; refreshes = Zero; register = None }

-- start-up over, long ago
abbrev pub over : StartUp
over = record { allclosed = Some (clock 0); refreshes = Two (clock 900); register = loaded 0x31 (clock 950) }

abbrev pub state : ℕ → ℕ → ℕ → ℕ → Option Clock → StartUp → Bus → List Bank → State
state period bank row number last startup bus banks =
    record {
      core =
          record {
            period = time period;
            grade = 2;
            bank = bank;
            row = row;
            number = number;
            last = last;
            startup = startup;
            bus = bus;
          };
      banks = banks;
    }

-- the same state with another grade
abbrev pub of_grade : ℕ → State → State
of_grade grade s =
    let c = s.core in
    record {
      core =
          record {
            period = c.period;
            grade = grade;
            bank = c.bank;
            row = c.row;
            number = c.number;
            last = c.last;
            startup = c.startup;
            bus = c.bus;
          };
      banks = s.banks;
    }

abbrev pub four : Bank → List Bank
four b = no_bank ∷ b ∷ no_bank ∷ no_bank ∷ []

-- as at the start of a trace, but for one part
abbrev with_number : ℕ → State
with_number k = state 7500 0 0 k None not_begun quiet_bus (four no_bank)

abbrev with_last : ℕ → State
with_last n = state 7500 0 0 5 (Some (clock n)) not_begun quiet_bus (four no_bank)

abbrev watching : ℕ → ℕ → State
watching bank row = state 7500 bank row 5 None not_begun quiet_bus (four no_bank)

abbrev with_startup : StartUp → State
with_startup u = state 7500 0 0 5 None u quiet_bus (four no_bank)

abbrev with_bank : Bank → State
with_bank b = state 7500 0 0 5 None not_begun quiet_bus (four b)

abbrev with_write : Burst → State
with_write b = state 7500 0 0 5 None not_begun (record { write = b; reads = quiet_bus.reads; masks = all_masks_high }) (four no_bank)

-- a burst in READ place 0, 1, 2 or 3
abbrev pub in_place : ℕ → Burst → List Burst
in_place k b = set quiet_bus.reads k b

abbrev with_read : ℕ → Burst → State
with_read k b =
    state 7500 0 0 5 None not_begun (record { write = no_burst; reads = in_place k b; masks = all_masks_high }) (four no_bank)

-- bank 0, 1, 2 or 3 like this, the others like that
abbrev pub bank_in : ℕ → Bank → Bank → List Bank
bank_in k b d = set (replicate 4 d) k b

abbrev with_bank_in : ℕ → Bank → State
with_bank_in k b = state 7500 0 0 5 None not_begun quiet_bus (bank_in k b no_bank)

-- after start-up, the last record on clock 1,000, and bank 1 like this
abbrev pub begun : Bank → State
begun b = state 7500 0 0 5 (Some (clock 1_000)) over quiet_bus (four b)

abbrev pub bank : Status → Option Clock → Option Clock → Bank
bank status active stored = record { status = status; active = active; stored = stored }

abbrev dead : ℕ → ℕ → ℕ → ℕ → Option Clock → ℕ → Burst
dead bank row column start cut word =
    record { live = false; auto = false; bank = bank; row = row; column = column; start = clock start; cut = cut; word = word }

-- ── A case ──

abbrev pub answer : ℕ → ℕ → ℕ → Answered
answer number interval reported = answered number interval reported Quiet

-- with this table and a page of so many bytes
abbrev given : SpeedTable → ℕ → State → List ℕ → Stepped
given t lent s bytes = step (record { table = t }) s bytes (replicate lent 7)

-- grade -133 and a page of the right size: number, interval and record
abbrev answers : State → List ℕ → ℕ → ℕ → ℕ → Row Answered
answers s bytes number interval reported = in_numbers (given grade_133 16384 s bytes).answer gives answer number interval reported

-- refused before the record is looked at: "leave page and state untouched, report record 0"
abbrev answers_with : SpeedTable → ℕ → State → List ℕ → ℕ → Row Answered
answers_with t lent s bytes number = in_numbers (given t lent s bytes).answer gives answer number 0 0

-- the whole of what a refusal leaves: "the refused record changes neither state nor page"
abbrev leaves : SpeedTable → ℕ → State → List ℕ → ℕ → ℕ → ℕ → Row Leaves
leaves t lent s bytes number interval reported =
    left_in_numbers (given t lent s bytes) gives record { answer = answer number interval reported; next = s; page = replicate lent 7 }

-- "a time above 200,000,000"
abbrev unfit : SpeedTable
unfit = table 10_000 7_500 44_000 120_000_000 66_000 20_000 20_000 15_000 66_000 15_000 7_500 200_000_001 2

-- a state that 25 refuses, of this period
abbrev wrong : ℕ → State
wrong period = state period 0 0 (2 ^ 41 + 1) None not_begun quiet_bus (four no_bank)

abbrev cases : List (Row Answered)
cases =
    -- "A record not 16 bytes long gives 1, then 3, 6, 7, 25 and 10 to the end follow", 4 after 3: all faults at once, mended one by one
    answers_with unfit 16383 (of_grade 3 (wrong 999)) (replicate 15 0) 1
    ∷ answers_with unfit 16383 (of_grade 3 (wrong 999)) (replicate 17 0) 1
    ∷ answers_with unfit 16383 (of_grade 3 (wrong 999)) zero_set 3
    ∷ answers_with unfit 16383 (of_grade 3 (wrong 65_536)) zero_set 3
    ∷ answers_with unfit 16383 (of_grade 3 (wrong 1_000)) zero_set 4
    ∷ answers_with unfit 16383 (wrong 1_000) zero_set 6
    ∷ answers_with grade_133 16383 (wrong 65_535) zero_set 7
    ∷ answers_with grade_133 16385 (wrong 7_500) zero_set 7
    ∷ answers (wrong 7_500) zero_set 25 0 0
    ∷ answers (with_number 5) zero_set 10 0 5
    -- 4 "also for the state's grade": none but 1 and 2, with either module's page
    ∷ answers (of_grade 0 (with_number 5)) nop 4 0 0
    ∷ answers (of_grade 1 (with_number 5)) nop 0 0 5
    ∷ answers (of_grade 2 (with_number 5)) nop 0 0 5
    ∷ answers (of_grade 3 (with_number 5)) nop 4 0 0
    ∷ answers (of_grade 4 (with_number 5)) nop 4 0 0
    ∷ answers (of_grade 255 (with_number 5)) nop 4 0 0
    ∷ answers_with grade_133 512 (of_grade 3 (with_number 5)) nop 4
    -- "a taken record 0 and its own number"; "10 and all below it report the record's number"
    ∷ answers (with_number 5) nop 0 0 5
    ∷ answers (with_number 5) active_1 14 0 5
    -- "a record number above 2^41"
    ∷ answers (with_number (2 ^ 41)) nop 0 0 (2 ^ 41)
    ∷ answers (with_number (2 ^ 41 + 1)) nop 25 0 0
    -- "a clock above 2^40"; 23 stands between 10 and 11
    ∷ answers (with_last (2 ^ 40 + 1)) nop 25 0 0
    ∷ answers (with_last (2 ^ 40)) nop 23 0 5
    ∷ answers (with_last (2 ^ 40)) zero_set 10 0 5
    ∷ answers (with_last (2 ^ 40)) cke_low 23 0 5
    ∷ answers (with_last 0) cke_low 11 0 5
    -- "a bank, row or column off the module": the watched ones
    ∷ answers (watching 3 8191) nop 0 0 5
    ∷ answers (watching 4 0) nop 25 0 0
    ∷ answers (watching 0 8192) nop 25 0 0
    -- start-up: its clocks, "a reserved mode word"
    ∷ answers (with_startup (record { allclosed = Some (clock (2 ^ 40)); refreshes = One (clock (2 ^ 40)); register = loaded 0x31 (clock (2 ^ 40)) })) nop 0 0 5
    ∷ answers (with_startup (record { allclosed = Some (clock (2 ^ 40 + 1)); refreshes = Zero; register = None })) nop 25 0 0
    ∷ answers (with_startup (record { allclosed = None; refreshes = One (clock (2 ^ 40 + 1)); register = None })) nop 25 0 0
    ∷ answers (with_startup (record { allclosed = None; refreshes = Two (clock (2 ^ 40 + 1)); register = None })) nop 25 0 0
    ∷ answers (with_startup (record { allclosed = None; refreshes = Zero; register = loaded 0x31 (clock (2 ^ 40 + 1)) })) nop
    25 0 0
    ∷ answers (with_startup (record { allclosed = None; refreshes = Zero; register = loaded 0x34 (clock 0) })) nop 25 0 0
    -- a bank: row, clocks, "a time above 2^58 ps"
    ∷ answers (with_bank (bank (Open 8191 (clock (2 ^ 40))) (Some (clock (2 ^ 40))) (Some (clock (2 ^ 40))))) nop 0 0 5
    ∷ answers (with_bank (bank (Open 8192 (clock 0)) None None)) nop 25 0 0
    ∷ answers (with_bank (bank (Open 0 (clock (2 ^ 40 + 1))) None None)) nop 25 0 0
    ∷ answers (with_bank (bank NotStarted (Some (clock (2 ^ 40 + 1))) None)) nop 25 0 0
    ∷ answers (with_bank (bank NotStarted None (Some (clock (2 ^ 40 + 1))))) nop 25 0 0
    ∷ answers (with_bank (bank (Closed (time (2 ^ 58))) None None)) nop 0 0 5
    ∷ answers (with_bank (bank (Closed (time (2 ^ 58 + 1))) None None)) nop 25 0 0
    -- a burst, also one that is no longer live, in either place
    ∷ answers (with_write (dead 3 8191 2047 (2 ^ 40) (Some (clock (2 ^ 40))) 0x31)) nop 0 0 5
    ∷ answers (with_write (dead 4 0 0 0 None 0x31)) nop 25 0 0
    ∷ answers (with_write (dead 0 8192 0 0 None 0x31)) nop 25 0 0
    ∷ answers (with_write (dead 0 0 2048 0 None 0x31)) nop 25 0 0
    ∷ answers (with_write (dead 0 0 0 (2 ^ 40 + 1) None 0x31)) nop 25 0 0
    ∷ answers (with_write (dead 0 0 0 0 (Some (clock (2 ^ 40 + 1))) 0x31)) nop 25 0 0
    ∷ answers (with_write (dead 0 0 0 0 None 0x34)) nop 25 0 0
    ∷ answers (with_read 3 (dead 3 8191 2047 (2 ^ 40) (Some (clock (2 ^ 40))) 0x31)) nop 0 0 5
    ∷ answers (with_read 3 (dead 0 0 2048 0 None 0x31)) nop 25 0 0
    -- "An event still ahead counts too": no maximum is passed by a refresh or an ACTIVE ahead, and no minimum is met
    ∷ answers (with_startup (record { allclosed = None; refreshes = Two (clock (2 ^ 40)); register = None })) nop 0 0 5
    ∷ answers (begun (bank (Open 7 (clock 2_000)) (Some (clock 2_000)) None)) nop 0 0 5
    ∷ answers (begun (bank (Closed (time 0)) (Some (clock 2_000)) None)) active_1 16 tRC 5
    ∷ answers (begun (bank (Closed (time 8_000_000)) None None)) active_1 16 tRP 5
    -- a bank not started is neither open nor closed: ACTIVE gives 15, a PRECHARGE asks nothing of it
    ∷ answers (begun no_bank) active_1 15 0 5
    ∷ answers (begun no_bank) precharge_1 0 0 5
    ∷ answers (begun (bank (Closed (time 0)) None None)) active_1 0 0 5
    -- "The first PRECHARGE ALL closes all banks and has no other condition" but its time
    ∷ answers (state 65_535 0 0 5 (Some (clock 1_520)) not_begun quiet_bus
    (four (bank (Open 7 (clock 1_525)) (Some (clock 1_525)) (Some (clock 1_525))))) (all_banks 5) 0 0 5
    ∷ answers (state 65_535 0 0 5 (Some (clock 1_519)) not_begun quiet_bus (four no_bank)) (all_banks 5) 14 0 5
    ∷ []

-- each number that is given before the record is looked at, and some of those after it
abbrev refusals : List (Row Leaves)
refusals =
    leaves grade_133 16384 (with_number 5) (replicate 15 0) 1 0 0
    ∷ leaves grade_133 16384 (with_number 5) [] 1 0 0
    ∷ leaves grade_133 16384 (state 999 0 0 5 None not_begun quiet_bus (four no_bank)) nop 3 0 0
    ∷ leaves grade_133 16384 (of_grade 3 (with_number 5)) nop 4 0 0
    ∷ leaves unfit 16384 (with_number 5) nop 6 0 0
    ∷ leaves grade_133 16383 (with_number 5) nop 7 0 0
    ∷ leaves grade_133 0 (with_number 5) nop 7 0 0
    ∷ leaves grade_133 16384 (with_number (2 ^ 41 + 1)) nop 25 0 0
    ∷ leaves grade_133 16384 (with_number 5) zero_set 10 0 5
    ∷ leaves grade_133 16384 (with_last (2 ^ 40)) nop 23 0 5
    ∷ leaves grade_133 16384 (with_number 5) cke_low 11 0 5
    ∷ leaves grade_133 16384 (with_number 5) active_1 14 0 5
    ∷ leaves grade_133 16384 (begun no_bank) active_1 15 0 5
    ∷ leaves grade_133 16384 (begun (bank (Closed (time 8_000_000)) None None)) active_1 16 tRP 5
    -- a taken one beside them: a NOP as the first record, on clock 0
    ∷ left_in_numbers (given grade_133 16384 (with_number 5) nop)
    gives record {
      answer = answer 0 0 5;
      next = state 7500 0 0 6 (Some (clock 0)) not_begun quiet_bus (four no_bank);
      page = replicate 16384 7;
    }
    ∷ []

-- ── 25, part by part: what a state may hold, and what not ──

abbrev startup : Option Clock → StartUp
startup e = record { allclosed = e; refreshes = Zero; register = None }

-- a burst that is live, else like `dead`
abbrev live : Burst → Burst
live b =
    record {
      live = true;
      auto = true;
      bank = b.bank;
      row = b.row;
      column = b.column;
      start = b.start;
      cut = b.cut;
      word = b.word;
    }

-- the bounds of a burst, live or not, in this place
abbrev burst_bounds : (Burst → State) → List (Row Bool)
burst_bounds place =
    fits (place (dead 3 8191 2047 (2 ^ 40) (Some (clock (2 ^ 40))) 0x37)) gives true
    ∷ fits (place (live (dead 3 8191 2047 (2 ^ 40) (Some (clock (2 ^ 40))) 0x37))) gives true
    ∷ fits (place (dead 4 0 0 0 None 0x31)) gives false
    ∷ fits (place (dead 0 8192 0 0 None 0x31)) gives false
    ∷ fits (place (dead 0 0 2048 0 None 0x31)) gives false
    ∷ fits (place (dead 0 0 0 (2 ^ 40 + 1) None 0x31)) gives false
    ∷ fits (place (dead 0 0 0 0 (Some (clock (2 ^ 40 + 1))) 0x31)) gives false
    ∷ fits (place (dead 0 0 0 0 None 0x34)) gives false
    ∷ fits (place (dead 0 0 0 0 None 0x3f)) gives false
    ∷ fits (place (live (dead 0 0 0 0 None 0x34))) gives false
    ∷ []

-- the bounds of the bank in this place
abbrev bank_bounds : ℕ → List (Row Bool)
bank_bounds k =
    fits (with_bank_in k (bank (Open 8191 (clock (2 ^ 40))) (Some (clock (2 ^ 40))) (Some (clock (2 ^ 40))))) gives true
    ∷ fits (with_bank_in k (bank (Open 8192 (clock 0)) None None)) gives false
    ∷ fits (with_bank_in k (bank (Open 0 (clock (2 ^ 40 + 1))) None None)) gives false
    ∷ fits (with_bank_in k (bank (Closed (time (2 ^ 58))) None None)) gives true
    ∷ fits (with_bank_in k (bank (Closed (time (2 ^ 58 + 1))) None None)) gives false
    ∷ fits (with_bank_in k (bank NotStarted (Some (clock (2 ^ 40 + 1))) None)) gives false
    ∷ fits (with_bank_in k (bank NotStarted None (Some (clock (2 ^ 40 + 1))))) gives false
    ∷ []

-- with_load with this word on this clock
abbrev with_load : ℕ → ℕ → State
with_load word n = with_startup (record { allclosed = None; refreshes = Zero; register = loaded word (clock n) })

abbrev with_word : ℕ → State
with_word word = with_load word 0

abbrev bounds : List (Row Bool)
bounds =
    -- "a record number above 2^41"; "a clock above 2^40": the last record's
    (fits (with_number (2 ^ 41)) gives true
    ∷ fits (with_number (2 ^ 41 + 1)) gives false
    ∷ fits (with_last (2 ^ 40)) gives true
    ∷ fits (with_last (2 ^ 40 + 1)) gives false
    -- the watched bank and row
    ∷ fits (watching 3 8191) gives true
    ∷ fits (watching 4 0) gives false
    ∷ fits (watching 0 8192) gives false
    -- PRECHARGE ALL, the last refresh, the register
    ∷ fits (with_startup (startup (Some (clock (2 ^ 40))))) gives true
    ∷ fits (with_startup (startup (Some (clock (2 ^ 40 + 1))))) gives false
    ∷ fits (with_startup (record { allclosed = None; refreshes = One (clock (2 ^ 40)); register = None })) gives true
    ∷ fits (with_startup (record { allclosed = None; refreshes = One (clock (2 ^ 40 + 1)); register = None })) gives false
    ∷ fits (with_startup (record { allclosed = None; refreshes = Two (clock (2 ^ 40)); register = None })) gives true
    ∷ fits (with_startup (record { allclosed = None; refreshes = Two (clock (2 ^ 40 + 1)); register = None })) gives false
    ∷ fits (with_load 0x237 (2 ^ 40)) gives true
    ∷ fits (with_load 0x31 (2 ^ 40 + 1)) gives false
    ∷ fits (with_load 0x34 0) gives false
    ∷ fits (with_load 0 0) gives false
    ∷ [])
    ++ bank_bounds 0
    ++ bank_bounds 1
    ++ bank_bounds 2
    ++ bank_bounds 3
    ++ burst_bounds with_write
    ++ burst_bounds (with_read 0)
    ++ burst_bounds (with_read 1)
    ++ burst_bounds (with_read 2)
    ++ burst_bounds (with_read 3)

-- ── 25 by the module: which places a state may hold ──

abbrev places : List (Row Bool)
places =
    -- the handheld has 4,096 rows: watched, open, and a burst's
    fits (of_grade 3 (watching 3 4095)) gives true
    ∷ fits (of_grade 3 (watching 3 4096)) gives false
    ∷ fits (of_grade 4 (with_bank (bank (Open 4095 (clock 0)) None None))) gives true
    ∷ fits (of_grade 4 (with_bank (bank (Open 4096 (clock 0)) None None))) gives false
    ∷ fits (of_grade 3 (with_write (dead 0 4096 0 0 None 0x31))) gives false
    -- 256 columns
    ∷ fits (of_grade 3 (with_write (dead 3 4095 255 0 None 0x31))) gives true
    ∷ fits (of_grade 3 (with_write (dead 0 0 256 0 None 0x31))) gives false
    ∷ fits (of_grade 4 (with_read 3 (dead 0 0 256 0 None 0x31))) gives false
    -- no full page: its word is reserved, loaded and in a burst; the bench has it
    ∷ fits (of_grade 3 (with_word 0x33)) gives true
    ∷ fits (of_grade 3 (with_word 0x37)) gives false
    ∷ fits (of_grade 3 (with_write (dead 0 0 0 0 None 0x37))) gives false
    ∷ fits (of_grade 3 (with_read 3 (dead 0 0 0 0 None 0x37))) gives false
    ∷ fits (of_grade 1 (with_word 0x37)) gives true
    ∷ fits (of_grade 2 (with_read 3 (dead 3 8191 2047 0 None 0x37))) gives true
    ∷ []

pub cases_right :
    (found cases ≡ expected cases)
    × (found refusals ≡ expected refusals)
    × (found bounds ≡ expected bounds)
    × (found places ≡ expected places)
unfolding module_of column_on has_pins lane_masks table_fits record_from read_record length_of beat_column has_beat write_beat read_beat finished masks_on masks_after reads_from bus_after beat_on bursts_finished driven bus_clear put_lanes stored allowed banks_found of_closing of_any of_active of_access of_precharged of_precharge of_idle events minima every_rules place_rules minimum_rules mode_rules bus_rules command_rules rules ask startup_after beat core_from core_after bank_after commanded mark_banks banks_after next bank_fits burst_fits core_fits fits state_rules entry_rules run page_after all_taken ask_call take_call step
cases_right = (refl, refl, refl, refl)
