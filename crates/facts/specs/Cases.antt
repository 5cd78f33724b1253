-- The bench cases P1 to P12 of document 01: one table under one statement. Assumes nothing.
use Rattle.std.specs.Prelude.{ℕ, zero, suc, ◌+◌, ◌≡◌, refl, List, [], ◌∷◌, ◌++◌}
use Rattle.units.specs.Time.{time}
use Rattle.speed.specs.declared.SpeedTable.{SpeedTable}
use Rattle.speed.specs.Table.{table, grade_13E, grade_133}
use Rattle.units.specs.Module.{module_of}
use Rattle.layout.specs.declared.Record.{Record}
use Rattle.layout.specs.declared.Command.{Command}
use Rattle.layout.specs.declared.Command.TheVariants.{Nop, Active, Read, Write, Terminate, Precharge, Refresh, LoadMode}
use Rattle.layout.specs.Commands.{code_of, column_of}
use Rattle.mode.specs.Word.{length_of}
use Rattle.mode.specs.Order.{beat_column}
use Rattle.bursts.specs.declared.Beat.{Beat}
use Rattle.bursts.specs.declared.Beat.TheVariants.{Quiet, Stores, Drives}
use Rattle.bursts.specs.Burst.{has_beat, write_beat, read_beat, finished}
use Rattle.bursts.specs.Bus.{masks_on, masks_after, reads_from, bus_after, beat_on, bursts_finished, driven, bus_clear}
use Rattle.bursts.specs.Cases.{Row, ◌gives◌, found, expected}
use Rattle.rules.specs.OneRecord.{Stepped}
use Rattle.rules.specs.declared.Answer.{Answer}
use Rattle.rules.specs.declared.State.{State}
use Rattle.rules.specs.declared.Setup.{Setup}
use Rattle.rules.specs.Numbers.{number_of, interval_of, tRCD, tRP, tRFC, tWR}
use Rattle.rules.specs.Parts.{start}
use Rattle.rules.specs.StartUp.{allowed}
use Rattle.rules.specs.Banks.{banks_found}
use Rattle.rules.specs.Minima.{of_closing, of_any, of_active, of_access, of_precharged, of_precharge, of_idle, events, minima}
use Rattle.rules.specs.Rules.{every_rules, place_rules, minimum_rules, mode_rules, bus_rules, command_rules, rules, ask}
use Rattle.rules.specs.After.{
  startup_after,
  beat,
  core_from,
  core_after,
  bank_after,
  commanded,
  mark_banks,
  banks_after,
  next,
}
use Rattle.rules.specs.Run.{Line, Run, run}

-- ── Records, by the clocks skipped before them; CKE HIGH, the zeros zero ──

abbrev pub rec : ℕ → Command → ℕ → ℕ → ℕ → Record
rec skipped k ba addr masks =
    record {
      skipped = skipped;
      cke = 1;
      code = code_of k;
      ba = ba;
      addr = addr;
      column = column_of addr;
      masks = masks;
      zeros =
          0;
      dq = 0;
    }

-- A10
abbrev pub with_a10 : ℕ → ℕ
with_a10 addr = addr + 1024

abbrev pub all_banks : ℕ → Record
all_banks s = rec s Precharge 0 (with_a10 0) 255

abbrev pub precharge : ℕ → ℕ → Record
precharge s b = rec s Precharge b 0 255

abbrev pub refresh : ℕ → Record
refresh s = rec s Refresh 0 0 255

abbrev pub load : ℕ → ℕ → Record
load s word = rec s LoadMode 0 word 255

abbrev pub active : ℕ → ℕ → ℕ → Record
active s b row = rec s Active b row 255

-- READ, WRITE, NOP and BURST TERMINATE with all masks LOW
abbrev pub read : ℕ → ℕ → ℕ → Record
read s b addr = rec s Read b addr 0

abbrev pub write : ℕ → ℕ → ℕ → Record
write s b addr = rec s Write b addr 0

abbrev pub nop : ℕ → ℕ → Record
nop s masks = rec s Nop 0 0 masks

abbrev pub terminate : ℕ → Record
terminate s = rec s Terminate 0 0 0

-- so many times NOP on the next clocks
abbrev pub nops : ℕ → List Record → List Record
nops zero rs = rs
nops (suc n) rs = nop 0 0 ∷ nops n rs

-- start-up on the earliest clocks of grade -133 with this mode word (on 13,355), and what follows
abbrev pub up : ℕ → List Record → List Record
up word rs = all_banks 13334 ∷ refresh 2 ∷ refresh 8 ∷ load 8 word ∷ rs

-- start-up, and row 7 of bank 1 opened on clock 13,357
abbrev pub up_active : ℕ → List Record → List Record
up_active word rs = up word (active 1 1 7 ∷ rs)

-- ── A case: a table, a period and a trace, and what document 01 says of them ──

-- a reported beat, as the program prints it: W or R, record, clock, bank, row, column, lanes
pub data Reported : Type 0 where
  W : (number clock bank row column lanes : ℕ) → Reported
  R : (number clock bank row column lanes : ℕ) → Reported

-- number and interval of the verdict, the record that it reports, and each reported beat
pub record Outcome : Type 0 where
  pub number : ℕ
  pub interval : ℕ
  pub reported : ℕ
  pub beats : List Reported

-- the beat on record k's clock n, before those after it
abbrev pub beat_at : ℕ → ℕ → Beat → List Reported → List Reported
beat_at k n Quiet l = l
beat_at k n (Stores c) l = W k n c.bank c.row c.column c.lanes ∷ l
beat_at k n (Drives c) l = R k n c.bank c.row c.column c.lanes ∷ l

-- the beats of records from number k on
abbrev pub beats_in : ℕ → List Line → List Reported
beats_in k [] = []
beats_in k (l ∷ ls) = beat_at k l.clock.0 l.beat (beats_in (suc k) ls)

-- of a run whose first record has number k
abbrev pub outcome_of : ℕ → Run → Outcome
outcome_of k u =
    record {
      number = number_of u.verdict;
      interval = interval_of u.verdict;
      reported = u.reported;
      beats = beats_in k u.lines;
    }

abbrev pub outcome : ℕ → ℕ → ℕ → List Reported → Outcome
outcome number interval reported beats = record { number = number; interval = interval; reported = reported; beats = beats }

-- an answer in numbers: number and interval of the verdict, the record that it reports, and the beat
pub record Answered : Type 0 where
  pub number : ℕ
  pub interval : ℕ
  pub reported : ℕ
  pub beat : Beat

abbrev pub answered : ℕ → ℕ → ℕ → Beat → Answered
answered number interval reported beat = record { number = number; interval = interval; reported = reported; beat = beat }

abbrev pub in_numbers : Answer → Answered
in_numbers a = answered (number_of a.verdict) (interval_of a.verdict) a.reported a.beat

-- what a call leaves, its answer in numbers
pub record Leaves : Type 0 where
  pub answer : Answered
  pub next : State
  pub page : List ℕ

abbrev pub left_in_numbers : Stepped → Leaves
left_in_numbers x = record { answer = in_numbers x.answer; next = x.next; page = x.page }

-- a call with the table of grade -133
abbrev pub with_133 : Setup
with_133 = record { table = grade_133 }

-- records from a state, and what they give
abbrev pub runs_from : SpeedTable → State → List Record → ℕ → ℕ → ℕ → List Reported → Row Outcome
runs_from t s rs number interval reported beats =
    outcome_of s.core.number (run (record { table = t }) s rs) gives outcome number interval reported beats

-- a whole trace, and what it gives: with this table, at this period
pub data Case : Type 0 where
  case : (t : SpeedTable) (period : ℕ) (rs : List Record) (o : Outcome) → Case

abbrev pub runs : SpeedTable → ℕ → List Record → ℕ → ℕ → ℕ → List Reported → Case
runs t period rs number interval reported beats = case t period rs (outcome number interval reported beats)

-- refused, with no beat reported before
abbrev pub refuses : SpeedTable → ℕ → List Record → ℕ → ℕ → ℕ → Case
refuses t period rs number interval reported = runs t period rs number interval reported []

-- clean, and no beat reported
abbrev pub takes : SpeedTable → ℕ → List Record → ℕ → Case
takes t period rs count = runs t period rs 0 0 count []

-- clean, with these beats
abbrev pub reports : SpeedTable → ℕ → List Record → ℕ → List Reported → Case
reports t period rs count beats = runs t period rs 0 0 count beats

-- the cases as a judge of whole traces finds them
abbrev pub case_by : (SpeedTable → ℕ → List Record → Run) → Case → Row Outcome
case_by judge (case t period rs o) = outcome_of 0 (judge t period rs) gives o

abbrev pub cases_by : (SpeedTable → ℕ → List Record → Run) → List Case → List (Row Outcome)
cases_by judge [] = []
cases_by judge (c ∷ cs) = case_by judge c ∷ cases_by judge cs

-- the judge of a definition with a state
abbrev pub whole_run : SpeedTable → ℕ → List Record → Run
whole_run t period rs = run (record { table = t }) (start (time period) 2 0 0) rs

-- beats on all lanes of these columns of bank 1, row 7, on record k's clock n and on those of the next records
abbrev pub Ws : ℕ → ℕ → List ℕ → List Reported
Ws k n [] = []
Ws k n (c ∷ cs) = W k n 1 7 c 255 ∷ Ws (suc k) (suc n) cs

abbrev pub Rs : ℕ → ℕ → List ℕ → List Reported
Rs k n [] = []
Rs k n (c ∷ cs) = R k n 1 7 c 255 ∷ Rs (suc k) (suc n) cs

-- ── P1 to P12: "Grade -133, period 7,500, earlier records legal, unless said" ──

-- P12: "Own table, refresh interval 200,000,000"
abbrev pub own_table : SpeedTable
own_table = table 10_000 7_500 44_000 120_000_000 66_000 20_000 20_000 15_000 66_000 15_000 7_500 200_000_000 2

abbrev pub bench : List Case
bench =
    -- P1
    refuses grade_133 7500 (all_banks 13333 ∷ []) 14 0 0
    ∷ takes grade_133 7500 (all_banks 13334 ∷ []) 1
    -- P2
    ∷ refuses grade_133 7500 (all_banks 13334 ∷ refresh 1 ∷ []) 16 tRP 1
    ∷ takes grade_133 7500 (all_banks 13334 ∷ refresh 2 ∷ []) 2
    -- P3
    ∷ refuses grade_133 7500 (all_banks 13334 ∷ refresh 2 ∷ refresh 7 ∷ []) 16 tRFC 2
    ∷ takes grade_133 7500 (all_banks 13334 ∷ refresh 2 ∷ refresh 8 ∷ []) 3
    -- P4
    ∷ takes grade_133 7500 (up 0x31 []) 4
    ∷ refuses grade_133 7500 (up 0x34 []) 17 0 3
    ∷ refuses grade_133 7500 (up 0x3f []) 17 0 3
    ∷ refuses grade_133 7500 (up 0x21 []) 18 0 3
    ∷ takes grade_13E 7500 (up 0x21 []) 4
    -- P5
    ∷ refuses grade_133 7500 (up_active 0x31 (read 1 1 0 ∷ [])) 16 tRCD 5
    ∷ takes grade_13E 7500 (up_active 0x31 (read 1 1 0 ∷ [])) 6
    -- P6: READ on 13,360, so its beats are on 13,363 to 13,370; WRITE on 13,360
    ∷ reports grade_133 7500 (up_active 0x3b (read 2 1 13 ∷ nops 12 [])) 18
    (Rs 8 13363 (13 ∷ 12 ∷ 15 ∷ 14 ∷ 9 ∷ 8 ∷ 11 ∷ 10 ∷ []))
    ∷ reports grade_133 7500 (up_active 0x32 (write 2 1 6 ∷ nops 5 [])) 11 (Ws 5 13360 (6 ∷ 7 ∷ 4 ∷ 5 ∷ []))
    -- P7: column 2,046 has A11 HIGH, so its address is 3,070
    ∷ reports grade_133 7500 (up_active 0x37 (write 2 1 3070 ∷ nops 2 [])) 8 (Ws 5 13360 (2046 ∷ 2047 ∷ 0 ∷ []))
    -- P8: the byte is stored on 13,363
    ∷ runs grade_133 7500 (up_active 0x30 (write 5 1 0 ∷ precharge 0 1 ∷ [])) 16 tWR 6 (Ws 5 13363 (0 ∷ []))
    ∷ reports grade_133 7500 (up_active 0x30 (write 5 1 0 ∷ precharge 1 1 ∷ [])) 7 (Ws 5 13363 (0 ∷ []))
    -- P9: WRITE on 13,378
    ∷ runs grade_133 9000 (up_active 0x30 (write 20 1 (with_a10 0) ∷ active 3 1 8 ∷ [])) 16 tRP 6 (Ws 5 13378 (0 ∷ []))
    ∷ reports grade_133 9000 (up_active 0x30 (write 20 1 (with_a10 0) ∷ active 4 1 8 ∷ [])) 7 (Ws 5 13378 (0 ∷ []))
    -- P10: READ on 13,360, the last beat of four on 13,366
    ∷ runs grade_133 7500 (up_active 0x32 (read 2 1 0 ∷ nops 6 (write 0 1 0 ∷ []))) 20 0 12 (Rs 8 13363 (0 ∷ 1 ∷ 2 ∷ 3 ∷ []))
    ∷ reports grade_133 7500 (up_active 0x32 (read 2 1 0 ∷ nops 7 (write 0 1 0 ∷ []))) 14
    (Rs 8 13363 (0 ∷ 1 ∷ 2 ∷ 3 ∷ []) ++ Ws 13 13368 (0 ∷ []))
    ∷ reports grade_133 7500 (up_active 0x32 (read 2 1 0 ∷ nop 0 0 ∷ terminate 0 ∷ nops 5 [])) 13 (Rs 8 13363 (0 ∷ 1 ∷ []))
    -- P11
    ∷ takes grade_133 7500 (all_banks 13334 ∷ refresh 2 ∷ refresh 8 ∷ nop 1040 255 ∷ []) 4
    ∷ refuses grade_133 7500 (all_banks 13334 ∷ refresh 2 ∷ refresh 8 ∷ nop 1041 255 ∷ []) 12 0 3
    -- P12
    ∷ takes own_table 7500 (up_active 0x31 (nop 15999 255 ∷ [])) 6
    ∷ refuses own_table 7500 (up_active 0x31 (nop 16000 255 ∷ [])) 13 0 5
    ∷ []

pub bench_right : found (cases_by whole_run bench) ≡ expected (cases_by whole_run bench)
unfolding module_of length_of beat_column has_beat write_beat read_beat finished masks_on masks_after reads_from bus_after beat_on bursts_finished driven bus_clear allowed banks_found of_closing of_any of_active of_access of_precharged of_precharge of_idle events minima every_rules place_rules minimum_rules mode_rules bus_rules command_rules rules ask startup_after beat core_from core_after bank_after commanded mark_banks banks_after next run
bench_right = refl
