-- Each minimum of number 16 with each command that asks it, from each kind of event that it counts from, on both sides; and the steps
-- of start-up with each command. From document 01's sentences. `FurtherCases` proves it.
use Rattle.rules.specs.Parts.{loaded}
use Rattle.std.specs.Prelude.{ℕ, zero, suc, List, [], ◌∷◌, ◌++◌, length, None, Some}
use Rattle.units.specs.Time.{clock, time}
use Rattle.speed.specs.declared.SpeedTable.{SpeedTable}
use Rattle.speed.specs.Table.{table}
use Rattle.layout.specs.declared.Record.{Record}
use Rattle.layout.specs.declared.Command.TheVariants.{Inhibit, Write}
use Rattle.bursts.specs.Bus.{quiet_bus}
use Rattle.bursts.specs.Cases.{Row}
use Rattle.rules.specs.declared.Refreshes.TheVariants.{Two}
use Rattle.rules.specs.declared.Status.TheVariants.{Closed}
use Rattle.rules.specs.declared.Bank.{Bank}
use Rattle.rules.specs.declared.State.{State}
use Rattle.rules.specs.Numbers.{tRCD, tRAS, tRC, tRP, tRRD, tRFC, tWR, tMRD}
use Rattle.facts.specs.Cases.{
  rec,
  with_a10,
  all_banks,
  precharge,
  refresh,
  load,
  active,
  read,
  write,
  nop,
  terminate,
  up,
  Reported,
  W,
  R,
  Outcome,
  runs_from,
  case_by,
  whole_run,
}
use Rattle.facts.specs.Cases as cases
use Rattle.facts.specs.StateCases.{state, bank}
use Rattle.facts.specs.OrderCases.{at_banks}

-- ── Tables with one minimum that is not 0 ──

abbrev of_rcd : ℕ → SpeedTable
of_rcd m = table 0 0 0 120_000_000 0 m 0 0 0 0 0 7_812_500 0

abbrev of_ras : ℕ → SpeedTable
of_ras m = table 0 0 m 120_000_000 0 0 0 0 0 0 0 7_812_500 0

abbrev of_rc : ℕ → SpeedTable
of_rc m = table 0 0 0 120_000_000 m 0 0 0 0 0 0 7_812_500 0

abbrev of_rp : ℕ → SpeedTable
of_rp m = table 0 0 0 120_000_000 0 0 m 0 0 0 0 7_812_500 0

abbrev of_rrd : ℕ → SpeedTable
of_rrd m = table 0 0 0 120_000_000 0 0 0 m 0 0 0 7_812_500 0

abbrev of_rfc : ℕ → SpeedTable
of_rfc m = table 0 0 0 120_000_000 0 0 0 0 m 0 0 7_812_500 0

abbrev of_wr : ℕ → SpeedTable
of_wr m = table 0 0 0 120_000_000 0 0 0 0 0 m 0 7_812_500 0

abbrev of_mrd : ℕ → SpeedTable
of_mrd n = table 0 0 0 120_000_000 0 0 0 0 0 0 0 7_812_500 n

-- no minimum, with this tRAS min and auto precharge addition
abbrev closed_by : ℕ → ℕ → SpeedTable
closed_by trasmin addition = table 0 0 trasmin 120_000_000 0 0 0 0 0 0 addition 7_812_500 0

-- three clocks of 7,500 ps
abbrev three : ℕ
three = 22_500

-- ── Whole traces ──

abbrev refuses : SpeedTable → ℕ → List Record → ℕ → ℕ → ℕ → Row Outcome
refuses t period rs number interval reported = case_by whole_run (cases.refuses t period rs number interval reported)

abbrev takes : SpeedTable → ℕ → List Record → ℕ → Row Outcome
takes t period rs count = case_by whole_run (cases.takes t period rs count)

abbrev reports : SpeedTable → ℕ → List Record → ℕ → List Reported → Row Outcome
reports t period rs count beats = case_by whole_run (cases.reports t period rs count beats)

-- ── A command on both sides of a minimum ──

-- a bank that the first PRECHARGE ALL closed
abbrev closed : Bank
closed = bank (Closed (time 100_005_000)) None None

-- the state that `up` leaves with this mode word, at period 7,500: `NextCases` has the row
abbrev pub ready : ℕ → State
ready word =
    state 7500 0 0 4 (Some (clock 13_355))
    (record { allclosed = Some (clock 13_334); refreshes = Two (clock 13_346); register = loaded word (clock 13_355) })
    quiet_bus
    (closed ∷ closed ∷ closed ∷ closed ∷ [])

-- after `up` in this mode and these records, which report `before`, the next one is number `k`: refused with this interval after so many
-- skipped clocks, taken after one more, then reporting `then` too
abbrev sides_with : SpeedTable → ℕ → ℕ → ℕ → ℕ → List Record → List Reported → (ℕ → Record) → List Reported → List (Row Outcome)
sides_with t interval skipped k word rs before command then =
    runs_from t (ready word) (rs ++ (command skipped ∷ [])) 16 interval k before
    ∷ runs_from t (ready word) (rs ++ (command (suc skipped) ∷ [])) 0 0 (suc k) (before ++ then)
    ∷ []

-- in mode 0030, where no beat is reported
abbrev sides : SpeedTable → ℕ → ℕ → ℕ → List Record → (ℕ → Record) → List (Row Outcome)
sides t interval skipped k rs command = sides_with t interval skipped k 0x30 rs [] command []

-- PRECHARGE of bank b and of all; AUTO REFRESH and LOAD MODE
abbrev closers : SpeedTable → ℕ → ℕ → ℕ → ℕ → List Record → List Reported → ℕ → List (Row Outcome)
closers t interval skipped k word rs before b =
    sides_with t interval skipped k word rs before (λ s. precharge s b) []
    ++ sides_with t interval skipped k word rs before (λ s. all_banks s) []

abbrev idlers : SpeedTable → ℕ → ℕ → ℕ → List Record → List Reported → List (Row Outcome)
idlers t interval skipped k rs before =
    sides_with t interval skipped k 0x30 rs before (λ s. refresh s) []
    ++ sides_with t interval skipped k 0x30 rs before (λ s. load s 0x30) []

-- every executable command that finds all banks closed: but READ and WRITE
abbrev all_six : SpeedTable → ℕ → ℕ → ℕ → List Record → ℕ → List (Row Outcome)
all_six t interval skipped k rs b =
    closers t interval skipped k 0x30 rs [] b
    ++ idlers t interval skipped k rs []
    ++ sides t interval skipped k rs (λ s. active s b 7)
    ++ sides t interval skipped k rs (λ s. terminate s)

-- start-up with 1,500,000 ps after the first PRECHARGE ALL, its mode loaded on 13,545
abbrev up_late : ℕ → List Record → List Record
up_late word rs = all_banks 13334 ∷ refresh 200 ∷ refresh 4 ∷ load 4 word ∷ rs

-- ── tRCD: "READ, WRITE: tRCD since its ACTIVE" ──

abbrev rcd : ℕ → List (Row Outcome)
rcd b =
    sides (of_rcd three) tRCD 1 5 (active 1 b 7 ∷ []) (λ s. read s b 0)
    ++ sides_with (of_rcd three) tRCD 1 5 0x30 (active 1 b 7 ∷ []) [] (λ s. write s b 0) (W 5 13360 b 7 0 255 ∷ [])

-- no other command asks it
abbrev not_rcd : List (Row Outcome)
not_rcd =
    takes (of_rcd 1_000_000) 7500
    (up 0x30 (active 0 1 7 ∷ terminate 0 ∷ active 0 2 7 ∷ precharge 0 1 ∷ all_banks 0 ∷ refresh 0 ∷ load 0 0x30 ∷ active 0 0 7 ∷
    []))
    12
    ∷ []

-- ── tRAS: "an open bank needs tRAS min" ──

abbrev ras : ℕ → List (Row Outcome)
ras b = closers (of_ras three) tRAS 1 5 0x30 (active 1 b 7 ∷ []) [] b

-- not READ, WRITE, ACTIVE or BURST TERMINATE, and not PRECHARGE of another bank
abbrev not_ras : List (Row Outcome)
not_ras =
    reports (of_ras 1_000_000) 7500
    (up 0x30 (active 0 1 7 ∷ read 0 1 0 ∷ write 0 1 0 ∷ terminate 0 ∷ active 0 2 7 ∷ precharge 0 3 ∷ [])) 10
    (W 6 13358 1 7 0 255 ∷ [])
    ∷ []

-- ── tRC: "since its last ACTIVE", on 13,357, closed since ──

abbrev rc : ℕ → List (Row Outcome)
rc b = sides (of_rc 45_000) tRC 3 6 (active 1 b 7 ∷ precharge 0 b ∷ []) (λ s. active s b 8)

-- closed by PRECHARGE ALL and by auto precharge; the last of two
abbrev rc_else : List (Row Outcome)
rc_else =
    sides (of_rc 45_000) tRC 3 6 (active 1 2 7 ∷ all_banks 0 ∷ []) (λ s. active s 2 8)
    ++ sides (of_rc 60_000) tRC 5 6 (active 1 2 7 ∷ read 0 2 (with_a10 0) ∷ []) (λ s. active s 2 8)
    ++ sides (of_rc 45_000) tRC 3 8 (active 1 2 7 ∷ precharge 0 2 ∷ active 4 2 8 ∷ precharge 0 2 ∷ []) (λ s. active s 2 9)

-- not of another bank; no other command asks it
abbrev not_rc : List (Row Outcome)
not_rc =
    reports (of_rc 1_000_000) 7500
    (up 0x30 (active 0 1 7 ∷ active 0 2 7 ∷ read 0 1 0 ∷ terminate 0 ∷ precharge 0 1 ∷ all_banks 0 ∷ refresh 0 ∷ load 0 0x30 ∷
    active 0 3 7 ∷ []))
    13
    (R 9 13361 1 7 0 255 ∷ [])
    ∷ []

-- ── tRRD: "since the last ACTIVE of another bank", on 13,357 ──

abbrev rrd : ℕ → ℕ → List (Row Outcome)
rrd a b = sides (of_rrd three) tRRD 1 5 (active 1 a 7 ∷ []) (λ s. active s b 8)

-- closed since
abbrev rrd_closed : ℕ → ℕ → List (Row Outcome)
rrd_closed a b = sides (of_rrd three) tRRD 0 6 (active 1 a 7 ∷ precharge 0 a ∷ []) (λ s. active s b 8)

-- the last of two others
abbrev rrd_last : ℕ → ℕ → ℕ → List (Row Outcome)
rrd_last a b c = sides (of_rrd three) tRRD 1 6 (active 1 a 7 ∷ active 2 b 7 ∷ []) (λ s. active s c 8)

-- not of its own bank; no other command asks it
abbrev not_rrd : List (Row Outcome)
not_rrd =
    reports (of_rrd 1_000_000) 7500
    (up 0x30 (active 0 1 7 ∷ precharge 0 1 ∷ active 0 1 8 ∷ read 0 1 0 ∷ terminate 0 ∷ all_banks 0 ∷ refresh 0 ∷ load 0 0x30 ∷
    active 0 1 9 ∷ []))
    13
    (R 10 13362 1 8 0 255 ∷ [])
    ∷ []

abbrev rrds : List (Row Outcome)
rrds =
    rrd 0 1
    ++ rrd 0 2
    ++ rrd 0 3
    ++ rrd 1 0
    ++ rrd 1 2
    ++ rrd 1 3
    ++ rrd 2 0
    ++ rrd 2 1
    ++ rrd 2 3
    ++ rrd 3 0
    ++ rrd 3 1
    ++ rrd 3 2
    ++ rrd_closed 0 1
    ++ rrd_closed 1 3
    ++ rrd_closed 2 0
    ++ rrd_closed 3 2
    ++ rrd_last 0 1 2
    ++ rrd_last 3 0 1
    ++ rrd_last 1 3 2

-- ── tRP: "since the last PRECHARGE ALL", and since a bank's closing ──

-- a PRECHARGE ALL of banks long closed, on 13,376, holds back each of these
abbrev rp_all : List (Row Outcome)
rp_all = all_six (of_rp three) tRP 1 5 (all_banks 20 ∷ []) 2

-- the closing of bank b, open since 13,357, by PRECHARGE and by PRECHARGE ALL on 13,358: PRECHARGE, AUTO REFRESH and LOAD MODE ask it of
-- each bank, ACTIVE of its own
abbrev rp : ℕ → List (Row Outcome)
rp b =
    closers (of_rp three) tRP 1 6 0x30 (active 1 b 7 ∷ precharge 0 b ∷ []) [] b
    ++ idlers (of_rp three) tRP 1 6 (active 1 b 7 ∷ precharge 0 b ∷ []) []
    ++ sides (of_rp three) tRP 1 6 (active 1 b 7 ∷ precharge 0 b ∷ []) (λ s. active s b 8)
    ++ sides (of_rp three) tRP 1 6 (active 1 b 7 ∷ all_banks 0 ∷ []) (λ s. active s b 8)

-- by auto precharge of a READ or a WRITE, at the end of 13,358
abbrev rp_auto : ℕ → Record → List Reported → List (Row Outcome)
rp_auto b burst before =
    closers (of_rp three) tRP 2 6 0x30 (active 1 b 7 ∷ burst ∷ []) before b
    ++ idlers (of_rp three) tRP 2 6 (active 1 b 7 ∷ burst ∷ []) before
    ++ sides_with (of_rp three) tRP 2 6 0x30 (active 1 b 7 ∷ burst ∷ []) before (λ s. active s b 8) []

-- the closing of bank 1 holds back no ACTIVE, READ, WRITE or PRECHARGE of another bank, and no BURST TERMINATE
abbrev not_rp : List (Row Outcome)
not_rp =
    reports (of_rp 1_000_000) 7500
    (up_late 0x30 (active 0 1 7 ∷ precharge 0 1 ∷ active 0 2 7 ∷ read 0 2 0 ∷ write 0 2 0 ∷ terminate 0 ∷ precharge 0 2 ∷
    precharge 0 3 ∷ [])) 12
    (W 8 13550 2 7 0 255 ∷ [])
    -- "A closed bank .. keeps that closing time": PRECHARGE of one bank and of all restart none; PRECHARGE ALL is an event of its own
    ∷ takes (of_rp three) 7500 (up 0x30 (active 1 1 7 ∷ precharge 0 1 ∷ precharge 2 1 ∷ active 0 1 8 ∷ [])) 8
    ∷ takes (of_rp three) 7500 (up 0x30 (active 1 1 7 ∷ precharge 0 1 ∷ precharge 2 1 ∷ refresh 0 ∷ [])) 8
    ∷ refuses (of_rp three) 7500 (up 0x30 (active 1 1 7 ∷ precharge 0 1 ∷ all_banks 2 ∷ active 1 1 8 ∷ [])) 16 tRP 7
    ∷ takes (of_rp three) 7500 (up 0x30 (active 1 1 7 ∷ precharge 0 1 ∷ all_banks 2 ∷ active 2 1 8 ∷ [])) 8
    ∷ []

-- ── tRFC: "since the last refresh" ──

-- before the mode is loaded: refused two clocks after the last refresh, taken after three
abbrev both_sides : List Record → (ℕ → Record) → List (Row Outcome)
both_sides rs command =
    refuses (of_rfc three) 7500 (rs ++ (command 1 ∷ [])) 16 tRFC (length rs)
    ∷ takes (of_rfc three) 7500 (rs ++ (command 2 ∷ [])) (suc (length rs))
    ∷ []

abbrev rfc : List (Row Outcome)
rfc =
    -- the first, and the second
    both_sides (all_banks 13334 ∷ refresh 0 ∷ []) (λ s. precharge s 2)
    ++ both_sides (all_banks 13334 ∷ refresh 0 ∷ []) (λ s. all_banks s)
    ++ both_sides (all_banks 13334 ∷ refresh 0 ∷ []) (λ s. refresh s)
    ++ both_sides (all_banks 13334 ∷ refresh 0 ∷ refresh 2 ∷ []) (λ s. precharge s 2)
    ++ both_sides (all_banks 13334 ∷ refresh 0 ∷ refresh 2 ∷ []) (λ s. all_banks s)
    ++ both_sides (all_banks 13334 ∷ refresh 0 ∷ refresh 2 ∷ []) (λ s. refresh s)
    ++ both_sides (all_banks 13334 ∷ refresh 0 ∷ refresh 2 ∷ []) (λ s. load s 0x30)
    -- one after the mode is loaded
    ++ all_six (of_rfc three) tRFC 1 5 (refresh 20 ∷ []) 2

-- ── tMRD: "since the last mode load", in clocks ──

abbrev mrd : List (Row Outcome)
mrd =
    all_six (of_mrd 3) tMRD 1 4 [] 2
    ++ all_six (of_mrd 3) tMRD 1 5 (load 20 0x31 ∷ []) 2
    -- of another period: three clocks still
    ++ (refuses (of_mrd 3) 9000 (up 0x30 (terminate 1 ∷ [])) 16 tMRD 4
    ∷ takes (of_mrd 3) 9000 (up 0x30 (terminate 2 ∷ [])) 5
    ∷ takes (of_mrd 0) 7500 (up 0x30 (terminate 0 ∷ [])) 5
    ∷ [])

-- ── tWR: "since the last clock on which a byte was stored in it", here 13,358 ──

abbrev wr : ℕ → List (Row Outcome)
wr b = closers (of_wr three) tWR 1 6 0x30 (active 1 b 7 ∷ write 0 b 0 ∷ []) (W 5 13358 b 7 0 255 ∷ []) b

abbrev wr_else : List (Row Outcome)
wr_else =
    -- one byte is enough
    closers (of_wr three) tWR 1 6 0x30 (active 1 2 7 ∷ rec 0 Write 2 0 0x7f ∷ []) (W 5 13358 2 7 0 0x80 ∷ []) 2
    -- the second beat stores, or is masked
    ++ closers (of_wr three) tWR 1 7 0x31 (active 1 2 7 ∷ write 0 2 0 ∷ nop 0 0xfe ∷ [])
    (W 5 13358 2 7 0 255 ∷ W 6 13359 2 7 1 1 ∷ []) 2
    ++ closers (of_wr three) tWR 0 7 0x31 (active 1 2 7 ∷ write 0 2 0 ∷ nop 0 0xff ∷ [])
    (W 5 13358 2 7 0 255 ∷ W 6 13359 2 7 1 0 ∷ []) 2
    -- none is stored: nothing to count from
    ++ (reports (of_wr 1_000_000) 7500 (up 0x30 (active 1 2 7 ∷ rec 0 Write 2 0 255 ∷ precharge 0 2 ∷ [])) 7
    (W 5 13358 2 7 0 0 ∷ [])
    ∷ [])

-- no other command asks it, nor a PRECHARGE of another bank
abbrev not_wr : List (Row Outcome)
not_wr =
    reports (of_wr 1_000_000) 7500
    (up 0x30 (active 0 1 7 ∷ active 0 2 7 ∷ write 0 1 0 ∷ read 0 1 0 ∷ terminate 0 ∷ precharge 0 2 ∷ active 0 3 7 ∷ read 0 1
    (with_a10 0) ∷ precharge 0 3 ∷ refresh 0 ∷ load 0 0x30 ∷ []))
    15
    (W 6 13358 1 7 0 255 ∷ R 10 13362 1 7 0 255 ∷ R 14 13366 1 7 0 0 ∷ [])
    ∷ []

-- ── Auto precharge: the closing time, by an ACTIVE with no minimum ──

-- the bank's ACTIVE stands on 13,357 and its burst on 13,358; then ACTIVE again, before the closing time and not
abbrev closes : ℕ → ℕ → ℕ → ℕ → Record → List Reported → List Reported → List (Row Outcome)
closes trasmin addition skipped word burst before then =
    sides_with (closed_by trasmin addition) tRP skipped 6 word (active 1 1 7 ∷ burst ∷ []) before (λ s. active s 1 8) then

abbrev closings : List (Row Outcome)
closings =
    -- "for a READ at r, clock r + length", with M9 too, and with no CL in it: on 13,362, where its second beat is
    closes 0 7 2 0x32 (read 0 1 (with_a10 0)) [] (R 6 13362 1 7 1 0 ∷ [])
    ++ closes 0 7 2 0x232 (read 0 1 (with_a10 0)) [] (R 6 13362 1 7 1 0 ∷ [])
    -- "for a WRITE with last beat at e, clock e + 1 plus the addition in ps, not rounded", masked or not
    ++ closes 0 0 2 0x32 (write 0 1 (with_a10 0)) (W 5 13358 1 7 0 255 ∷ []) []
    ++ closes 0 1 3 0x32 (write 0 1 (with_a10 0)) (W 5 13358 1 7 0 255 ∷ []) []
    ++ closes 0 7_500 3 0x32 (write 0 1 (with_a10 0)) (W 5 13358 1 7 0 255 ∷ []) []
    ++ closes 0 7_501 4 0x32 (write 0 1 (with_a10 0)) (W 5 13358 1 7 0 255 ∷ []) []
    ++ closes 0 1 3 0x32 (rec 0 Write 1 (with_a10 0) 255) (W 5 13358 1 7 0 0 ∷ []) []
    -- with M9 the last beat is the first
    ++ closes 0 1 0 0x232 (write 0 1 (with_a10 0)) (W 5 13358 1 7 0 255 ∷ []) []
    -- "the later of ACTIVE + tRAS min and" that: on 13,363
    ++ closes 45_000 7 3 0x30 (read 0 1 (with_a10 0)) [] []
    ++ closes 45_001 7 4 0x30 (read 0 1 (with_a10 0)) [] []
    ++ closes 45_000 7 3 0x30 (write 0 1 (with_a10 0)) (W 5 13358 1 7 0 255 ∷ []) []
    ++ closes 45_001 7 4 0x30 (write 0 1 (with_a10 0)) (W 5 13358 1 7 0 255 ∷ []) []

-- ── The steps of start-up ──

-- NOP, COMMAND INHIBIT, ACTIVE, READ, WRITE, BURST TERMINATE, PRECHARGE, PRECHARGE ALL, AUTO REFRESH, LOAD MODE
abbrev ten : ℕ → List Record
ten s =
    nop s 255
    ∷ rec s Inhibit 0 0 255
    ∷ active s 2 7
    ∷ read s 2 0
    ∷ write s 2 0
    ∷ terminate s
    ∷ precharge s 2
    ∷ all_banks s
    ∷ refresh s
    ∷ load s 0x30
    ∷ []

abbrev no_minima : SpeedTable
no_minima = of_rcd 0

-- after these records this one is taken, or refused with this number
abbrev told : List Record → ℕ → Record → Row Outcome
told rs zero r = takes no_minima 7500 (rs ++ (r ∷ [])) (suc (length rs))
told rs (suc n) r = refuses no_minima 7500 (rs ++ (r ∷ [])) (suc n) 0 (length rs)

-- each of them in its turn
abbrev each : List Record → List Record → List ℕ → List (Row Outcome)
each rs [] ns = []
each rs (r ∷ cs) [] = []
each rs (r ∷ cs) (n ∷ ns) = told rs n r ∷ each rs cs ns

abbrev steps : List (Row Outcome)
steps =
    -- "Before the first PRECHARGE ALL only NOP and COMMAND INHIBIT are allowed, and that command must stand at 100,000,000 ps or later"
    each [] (ten 13333) (0 ∷ 0 ∷ 14 ∷ 14 ∷ 14 ∷ 14 ∷ 14 ∷ 14 ∷ 14 ∷ 14 ∷ [])
    ++ each [] (ten 13334) (0 ∷ 0 ∷ 14 ∷ 14 ∷ 14 ∷ 14 ∷ 14 ∷ 0 ∷ 14 ∷ 14 ∷ [])
    -- "Then PRECHARGE and AUTO REFRESH"
    ++ each (all_banks 13334 ∷ []) (ten 0) (0 ∷ 0 ∷ 14 ∷ 14 ∷ 14 ∷ 14 ∷ 0 ∷ 0 ∷ 0 ∷ 14 ∷ [])
    ++ each (all_banks 13334 ∷ refresh 0 ∷ []) (ten 0) (0 ∷ 0 ∷ 14 ∷ 14 ∷ 14 ∷ 14 ∷ 0 ∷ 0 ∷ 0 ∷ 14 ∷ [])
    -- "after two refreshes also LOAD MODE"
    ++ each (all_banks 13334 ∷ refresh 0 ∷ refresh 0 ∷ []) (ten 0) (0 ∷ 0 ∷ 14 ∷ 14 ∷ 14 ∷ 14 ∷ 0 ∷ 0 ∷ 0 ∷ 0 ∷ [])
    ++ each (all_banks 13334 ∷ refresh 0 ∷ refresh 0 ∷ refresh 0 ∷ []) (ten 0) (0 ∷ 0 ∷ 14 ∷ 14 ∷ 14 ∷ 14 ∷ 0 ∷ 0 ∷ 0 ∷ 0 ∷ [])
    -- "after the first LOAD MODE everything": READ and WRITE find no open bank
    ++ each (all_banks 13334 ∷ refresh 0 ∷ refresh 0 ∷ load 0 0x30 ∷ []) (ten 0) (0 ∷ 0 ∷ 0 ∷ 15 ∷ 15 ∷ 0 ∷ 0 ∷ 0 ∷ 0 ∷ 0 ∷ [])

abbrev pub all_minima : List (Row Outcome)
all_minima =
    at_banks rcd
    ++ not_rcd
    ++ at_banks ras
    ++ not_ras
    ++ at_banks rc
    ++ rc_else
    ++ not_rc
    ++ rrds
    ++ not_rrd
    ++ rp_all
    ++ at_banks rp
    ++ rp_auto 1 (read 0 1 (with_a10 0)) []
    ++ rp_auto 3 (write 0 3 (with_a10 0)) (W 5 13358 3 7 0 255 ∷ [])
    ++ not_rp
    ++ rfc
    ++ mrd
    ++ at_banks wr
    ++ wr_else
    ++ not_wr
    ++ closings
    ++ steps
