-- What a taken record leaves, part by part: the whole next state, beat and page for each command, and for a refused one. From document
-- 01's sentences. Assumes nothing.
use Rattle.units.specs.declared.Clock.{Clock}
use Rattle.std.specs.Prelude.{ℕ, ◌≡◌, refl, Bool, true, false, List, [], ◌∷◌, ◌++◌, replicate, Option, None, Some}
use Rattle.units.specs.Time.{clock, time}
use Rattle.units.specs.Module.{module_of}
use Rattle.speed.specs.Table.{grade_133}
use Rattle.layout.specs.declared.Record.{Record}
use Rattle.layout.specs.declared.Command.{Command}
use Rattle.layout.specs.declared.Command.TheVariants.{
  Inhibit,
  Nop,
  Active,
  Read,
  Write,
  Terminate,
  Precharge,
  Refresh,
  LoadMode,
}
use Rattle.layout.specs.Commands.{code_of, column_of}
use Rattle.mode.specs.Word.{length_of}
use Rattle.mode.specs.Order.{beat_column}
use Rattle.bursts.specs.declared.Burst.{Burst}
use Rattle.bursts.specs.declared.Bus.{Bus}
use Rattle.bursts.specs.declared.Masks.{Masks}
use Rattle.bursts.specs.declared.Beat.{Beat}
use Rattle.bursts.specs.declared.Beat.TheVariants.{Quiet, Stores, Drives}
use Rattle.bursts.specs.Burst.{no_burst, has_beat, write_beat, read_beat, finished}
use Rattle.bursts.specs.Bus.{
  no_reads,
  masks_on,
  masks_after,
  reads_from,
  bus_after,
  beat_on,
  bursts_finished,
  driven,
  bus_clear,
}
use Rattle.bursts.specs.Cases.{Row, ◌gives◌, found, expected}
use Rattle.page.specs.Store.{put_lanes, stored}
use Rattle.rules.specs.declared.Refreshes.TheVariants.{Zero, One, Two}
use Rattle.rules.specs.declared.StartUp.{StartUp}
use Rattle.rules.specs.declared.Status.{Status}
use Rattle.rules.specs.declared.Status.TheVariants.{NotStarted, Open, Closed}
use Rattle.rules.specs.declared.Bank.{Bank}
use Rattle.rules.specs.declared.State.{State}
use Rattle.rules.specs.Numbers.{tWR}
use Rattle.rules.specs.Parts.{no_bank, start, clock_of, word, loaded}
use Rattle.rules.specs.StartUp.{allowed}
use Rattle.rules.specs.Banks.{bank_at, row_of, banks_found}
use Rattle.rules.specs.Minima.{of_closing, of_any, of_active, of_access, of_precharged, of_precharge, of_idle, events, minima}
use Rattle.rules.specs.Closing.{closes_within}
use Rattle.rules.specs.Rules.{every_rules, place_rules, minimum_rules, mode_rules, bus_rules, command_rules, rules, ask}
use Rattle.rules.specs.After.{
  startup_after,
  beat,
  core_from,
  core_after,
  bank_after,
  commanded,
  mark_banks,
  banks_after,
  next,
  auto_closed,
}
use Rattle.rules.specs.Run.{Line, run, page_after, all_taken, last_beat}
use Rattle.rules.specs.OneRecord.{found_of, Took, took, left_by, take_record, both}
use Rattle.facts.specs.Cases.{up, with_133, answered, Leaves, left_in_numbers}
use Rattle.facts.specs.StateCases.{not_begun, over, state, bank}
use Rattle.facts.specs.MinimaCases.{ready}

-- ── A state with a value of its own in each part: record 5 comes after clock 1,000, row 7 of bank 1 is watched ──

abbrev masks : ℕ → ℕ → ℕ → Masks
masks a b c = record { first = a; second = b; third = c }

-- banks 0 and 2 closed, row 7 of bank 1 and row 9 of bank 3 open
abbrev b0 : Bank
b0 = bank (Closed (time 7)) (Some (clock 100)) (Some (clock 101))

abbrev b1 : Bank
b1 = bank (Open 7 (clock 900)) (Some (clock 900)) None

abbrev b2 : Bank
b2 = bank (Closed (time 9)) (Some (clock 200)) None

abbrev b3 : Bank
b3 = bank (Open 9 (clock 901)) (Some (clock 901)) (Some (clock 950))

-- a burst of column 4, mode 0031
abbrev burst : Bool → ℕ → ℕ → ℕ → ℕ → Option Clock → Burst
burst auto ba row column start cut =
    record { live = true; auto = auto; bank = ba; row = row; column = column; start = clock start; cut = cut; word = 0x31 }

-- a WRITE of bank 3 on 950 and a READ of bank 1 on 990, both over, cut or not
abbrev w950 : Option Clock → Burst
w950 cut = burst false 3 9 4 950 cut

abbrev r990 : Option Clock → Burst
r990 cut = burst false 1 7 0 990 cut

-- the clock of the next record
abbrev at_1001 : Option Clock
at_1001 = Some (clock 1_001)

abbrev reads : Option Clock → List Burst
reads e = r990 e ∷ no_burst ∷ no_burst ∷ no_burst ∷ []

abbrev bus : Burst → List Burst → Masks → Bus
bus write reads m = record { write = write; reads = reads; masks = m }

abbrev full : State
full = state 7500 1 7 5 (Some (clock 1_000)) over (bus (w950 None) (reads None) (masks 1 2 3)) (b0 ∷ b1 ∷ b2 ∷ b3 ∷ [])

-- after one record more, on clock 1,001
abbrev then : StartUp → Bus → List Bank → State
then u b banks = state 7500 1 7 6 at_1001 u b banks

-- with all four banks closed
abbrev idle : StartUp → State
idle u = state 7500 1 7 5 (Some (clock 1_000)) u (bus (w950 None) (reads None) (masks 1 2 3)) (b0 ∷ b2 ∷ b2 ∷ b0 ∷ [])

abbrev idle_then : StartUp → State
idle_then u = then u (bus (w950 None) (reads None) (masks 255 1 2)) (b0 ∷ b2 ∷ b2 ∷ b0 ∷ [])

-- start-up with these refreshes, with this mode word loaded on this clock
abbrev refreshed : ℕ → ℕ → ℕ → StartUp
refreshed last word load = record { allclosed = Some (clock 0); refreshes = Two (clock last); register = loaded word (clock load) }

-- a WRITE of the watched row on 1,000 from column 2, whose second beat is on 1,001; before it and after it
abbrev running : Option Clock → State
running cut =
    state 7500 1 7 5 (Some (clock 1_000)) over (bus (burst false 1 7 2 1_000 cut) (reads None) (masks 1 2 3))
    (b0 ∷ b1 ∷ b2 ∷ b3 ∷ [])

abbrev b_stored : Bank
b_stored = bank (Open 7 (clock 900)) (Some (clock 900)) at_1001

abbrev ran : Masks → Option Clock → Bank → State
ran m cut b = then over (bus (burst false 1 7 2 1_000 cut) (reads None) m) (b0 ∷ b ∷ b2 ∷ b3 ∷ [])

-- a record on the next clock, its data 08 to 01 in lanes 7 to 0
abbrev rec : Command → ℕ → ℕ → ℕ → Record
rec k ba addr low =
    record {
      skipped = 0;
      cke = 1;
      code = code_of k;
      ba = ba;
      addr = addr;
      column = column_of addr;
      masks = low;
      zeros = 0;
      dq = 0x0807060504030201;
    }

-- the first 40 bytes of the page
abbrev page : List ℕ
page = replicate 40 255

abbrev left : ℕ → ℕ → ℕ → Beat → State → List ℕ → Leaves
left number interval reported b s p =
    record { answer = answered number interval reported b; next = s; page = p }

-- the record asked, then taken
abbrev judged : State → Record → Leaves
judged s r = left_in_numbers (both (found_of (ask with_133 s r) s.core.number) (take_record with_133 s r page))

-- taken: beat, next state and page
abbrev takes : State → Record → Beat → State → List ℕ → Row Leaves
takes s r b s' p = judged s r gives left 0 0 s.core.number b s' p

-- refused with this number: no beat, and state and page as they were
abbrev refuses : State → Record → ℕ → ℕ → Row Leaves
refuses s r number interval = judged s r gives left number interval s.core.number Quiet s page

-- ── Each command ──

abbrev commands : List (Row Leaves)
commands =
    -- NOP and COMMAND INHIBIT: number, clock and masks move on, and nothing else
    takes full (rec Nop 3 1024 0xf0) Quiet
    (then over (bus (w950 None) (reads None) (masks 0xf0 1 2)) (b0 ∷ b1 ∷ b2 ∷ b3 ∷ [])) page
    ∷ takes full (rec Inhibit 3 1024 0xf0) Quiet
    (then over (bus (w950 None) (reads None) (masks 0xf0 1 2)) (b0 ∷ b1 ∷ b2 ∷ b3 ∷ [])) page
    -- ACTIVE: its row is open from now; no byte was stored since
    ∷ takes full (rec Active 0 0x1abc 255) Quiet
    (then over (bus (w950 None) (reads None) (masks 255 1 2))
    (bank (Open 0x1abc (clock 1_001)) at_1001 None ∷ b1 ∷ b2 ∷ b3 ∷ []))
    page
    ∷ takes full (rec Active 2 5 255) Quiet
    (then over (bus (w950 None) (reads None) (masks 255 1 2))
    (b0 ∷ b1 ∷ bank (Open 5 (clock 1_001)) at_1001 None ∷ b3 ∷ []))
    page
    -- READ: a new burst; it cuts the others
    ∷ takes full (rec Read 1 5 0) Quiet
    (then over (bus (w950 at_1001) (burst false 1 7 5 1_001 None ∷ r990 at_1001 ∷ no_burst ∷ no_burst ∷ [])
    (masks 0 1 2)) (b0 ∷ b1 ∷ b2 ∷ b3 ∷ []))
    page
    -- with auto precharge: "the bank closed at once", on clock r + length, 1,003
    ∷ takes full (rec Read 1 0x405 0) Quiet
    (then over (bus (w950 at_1001) (burst true 1 7 5 1_001 None ∷ r990 at_1001 ∷ no_burst ∷ no_burst ∷ []) (masks 0 1 2))
    (b0 ∷ bank (Closed (time 7_522_500)) (Some (clock 900)) None ∷ b2 ∷ b3 ∷ []))
    page
    -- WRITE of the watched row: lanes 3 to 0 of column 3 are stored; the READs before it are gone
    ∷ takes full (rec Write 1 3 0xf0) (Stores (record { bank = 1; row = 7; column = 3; lanes = 0x0f }))
    (then over (bus (burst false 1 7 3 1_001 None) no_reads (masks 0xf0 1 2))
    (b0 ∷ bank (Open 7 (clock 900)) (Some (clock 900)) at_1001 ∷ b2 ∷ b3 ∷ []))
    (replicate 24 255 ++ (1 ∷ 2 ∷ 3 ∷ 4 ∷ []) ++ replicate 12 255)
    -- all lanes masked: no byte is stored
    ∷ takes full (rec Write 1 3 255) (Stores (record { bank = 1; row = 7; column = 3; lanes = 0 }))
    (then over (bus (burst false 1 7 3 1_001 None) no_reads (masks 255 1 2)) (b0 ∷ b1 ∷ b2 ∷ b3 ∷ []))
    page
    -- of another bank and row, with auto precharge: clock w + 2 plus 7,500 ps; the page stays
    ∷ takes full (rec Write 3 0x403 0) (Stores (record { bank = 3; row = 9; column = 3; lanes = 255 }))
    (then over (bus (burst true 3 9 3 1_001 None) no_reads (masks 0 1 2))
    (b0 ∷ b1 ∷ b2 ∷ bank (Closed (time 7_530_000)) (Some (clock 901)) at_1001 ∷ []))
    page
    -- BURST TERMINATE
    ∷ takes full (rec Terminate 0 0 0) Quiet
    (then over (bus (w950 at_1001) (reads at_1001) (masks 0 1 2)) (b0 ∷ b1 ∷ b2 ∷ b3 ∷ [])) page
    -- PRECHARGE: "it closes now", at 7,507,500 ps, and keeps its last ACTIVE and store; its own bank's bursts are cut
    ∷ takes full (rec Precharge 1 0 255) Quiet
    (then over (bus (w950 None) (reads at_1001) (masks 255 1 2))
    (b0 ∷ bank (Closed (time 7_507_500)) (Some (clock 900)) None ∷ b2 ∷ b3 ∷ []))
    page
    ∷ takes full (rec Precharge 3 0x1bff 255) Quiet
    (then over (bus (w950 at_1001) (reads None) (masks 255 1 2))
    (b0 ∷ b1 ∷ b2 ∷ bank (Closed (time 7_507_500)) (Some (clock 901)) (Some (clock 950)) ∷ []))
    page
    -- "A closed bank .. keeps that closing time"
    ∷ takes full (rec Precharge 2 0 255) Quiet
    (then over (bus (w950 None) (reads None) (masks 255 1 2)) (b0 ∷ b1 ∷ b2 ∷ b3 ∷ []))
    page
    -- PRECHARGE ALL, "each of the four", whatever BA
    ∷ takes full (rec Precharge 2 1024 255) Quiet
    (then (record { allclosed = at_1001; refreshes = Two (clock 900); register = loaded 0x31 (clock 950) })
    (bus (w950 at_1001) (reads at_1001) (masks 255 1 2))
    (b0 ∷ bank (Closed (time 7_507_500)) (Some (clock 900)) None ∷ b2 ∷ bank (Closed (time 7_507_500)) (Some (clock 901))
    (Some (clock 950)) ∷ []))
    page
    -- AUTO REFRESH: the first, the second, and those after it
    ∷ takes (idle (record { allclosed = Some (clock 0); refreshes = Zero; register = None })) (rec Refresh 0 0 255) Quiet
    (idle_then (record { allclosed = Some (clock 0); refreshes = One (clock 1_001); register = None }))
    page
    ∷ takes (idle (record { allclosed = Some (clock 0); refreshes = One (clock 900); register = None }))
    (rec Refresh 1 1024 255) Quiet
    (idle_then (record { allclosed = Some (clock 0); refreshes = Two (clock 1_001); register = None }))
    page
    ∷ takes (idle over) (rec Refresh 0 0 255) Quiet (idle_then (refreshed 1_001 0x31 950)) page
    -- LOAD MODE: word and clock; A10 is of the word
    ∷ takes (idle over) (rec LoadMode 0 0x233 255) Quiet (idle_then (refreshed 900 0x233 1_001)) page
    ∷ takes (idle (record { allclosed = Some (clock 0); refreshes = Two (clock 900); register = None }))
    (rec LoadMode 0 0x30 255) Quiet
    (idle_then (refreshed 900 0x30 1_001))
    page
    -- "The first PRECHARGE ALL closes all banks": now, whatever they were
    ∷ takes (state 65_535 1 7 5 (Some (clock 2_000)) not_begun (bus no_burst no_reads (masks 1 2 3))
    (b0 ∷ b1 ∷ no_bank ∷ b3 ∷ [])) (rec Precharge 2 1024 255) Quiet
    (state 65_535 1 7 6 (Some (clock 2_001)) (record { allclosed = Some (clock 2_001); refreshes = Zero; register = None })
    (bus no_burst no_reads (masks 255 1 2))
    (bank (Closed (time 131_135_535)) (Some (clock 100)) (Some (clock 101))
    ∷ bank (Closed (time 131_135_535)) (Some (clock 900)) None
    ∷ bank (Closed (time 131_135_535)) None None
    ∷ bank (Closed (time 131_135_535)) (Some (clock 901)) (Some (clock 950))
    ∷ []))
    page
    -- a beat of a WRITE that runs on: its byte is stored on this clock, the page has it, and a later record's tWR counts from it
    ∷ takes (running None) (rec Nop 0 0 0) (Stores (record { bank = 1; row = 7; column = 3; lanes = 255 }))
    (ran (masks 0 1 2) None b_stored)
    (replicate 24 255 ++ (1 ∷ 2 ∷ 3 ∷ 4 ∷ 5 ∷ 6 ∷ 7 ∷ 8 ∷ []) ++ replicate 8 255)
    -- a READ's beat stores nothing
    ∷ takes (state 7500 1 7 5 (Some (clock 1_000)) over
    (bus (w950 None) (burst false 1 7 2 997 None ∷ no_burst ∷ no_burst ∷ no_burst ∷ []) (masks 0x0f 0xf0 0))
    (b0 ∷ b1 ∷ b2 ∷ b3 ∷ []))
    (rec Nop 0 0 0) (Drives (record { bank = 1; row = 7; column = 3; lanes = 0x0f }))
    (then over (bus (w950 None) (burst false 1 7 2 997 None ∷ no_burst ∷ no_burst ∷ no_burst ∷ []) (masks 0 0x0f 0xf0))
    (b0 ∷ b1 ∷ b2 ∷ b3 ∷ []))
    page
    -- refused: "changes neither state nor page", though a beat would fall on its clock; a refused LOAD MODE does not count
    ∷ refuses (running None) (rec Active 1 0 0) 15 0
    ∷ refuses (running None) (rec Read 0 0 0) 15 0
    ∷ refuses (idle over) (rec LoadMode 0 0x34 255) 17 0
    ∷ refuses (idle over) (rec LoadMode 1 0x31 255) 17 0
    ∷ refuses (idle over) (rec LoadMode 0 0x21 255) 18 0
    ∷ refuses (idle (record { allclosed = Some (clock 0); refreshes = One (clock 900); register = None }))
    (rec LoadMode 0 0x31 255) 14 0
    ∷ refuses (state 7500 1 7 5 (Some (clock 1_000)) over (bus (w950 None) no_reads (masks 1 2 3))
    (b0 ∷ bank (Open 7 (clock 900)) (Some (clock 900)) (Some (clock 1_000)) ∷ b2 ∷ b3 ∷ [])) (rec Precharge 1 0 255) 16 tWR
    ∷ []

-- ── Parts ──

-- the clock of a record after so many skipped clocks
abbrev clocked : Option Clock → ℕ → ℕ
clocked last skipped =
    (clock_of (state 7500 1 7 5 last over (bus no_burst no_reads (masks 1 2 3)) []).core
    (record { skipped = skipped; cke = 1; code = 7; ba = 0; addr = 0; column = 0; masks = 0; zeros = 0; dq = 0 })).0

abbrev numbers : List (Row ℕ)
numbers =
    -- "The first record stands on the clock equal to its skipped count; each later one on the previous clock plus its skipped count plus 1"
    clocked None 0 gives 0
    ∷ clocked None 13_334 gives 13_334
    ∷ clocked (Some (clock 0)) 0 gives 1
    ∷ clocked (Some (clock 1_000)) 7 gives 1_008
    -- the open row; elsewhere none is read
    ∷ row_of (Open 9 (clock 3)) gives 9
    ∷ row_of (Closed (time 3)) gives 0
    ∷ row_of NotStarted gives 0
    -- the mode word; before the first LOAD MODE none is read
    ∷ word full.core gives 0x31
    ∷ word (start (time 7500) 2 0 0).core gives 0x30
    ∷ []

abbrev states : List (Row State)
states =
    -- before the first record
    start (time 7500) 2 3 8191
    gives state 7500 3 8191 0 None not_begun (bus no_burst no_reads (masks 255 255 255))
    (no_bank ∷ no_bank ∷ no_bank ∷ no_bank ∷ [])
    -- after start-up: the state that the rows of `MinimaCases` begin from
    ∷ all_taken with_133 (start (time 7500) 2 0 0) (up 0x30 []) gives ready 0x30
    ∷ all_taken with_133 (start (time 7500) 2 0 0) (up 0x232 []) gives ready 0x232
    ∷ []

abbrev banks : List (Row Bank)
banks =
    no_bank gives bank NotStarted None None
    ∷ bank_at (b0 ∷ b1 ∷ b2 ∷ b3 ∷ []) 0 gives b0
    ∷ bank_at (b0 ∷ b1 ∷ b2 ∷ b3 ∷ []) 3 gives b3
    ∷ bank_at (b0 ∷ b1 ∷ b2 ∷ b3 ∷ []) 4 gives no_bank
    ∷ []

-- 15 comes first where the bank of a READ or WRITE is not open: then there is no row that auto precharge could close too late, and its
-- status stays
abbrev late : List (Row Bool)
late =
    closes_within grade_133 (time 7500) (time 900_000_000) NotStarted gives true
    ∷ closes_within grade_133 (time 7500) (time 900_000_000) (Closed (time 0)) gives true
    ∷ closes_within grade_133 (time 7500) (time 120_000_000) (Open 7 (clock 0)) gives true
    ∷ closes_within grade_133 (time 7500) (time 120_000_001) (Open 7 (clock 0)) gives false
    ∷ closes_within grade_133 (time 7500) (time 120_007_500) (Open 7 (clock 1)) gives true
    ∷ []

abbrev statuses : List (Row Status)
statuses =
    auto_closed grade_133 (time 7500) (time 50_000) NotStarted gives NotStarted
    ∷ auto_closed grade_133 (time 7500) (time 50_000) (Closed (time 3)) gives Closed (time 3)
    -- the later of ACTIVE + tRAS min and the burst's end
    ∷ auto_closed grade_133 (time 7500) (time 50_000) (Open 7 (clock 0)) gives Closed (time 50_000)
    ∷ auto_closed grade_133 (time 7500) (time 50_000) (Open 7 (clock 1)) gives Closed (time 51_500)
    ∷ []

-- what these records leave of a state in which a WRITE runs on
abbrev left_of : List Record → Took
left_of rs = left_by with_133 (running None) rs page (run with_133 (running None) rs)

abbrev takings : List (Row Took)
takings =
    -- "the refused record changes neither state nor page, and nothing after it is read": the one before it does
    left_of (rec Nop 0 0 0 ∷ rec Active 1 0 0 ∷ rec Nop 0 0 0 ∷ [])
    gives took (Stores (record { bank = 1; row = 7; column = 3; lanes = 255 })) (ran (masks 0 1 2) None b_stored)
    (replicate 24 255 ++ (1 ∷ 2 ∷ 3 ∷ 4 ∷ 5 ∷ 6 ∷ 7 ∷ 8 ∷ []) ++ replicate 8 255)
    ∷ left_of (rec Active 1 0 0 ∷ rec Nop 0 0 0 ∷ []) gives took Quiet (running None) page
    ∷ left_of [] gives took Quiet (running None) page
    ∷ []

abbrev line_with : Beat → Line
line_with b = record { clock = clock 3; beat = b }

abbrev stores_0 : Beat
stores_0 = Stores (record { bank = 0; row = 0; column = 0; lanes = 1 })

-- the beat of the last record taken
abbrev beats : List (Row Beat)
beats =
    last_beat stores_0 [] gives stores_0
    ∷ last_beat Quiet (line_with stores_0 ∷ []) gives stores_0
    ∷ last_beat Quiet (line_with Quiet ∷ line_with stores_0 ∷ []) gives stores_0
    ∷ last_beat Quiet (line_with stores_0 ∷ line_with Quiet ∷ []) gives Quiet
    ∷ []

pub next_right :
    (found commands ≡ expected commands)
    × (found numbers ≡ expected numbers)
    × (found states ≡ expected states)
    × (found banks ≡ expected banks)
    × (found takings ≡ expected takings)
    × (found beats ≡ expected beats)
    × (found late ≡ expected late)
    × (found statuses ≡ expected statuses)
unfolding module_of length_of beat_column has_beat write_beat read_beat finished masks_on masks_after reads_from bus_after beat_on bursts_finished driven bus_clear allowed banks_found of_closing of_any of_active of_access of_precharged of_precharge of_idle events minima every_rules place_rules minimum_rules mode_rules bus_rules command_rules rules ask startup_after beat core_from core_after bank_after commanded mark_banks banks_after next put_lanes stored run page_after all_taken
next_right = (refl, refl, refl, refl, refl, refl, refl, refl)
