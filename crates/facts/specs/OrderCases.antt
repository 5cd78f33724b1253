-- Which rule comes first where two are broken; each rule on each command that asks it, and on both sides of its bound. From document
-- 01's sentences. `FurtherCases` proves it.
use Rattle.std.specs.Prelude.{ℕ, List, [], ◌∷◌, ◌++◌}
use Rattle.speed.specs.declared.SpeedTable.{SpeedTable}
use Rattle.speed.specs.Table.{table, grade_13E, grade_133}
use Rattle.layout.specs.declared.Record.{Record}
use Rattle.layout.specs.declared.Command.TheVariants.{Inhibit, Nop, Active, Read, LoadMode}
use Rattle.layout.specs.Commands.{code_of}
use Rattle.rules.specs.Numbers.{tRCD, tRAS, tRC, tRP, tRRD, tRFC, tWR, tMRD}
use Rattle.facts.specs.Cases.{
  rec,
  with_a10,
  all_banks,
  precharge,
  refresh,
  load,
  active,
  read,
  write,
  nop,
  terminate,
  nops,
  up,
  up_active,
  Reported,
  W,
  R,
  Ws,
  Rs,
  Case,
  runs,
  refuses,
  takes,
  reports,
  own_table,
}

-- -133 with other tRAS max, tRC, tRP, tWR
abbrev other : ℕ → ℕ → ℕ → ℕ → SpeedTable
other trasmax trc trp twr = table 10_000 7_500 44_000 trasmax trc 20_000 trp 15_000 66_000 twr 7_500 7_812_500 2

-- every minimum 0, with this tRAS max, tRAS min and auto precharge addition
abbrev no_minima : ℕ → ℕ → ℕ → SpeedTable
no_minima trasmin trasmax addition = table 0 0 trasmin trasmax 0 0 0 0 0 0 addition 7_812_500 0

-- a NOP with CKE LOW after so many skipped clocks, and with this in its zeros
abbrev cke_low : ℕ → ℕ → Record
cke_low skipped zeros =
    record { skipped = skipped; cke = 0; code = code_of Nop; ba = 0; addr = 0; column = 0; masks = 255; zeros = zeros; dq = 0 }

-- start-up, row 7 of bank 1 opened on clock 13,357 and of bank 2 on 13,359
abbrev up_two : ℕ → List Record → List Record
up_two word rs = up word (active 1 1 7 ∷ active 1 2 7 ∷ rs)

-- the same on 13,356 and 13,357, where no minimum holds them back
abbrev up_both : ℕ → List Record → List Record
up_both word rs = up word (active 0 1 7 ∷ active 0 2 7 ∷ rs)

-- start-up with 1,500,000 ps after the first PRECHARGE ALL
abbrev up_late : ℕ → List Record → List Record
up_late word rs = all_banks 13334 ∷ refresh 200 ∷ refresh 8 ∷ load 8 word ∷ rs

-- start-up with time enough for any period of 5,000 and more
abbrev up_slow : ℕ → List Record
up_slow word = all_banks 20_000 ∷ refresh 20 ∷ refresh 20 ∷ load 20 word ∷ []

-- f at each of the four banks
abbrev pub at_banks : {A : Type 0} → (ℕ → List A) → List A
at_banks f = f 0 ++ f 1 ++ f 2 ++ f 3

-- 13 of bank b: its row, opened on 13,357, is open for 10 clocks, and for 11
abbrev open_long : ℕ → List Case
open_long b =
    takes (no_minima 0 75_000 0) 7500 (up 0x31 (active 1 b 7 ∷ nop 9 255 ∷ [])) 6
    ∷ refuses (no_minima 0 75_000 0) 7500 (up 0x31 (active 1 b 7 ∷ nop 10 255 ∷ [])) 13 0 5
    ∷ refuses (no_minima 0 74_999 0) 7500 (up 0x31 (active 1 b 7 ∷ nop 9 255 ∷ [])) 13 0 5
    ∷ []

-- 15 of bank b: ACTIVE, AUTO REFRESH and LOAD MODE with its row open; READ and WRITE with all banks closed, or another one open
abbrev found_wrong : ℕ → ℕ → List Case
found_wrong b another =
    refuses grade_133 7500 (up 0x31 (active 1 b 7 ∷ active 20 b 8 ∷ [])) 15 0 5
    ∷ refuses grade_133 7500 (up 0x31 (active 1 b 7 ∷ refresh 20 ∷ [])) 15 0 5
    ∷ refuses grade_133 7500 (up 0x31 (active 1 b 7 ∷ load 20 0x31 ∷ [])) 15 0 5
    ∷ refuses grade_133 7500 (up 0x31 (read 20 b 0 ∷ [])) 15 0 4
    ∷ refuses grade_133 7500 (up 0x31 (write 20 b 0 ∷ [])) 15 0 4
    ∷ refuses grade_133 7500 (up 0x31 (active 1 another 7 ∷ read 20 b 0 ∷ [])) 15 0 5
    ∷ refuses grade_133 7500 (up 0x31 (active 1 another 7 ∷ write 20 b 0 ∷ [])) 15 0 5
    ∷ takes grade_133 7500 (up 0x31 (active 1 another 7 ∷ active 20 b 8 ∷ read 20 b 0 ∷ [])) 7
    ∷ []

-- 19 in mode 0032, length 4: an auto precharge burst of bank 1 on 13,358, which record 6 starts and reports `first` on; then READ, WRITE
-- and BURST TERMINATE on the third clock after it, and on the fourth. There a READ's second beat falls, masked on the skipped clock
abbrev unfinished : (ℕ → ℕ → ℕ → Record) → List Reported → List Reported → List Case
unfinished burst first second =
    runs (no_minima 0 120_000_000 0) 7500 (up_both 0x32 (burst 0 1 (with_a10 0) ∷ read 2 2 0 ∷ [])) 19 0 7 first
    ∷ runs (no_minima 0 120_000_000 0) 7500 (up_both 0x32 (burst 0 1 (with_a10 0) ∷ write 2 2 0 ∷ [])) 19 0 7 first
    ∷ runs (no_minima 0 120_000_000 0) 7500 (up_both 0x32 (burst 0 1 (with_a10 0) ∷ terminate 2 ∷ [])) 19 0 7 first
    ∷ reports (no_minima 0 120_000_000 0) 7500 (up_both 0x32 (burst 0 1 (with_a10 0) ∷ read 3 2 0 ∷ [])) 8 (first ++ second)
    ∷ reports (no_minima 0 120_000_000 0) 7500 (up_both 0x32 (burst 0 1 (with_a10 0) ∷ write 3 2 0 ∷ [])) 8
    (first ++ (W 7 13362 2 7 0 255 ∷ []))
    ∷ reports (no_minima 0 120_000_000 0) 7500 (up_both 0x32 (burst 0 1 (with_a10 0) ∷ terminate 3 ∷ [])) 8 (first ++ second)
    -- without A10 none of the three asks it
    ∷ reports (no_minima 0 120_000_000 0) 7500 (up_both 0x32 (burst 0 1 0 ∷ terminate 0 ∷ [])) 8 first
    ∷ reports (no_minima 0 120_000_000 0) 7500 (up_both 0x32 (burst 0 1 0 ∷ read 0 2 0 ∷ [])) 8 first
    ∷ reports (no_minima 0 120_000_000 0) 7500 (up_both 0x32 (burst 0 1 0 ∷ write 0 2 0 ∷ [])) 8
    (first ++ (W 7 13359 2 7 0 255 ∷ []))
    ∷ []

abbrev orders : List Case
orders =
    -- "tried in the order listed": 10 before 11, 11 before 12, 12 before 13, 14 before 15, 15 before 16, 16 before 17, 17 before 18
    refuses grade_133 7500 (cke_low 0 1 ∷ []) 10 0 0
    ∷ refuses grade_133 7500 (cke_low 0 0x800 ∷ []) 10 0 0
    ∷ refuses grade_133 7500 (all_banks 13334 ∷ refresh 2 ∷ refresh 8 ∷ cke_low 1041 0 ∷ []) 11 0 3
    ∷ refuses own_table 7500 (up_active 0x31 (nop 30_000 255 ∷ [])) 12 0 5
    ∷ refuses grade_133 7500 (all_banks 13334 ∷ refresh 2 ∷ refresh 8 ∷ read 8 1 0 ∷ []) 14 0 3
    ∷ refuses grade_133 7500 (up 0x30 (read 0 1 0 ∷ [])) 15 0 4
    ∷ refuses grade_133 7500 (all_banks 13334 ∷ refresh 2 ∷ refresh 8 ∷ load 0 0x34 ∷ []) 16 tRFC 3
    ∷ refuses grade_133 7500 (up 0x31 (load 0 0x34 ∷ [])) 16 tMRD 4
    ∷ refuses grade_133 7500 (up 0x24 []) 17 0 3
    -- 12 before 14 and 15: a READ not allowed yet; 13 before 15: an ACTIVE of the open bank
    ∷ refuses grade_133 7500 (all_banks 13334 ∷ refresh 2 ∷ refresh 8 ∷ read 1041 1 0 ∷ []) 12 0 3
    ∷ refuses (no_minima 0 75_000 0) 7500 (up_active 0x31 (active 10 1 8 ∷ [])) 13 0 5
    -- 15 before 17; 16 before 19, 20 and 21
    ∷ refuses grade_133 7500 (up_active 0x31 (load 20 0x34 ∷ [])) 15 0 5
    ∷ runs grade_133 7500 (up_active 0x33 (write 5 1 (with_a10 0) ∷ active 0 2 7 ∷ read 1 2 0 ∷ [])) 16 tRCD 7
    (W 5 13363 1 7 0 255 ∷ W 6 13364 1 7 1 0 ∷ [])
    ∷ runs grade_133 7500 (up_active 0x30 (read 2 1 0 ∷ rec 0 Active 2 7 0 ∷ nop 0 0 ∷ write 0 2 0 ∷ [])) 16 tRCD 8 []
    ∷ refuses grade_133 7500 (up_active 0x37 (read 1 1 (with_a10 0) ∷ [])) 16 tRCD 5
    -- 19 before 20: a WRITE one clock before the auto precharge READ is finished, on the READ's first beat; 19 before 21 and 22
    ∷ refuses grade_133 7500 (up_two 0x32 (read 3 1 (with_a10 0) ∷ nops 2 (write 0 2 0 ∷ []))) 19 0 9
    ∷ refuses (no_minima 0 75_000 0) 7500 (up_both 0x33 (read 0 1 (with_a10 0) ∷ read 1 2 (with_a10 0) ∷ [])) 19 0 7
    -- 20 before 21; 21 before 22; 20 before 22
    ∷ runs grade_133 7500 (up_active 0x37 (read 2 1 0 ∷ nops 3 (write 0 1 (with_a10 0) ∷ []))) 20 0 9 (Rs 8 13363 (0 ∷ []))
    ∷ refuses (no_minima 0 30_000 0) 7500 (up_active 0x37 (read 2 1 (with_a10 0) ∷ [])) 21 0 5
    ∷ runs (no_minima 0 60_000 0) 7500 (up_active 0x33 (read 2 1 0 ∷ nops 3 (write 0 1 (with_a10 0) ∷ []))) 20 0 9
    (Rs 8 13363 (0 ∷ []))
    -- 12 on COMMAND INHIBIT, BURST TERMINATE, LOAD MODE and PRECHARGE; from the third refresh on counted from the last
    ∷ refuses grade_133 7500 (all_banks 13334 ∷ refresh 2 ∷ refresh 8 ∷ rec 1041 Inhibit 0 0 255 ∷ []) 12 0 3
    ∷ takes grade_133 7500 (all_banks 13334 ∷ refresh 2 ∷ refresh 8 ∷ rec 1040 Inhibit 0 0 255 ∷ []) 4
    ∷ refuses grade_133 7500 (up 0x31 (terminate 1032 ∷ [])) 12 0 4
    ∷ takes grade_133 7500 (up 0x31 (terminate 1031 ∷ [])) 5
    ∷ refuses grade_133 7500 (all_banks 13334 ∷ refresh 2 ∷ refresh 8 ∷ load 1041 0x31 ∷ []) 12 0 3
    ∷ takes grade_133 7500 (all_banks 13334 ∷ refresh 2 ∷ refresh 8 ∷ load 1040 0x31 ∷ []) 4
    ∷ refuses grade_133 7500 (all_banks 13334 ∷ refresh 2 ∷ refresh 8 ∷ all_banks 1041 ∷ []) 12 0 3
    ∷ takes grade_133 7500 (all_banks 13334 ∷ refresh 2 ∷ refresh 8 ∷ refresh 1000 ∷ nop 1040 255 ∷ []) 5
    ∷ refuses grade_133 7500 (all_banks 13334 ∷ refresh 2 ∷ refresh 8 ∷ refresh 1000 ∷ nop 1041 255 ∷ []) 12 0 4
    -- 13 on the PRECHARGE that would cure it, and of another bank than 1; not of a bank under auto precharge, nor of one closed
    ∷ refuses (no_minima 0 75_000 0) 7500 (up_active 0x31 (precharge 10 1 ∷ [])) 13 0 5
    ∷ takes (no_minima 0 75_000 0) 7500 (up_active 0x31 (precharge 9 1 ∷ nop 50 255 ∷ [])) 7
    ∷ refuses own_table 7500 (up 0x31 (active 1 3 7 ∷ nop 16000 255 ∷ [])) 13 0 5
    ∷ takes (no_minima 0 75_000 0) 7500 (up_active 0x31 (read 2 1 (with_a10 0) ∷ nop 50 255 ∷ [])) 7
    -- "Then PRECHARGE and AUTO REFRESH": of one bank too
    ∷ takes grade_133 7500 (all_banks 13334 ∷ precharge 2 1 ∷ []) 2
    -- "at 100,000,000 ps or later": exactly then, and a picosecond before
    ∷ takes grade_133 50_000 (all_banks 2_000 ∷ []) 1
    ∷ refuses grade_133 50_000 (all_banks 1_999 ∷ []) 14 0 0
    ∷ refuses grade_133 10_001 (all_banks 9_999 ∷ []) 14 0 0
    ∷ takes grade_133 10_001 (all_banks 10_000 ∷ []) 1
    -- 15 of a WRITE; of a READ and a WRITE in a bank under auto precharge
    ∷ refuses grade_133 7500 (up 0x30 (write 5 1 0 ∷ [])) 15 0 4
    ∷ runs grade_133 7500 (up_active 0x30 (write 2 1 (with_a10 0) ∷ read 5 1 0 ∷ [])) 15 0 6 (Ws 5 13360 (0 ∷ []))
    ∷ refuses grade_133 7500 (up_active 0x30 (read 2 1 (with_a10 0) ∷ write 5 1 0 ∷ [])) 15 0 6
    -- tRCD of a WRITE; tRFC of an ACTIVE
    ∷ refuses grade_133 7500 (up_active 0x30 (write 1 1 0 ∷ [])) 16 tRCD 5
    ∷ reports grade_133 7500 (up_active 0x30 (write 2 1 0 ∷ [])) 6 (Ws 5 13360 (0 ∷ []))
    ∷ refuses grade_133 7500 (up 0x31 (refresh 20 ∷ active 7 1 7 ∷ [])) 16 tRFC 5
    ∷ takes grade_133 7500 (up 0x31 (refresh 20 ∷ active 8 1 7 ∷ [])) 6
    -- "PRECHARGE, .. each of the four": tRAS min and tWR of each
    ∷ refuses grade_133 7500 (up_two 0x30 (all_banks 3 ∷ [])) 16 tRAS 6
    ∷ takes grade_133 7500 (up_two 0x30 (all_banks 5 ∷ [])) 7
    ∷ runs grade_133 7500 (up_two 0x30 (write 5 2 0 ∷ all_banks 0 ∷ [])) 16 tWR 7 (W 6 13365 2 7 0 255 ∷ [])
    ∷ reports grade_133 7500 (up_two 0x30 (write 5 2 0 ∷ all_banks 1 ∷ [])) 8 (W 6 13365 2 7 0 255 ∷ [])
    -- tRP since a closing: of a PRECHARGE of the closed bank, ACTIVE, AUTO REFRESH, LOAD MODE
    ∷ refuses grade_133 7500 (up_active 0x30 (precharge 12 1 ∷ precharge 1 1 ∷ [])) 16 tRP 6
    ∷ takes grade_133 7500 (up_active 0x30 (precharge 12 1 ∷ precharge 2 1 ∷ [])) 7
    ∷ refuses grade_133 7500 (up_active 0x30 (precharge 12 1 ∷ active 1 1 8 ∷ [])) 16 tRP 6
    ∷ takes grade_133 7500 (up_active 0x30 (precharge 12 1 ∷ active 2 1 8 ∷ [])) 7
    ∷ refuses grade_133 7500 (up_active 0x30 (precharge 12 1 ∷ refresh 1 ∷ [])) 16 tRP 6
    ∷ takes grade_133 7500 (up_active 0x30 (precharge 12 1 ∷ refresh 2 ∷ [])) 7
    ∷ refuses grade_133 7500 (up_active 0x30 (precharge 12 1 ∷ load 1 0x31 ∷ [])) 16 tRP 6
    ∷ takes grade_133 7500 (up_active 0x30 (precharge 12 1 ∷ load 2 0x31 ∷ [])) 7
    -- "not even a minimum of 0": ACTIVE before the closing time of an auto precharge, tRP 0
    ∷ runs (other 120_000_000 0 0 15_000) 7500 (up_active 0x30 (write 2 1 (with_a10 0) ∷ active 1 1 8 ∷ [])) 16 tRP 6
    (Ws 5 13360 (0 ∷ []))
    ∷ reports (other 120_000_000 0 0 15_000) 7500 (up_active 0x30 (write 2 1 (with_a10 0) ∷ active 2 1 8 ∷ [])) 7
    (Ws 5 13360 (0 ∷ []))
    -- a store before the bank's latest ACTIVE starts no tWR after it
    ∷ reports (other 120_000_000 66_000 20_000 1_000_000) 7500
    (up_active 0x30 (write 5 1 (with_a10 0) ∷ active 10 1 8 ∷ precharge 5 1 ∷ [])) 8 (Ws 5 13363 (0 ∷ []))
    -- tWR since the last store, on 13,361, some records back: 40,000 ps are met 6 clocks later, not 5
    ∷ runs (other 120_000_000 66_000 20_000 40_000) 7500 (up_active 0x31 (write 2 1 0 ∷ nops 2 (precharge 3 1 ∷ []))) 16 tWR 8
    (Ws 5 13360 (0 ∷ 1 ∷ []))
    ∷ reports (other 120_000_000 66_000 20_000 40_000) 7500 (up_active 0x31 (write 2 1 0 ∷ nops 2 (precharge 4 1 ∷ []))) 9
    (Ws 5 13360 (0 ∷ 1 ∷ []))
    -- the lowest of two minima: tRAS of bank 2 and tRP of bank 1 under PRECHARGE ALL; tRC and tRP of an ACTIVE; tRP and tRRD; tRRD and tRFC
    ∷ refuses (other 120_000_000 66_000 1_000_000 15_000) 7500
    (up_late 0x30 (active 1 1 7 ∷ active 3 2 7 ∷ precharge 1 1 ∷ all_banks 0 ∷ [])) 16 tRAS 7
    ∷ refuses grade_133 7500 (up_active 0x30 (precharge 5 1 ∷ active 0 1 7 ∷ [])) 16 tRC 6
    ∷ refuses grade_133 7500 (up_two 0x30 (precharge 8 1 ∷ active 0 3 7 ∷ active 0 1 7 ∷ [])) 16 tRP 8
    ∷ refuses (table 0 0 0 120_000_000 0 0 0 1_000_000 66_000 0 0 7_812_500 0) 7500
    (up_active 0x30 (precharge 0 1 ∷ refresh 0 ∷ active 0 2 7 ∷ [])) 16 tRRD 7
    -- 17: BA must be 0
    ∷ refuses grade_133 7500 (all_banks 13334 ∷ refresh 2 ∷ refresh 8 ∷ rec 8 LoadMode 2 0x31 255 ∷ []) 17 0 3
    ∷ refuses grade_133 7500 (all_banks 13334 ∷ refresh 2 ∷ refresh 8 ∷ rec 8 LoadMode 3 0x31 255 ∷ []) 17 0 3
    -- 18: "period below tCK of the chosen latency", of each latency and grade
    ∷ refuses grade_133 7499 (up_slow 0x30) 18 0 3
    ∷ takes grade_133 7500 (up_slow 0x30) 4
    ∷ refuses grade_133 9999 (up_slow 0x20) 18 0 3
    ∷ takes grade_133 10_000 (up_slow 0x20) 4
    ∷ refuses grade_13E 6999 (up_slow 0x30) 18 0 3
    ∷ takes grade_13E 7000 (up_slow 0x30) 4
    ∷ refuses grade_13E 7499 (up_slow 0x20) 18 0 3
    ∷ takes grade_13E 7500 (up_slow 0x20) 4
    -- 19 with M9: a WRITE is finished on the next clock, a READ after its whole length; ACTIVE and PRECHARGE do not ask it
    ∷ reports (no_minima 0 120_000_000 0) 7500 (up_both 0x232 (write 0 1 (with_a10 0) ∷ terminate 0 ∷ [])) 8 (Ws 6 13358 (0 ∷ []))
    ∷ refuses (no_minima 0 120_000_000 0) 7500 (up_both 0x232 (read 0 1 (with_a10 0) ∷ terminate 2 ∷ [])) 19 0 7
    ∷ reports (no_minima 0 120_000_000 0) 7500 (up_both 0x232 (read 0 1 (with_a10 0) ∷ terminate 3 ∷ [])) 8
    (R 7 13362 1 7 1 0 ∷ [])
    ∷ takes (no_minima 0 120_000_000 0) 7500 (up_both 0x33 (read 0 1 (with_a10 0) ∷ active 0 0 7 ∷ precharge 0 2 ∷ [])) 9
    -- 20 with CL 2: READ on 13,360, its one beat on 13,362 with the masks of 13,360; a lane is enough, and a masked beat clears it
    ∷ refuses grade_13E 7500 (up_active 0x20 (read 2 1 0 ∷ write 1 1 0 ∷ [])) 20 0 6
    ∷ refuses grade_13E 7500 (up_active 0x20 (read 2 1 0 ∷ write 2 1 0 ∷ [])) 20 0 6
    ∷ reports grade_13E 7500 (up_active 0x20 (read 2 1 0 ∷ write 3 1 0 ∷ [])) 7 (Ws 6 13364 (0 ∷ []))
    ∷ reports grade_13E 7500 (up_active 0x20 (read 2 1 0 ∷ write 0 1 0 ∷ [])) 7 (Ws 6 13361 (0 ∷ []))
    ∷ refuses grade_13E 7500 (up_active 0x20 (rec 2 Read 1 0 0x7f ∷ write 1 1 0 ∷ [])) 20 0 6
    ∷ refuses grade_13E 7500 (up_active 0x20 (rec 2 Read 1 0 0xfe ∷ write 2 1 0 ∷ [])) 20 0 6
    ∷ reports grade_13E 7500 (up_active 0x20 (rec 2 Read 1 0 0xff ∷ write 1 1 0 ∷ [])) 7 (Ws 6 13362 (0 ∷ []))
    -- READ and BURST TERMINATE do not ask 20
    ∷ reports grade_13E 7500 (up_active 0x20 (read 2 1 0 ∷ read 1 1 0 ∷ terminate 0 ∷ nop 0 0 ∷ [])) 9
    (R 6 13362 1 7 0 255 ∷ R 8 13364 1 7 0 255 ∷ [])
    -- 21: with M9 a READ is full page still, and a WRITE is not; without A10 neither is asked
    ∷ refuses grade_133 7500 (up_active 0x237 (read 5 1 (with_a10 0) ∷ [])) 21 0 5
    ∷ takes grade_133 7500 (up_active 0x37 (read 5 1 0 ∷ [])) 6
    ∷ reports grade_133 7500 (up_active 0x37 (write 5 1 0 ∷ [])) 6 (Ws 5 13363 (0 ∷ []))
    -- 22 of a WRITE
    ∷ refuses (other 50_000 66_000 20_000 15_000) 7500 (up_active 0x33 (write 2 1 (with_a10 0) ∷ [])) 22 0 5
    ∷ reports (other 50_000 66_000 20_000 15_000) 7500 (up_active 0x30 (write 2 1 (with_a10 0) ∷ [])) 6 (Ws 5 13360 (0 ∷ []))
    -- 22: ACTIVE on 13,357, the burst on 13,360. A READ of length 8 closes on 13,368, with M9 too; a WRITE then plus the addition
    ∷ refuses (no_minima 0 82_499 7) 7500 (up_active 0x33 (read 2 1 (with_a10 0) ∷ [])) 22 0 5
    ∷ takes (no_minima 0 82_500 7) 7500 (up_active 0x33 (read 2 1 (with_a10 0) ∷ [])) 6
    ∷ refuses (no_minima 0 82_499 7) 7500 (up_active 0x233 (read 2 1 (with_a10 0) ∷ [])) 22 0 5
    ∷ takes (no_minima 0 82_500 7) 7500 (up_active 0x233 (read 2 1 (with_a10 0) ∷ [])) 6
    ∷ refuses (no_minima 0 82_506 7) 7500 (up_active 0x33 (write 2 1 (with_a10 0) ∷ [])) 22 0 5
    ∷ reports (no_minima 0 82_507 7) 7500 (up_active 0x33 (write 2 1 (with_a10 0) ∷ [])) 6 (Ws 5 13360 (0 ∷ []))
    -- with M9 a WRITE's last beat is its first; ACTIVE + tRAS min where that is later
    ∷ refuses (no_minima 0 30_006 7) 7500 (up_active 0x233 (write 2 1 (with_a10 0) ∷ [])) 22 0 5
    ∷ reports (no_minima 0 30_007 7) 7500 (up_active 0x233 (write 2 1 (with_a10 0) ∷ [])) 6 (Ws 5 13360 (0 ∷ []))
    ∷ refuses (no_minima 40_000 39_999 7) 7500 (up_active 0x30 (read 2 1 (with_a10 0) ∷ [])) 22 0 5
    ∷ takes (no_minima 40_000 40_000 7) 7500 (up_active 0x30 (read 2 1 (with_a10 0) ∷ [])) 6
    -- without A10 it is not asked
    ∷ takes (no_minima 0 30_000 7) 7500 (up_active 0x33 (read 2 1 0 ∷ [])) 6
    ∷ []

-- the orders, and what depends on the bank or on the burst
abbrev pub all_orders : List Case
all_orders =
    orders
    ++ at_banks open_long
    ++ (found_wrong 0 1 ++ found_wrong 1 2 ++ found_wrong 2 3 ++ found_wrong 3 0)
    ++ unfinished read [] (R 7 13362 1 7 1 0 ∷ [])
    ++ unfinished write (Ws 6 13358 (0 ∷ [])) []
