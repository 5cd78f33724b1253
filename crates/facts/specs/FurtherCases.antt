-- What P1 to P12 leave open: rows that shut out judges which get those right. From document 01's sentences. Assumes nothing.
use Rattle.std.specs.Prelude.{ℕ, ◌≡◌, refl, List, [], ◌∷◌}
use Rattle.speed.specs.declared.SpeedTable.{SpeedTable}
use Rattle.speed.specs.Table.{table, grade_133}
use Rattle.units.specs.Module.{module_of}
use Rattle.layout.specs.declared.Record.{Record}
use Rattle.layout.specs.declared.Command.TheVariants.{Nop, Write, LoadMode}
use Rattle.layout.specs.Commands.{code_of}
use Rattle.mode.specs.Word.{length_of}
use Rattle.mode.specs.Order.{beat_column}
use Rattle.bursts.specs.Burst.{has_beat, write_beat, read_beat, finished}
use Rattle.bursts.specs.Bus.{masks_on, masks_after, reads_from, bus_after, beat_on, bursts_finished, driven, bus_clear}
use Rattle.bursts.specs.Cases.{found, expected}
use Rattle.rules.specs.Numbers.{tRAS, tRC, tRP, tRRD, tMRD}
use Rattle.rules.specs.StartUp.{allowed}
use Rattle.rules.specs.Banks.{banks_found}
use Rattle.rules.specs.Minima.{of_closing, of_any, of_active, of_access, of_precharged, of_precharge, of_idle, events, minima}
use Rattle.rules.specs.Rules.{every_rules, place_rules, minimum_rules, mode_rules, bus_rules, command_rules, rules, ask}
use Rattle.rules.specs.After.{
  startup_after,
  beat,
  core_from,
  core_after,
  bank_after,
  commanded,
  mark_banks,
  banks_after,
  next,
}
use Rattle.rules.specs.Run.{run}
use Rattle.facts.specs.Cases.{
  rec,
  with_a10,
  all_banks,
  precharge,
  refresh,
  load,
  active,
  read,
  write,
  nop,
  terminate,
  nops,
  up,
  up_active,
  W,
  R,
  Ws,
  Rs,
  Case,
  runs,
  refuses,
  takes,
  reports,
  cases_by,
  whole_run,
  own_table,
}
use Rattle.facts.specs.OrderCases.{all_orders}
use Rattle.facts.specs.MinimaCases.{all_minima}

-- -133 with other tRAS max, tRC, tRP
abbrev other : ℕ → ℕ → ℕ → SpeedTable
other trasmax trc trp = table 10_000 7_500 44_000 trasmax trc 20_000 trp 15_000 66_000 15_000 7_500 7_812_500 2

-- every minimum 0
abbrev no_minima : SpeedTable
no_minima = table 0 0 0 120_000_000 0 0 0 0 0 0 0 7_812_500 0

abbrev zero_bit : Record
zero_bit = record { skipped = 0; cke = 1; code = code_of Nop; ba = 0; addr = 0; column = 0; masks = 255; zeros = 1; dq = 0 }

abbrev cke_low : Record
cke_low = record { skipped = 0; cke = 0; code = code_of Nop; ba = 0; addr = 0; column = 0; masks = 255; zeros = 0; dq = 0 }

abbrev pub further : List Case
further =
    -- 10, 23 and 11
    refuses grade_133 7500 (zero_bit ∷ []) 10 0 0
    ∷ refuses grade_133 7500 (nop 0x10000000001 255 ∷ []) 23 0 0
    ∷ takes grade_133 7500 (nop 0x10000000000 255 ∷ []) 1
    ∷ refuses grade_133 7500 (cke_low ∷ []) 11 0 0
    -- 12 counts from the second refresh on, and hits the refresh that would cure it
    ∷ takes grade_133 7500 (all_banks 13334 ∷ refresh 2 ∷ nop 2000 255 ∷ []) 3
    ∷ refuses grade_133 7500 (all_banks 13334 ∷ refresh 2 ∷ refresh 8 ∷ refresh 1041 ∷ []) 12 0 3
    -- 14: each step of start-up
    ∷ takes grade_133 7500 (nop 5 255 ∷ all_banks 13334 ∷ []) 2
    ∷ refuses grade_133 7500 (precharge 13334 0 ∷ []) 14 0 0
    ∷ refuses grade_133 7500 (all_banks 13334 ∷ active 5 0 0 ∷ []) 14 0 1
    ∷ refuses grade_133 7500 (all_banks 13334 ∷ refresh 2 ∷ load 8 0x31 ∷ []) 14 0 2
    ∷ refuses grade_133 7500 (all_banks 13334 ∷ refresh 2 ∷ refresh 8 ∷ active 8 0 0 ∷ []) 14 0 3
    -- 15
    ∷ refuses grade_133 7500 (up_active 0x31 (active 9 1 8 ∷ [])) 15 0 5
    ∷ refuses grade_133 7500 (up 0x31 (read 5 1 0 ∷ [])) 15 0 4
    ∷ refuses grade_133 7500 (up_active 0x31 (refresh 9 ∷ [])) 15 0 5
    ∷ refuses grade_133 7500 (up_active 0x31 (load 9 0x31 ∷ [])) 15 0 5
    -- 16: each minimum on both sides, and the lowest of two
    ∷ refuses grade_133 7500 (up_active 0x31 (precharge 4 1 ∷ [])) 16 tRAS 5
    ∷ takes grade_133 7500 (up_active 0x31 (precharge 5 1 ∷ [])) 6
    ∷ refuses (other 120_000_000 100_000 20_000) 7500 (up_active 0x31 (precharge 5 1 ∷ active 2 1 8 ∷ [])) 16 tRC 6
    ∷ takes grade_133 7500 (up_active 0x31 (precharge 5 1 ∷ active 2 1 8 ∷ [])) 7
    ∷ refuses grade_133 7500 (up_active 0x31 (active 0 2 0 ∷ [])) 16 tRRD 5
    ∷ takes grade_133 7500 (up_active 0x31 (active 1 2 0 ∷ [])) 6
    ∷ refuses grade_133 7500 (up 0x31 (active 0 1 7 ∷ [])) 16 tMRD 4
    ∷ runs grade_133 7500 (up_active 0x30 (write 2 1 0 ∷ precharge 0 1 ∷ [])) 16 tRAS 6 (Ws 5 13360 (0 ∷ []))
    -- "A minimum is met if its event has never occurred": tRFC 200,000,000 at the first refresh
    ∷ takes (table 0 0 0 120_000_000 0 0 0 0 200_000_000 0 0 200_000_000 0) 7500 (all_banks 13334 ∷ refresh 0 ∷ []) 2
    -- tRP since a PRECHARGE ALL of banks long closed holds back BURST TERMINATE too
    ∷ refuses grade_133 7500 (up 0x31 (all_banks 10 ∷ terminate 0 ∷ [])) 16 tRP 5
    ∷ takes grade_133 7500 (up 0x31 (all_banks 10 ∷ terminate 2 ∷ [])) 6
    -- a masked beat starts no tWR; a PRECHARGE of a closed bank starts no tRP
    ∷ reports grade_133 7500 (up_active 0x30 (rec 5 Write 1 0 255 ∷ precharge 0 1 ∷ [])) 7 (W 5 13363 1 7 0 0 ∷ [])
    ∷ takes grade_133 7500 (up_active 0x30 (precharge 5 1 ∷ precharge 2 1 ∷ active 0 1 8 ∷ [])) 8
    -- an ACTIVE starts no tWR; a store starts that of its own bank only
    ∷ takes (table 10_000 7_500 0 120_000_000 0 0 0 0 66_000 15_000 7_500 7_812_500 2) 7500
    (up_active 0x30 (precharge 0 1 ∷ [])) 6
    ∷ reports grade_133 7500 (up_active 0x30 (active 1 2 7 ∷ write 5 1 0 ∷ precharge 0 2 ∷ [])) 8 (Ws 6 13365 (0 ∷ []))
    -- 17: BA, CL, M7, M10, A12; M3 = 1 with length 1 and M9 with full page are legal
    ∷ refuses grade_133 7500 (all_banks 13334 ∷ refresh 2 ∷ refresh 8 ∷ rec 8 LoadMode 1 0x31 255 ∷ []) 17 0 3
    ∷ refuses grade_133 7500 (up 0x11 []) 17 0 3
    ∷ refuses grade_133 7500 (up 0xb1 []) 17 0 3
    ∷ refuses grade_133 7500 (up 0x431 []) 17 0 3
    ∷ refuses grade_133 7500 (up 0x1031 []) 17 0 3
    ∷ takes grade_133 7500 (up 0x38 []) 4
    ∷ takes grade_133 7500 (up 0x237 []) 4
    -- 19 ends at r + length
    ∷ runs grade_133 7500 (up_active 0x31 (write 5 1 (with_a10 0) ∷ terminate 0 ∷ [])) 19 0 6 (Ws 5 13363 (0 ∷ []))
    ∷ refuses grade_133 7500 (up_active 0x32 (active 1 2 7 ∷ read 3 1 (with_a10 0) ∷ read 2 2 0 ∷ [])) 19 0 7
    ∷ reports grade_133 7500 (up_active 0x32 (active 1 2 7 ∷ read 3 1 (with_a10 0) ∷ read 3 2 0 ∷ [])) 8 (R 7 13367 1 7 1 0 ∷ [])
    -- 20: on its clock; one clock before, by a mask three clocks back; a WRITE next to a READ with CL 3 ends it
    ∷ refuses grade_133 7500 (up_active 0x32 (read 2 1 0 ∷ nops 2 (write 0 1 0 ∷ []))) 20 0 8
    ∷ refuses grade_133 7500 (up_active 0x30 (read 2 1 0 ∷ nop 0 0 ∷ write 2 1 0 ∷ [])) 20 0 7
    ∷ reports grade_133 7500 (up_active 0x30 (read 2 1 0 ∷ write 3 1 0 ∷ [])) 7 (Ws 6 13364 (0 ∷ []))
    ∷ reports grade_133 7500 (up_active 0x32 (read 2 1 0 ∷ write 0 1 8 ∷ nops 4 [])) 11 (Ws 6 13361 (8 ∷ 9 ∷ 10 ∷ 11 ∷ []))
    ∷ reports grade_133 7500 (up_active 0x232 (read 2 1 0 ∷ write 0 1 8 ∷ nops 4 [])) 11 (Ws 6 13361 (8 ∷ []))
    -- 21
    ∷ refuses grade_133 7500 (up_active 0x37 (read 5 1 (with_a10 0) ∷ [])) 21 0 5
    ∷ refuses grade_133 7500 (up_active 0x37 (write 5 1 (with_a10 0) ∷ [])) 21 0 5
    ∷ reports grade_133 7500 (up_active 0x237 (write 5 1 (with_a10 0) ∷ [])) 6 (Ws 5 13363 (0 ∷ []))
    -- 22: closing 60,000 ps after the ACTIVE
    ∷ refuses (other 59_999 66_000 20_000) 7500 (up_active 0x31 (read 5 1 (with_a10 0) ∷ [])) 22 0 5
    ∷ takes (other 60_000 66_000 20_000) 7500 (up_active 0x31 (read 5 1 (with_a10 0) ∷ [])) 6
    -- auto precharge: not rounded to a clock; no CL in it; ACTIVE + tRAS min where that is later
    ∷ reports (other 120_000_000 66_000 19_500) 9000 (up_active 0x30 (write 20 1 (with_a10 0) ∷ active 3 1 8 ∷ [])) 7
    (Ws 5 13378 (0 ∷ []))
    ∷ refuses grade_133 7500 (up_active 0x31 (read 20 1 (with_a10 0) ∷ active 3 1 8 ∷ [])) 16 tRP 6
    ∷ takes grade_133 7500 (up_active 0x31 (read 20 1 (with_a10 0) ∷ active 4 1 8 ∷ [])) 7
    ∷ refuses (other 120_000_000 0 20_000) 7500 (up_active 0x31 (read 2 1 (with_a10 0) ∷ active 4 1 8 ∷ [])) 16 tRP 6
    -- the masks of a READ beat are two clocks old; of a WRITE beat its own
    ∷ reports grade_133 7500 (up_active 0x30 (read 2 1 0 ∷ nop 0 0xf0 ∷ nop 0 0 ∷ nop 0 0xff ∷ [])) 9 (R 8 13363 1 7 0 0x0f ∷ [])
    ∷ reports grade_133 7500 (up_active 0x32 (write 2 1 0 ∷ precharge 0 2 ∷ nops 3 [])) 10
    (W 5 13360 1 7 0 255 ∷ W 6 13361 1 7 1 0 ∷ Ws 7 13362 (2 ∷ 3 ∷ []))
    -- full page goes on, a READ's with M9 too; only its own bank's PRECHARGE cuts a burst
    ∷ reports own_table 7500 (up_active 0x37 (write 2 1 0 ∷ nop 2047 0 ∷ [])) 7 (W 5 13360 1 7 0 255 ∷ W 6 15408 1 7 0 255 ∷ [])
    ∷ reports grade_133 7500 (up_active 0x37 (write 5 1 0 ∷ precharge 1 1 ∷ nop 0 0 ∷ [])) 8 (Ws 5 13363 (0 ∷ []))
    ∷ reports grade_133 7500 (up_active 0x32 (read 5 1 0 ∷ precharge 0 1 ∷ nops 5 [])) 12 (R 8 13366 1 7 0 0 ∷ [])
    ∷ reports grade_133 7500 (up_active 0x32 (active 1 2 7 ∷ read 4 1 0 ∷ precharge 0 2 ∷ nops 5 [])) 13
    (R 9 13367 1 7 0 0 ∷ Rs 10 13368 (1 ∷ 2 ∷ 3 ∷ []))
    ∷ reports own_table 7500 (up_active 0x237 (read 2 1 0 ∷ nop 2050 0 ∷ [])) 7 (R 6 15411 1 7 0 0 ∷ [])
    -- a WRITE loses its beats to the next WRITE, a READ to the next READ, though that one is cut by a PRECHARGE of its own bank
    ∷ reports no_minima 7500 (up_active 0x33 (active 0 2 8 ∷ write 0 1 0 ∷ write 0 2 16 ∷ precharge 0 2 ∷ nops 2 [])) 11
    (W 6 13359 1 7 0 255 ∷ W 7 13360 2 8 16 255 ∷ [])
    ∷ reports no_minima 7500 (up_active 0x33 (active 0 2 8 ∷ read 0 1 0 ∷ read 0 2 16 ∷ precharge 0 2 ∷ nops 4 [])) 13
    (R 9 13362 1 7 0 255 ∷ R 10 13363 2 8 16 0 ∷ [])
    -- M9 = 1 makes writes single; A11 then A9 to A0 is the column
    ∷ reports grade_133 7500 (up_active 0x231 (write 2 1 5 ∷ nop 0 0 ∷ [])) 7 (Ws 5 13360 (5 ∷ []))
    ∷ reports grade_133 7500 (up_active 0x237 (write 2 1 5 ∷ nop 0 0 ∷ [])) 7 (Ws 5 13360 (5 ∷ []))
    ∷ reports grade_133 7500 (up_active 0x30 (write 2 1 7173 ∷ [])) 6 (Ws 5 13360 (1029 ∷ []))
    -- the row is A12 to A0 of the last ACTIVE of the burst's own bank
    ∷ reports grade_133 7500 (up 0x30 (active 1 1 8191 ∷ active 1 2 8 ∷ write 2 1 0 ∷ [])) 7 (W 6 13362 1 8191 0 255 ∷ [])
    -- a burst keeps the mode of its registration: CL 3, though CL 2 is loaded before its beats
    ∷ reports no_minima 7500 (up_active 0x32 (read 2 1 0 ∷ nop 0 0 ∷ precharge 0 1 ∷ load 0 0x21 ∷ nops 3 [])) 12
    (R 8 13363 1 7 0 255 ∷ R 9 13364 1 7 1 0 ∷ [])
    ∷ []

-- those, which rule comes first (`OrderCases`), and each minimum with each command (`MinimaCases`)
pub further_right :
    (found (cases_by whole_run further) ≡ expected (cases_by whole_run further))
    × (found (cases_by whole_run all_orders) ≡ expected (cases_by whole_run all_orders))
    × (found all_minima ≡ expected all_minima)
unfolding module_of length_of beat_column has_beat write_beat read_beat finished masks_on masks_after reads_from bus_after beat_on bursts_finished driven bus_clear allowed banks_found of_closing of_any of_active of_access of_precharged of_precharge of_idle events minima every_rules place_rules minimum_rules mode_rules bus_rules command_rules rules ask startup_after beat core_from core_after bank_after commanded mark_banks banks_after next run
further_right = (refl, refl, refl)
