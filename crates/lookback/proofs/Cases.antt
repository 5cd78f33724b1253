-- By looking back: the whole traces of the tables in `facts`, P1 to P12 among them, and the printed case from its bytes.
use Prim.Native.Nat.{ℕ}
use mathlib.Core.Path.{◌≡◌, refl}
use mathlib.Core.List.{List, [], ◌∷◌}
use lib.ListN.{replicate}
use Rattle.units.specs.Time.{time}
use Rattle.units.specs.Module.{module_of}
use Rattle.speed.specs.declared.SpeedTable.{SpeedTable}
use Rattle.speed.specs.Table.{table_fits}
use Rattle.layout.specs.declared.Record.{Record}
use Rattle.layout.specs.Bytes.{has_pins, lane_masks, header_from, read_header, record_from, records_of}
use Rattle.layout.specs.Commands.{column_on}
use Rattle.mode.specs.Word.{length_of}
use Rattle.mode.specs.Order.{beat_column}
use Rattle.bursts.specs.Cases.{found, expected}
use Rattle.page.specs.Store.{put_lanes, stored}
use Rattle.rules.specs.StartUp.{allowed}
use Rattle.rules.specs.Banks.{banks_found}
use Rattle.rules.specs.Minima.{of_closing, of_any, of_active, of_access, of_precharged, of_precharge, of_idle, events, minima}
use Rattle.rules.specs.Rules.{every_rules, place_rules, minimum_rules, mode_rules, bus_rules, command_rules, rules}
use Rattle.rules.specs.Run.{Run, page_after}
use Rattle.facts.specs.Cases.{cases_by, with_133, bench}
use Rattle.facts.specs.FurtherCases.{further}
use Rattle.facts.specs.OrderCases.{all_orders}
use Rattle.rules.specs.declared.Refusal.TheVariants.{WrongPage}
use Rattle.hawsehole.specs.Trace.{refused, whole_rules, lent_rules}
use Rattle.hawsehole.specs.Printed.{bytes, page_with, clean}
use Rattle.lookback.specs.Past.{masks_at}
use Rattle.lookback.specs.Bursts.{write_on, read_on, finished_in}
use Rattle.lookback.specs.Beats.{beat_in, stored_in, drives_in, clear_in}
use Rattle.lookback.specs.Look.{look, look_run}
use Rattle.lookback.specs.Trace.{look_judge}

-- the judge that keeps no state
abbrev looking_back : SpeedTable → ℕ → List Record → Run
looking_back t period rs = look_run (record { table = t }) (module_of 2) (time period) [] rs

pub look_right :
    (found (cases_by looking_back bench) ≡ expected (cases_by looking_back bench))
    × (found (cases_by looking_back further) ≡ expected (cases_by looking_back further))
    × (found (cases_by looking_back all_orders) ≡ expected (cases_by looking_back all_orders))
unfolding module_of length_of beat_column allowed banks_found of_closing of_any of_active of_access of_precharged of_precharge of_idle events minima every_rules place_rules minimum_rules mode_rules bus_rules command_rules rules masks_at write_on read_on finished_in beat_in stored_in drives_in clear_in look look_run
look_right = (refl, refl, refl)

-- THE PRINTED CASE, from its 144 bytes, over a page of FF; 7 where the page is a byte short
pub printed_back :
    (look_judge with_133 (bytes (8 ∷ 7 ∷ 6 ∷ 5 ∷ 4 ∷ 3 ∷ 2 ∷ 1 ∷ []) (24 ∷ 23 ∷ 22 ∷ 21 ∷ 20 ∷ 19 ∷ 18 ∷ 17 ∷ []))
    (replicate 16384 255)
    ≡ clean (page_with (17 ∷ 18 ∷ 19 ∷ 20 ∷ []) (1 ∷ 2 ∷ 3 ∷ 4 ∷ 5 ∷ 6 ∷ 7 ∷ 8 ∷ [])))
    × (look_judge with_133 (bytes (replicate 8 0) (replicate 8 0)) (replicate 16383 255) ≡ refused WrongPage (replicate 16383 255))
unfolding module_of column_on has_pins lane_masks whole_rules lent_rules table_fits header_from read_header record_from records_of length_of beat_column put_lanes stored page_after allowed banks_found of_closing of_any of_active of_access of_precharged of_precharge of_idle events minima every_rules place_rules minimum_rules mode_rules bus_rules command_rules rules masks_at write_on read_on finished_in beat_in stored_in drives_in clear_in look look_run look_judge
printed_back = (refl, refl)
