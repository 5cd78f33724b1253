-- The printed case of document 01, from its 144 bytes. Assumes nothing.
use Rattle.std.specs.Prelude.{ℕ, ◌≡◌, refl, List, [], ◌∷◌, ◌++◌, replicate, Ok}
use Rattle.units.specs.Time.{clock}
use Rattle.speed.specs.Table.{table_fits}
use Rattle.units.specs.Module.{module_of}
use Rattle.layout.specs.Commands.{column_on}
use Rattle.layout.specs.Bytes.{has_pins, lane_masks, header_from, read_header, record_from, records_of}
use Rattle.mode.specs.Word.{length_of}
use Rattle.mode.specs.Order.{beat_column}
use Rattle.bursts.specs.declared.Beat.TheVariants.{Quiet, Stores}
use Rattle.bursts.specs.Burst.{has_beat, write_beat, read_beat, finished}
use Rattle.bursts.specs.Bus.{masks_on, masks_after, reads_from, bus_after, beat_on, bursts_finished, driven, bus_clear}
use Rattle.page.specs.Store.{put_lanes, stored}
use Rattle.facts.specs.Cases.{with_133}
use Rattle.rules.specs.StartUp.{allowed}
use Rattle.rules.specs.Banks.{banks_found}
use Rattle.rules.specs.Minima.{of_closing, of_any, of_active, of_access, of_precharged, of_precharge, of_idle, events, minima}
use Rattle.rules.specs.Rules.{every_rules, place_rules, minimum_rules, mode_rules, bus_rules, command_rules, rules, ask}
use Rattle.rules.specs.After.{
  startup_after,
  beat,
  core_from,
  core_after,
  bank_after,
  commanded,
  mark_banks,
  banks_after,
  next,
}
use Rattle.rules.specs.Run.{Line, run, page_after}
use Rattle.hawsehole.specs.Trace.{Judged, judge, whole_rules, lent_rules}

-- "Header: period 7,500, count 8, grade 2, bank 1, row 7", and the eight records; the WRITE's and the NOP's data as given
abbrev pub bytes : List ℕ → List ℕ → List ℕ
bytes first second =
    (1 ∷ 0 ∷ 29 ∷ 76 ∷ 0 ∷ 8 ∷ 2 ∷ 64 ∷ 14 ∷ 0 ∷ 0 ∷ 0 ∷ 0 ∷ 0 ∷ 0 ∷ 0 ∷ [])
    -- PRECHARGE ALL, 13,334 skipped
    ++ (0 ∷ 52 ∷ 22 ∷ 144 ∷ 64 ∷ 15 ∷ 240 ∷ 0 ∷ 0 ∷ 0 ∷ 0 ∷ 0 ∷ 0 ∷ 0 ∷ 0 ∷ 0 ∷ [])
    -- AUTO REFRESH, 2
    ++ (0 ∷ 0 ∷ 2 ∷ 136 ∷ 0 ∷ 15 ∷ 240 ∷ 0 ∷ 0 ∷ 0 ∷ 0 ∷ 0 ∷ 0 ∷ 0 ∷ 0 ∷ 0 ∷ [])
    -- AUTO REFRESH, 8
    ++ (0 ∷ 0 ∷ 8 ∷ 136 ∷ 0 ∷ 15 ∷ 240 ∷ 0 ∷ 0 ∷ 0 ∷ 0 ∷ 0 ∷ 0 ∷ 0 ∷ 0 ∷ 0 ∷ [])
    -- LOAD MODE 0031, 8
    ++ (0 ∷ 0 ∷ 8 ∷ 128 ∷ 3 ∷ 31 ∷ 240 ∷ 0 ∷ 0 ∷ 0 ∷ 0 ∷ 0 ∷ 0 ∷ 0 ∷ 0 ∷ 0 ∷ [])
    -- ACTIVE bank 1 row 7, 1
    ++ (0 ∷ 0 ∷ 1 ∷ 154 ∷ 0 ∷ 127 ∷ 240 ∷ 0 ∷ 0 ∷ 0 ∷ 0 ∷ 0 ∷ 0 ∷ 0 ∷ 0 ∷ 0 ∷ [])
    -- WRITE bank 1 column 5, masks 00, 2
    ++ (0 ∷ 0 ∷ 2 ∷ 162 ∷ 0 ∷ 80 ∷ 0 ∷ 0 ∷ [])
    ++ first
    -- NOP, masks F0, 0
    ++ (0 ∷ 0 ∷ 0 ∷ 184 ∷ 0 ∷ 15 ∷ 0 ∷ 0 ∷ [])
    ++ second
    -- PRECHARGE bank 1, 1
    ++ (0 ∷ 0 ∷ 1 ∷ 146 ∷ 0 ∷ 15 ∷ 240 ∷ 0 ∷ 0 ∷ 0 ∷ 0 ∷ 0 ∷ 0 ∷ 0 ∷ 0 ∷ 0 ∷ [])

abbrev zeros : List ℕ
zeros = replicate 8 0

abbrev quiet_on : ℕ → Line
quiet_on n = record { clock = clock n; beat = Quiet }

abbrev stores_on : ℕ → ℕ → ℕ → Line
stores_on n column lanes =
    record { clock = clock n; beat = Stores (record { bank = 1; row = 7; column = column; lanes = lanes }) }

-- "W 5 13360 1 7 5 ff", "W 6 13361 1 7 4 0f", "OK 8": a line for each record, the beats on those of records 5 and 6
abbrev printed_lines : List Line
printed_lines =
    quiet_on 13334
    ∷ quiet_on 13337
    ∷ quiet_on 13346
    ∷ quiet_on 13355
    ∷ quiet_on 13357
    ∷ stores_on 13360 5 0xff
    ∷ stores_on 13361 4 0x0f
    ∷ quiet_on 13363
    ∷ []

-- a page of FF, with these bytes of column 4's lanes 0 to 3 and of column 5
abbrev pub page_with : List ℕ → List ℕ → List ℕ
page_with fourth fifth = replicate 32 255 ++ fourth ++ replicate 4 255 ++ fifth ++ replicate 16336 255

abbrev pub clean : List ℕ → Judged
clean page = record { verdict = Ok tt; reported = 8; lines = printed_lines; page = page }

-- THE PRINTED CASE: "DQ bits not named are 0", over a page of FF so that each stored byte shows
pub printed : judge with_133 (bytes zeros zeros) (replicate 16384 255) ≡ clean (page_with (replicate 4 0) (replicate 8 0))
unfolding module_of column_on has_pins lane_masks judge whole_rules lent_rules table_fits header_from read_header record_from records_of length_of beat_column has_beat write_beat read_beat finished masks_on masks_after reads_from bus_after beat_on bursts_finished driven bus_clear put_lanes stored allowed banks_found of_closing of_any of_active of_access of_precharged of_precharge of_idle events minima every_rules place_rules minimum_rules mode_rules bus_rules command_rules rules ask startup_after beat core_from core_after bank_after commanded mark_banks banks_after next run page_after
printed = refl

-- the same with data: lane 0 is the record's last byte
pub printed_data :
    judge with_133 (bytes (8 ∷ 7 ∷ 6 ∷ 5 ∷ 4 ∷ 3 ∷ 2 ∷ 1 ∷ []) (24 ∷ 23 ∷ 22 ∷ 21 ∷ 20 ∷ 19 ∷ 18 ∷ 17 ∷ [])) (replicate 16384 255)
    ≡ clean (page_with (17 ∷ 18 ∷ 19 ∷ 20 ∷ []) (1 ∷ 2 ∷ 3 ∷ 4 ∷ 5 ∷ 6 ∷ 7 ∷ 8 ∷ []))
unfolding module_of column_on has_pins lane_masks judge whole_rules lent_rules table_fits header_from read_header record_from records_of length_of beat_column has_beat write_beat read_beat finished masks_on masks_after reads_from bus_after beat_on bursts_finished driven bus_clear put_lanes stored allowed banks_found of_closing of_any of_active of_access of_precharged of_precharge of_idle events minima every_rules place_rules minimum_rules mode_rules bus_rules command_rules rules ask startup_after beat core_from core_after bank_after commanded mark_banks banks_after next run page_after
printed_data = refl
