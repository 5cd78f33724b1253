-- What the module decides of a run, by cases: full page, and where a byte is stored. From 01 and 02, K9. Assumes nothing.
use Rattle.std.specs.Prelude.{ℕ, ◌≡◌, refl, List, [], ◌∷◌, ◌++◌, replicate}
use Rattle.units.specs.Module.{module_of}
use Rattle.units.specs.Time.{time}
use Rattle.layout.specs.declared.Record.{Record}
use Rattle.mode.specs.Word.{length_of}
use Rattle.mode.specs.Order.{beat_column}
use Rattle.bursts.specs.Burst.{has_beat, write_beat, read_beat, finished}
use Rattle.bursts.specs.Bus.{masks_on, masks_after, reads_from, bus_after, beat_on, bursts_finished, driven, bus_clear}
use Rattle.speed.specs.Table.{grade_133}
use Rattle.bursts.specs.Cases.{Row, found, expected}
use Rattle.page.specs.Store.{put_lanes, stored}
use Rattle.rules.specs.declared.State.{State}
use Rattle.rules.specs.Parts.{start}
use Rattle.rules.specs.StartUp.{allowed}
use Rattle.rules.specs.Banks.{banks_found}
use Rattle.rules.specs.Minima.{of_closing, of_any, of_active, of_access, of_precharged, of_precharge, of_idle, events, minima}
use Rattle.rules.specs.Rules.{every_rules, place_rules, minimum_rules, mode_rules, bus_rules, command_rules, rules, ask}
use Rattle.rules.specs.After.{
  startup_after,
  beat,
  core_from,
  core_after,
  bank_after,
  commanded,
  mark_banks,
  banks_after,
  next,
}
use Rattle.rules.specs.Run.{run, page_after}
use Rattle.rules.specs.Report.{lines_into, fold}
use Rattle.facts.specs.Cases.{write, up, up_active, Outcome, runs_from, with_133}

-- before the first record of a trace of this grade, which watches row 7 of bank 1
abbrev watching : ℕ → State
watching grade = start (time 7500) grade 1 7

-- with the table of -133
abbrev by_grade : ℕ → List Record → ℕ → ℕ → Row Outcome
by_grade grade rs number reported = runs_from grade_133 (watching grade) rs number 0 reported []

-- "7 means full page"; of the handheld, grades 3 and 4, "no full page", and 17 covers it
abbrev full_pages : List (Row Outcome)
full_pages =
    by_grade 1 (up 0x37 []) 0 4
    ∷ by_grade 2 (up 0x37 []) 0 4
    ∷ by_grade 3 (up 0x37 []) 17 3
    ∷ by_grade 4 (up 0x37 []) 17 3
    ∷ by_grade 3 (up 0x33 []) 0 4
    ∷ []

-- the start of the page after a WRITE of column 3 of that row with all masks LOW, over bytes of FF
abbrev page_by : ℕ → List ℕ
page_by grade = (fold with_133 (watching grade) (up_active 0x30 (write 2 1 3 ∷ [])) (replicate 40 255) []).page

-- full page by the module. "Column c, lane i is page byte 8c+i"; of the handheld "256 columns of two"
pub module_right :
    (found full_pages ≡ expected full_pages)
    × (page_by 2 ≡ (replicate 24 255 ++ replicate 8 0 ++ replicate 8 255))
    × (page_by 3 ≡ (replicate 6 255 ++ replicate 2 0 ++ replicate 32 255))
unfolding put_lanes stored page_after lines_into fold module_of length_of beat_column has_beat write_beat read_beat finished masks_on masks_after reads_from bus_after beat_on bursts_finished driven bus_clear allowed banks_found of_closing of_any of_active of_access of_precharged of_precharge of_idle events minima every_rules place_rules minimum_rules mode_rules bus_rules command_rules rules ask startup_after beat core_from core_after bank_after commanded mark_banks banks_after next run
module_right = (refl, refl, refl)
