-- What the grade in a trace's header fixes, by cases: the page's length, how a record is read, and where a byte is stored. From 01 and
-- 02, K9; no trace of grade 3 gets past number 4 today. Assumes nothing.
use Rattle.std.specs.Prelude.{ℕ, ◌≡◌, refl, List, [], ◌∷◌, ◌++◌, replicate}
use Rattle.units.specs.Module.{module_of}
use Rattle.units.specs.Time.{clock}
use Rattle.speed.specs.Table.{table_fits}
use Rattle.layout.specs.declared.Header.{Header}
use Rattle.layout.specs.declared.Record.{Record}
use Rattle.layout.specs.Commands.{column_on}
use Rattle.layout.specs.Bytes.{has_pins, lane_masks, header_from, record_from, records_of}
use Rattle.bursts.specs.declared.Beat.TheVariants.{Stores}
use Rattle.page.specs.Store.{put_lanes, stored}
use Rattle.facts.specs.Cases.{with_133}
use Rattle.rules.specs.Numbers.{number_of, first_broken}
use Rattle.rules.specs.Run.{Line, page_after}
use Rattle.hawsehole.specs.Trace.{lent_rules, records, page_of}

-- ── Number 7 ──

abbrev header : ℕ → Header
header grade = record { version = 1; period = 7500; count = 0; grade = grade; bank = 0; row = 0; zeros = 0 }

-- the number of a trace of this grade with a page of so many bytes, where 1 to 4 passed
abbrev number_by : ℕ → ℕ → ℕ
number_by grade lent = number_of (first_broken (lent_rules with_133 (header grade) lent))

-- "page not 16,384 bytes"; "The page is 512 bytes"
pub page_by_grade : (number_by 2 16_384 ∷ number_by 2 512 ∷ number_by 3 16_384 ∷ number_by 3 512 ∷ []) ≡ (0 ∷ 7 ∷ 7 ∷ 0 ∷ [])
unfolding module_of table_fits lent_rules
page_by_grade = refl

-- ── Records ──

-- a trace of one record, NOP with A12 HIGH and masks 03; it watches row 0 of bank 0
abbrev trace : ℕ → List ℕ
trace grade = (1 ∷ 0 ∷ 0x1d ∷ 0x4c ∷ 0 ∷ 1 ∷ grade ∷ 0 ∷ replicate 8 0) ++ (0 ∷ 0 ∷ 0 ∷ 0xb9 ∷ 0 ∷ 0 ∷ 0x30 ∷ 0 ∷ replicate 8 0)

-- zero bits and masks of each record
abbrev seen : List Record → List ℕ
seen [] = []
seen (r ∷ rs) = r.zeros ∷ r.masks ∷ seen rs

-- the bench has A12 and eight lanes, the handheld neither
pub read_by_grade : (seen (records (trace 2)) ++ seen (records (trace 3))) ≡ (0 ∷ 0x03 ∷ 1 ∷ 0xff ∷ [])
unfolding module_of column_on has_pins lane_masks header_from record_from records_of
read_by_grade = refl

-- ── The page ──

-- a beat of column 1 of that row, all lanes stored
abbrev beat_1 : List Line
beat_1 = record { clock = clock 0; beat = Stores (record { bank = 0; row = 0; column = 1; lanes = 255 }) } ∷ []

pub stored_by_grade :
    (page_of (trace 2) beat_1 (replicate 20 255) ++ page_of (trace 3) beat_1 (replicate 20 255))
    ≡ ((replicate 8 255 ++ replicate 8 0 ++ replicate 4 255) ++ (replicate 2 255 ++ replicate 2 0 ++ replicate 16 255))
unfolding module_of column_on has_pins lane_masks header_from record_from records_of put_lanes stored page_after
stored_by_grade = refl
