-- The bytes that a beat leaves in a page, by cases from 01, Trace layout and Beats, and 02, K9. Assumes nothing.
use Rattle.std.specs.Prelude.{ℕ, ◌-◌, ◌≡◌, refl, Bool, ◌&&◌, List, [], ◌∷◌, ◌++◌, eqb, T, length, drop, replicate}
use Rattle.units.specs.declared.Module.{Module}
use Rattle.units.specs.declared.Module.TheVariants.{Bench, Handheld}
use Rattle.units.specs.Facts.{all_true, same_numbers}
use Rattle.bursts.specs.declared.Cells.{Cells}
use Rattle.bursts.specs.declared.Beat.{Beat}
use Rattle.bursts.specs.declared.Beat.TheVariants.{Quiet, Stores, Drives}
use Rattle.page.specs.Store.{put_lanes, put_cells, stored}

-- ── One column's lanes ──

-- lanes of column 3, of bank 1 and row 7
abbrev column_3 : ℕ → Cells
column_3 low = record { bank = 1; row = 7; column = 3; lanes = low }

-- what these lanes of column 3 leave, with each lane's number as its data
abbrev left : Module → ℕ → List ℕ
left m low = put_cells m (column_3 low) 0x0807060504030201 (replicate 40 0)

-- "Column c, lane i is page byte 8c+i"
pub bench_lanes : left Bench 0xff ≡ (replicate 24 0 ++ (1 ∷ 2 ∷ 3 ∷ 4 ∷ 5 ∷ 6 ∷ 7 ∷ 8 ∷ []) ++ replicate 8 0)
unfolding put_lanes
bench_lanes = refl

pub bench_two_lanes : left Bench 0x81 ≡ (replicate 24 0 ++ (1 ∷ 0 ∷ 0 ∷ 0 ∷ 0 ∷ 0 ∷ 0 ∷ 8 ∷ []) ++ replicate 8 0)
unfolding put_lanes
bench_two_lanes = refl

-- "256 columns of two": page byte 2c+i, and no lane beyond the second
pub handheld_lanes : left Handheld 0xff ≡ (replicate 6 0 ++ (1 ∷ 2 ∷ []) ++ replicate 32 0)
unfolding put_lanes
handheld_lanes = refl

pub handheld_one_lane : left Handheld 0x02 ≡ (replicate 6 0 ++ (0 ∷ 2 ∷ []) ++ replicate 32 0)
unfolding put_lanes
handheld_one_lane = refl

-- ── A beat ──

-- the page watched is that of bank 1, row 7, and holds 255 in each byte; DQ is 0x0807060504030201
abbrev after : Module → ℕ → Beat → List ℕ
after m bytes beat = stored m 1 7 0x0807060504030201 beat (replicate bytes 255)

abbrev cells : ℕ → ℕ → ℕ → ℕ → Cells
cells bank row column lanes = record { bank = bank; row = row; column = column; lanes = lanes }

-- of the start of a page of 24 bytes this is left; the rest stays 255
abbrev leaves : Module → Beat → List ℕ → Bool
leaves m beat start =
    same_numbers (after m 24 beat) (start ++ replicate (24 - length start) 255)

-- nothing is stored
abbrev keeps : Module → Beat → Bool
keeps m beat = leaves m beat []

-- of a whole page of so many bytes these are the last, its length stays, and the byte before them is 255
abbrev ends : Module → ℕ → Beat → ℕ → List ℕ → Bool
ends m bytes beat before last =
    let p = after m bytes beat in
    eqb (length p) bytes && same_numbers (drop before p) (255 ∷ last)

abbrev pub beat_facts : List Bool
beat_facts =
    -- the watched bank and row, and not another: one bit of each differs
    leaves Bench (Stores (cells 1 7 0 0xff)) (1 ∷ 2 ∷ 3 ∷ 4 ∷ 5 ∷ 6 ∷ 7 ∷ 8 ∷ [])
    ∷ keeps Bench (Stores (cells 0 7 0 0xff))
    ∷ keeps Bench (Stores (cells 2 7 0 0xff))
    ∷ keeps Bench (Stores (cells 3 7 0 0xff))
    ∷ keeps Bench (Stores (cells 1 6 0 0xff))
    ∷ keeps Bench (Stores (cells 1 8 0 0xff))
    ∷ keeps Bench (Stores (cells 1 4_103 0 0xff))
    ∷ keeps Bench (Stores (cells 7 1 0 0xff))
    -- a READ's beat stores nothing, nor does a clock without a beat
    ∷ keeps Bench (Drives (cells 1 7 0 0xff))
    ∷ keeps Bench Quiet
    -- "Lane i is DQ(8i) to DQ(8i+7)": each lane alone, and none
    ∷ leaves Bench (Stores (cells 1 7 0 0x01)) (1 ∷ [])
    ∷ leaves Bench (Stores (cells 1 7 0 0x02)) (255 ∷ 2 ∷ [])
    ∷ leaves Bench (Stores (cells 1 7 0 0x04)) (255 ∷ 255 ∷ 3 ∷ [])
    ∷ leaves Bench (Stores (cells 1 7 0 0x08)) (255 ∷ 255 ∷ 255 ∷ 4 ∷ [])
    ∷ leaves Bench (Stores (cells 1 7 0 0x10)) (255 ∷ 255 ∷ 255 ∷ 255 ∷ 5 ∷ [])
    ∷ leaves Bench (Stores (cells 1 7 0 0x20)) (255 ∷ 255 ∷ 255 ∷ 255 ∷ 255 ∷ 6 ∷ [])
    ∷ leaves Bench (Stores (cells 1 7 0 0x40)) (255 ∷ 255 ∷ 255 ∷ 255 ∷ 255 ∷ 255 ∷ 7 ∷ [])
    ∷ leaves Bench (Stores (cells 1 7 0 0x80)) (255 ∷ 255 ∷ 255 ∷ 255 ∷ 255 ∷ 255 ∷ 255 ∷ 8 ∷ [])
    ∷ keeps Bench (Stores (cells 1 7 0 0x00))
    -- all lanes but one
    ∷ leaves Bench (Stores (cells 1 7 0 0xfe)) (255 ∷ 2 ∷ 3 ∷ 4 ∷ 5 ∷ 6 ∷ 7 ∷ 8 ∷ [])
    ∷ leaves Bench (Stores (cells 1 7 0 0x7f)) (1 ∷ 2 ∷ 3 ∷ 4 ∷ 5 ∷ 6 ∷ 7 ∷ [])
    -- "Column c, lane i is page byte 8c+i": column 1, and the last column's lanes are the page's last bytes
    ∷ leaves Bench (Stores (cells 1 7 1 0x41)) (255 ∷ 255 ∷ 255 ∷ 255 ∷ 255 ∷ 255 ∷ 255 ∷ 255 ∷ 1 ∷ 255 ∷ 255 ∷ 255 ∷ 255 ∷ 255 ∷ 7 ∷ [])
    ∷ ends Bench 16_384 (Stores (cells 1 7 2_047 0xff)) 16_375 (1 ∷ 2 ∷ 3 ∷ 4 ∷ 5 ∷ 6 ∷ 7 ∷ 8 ∷ [])
    ∷ ends Bench 16_384 (Stores (cells 1 7 2_047 0x80)) 16_382 (8 ∷ [])
    ∷ ends Bench 16_384 (Stores (cells 1 7 2_046 0x80)) 16_374 (8 ∷ replicate 8 255)
    -- 02, K9, "256 columns of two": page byte 2c+i
    ∷ leaves Handheld (Stores (cells 1 7 0 0x03)) (1 ∷ 2 ∷ [])
    ∷ leaves Handheld (Stores (cells 1 7 0 0x01)) (1 ∷ [])
    ∷ leaves Handheld (Stores (cells 1 7 1 0x02)) (255 ∷ 255 ∷ 255 ∷ 2 ∷ [])
    ∷ keeps Handheld (Stores (cells 2 7 0 0x03))
    ∷ keeps Handheld (Stores (cells 1 6 0 0x03))
    ∷ keeps Handheld (Drives (cells 1 7 0 0x03))
    ∷ keeps Handheld Quiet
    ∷ ends Handheld 512 (Stores (cells 1 7 255 0x03)) 509 (1 ∷ 2 ∷ [])
    -- bank 0 and row 0 are watched like any other
    ∷ same_numbers (stored Bench 0 0 0x2a (Stores (cells 0 0 0 0x01)) (replicate 2 255)) (0x2a ∷ 255 ∷ [])
    ∷ same_numbers (stored Bench 0 0 0x2a (Stores (cells 1 7 0 0x01)) (replicate 2 255)) (255 ∷ 255 ∷ [])
    -- a byte is eight bits: 0xff beside 0x00
    ∷ same_numbers (stored Bench 0 0 0xff00ff00ff00ff00 (Stores (cells 0 0 0 0xff)) (replicate 8 9)) (0 ∷ 255 ∷ 0 ∷ 255 ∷ 0 ∷ 255 ∷ 0 ∷ 255 ∷ [])
    ∷ []

pub beats_right : T (all_true beat_facts)
unfolding put_lanes stored
beats_right = tt
