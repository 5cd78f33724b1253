-- The two modules by their data sheets, and the grades of each; clocks, times and events. Assumes nothing.
use Rattle.std.specs.Prelude.{ℕ, ◌*◌, ◌^◌, ◌≡◌, refl, Bool, true, false, not, List, [], ◌∷◌, eqb, T, None, Some}
use Rattle.units.specs.declared.Module.{Module}
use Rattle.units.specs.declared.Module.TheVariants.{Bench, Handheld}
use Rattle.units.specs.declared.Clock.{Clock}
use Rattle.units.specs.Module.{banks, rows, columns, bench_columns, lanes, has_full_page, page_bytes, module_of}
use Rattle.units.specs.Time.{clock, time, at, clocks_after, plus, later, by, occurred, clocks_of, lasts}
use Rattle.units.specs.Facts.{all_true, same_numbers}

-- ── The modules ──

abbrev sizes : Module → List ℕ
sizes m = banks ∷ rows m ∷ columns m ∷ lanes m ∷ page_bytes m ∷ []

-- the bytes of a module
abbrev bytes : Module → ℕ
bytes m = banks * rows m * page_bytes m

-- 01: "4 banks, 8,192 rows, 2,048 columns, 8 byte lanes", and its page; 003, table 2: 8K rows (A0 to A12), 2K columns (A0 to A9, A11)
pub bench_sizes : sizes Bench ≡ (4 ∷ 8_192 ∷ 2_048 ∷ 8 ∷ 16_384 ∷ [])
bench_sizes = refl

-- 003, table 2: 512MB
pub bench_bytes : bytes Bench ≡ 512 * 2 ^ 20
bench_bytes = refl

-- "Full page wraps at 2,048 columns"
pub bench_wraps : bench_columns ≡ 2_048
bench_wraps = refl

-- 004, table 1: 4 banks, 4K rows (A0 to A11), 256 columns (A0 to A7), x16, "67,108,864 bits"; and 02's page
pub handheld_sizes : sizes Handheld ≡ (4 ∷ 4_096 ∷ 256 ∷ 2 ∷ 512 ∷ [])
handheld_sizes = refl

pub handheld_bits : 8 * bytes Handheld ≡ 67_108_864
handheld_bits = refl

-- 01: "7 means full page"; 02, K9: "no full page"
pub full_pages : (has_full_page Bench ∷ has_full_page Handheld ∷ []) ≡ (true ∷ false ∷ [])
full_pages = refl

abbrev modules : List ℕ → List Module
modules [] = []
modules (grade ∷ more) = module_of grade ∷ modules more

-- 01: grades 1 and 2 are the bench's; 02, K9: 3 and 4 are the handheld's. Number 4 lets no other pass; 0, 5 and 255 have a value too
pub grades :
    modules (0 ∷ 1 ∷ 2 ∷ 3 ∷ 4 ∷ 5 ∷ 255 ∷ []) ≡ (Bench ∷ Bench ∷ Bench ∷ Handheld ∷ Handheld ∷ Handheld ∷ Handheld ∷ [])
unfolding module_of
grades = refl

-- ── Clocks, times and events ──

abbrev numbers : List Clock → List ℕ
numbers [] = []
numbers (n ∷ more) = n.0 ∷ numbers more

abbrev pub times : List Bool
times =
    eqb (clock 7).0 7
    ∷ eqb (time 7).0 7
    -- "a count of n clocks lasts n times the period": P1's two clocks about 100,000,000 ps, and P11's two about the refresh interval
    ∷ eqb (at (time 7_500) (clock 13_333)).0 99_997_500
    ∷ eqb (at (time 7_500) (clock 13_334)).0 100_005_000
    ∷ eqb (at (time 7_500) (clock 1_041)).0 7_807_500
    ∷ eqb (at (time 7_500) (clock 1_042)).0 7_815_000
    -- clock 0 stands at 0 ps; the last clock and the longest period, "exactly in ps"
    ∷ eqb (at (time 7_500) (clock 0)).0 0
    ∷ eqb (at (time 7_500) (clock 1)).0 7_500
    ∷ eqb (at (time 65_535) (clock 1_099_511_627_776)).0 72_056_494_526_300_160
    -- the same for every clock and period: up to 2^25 clocks past 2^40 and 65,535 ps, and 0 beyond
    ∷ eqb (lasts (clock 13_334) (time 7_500)).0 100_005_000
    ∷ eqb (lasts (clock 1_099_545_182_208) (time 65_535)).0 72_058_693_516_001_280
    ∷ eqb (lasts (clock 1_099_545_182_209) (time 65_535)).0 0
    ∷ eqb (lasts (clock 13_334) (time 65_536)).0 0
    -- "the previous clock plus its skipped count plus 1"
    ∷ eqb (clocks_after (clock 13_334) 3).0 13_337
    ∷ eqb (clocks_after (clock 13_334) 0).0 13_334
    -- a time so many ps after another: P8's store and its tWR
    ∷ eqb (plus (time 100_222_500) (time 15_000)).0 100_237_500
    ∷ eqb (plus (time 100_222_500) (time 0)).0 100_222_500
    ∷ eqb (plus (time 0) (time 15_000)).0 15_000
    -- "the later of", either way round
    ∷ eqb (later (time 44_000) (time 44_001)).0 44_001
    ∷ eqb (later (time 44_001) (time 44_000)).0 44_001
    ∷ eqb (later (time 44_000) (time 44_000)).0 44_000
    -- no later than: one before, the same, one after
    ∷ by (time 19_999) (time 20_000)
    ∷ by (time 20_000) (time 20_000)
    ∷ not (by (time 20_001) (time 20_000))
    ∷ by (time 0) (time 0)
    ∷ not (by (time 1) (time 0))
    -- an event, and the clocks on which it stands; one on clock 0 has occurred
    ∷ not (occurred None)
    ∷ occurred (Some (clock 0))
    ∷ occurred (Some (clock 9))
    ∷ same_numbers (numbers (clocks_of None)) []
    ∷ same_numbers (numbers (clocks_of (Some (clock 0)))) (0 ∷ [])
    ∷ same_numbers (numbers (clocks_of (Some (clock 9)))) (9 ∷ [])
    ∷ []

pub times_right : T (all_true times)
unfolding lasts
times_right = tt
