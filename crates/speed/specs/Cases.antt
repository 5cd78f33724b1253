-- The speed tables number by number, and the bounds of any table from both sides (01, Speed table). Assumes nothing.
use Rattle.std.specs.Prelude.{ℕ, Bool, not, List, [], ◌∷◌, T}
use Rattle.units.specs.Facts.{all_true, same_numbers}
use Rattle.speed.specs.declared.SpeedTable.{SpeedTable}
use Rattle.speed.specs.Table.{table, grade_13E, grade_133, of_grade, table_fits}

-- ── The two columns ──

-- a table's numbers by their names, in the order of 01's table: "tCK at CL 2 / CL 3", "tRAS min / max", ..
abbrev numbers : SpeedTable → List ℕ
numbers t =
    t.tck2.0
    ∷ t.tck3.0
    ∷ t.trasmin.0
    ∷ t.trasmax.0
    ∷ t.trc.0
    ∷ t.trcd.0
    ∷ t.trp.0
    ∷ t.trrd.0
    ∷ t.trfc.0
    ∷ t.twr.0
    ∷ t.addition.0
    ∷ t.interval.0
    ∷ t.tmrd.0
    ∷ []

-- the column "-13E"
abbrev column_13E : List ℕ
column_13E =
    7_500
    ∷ 7_000
    ∷ 37_000
    ∷ 120_000_000
    ∷ 60_000
    ∷ 15_000
    ∷ 15_000
    ∷ 14_000
    ∷ 66_000
    ∷ 14_000
    ∷ 7_000
    ∷ 7_812_500
    ∷ 2
    ∷ []

-- the column "-133"; "its note 24 says 7.5 ns for -133, and the note decides"
abbrev column_133 : List ℕ
column_133 =
    10_000
    ∷ 7_500
    ∷ 44_000
    ∷ 120_000_000
    ∷ 66_000
    ∷ 20_000
    ∷ 20_000
    ∷ 15_000
    ∷ 66_000
    ∷ 15_000
    ∷ 7_500
    ∷ 7_812_500
    ∷ 2
    ∷ []

abbrev pub columns : List Bool
columns =
    same_numbers (numbers grade_13E) column_13E
    ∷ same_numbers (numbers grade_133) column_133
    -- "1 = -13E, 2 = -133"
    ∷ same_numbers (numbers (of_grade 1)) column_13E
    ∷ same_numbers (numbers (of_grade 2)) column_133
    -- thirteen numbers that differ, each at its own place
    ∷ same_numbers (numbers (table 1 2 3 4 5 6 7 8 9 10 11 12 13)) (1 ∷ 2 ∷ 3 ∷ 4 ∷ 5 ∷ 6 ∷ 7 ∷ 8 ∷ 9 ∷ 10 ∷ 11 ∷ 12 ∷ 13 ∷ [])
    ∷ []

pub columns_right : T (all_true columns)
columns_right = tt

-- ── The bounds ──

abbrev pub bounds : List Bool
bounds =
    -- both columns, and "0 to": all zeros
    table_fits grade_13E
    ∷ table_fits grade_133
    ∷ table_fits (table 0 0 0 0 0 0 0 0 0 0 0 0 0)
    -- "each time 0 to 200,000,000, tMRD 0 to 15": all at their upper ends, so each is let up to there
    ∷ table_fits
    (table
    200_000_000
    200_000_000
    200_000_000
    200_000_000
    200_000_000
    200_000_000
    200_000_000
    200_000_000
    200_000_000
    200_000_000
    200_000_000
    200_000_000
    15)
    -- each alone at its end, and one above it: tCK at CL 2 and at CL 3
    ∷ table_fits (table 200_000_000 0 0 0 0 0 0 0 0 0 0 0 0)
    ∷ not (table_fits (table 200_000_001 0 0 0 0 0 0 0 0 0 0 0 0))
    ∷ table_fits (table 0 200_000_000 0 0 0 0 0 0 0 0 0 0 0)
    ∷ not (table_fits (table 0 200_000_001 0 0 0 0 0 0 0 0 0 0 0))
    -- tRAS min, which needs a tRAS max as long; then tRAS max
    ∷ table_fits (table 0 0 200_000_000 200_000_000 0 0 0 0 0 0 0 0 0)
    ∷ not (table_fits (table 0 0 200_000_001 200_000_001 0 0 0 0 0 0 0 0 0))
    ∷ table_fits (table 0 0 0 200_000_000 0 0 0 0 0 0 0 0 0)
    ∷ not (table_fits (table 0 0 0 200_000_001 0 0 0 0 0 0 0 0 0))
    -- tRC, tRCD, tRP, tRRD, tRFC, tWR
    ∷ table_fits (table 0 0 0 0 200_000_000 0 0 0 0 0 0 0 0)
    ∷ not (table_fits (table 0 0 0 0 200_000_001 0 0 0 0 0 0 0 0))
    ∷ table_fits (table 0 0 0 0 0 200_000_000 0 0 0 0 0 0 0)
    ∷ not (table_fits (table 0 0 0 0 0 200_000_001 0 0 0 0 0 0 0))
    ∷ table_fits (table 0 0 0 0 0 0 200_000_000 0 0 0 0 0 0)
    ∷ not (table_fits (table 0 0 0 0 0 0 200_000_001 0 0 0 0 0 0))
    ∷ table_fits (table 0 0 0 0 0 0 0 200_000_000 0 0 0 0 0)
    ∷ not (table_fits (table 0 0 0 0 0 0 0 200_000_001 0 0 0 0 0))
    ∷ table_fits (table 0 0 0 0 0 0 0 0 200_000_000 0 0 0 0)
    ∷ not (table_fits (table 0 0 0 0 0 0 0 0 200_000_001 0 0 0 0))
    ∷ table_fits (table 0 0 0 0 0 0 0 0 0 200_000_000 0 0 0)
    ∷ not (table_fits (table 0 0 0 0 0 0 0 0 0 200_000_001 0 0 0))
    -- the auto precharge addition, the refresh interval, tMRD
    ∷ table_fits (table 0 0 0 0 0 0 0 0 0 0 200_000_000 0 0)
    ∷ not (table_fits (table 0 0 0 0 0 0 0 0 0 0 200_000_001 0 0))
    ∷ table_fits (table 0 0 0 0 0 0 0 0 0 0 0 200_000_000 0)
    ∷ not (table_fits (table 0 0 0 0 0 0 0 0 0 0 0 200_000_001 0))
    ∷ table_fits (table 0 0 0 0 0 0 0 0 0 0 0 0 15)
    ∷ not (table_fits (table 0 0 0 0 0 0 0 0 0 0 0 0 16))
    -- "tRAS min not above max": one below, equal, one above; both 0, and 1 above 0
    ∷ table_fits (table 0 0 119_999_999 120_000_000 0 0 0 0 0 0 0 0 0)
    ∷ table_fits (table 0 0 120_000_000 120_000_000 0 0 0 0 0 0 0 0 0)
    ∷ not (table_fits (table 0 0 120_000_001 120_000_000 0 0 0 0 0 0 0 0 0))
    ∷ not (table_fits (table 0 0 1 0 0 0 0 0 0 0 0 0 0))
    ∷ []

pub bounds_right : T (all_true bounds)
unfolding table_fits
bounds_right = tt
