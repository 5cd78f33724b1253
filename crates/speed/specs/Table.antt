-- The speed tables of the two grades, and the bounds of any table (01, Speed table). Definitions only.
use Rattle.std.specs.Prelude.{ℕ, Bool, ◌&&◌, cond, leb, eqb}
use Rattle.units.specs.declared.Ps.{Ps}
use Rattle.units.specs.Time.{clock, time, by}
use Rattle.speed.specs.declared.SpeedTable.{SpeedTable}

-- thirteen numbers in the order of the paper's table, read row by row
abbrev pub table : ℕ → ℕ → ℕ → ℕ → ℕ → ℕ → ℕ → ℕ → ℕ → ℕ → ℕ → ℕ → ℕ → SpeedTable
table tck2 tck3 trasmin trasmax trc trcd trp trrd trfc twr addition interval tmrd =
    record {
      tck2 = time tck2;
      tck3 = time tck3;
      trasmin = time trasmin;
      trasmax = time trasmax;
      trc = time trc;
      trcd = time trcd;
      trp = time trp;
      trrd = time trrd;
      trfc = time trfc;
      twr = time twr;
      addition = time addition;
      interval = time interval;
      tmrd = clock tmrd;
    }

-- the column "-13E"
abbrev pub grade_13E : SpeedTable
grade_13E = table 7_500 7_000 37_000 120_000_000 60_000 15_000 15_000 14_000 66_000 14_000 7_000 7_812_500 2

-- the column "-133"; its auto precharge addition by note 24 of 003
abbrev pub grade_133 : SpeedTable
grade_133 = table 10_000 7_500 44_000 120_000_000 66_000 20_000 20_000 15_000 66_000 15_000 7_500 7_812_500 2

-- "speed grade (1 = -13E, 2 = -133)"
abbrev pub of_grade : ℕ → SpeedTable
of_grade g = cond (eqb g 1) grade_13E grade_133

-- "each time 0 to 200,000,000"
abbrev pub time_max : ℕ
time_max = 200_000_000

-- "tMRD 0 to 15"
abbrev pub tmrd_max : ℕ
tmrd_max = 15

abbrev pub time_fits : Ps → Bool
time_fits p = leb p.0 time_max

-- the bounds of a table; "tRAS min not above max"
unfoldable pub table_fits : SpeedTable → Bool
table_fits t =
    time_fits t.tck2
    && time_fits t.tck3
    && time_fits t.trasmin
    && time_fits t.trasmax
    && time_fits t.trc
    && time_fits t.trcd
    && time_fits t.trp
    && time_fits t.trrd
    && time_fits t.trfc
    && time_fits t.twr
    && time_fits t.addition
    && time_fits t.interval
    && leb t.tmrd.0 tmrd_max
    && by t.trasmin t.trasmax
