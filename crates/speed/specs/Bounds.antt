-- The bounds of a table that number 6 passes, as facts. Definitions only.
use Rattle.std.specs.Prelude.{◌≤◌}
use Rattle.speed.specs.declared.SpeedTable.{SpeedTable}
use Rattle.speed.specs.Table.{time_max, tmrd_max}

pub record Bounds (t : SpeedTable) : Type 0 where
  pub tck2 : t.tck2.0 ≤ time_max
  pub tck3 : t.tck3.0 ≤ time_max
  pub trasmin : t.trasmin.0 ≤ time_max
  pub trasmax : t.trasmax.0 ≤ time_max
  pub trc : t.trc.0 ≤ time_max
  pub trcd : t.trcd.0 ≤ time_max
  pub trp : t.trp.0 ≤ time_max
  pub trrd : t.trrd.0 ≤ time_max
  pub trfc : t.trfc.0 ≤ time_max
  pub twr : t.twr.0 ≤ time_max
  pub addition : t.addition.0 ≤ time_max
  pub interval : t.interval.0 ≤ time_max
  pub tmrd : t.tmrd.0 ≤ tmrd_max
  pub min_max : t.trasmin.0 ≤ t.trasmax.0
