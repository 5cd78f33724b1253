-- A table that number 6 passes has its bounds. Assumes nothing.
use mathlib.Core.Path.{◌≡◌}
use mathlib.Core.Bool.{true}
use borrow.Author.Tests.{leb-true}
use Rattle.units.proofs.Both.{both}
use Rattle.speed.specs.declared.SpeedTable.{SpeedTable}
use Rattle.speed.specs.Table.{table_fits}
use Rattle.speed.specs.Bounds.{Bounds}

pub bounds : (t : SpeedTable) → table_fits t ≡ true → Bounds t
unfolding table_fits
bounds t h =
    let last = both _ _ h in
    let tmrd = both _ _ last.0 in
    let interval = both _ _ tmrd.0 in
    let addition = both _ _ interval.0 in
    let twr = both _ _ addition.0 in
    let trfc = both _ _ twr.0 in
    let trrd = both _ _ trfc.0 in
    let trp = both _ _ trrd.0 in
    let trcd = both _ _ trp.0 in
    let trc = both _ _ trcd.0 in
    let trasmax = both _ _ trc.0 in
    let trasmin = both _ _ trasmax.0 in
    let tck3 = both _ _ trasmin.0 in
    record {
      tck2 = leb-true _ _ tck3.0;
      tck3 = leb-true _ _ tck3.1;
      trasmin = leb-true _ _ trasmin.1;
      trasmax = leb-true _ _ trasmax.1;
      trc = leb-true _ _ trc.1;
      trcd = leb-true _ _ trcd.1;
      trp = leb-true _ _ trp.1;
      trrd = leb-true _ _ trrd.1;
      trfc = leb-true _ _ trfc.1;
      twr = leb-true _ _ twr.1;
      addition = leb-true _ _ addition.1;
      interval = leb-true _ _ interval.1;
      tmrd = leb-true _ _ tmrd.1;
      min_max = leb-true _ _ last.1;
    }
