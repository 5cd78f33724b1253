-- A minimum of an admitted table fits beside a time in reach, and is short where now is below the sum. Assumes nothing.
use Prim.Native.Nat.{ℕ, ◌≤◌}
use native.Mathlib.Omega.{arith}
use mathlib.Core.Path.{◌≡◌, refl}
use mathlib.Core.Bool.{Bool, true, false, not}
use lib.Dec.{ltb, leb}
use borrow.Author.Tests.{leb-true, leb-false, lt-ltb, le-ltb}
use Rattle.units.specs.declared.Ps.{Ps}
use Rattle.speed.specs.Table.{time_max}
use Rattle.asking.specs.Shorts.{FitSpan}

pub span : {m : Ps} → m.0 ≤ time_max → FitSpan m
span h = omega arith

-- a test by `<` is the opposite of the one by `≤`
pub below : (a b : ℕ) → ltb b a ≡ not (leb a b)
below a b = go (leb a b) refl
  where
    go : (x : Bool) → leb a b ≡ x → ltb b a ≡ not (leb a b)
    go true e = rw (e, le-ltb b a (leb-true a b e))
    go false e = rw (e, lt-ltb b a (leb-false a b e))
