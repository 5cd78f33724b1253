-- The lanes of a column, stored one after the other. Assumes nothing.
use Prim.Native.Nat.{ℕ, zero, suc, ◌+◌, ◌-◌, ◌/◌, ◌%◌, ◌≤◌, ◌<◌}
use mathlib.Core.Path.{◌≡◌}
use mathlib.Core.Bool.{cond}
use mathlib.Core.List.{List}
use native.Mathlib.Omega.{arith}
use lib.Dec.{eqb}
use lib.ListN.{set}
use Rattle.page.specs.Store.{put_lanes}

module _ (at end low dq : ℕ) (page : List ℕ) where
  -- where lanes are left, the first is stored, and the others follow
  pub first_lane : at < end
      → put_lanes (end - at) at low dq page ≡ put_lanes (end - (at + 1)) (at + 1) (low / 2) (dq / 256) (cond (eqb (low % 2) 1) (set page at (dq % 256)) page)
  unfolding put_lanes
  first_lane h =
      let left : end - at ≡ suc (end - (at + 1)) = omega arith in
      rw left

  -- where none are left, the page stays
  pub no_lane : end ≤ at → put_lanes (end - at) at low dq page ≡ page
  unfolding put_lanes
  no_lane h =
      let left : end - at ≡ zero = omega arith in
      rw left
