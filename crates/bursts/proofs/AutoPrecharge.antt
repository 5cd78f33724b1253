-- When an auto precharge burst is finished (01, Commands): by subtraction, as the code does it. Assumes nothing.
use Prim.Native.Nat.{ℕ, ◌-◌, ◌≤◌, ◌<◌}
use mathlib.Core.Path.{◌≡◌}
use mathlib.Core.Bool.{true, false, ◌&&◌}
use lib.Dec.{leb}
use Rattle.units.specs.declared.Clock.{Clock}
use Rattle.units.proofs.Subtraction.{leb_ahead, leb_since}
use Rattle.bursts.specs.declared.Burst.{Burst}
use Rattle.bursts.specs.Burst.{finished}

module _ (length : ℕ) (n : Clock) (b : Burst) where
  pub none_is_finished : (b.live && b.auto) ≡ false → true ≡ finished length n b
  unfolding finished
  none_is_finished h = rw h

  pub unfinished_ahead : (b.live && b.auto) ≡ true → n.0 < b.start.0 → false ≡ finished length n b
  unfolding finished
  unfinished_ahead a h = rw (a, leb_ahead n.0 b.start.0 length h)

  pub finished_since : (b.live && b.auto) ≡ true → b.start.0 ≤ n.0 → leb length (n.0 - b.start.0) ≡ finished length n b
  unfolding finished
  finished_since a h = rw (a, leb_since n.0 b.start.0 length h)
