-- Each of the READ bursts, as the code walks them. Assumes nothing.
use Rattle.std.specs.List.{list_all}
use mathlib.Core.Path.{◌≡◌, refl}
use mathlib.Core.List.{List, [], ◌∷◌}
use Rattle.units.specs.declared.Module.{Module}
use Rattle.bursts.specs.declared.Burst.{Burst}
use Rattle.rules.specs.Fits.{burst_fits, bursts_fit}

pub every_burst : (m : Module) (bs : List Burst) → list_all (burst_fits m) bs ≡ bursts_fit m bs
every_burst m [] = refl
every_burst m (b ∷ bs) = rw (every_burst m bs)
