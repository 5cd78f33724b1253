-- Each of the banks, as the code walks them. Assumes nothing.
use Rattle.std.specs.List.{list_all}
use mathlib.Core.Path.{◌≡◌, refl}
use mathlib.Core.Bool.{Bool}
use mathlib.Core.List.{List, [], ◌∷◌}
use Rattle.rules.specs.declared.Bank.{Bank}
use Rattle.rules.specs.Banks.{every}

pub every_bank : (f : Bank → Bool) (bs : List Bank) → list_all f bs ≡ every f bs
every_bank f [] = refl
every_bank f (b ∷ bs) = rw (every_bank f bs)
