-- What decoding a mode word shows of it. Assumes nothing.
use Rattle.std.specs.Prelude.{Option, None, Some}
use Prim.Native.Nat.{ℕ}
use native.Mathlib.Omega.{arith}
use mathlib.Core.Path.{◌≡◌, refl, ap, ◌∙◌}
use mathlib.Core.Bool.{Bool, true, false, cond}
use lib.Dec.{eqb}
use Rattle.units.specs.declared.Module.{Module}
use Rattle.mode.specs.declared.Mode.{Mode}
use Rattle.mode.specs.Word.{well_formed, legal, mode_of, decoded, decoded_number}

-- number 0 is given exactly to a word that is well formed
number_zero : (x : Bool) (m : Mode) → eqb (decoded_number (cond x (Some m) None)) 0 ≡ x
number_zero true m = refl
number_zero false m = refl

pub legal_is : (g : Module) (w : ℕ) → legal g w ≡ well_formed g w
legal_is g w = number_zero (well_formed g w) (mode_of w)

pub record Shown (g : Module) (w : ℕ) (m : Mode) : Type 0 where
  pub legal : legal g w ≡ true
  pub mode : m ≡ mode_of w

pub known : (g : Module) (w : ℕ) (m : Mode) → decoded g w ≡ Some m → Shown g w m
known g w m h = go (well_formed g w) refl h
  where
    go : (x : Bool) → well_formed g w ≡ x → cond x (Some (mode_of w)) None ≡ Some m → Shown g w m
    go true e h = record { legal = legal_is g w ∙ e; mode = cc }
    go false e h = let z : ◌≡◌ {A = ℕ} 0 1 = cc in absurd (omega arith)

pub reserved : (g : Module) (w : ℕ) → decoded g w ≡ None → legal g w ≡ false
reserved g w h = ap (λ (d : Option Mode). eqb (decoded_number d) 0) h
