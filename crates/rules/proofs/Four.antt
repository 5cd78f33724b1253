-- Recursions on the four banks, as the code writes them out. Assumes nothing.
use native.Mathlib.Omega.{arith}
use mathlib.Core.Path.{◌≡◌, refl, ap, ◌∙◌}
use mathlib.Core.Bool.{Bool, ◌&&◌, ◌||◌, and-true, or-false}
use mathlib.Core.List.{List, [], ◌∷◌}
use lib.ListN.{length}
use Rattle.std.specs.List.{list_any}
use Rattle.rules.specs.declared.Bank.{Bank}
use Rattle.rules.specs.Banks.{bank_at, every}

-- a list of four is its elements
pub four : (l : List Bank) → length l ≡ 4 → l ≡ (bank_at l 0 ∷ bank_at l 1 ∷ bank_at l 2 ∷ bank_at l 3 ∷ [])
four [] h = absurd (omega arith)
four (a ∷ []) h = absurd (omega arith)
four (a ∷ b ∷ []) h = absurd (omega arith)
four (a ∷ b ∷ c ∷ []) h = absurd (omega arith)
four (a ∷ b ∷ c ∷ d ∷ []) h = refl
four (a ∷ b ∷ c ∷ d ∷ e ∷ l) h = absurd (omega arith)

-- a test of each bank in turn
pub every_four : (f : Bank → Bool) (l : List Bank) → length l ≡ 4
    → every f l ≡ (f (bank_at l 0) && (f (bank_at l 1) && (f (bank_at l 2) && f (bank_at l 3))))
every_four f l h = ap (every f) (four l h) ∙ simp and-true

-- whether one of them passes a test
pub any_four : (f : Bank → Bool) (l : List Bank) → length l ≡ 4
    → list_any f l ≡ (f (bank_at l 0) || (f (bank_at l 1) || (f (bank_at l 2) || f (bank_at l 3))))
any_four f l h = ap (list_any f) (four l h) ∙ simp or-false
