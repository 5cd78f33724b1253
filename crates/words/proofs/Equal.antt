-- `same` is equality, and that of slices. Assumes nothing.
use Prim.Native.Nat.{ℕ}
use mathlib.Core.Path.{◌≡◌, refl, ap, sym, ◌∙◌}
use mathlib.Core.Bool.{Bool, true, false, ◌&&◌, true≢false, and-false, and-eq-true_iff}
use mathlib.Core.List.{List, [], ◌∷◌}
use lib.Dec.{eqb}
use lib.ListN.{length}
use lib.Pointwise.{pointwise}
use borrow.Author.Tests.{eq-eqb, eqb-true}
use Rattle.words.specs.Words.{same}

pub same_is : (a b : List ℕ) → same a b ≡ true → a ≡ b
unfolding same
same_is [] [] h = refl
same_is [] (y ∷ ys) h = absurd (true≢false (sym h))
same_is (x ∷ xs) [] h = absurd (true≢false (sym h))
same_is (x ∷ xs) (y ∷ ys) h =
    let k = (and-eq-true_iff (eqb x y) (same xs ys)).0 h in
    (λ j. eqb-true x y k.0 j ∷ same_is xs ys k.1 j)

pub same_self : (a : List ℕ) → same a a ≡ true
unfolding same
same_self [] = refl
same_self (x ∷ xs) = rw (eq-eqb x x refl) (same_self xs)

-- so is the equality of slices
pointwise_is : (a b : List ℕ) → pointwise eqb a b ≡ same a b
unfolding same
pointwise_is [] [] = refl
pointwise_is [] (y ∷ ys) = refl
pointwise_is (x ∷ xs) [] = refl
pointwise_is (x ∷ xs) (y ∷ ys) = ap (λ (r : Bool). eqb x y && r) (pointwise_is xs ys)

-- slices that are equal are as long, so their lengths need no test
pub equal_words : (a b : List ℕ) (n : ℕ) → length b ≡ n → pointwise eqb a b ≡ (eqb (length a) n && same a b)
equal_words a b n e = pointwise_is a b ∙ go (same a b) refl
  where
    go : (r : Bool) → same a b ≡ r → r ≡ (eqb (length a) n && r)
    go true h = rw (eq-eqb (length a) n (ap length (same_is a b h) ∙ e))
    go false h = sym (and-false (eqb (length a) n))
