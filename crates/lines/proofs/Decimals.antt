-- A number's digits, laid one after the other. Assumes nothing.
use Prim.Native.Nat.{ℕ, zero, suc, ◌-◌, ◌/◌, ◌%◌, ◌≤◌, ◌<◌}
use mathlib.Core.Path.{◌≡◌, refl}
use mathlib.Core.List.{[], ◌∷◌}
use native.Mathlib.Omega.{arith}
use borrow.Author.Tests.{lt-ltb, le-ltb}
use Rattle.lines.specs.Text.{glyph, digits}
use Rattle.lines.specs.Place.{Laid, put, lay}
use Rattle.lines.proofs.Laying.{lay_append, lay_one}

module _ (n : ℕ) (l : Laid) where
  pub no_place : (k : ℕ) → k ≡ 0 → l ≡ lay (digits k n) l
  unfolding digits lay
  no_place zero h = refl
  no_place (suc k) h = absurd (omega arith)

  pub one_digit : (k : ℕ) → (k ≡ 0 → ⊥) → n < 10 → put (glyph n) l ≡ lay (digits k n) l
  unfolding digits lay
  one_digit zero h s = absurd (h refl)
  one_digit (suc k) h s = rw (lt-ltb n 10 s)

  pub more_digits : (k : ℕ) → (k ≡ 0 → ⊥) → 10 ≤ n → put (glyph (n % 10)) (lay (digits (k - 1) (n / 10)) l) ≡ lay (digits k n) l
  unfolding digits
  more_digits zero h s = absurd (h refl)
  more_digits (suc k) h s =
      let less : suc k - 1 ≡ k = omega arith in
      rw (less, le-ltb n 10 s, lay_append (digits k (n / 10)) (glyph (n % 10) ∷ []) l, lay_one)
