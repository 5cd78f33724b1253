-- The first of three tests that holds, as a number: 3 where none does. Assumes nothing.
use Prim.Native.Nat.{ℕ}
use native.Mathlib.Omega.{arith}
use mathlib.Core.Path.{◌≡◌, refl, ap, sym, ◌∙◌}
use mathlib.Core.Bool.{Bool, true, false, cond}

abbrev pub first_of : Bool → Bool → Bool → ℕ
first_of p q r = cond p 0 (cond q 1 (cond r 2 3))

module _ (p q r : Bool) (i : ℕ) (e : i ≡ first_of p q r) where
  pub is_first : i ≡ 0 → p ≡ true
  is_first h = go p (sym e ∙ h)
    where
      go : (p : Bool) → first_of p q r ≡ 0 → p ≡ true
      go true x = refl
      go false x = absurd (later q r x)
        where
          later : (q r : Bool) → ◌≡◌ {A = ℕ} (cond q 1 (cond r 2 3)) 0 → ⊥
          later true r x = omega (arith, x)
          later false true x = omega (arith, x)
          later false false x = omega (arith, x)

  not_first : (i ≡ 0 → ⊥) → p ≡ false
  not_first h = go p refl
    where
      go : (x : Bool) → p ≡ x → p ≡ false
      go true t = absurd (h (e ∙ ap (λ (y : Bool). first_of y q r) t))
      go false t = t

  pub is_second : (i ≡ 0 → ⊥) → i ≡ 1 → (p ≡ false) × (q ≡ true)
  is_second h g = (not_first h, go q refl)
    where
      at : i ≡ cond q 1 (cond r 2 3)
      at = e ∙ ap (λ (y : Bool). first_of y q r) (not_first h)

      two : (r : Bool) → ◌≡◌ {A = ℕ} (cond r 2 3) 1 → ⊥
      two true x = omega (arith, x)
      two false x = omega (arith, x)

      go : (x : Bool) → q ≡ x → q ≡ true
      go true t = t
      go false t = absurd (two r (sym (at ∙ ap (λ (y : Bool). cond y 1 (cond r 2 3)) t) ∙ g))

  not_second : (i ≡ 0 → ⊥) → (i ≡ 1 → ⊥) → q ≡ false
  not_second h g = go q refl
    where
      at : i ≡ cond q 1 (cond r 2 3)
      at = e ∙ ap (λ (y : Bool). first_of y q r) (not_first h)

      go : (x : Bool) → q ≡ x → q ≡ false
      go true t = absurd (g (at ∙ ap (λ (y : Bool). cond y 1 (cond r 2 3)) t))
      go false t = t

  pub is_third : (i ≡ 0 → ⊥) → (i ≡ 1 → ⊥) → i ≡ 2 → (p ≡ false) × (q ≡ false) × (r ≡ true)
  is_third h g k = (not_first h, not_second h g, go r refl)
    where
      at : i ≡ cond r 2 3
      at = e ∙ (λ j. first_of (not_first h j) (not_second h g j) r)

      go : (x : Bool) → r ≡ x → r ≡ true
      go true t = t
      go false t = let z : ◌≡◌ {A = ℕ} 3 2 = sym (at ∙ ap (λ (y : Bool). cond y 2 3) t) ∙ k in absurd (omega (arith, z))

  pub is_none : (i ≡ 0 → ⊥) → (i ≡ 1 → ⊥) → (i ≡ 2 → ⊥) → (p ≡ false) × (q ≡ false) × (r ≡ false)
  is_none h g k = (not_first h, not_second h g, go r refl)
    where
      at : i ≡ cond r 2 3
      at = e ∙ (λ j. first_of (not_first h j) (not_second h g j) r)

      go : (x : Bool) → r ≡ x → r ≡ false
      go true t = absurd (k (at ∙ ap (λ (y : Bool). cond y 2 3) t))
      go false t = t
