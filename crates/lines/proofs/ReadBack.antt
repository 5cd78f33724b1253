-- A number's digits, read back, give the number: 20 are enough for 64 bits. Assumes nothing.
use Prim.Native.Nat.{ℕ, zero, suc, ◌+◌, ◌-◌, ◌*◌, ◌/◌, ◌%◌, ◌^◌, ◌<◌}
use mathlib.Core.Path.{◌≡◌, refl}
use mathlib.Core.Bool.{Bool, true, false}
use mathlib.Core.List.{List, [], ◌∷◌, ◌++◌}
use native.Mathlib.Nat.{pow-suc}
use native.Mathlib.Omega.{arith}
use borrow.Author.Tests.{lt-ltb, ltb-true}
use lib.Dec.{ltb}
use Rattle.lines.specs.Text.{glyph, digits, decimal}

-- what digits mean, after the number v
abbrev pub value_from : ℕ → List ℕ → ℕ
value_from v [] = v
value_from v (digit ∷ more) = value_from (10 * v + (digit - 48)) more

one_more : (v : ℕ) (front : List ℕ) (digit : ℕ) → value_from v (front ++ (digit ∷ [])) ≡ 10 * value_from v front + (digit - 48)
one_more v [] digit = refl
one_more v (d ∷ front) digit = one_more (10 * v + (d - 48)) front digit

digit_value : (d : ℕ) → d < 10 → glyph d - 48 ≡ d
unfolding glyph
digit_value d h = rw (lt-ltb d 10 h) (omega arith)

digits_read : (k n : ℕ) → n < 10 ^ k → value_from 0 (digits k n) ≡ n
unfolding digits
digits_read zero n h = let none : n ≡ 0 = omega arith in rw none
digits_read (suc k) n h = go (ltb n 10) refl (digits_read k (n / 10))
  where
    go : (b : Bool) → ltb n 10 ≡ b → (n / 10 < 10 ^ k → value_from 0 (digits k (n / 10)) ≡ n / 10) → value_from 0 (digits (suc k) n) ≡ n
    go true p ih = rw p (let s : n < 10 = ltb-true n 10 p in omega (arith, digit_value n s))
    go false p ih =
        let s : n / 10 < 10 ^ k = omega (arith, pow-suc 10 k) in
        rw (p, one_more 0 (digits k (n / 10)) (glyph (n % 10)), ih s) (omega (arith, digit_value (n % 10) (omega arith)))

pub decimal_reads : (n : ℕ) → n < 2 ^ 64 → value_from 0 (decimal n) ≡ n
decimal_reads n h = digits_read 20 n (omega arith)
