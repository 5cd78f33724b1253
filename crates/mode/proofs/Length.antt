-- The length of a burst is a power of two, at most the row's columns; so a beat's column keeps to its block. Assumes nothing.
use Prim.Native.Nat.{ℕ, zero, suc, ◌+◌, ◌-◌, ◌%◌, ◌^◌, ◌<◌}
use mathlib.Core.Path.{◌≡◌, refl}
use mathlib.Core.Bool.{true, false}
use mathlib.Core.List.{[], ◌∷◌}
use native.Mathlib.Nat.{mod-lt, mod-eq_of_lt, add-mod-mod}
use native.Mathlib.Omega.{arith}
use lib.Bits.{bit_and, bit_xor, and_mask, xor_lt}
use lib.ListN.{get_or}
use lib.Pow.{pow_pos}
use Rattle.units.specs.Module.{bench_columns}
use Rattle.mode.specs.Word.{length_of, interleaved}
use Rattle.mode.specs.Order.{in_block}

-- the length of M2 to M0 = k
abbrev length_at : ℕ → ℕ
length_at k = get_or (1 ∷ 2 ∷ 4 ∷ 8 ∷ []) k bench_columns

-- the exponent of the length of M2 to M0 = k
exponent : ℕ → ℕ
exponent k = get_or (0 ∷ 1 ∷ 2 ∷ 3 ∷ []) k 11

length_is_power : (w : ℕ) → length_of w ≡ 2 ^ exponent (w % 8)
unfolding length_of exponent
length_is_power w = go (w % 8)
  where
    go : (k : ℕ) → length_at k ≡ 2 ^ exponent k
    go zero = refl
    go (suc zero) = refl
    go (suc (suc zero)) = refl
    go (suc (suc (suc zero))) = refl
    go (suc (suc (suc (suc k)))) = refl

pub length_is_positive : (w : ℕ) → 0 < length_of w
length_is_positive w = rw length_is_power (pow_pos (exponent (w % 8)))

-- so a column's place in its block is its lowest bits
pub place_by_mask : (w c : ℕ) → bit_and c (length_of w - 1) ≡ c % length_of w
place_by_mask w c = rw length_is_power (and_mask c (exponent (w % 8)))

-- sequential: a beat number modulo the length leaves the sum modulo the length
pub sequential_place : (w s i : ℕ) → interleaved w ≡ false → (s + i % length_of w) % length_of w ≡ in_block w s i
sequential_place w s i h = rw h (add-mod-mod _ _ _)

-- 003, Burst Length: "All accesses for that burst take place within this block"
pub stays_in_block : (w s i : ℕ) → in_block w s i < length_of w
stays_in_block w s i = mod-lt _ (length_is_positive w)

-- and to an exclusive or with a beat of the burst the modulo does nothing
pub interleaved_is_exclusive_or :
    (w s i : ℕ) → interleaved w ≡ true → s < length_of w → i < length_of w → in_block w s i ≡ bit_xor s i
interleaved_is_exclusive_or w s i h p q =
    rw h (mod-eq_of_lt (rw length_is_power (xor_lt (exponent (w % 8)) s i (rw length_is_power at p) (rw length_is_power at q))))

-- the blocks divide 2^16, so a beat's column stays in the 16 bits of its burst's column
pub column_fits : (w c i : ℕ) → c < 65536 → c - c % length_of w + in_block w (c % length_of w) i < 65536
unfolding length_of
column_fits w c i p = go (w % 8) _ (stays_in_block w (c % length_of w) i)
  where
    go : (k x : ℕ) → x < length_at k → c - c % length_at k + x < 65536
    go zero x q = omega arith
    go (suc zero) x q = omega arith
    go (suc (suc zero)) x q = omega arith
    go (suc (suc (suc zero))) x q = omega arith
    go (suc (suc (suc (suc k)))) x q = omega arith
