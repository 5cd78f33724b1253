-- Bytes joined by `|`, each in its own place, are the number that they write. Assumes nothing.
use Prim.Native.Nat.{ℕ, ◌+◌, ◌*◌, ◌^◌, ◌<◌}
use native.Mathlib.Nat.{add-mul, mul_assoc}
use native.Mathlib.Omega.{arith}
use mathlib.Core.Path.{◌≡◌, ap, sym, ◌∙◌}
use mathlib.Core.List.{[], ◌∷◌}
use lib.Bits.{bit_or, or_shifted}
use lib.Pow.{pow-add, shl_lt}
use Rattle.layout.specs.Bytes.{number_after}

-- one more byte, x, whose place is k bits up, right below that of the number m
next_byte : (k m x above : ℕ) → above ≡ m * 2 ^ (8 + k) → x < 256 → bit_or above (x * 2 ^ k) ≡ (m * 256 + x) * 2 ^ k
next_byte k m x above e h =
    ap (λ (y : ℕ). bit_or y (x * 2 ^ k)) e
    ∙ or_shifted m (8 + k) (x * 2 ^ k) (shl_lt 8 k h)
    ∙ ap (λ (y : ℕ). m * y + x * 2 ^ k) (pow-add 2 8 k)
    ∙ ap (λ (y : ℕ). y + x * 2 ^ k) (sym (mul_assoc m 256 (2 ^ k)))
    ∙ sym (add-mul (m * 256) x (2 ^ k))

-- eight bytes, the first in the highest place
pub eight_joined : (a b c d e f g h : ℕ) → b < 256 → c < 256 → d < 256 → e < 256 → f < 256 → g < 256 → h < 256
    → bit_or (bit_or (bit_or (bit_or (bit_or (bit_or (bit_or (a * 2 ^ 56) (b * 2 ^ 48)) (c * 2 ^ 40)) (d * 2 ^ 32)) (e * 2 ^ 24)) (f * 2 ^ 16)) (g * 2 ^ 8)) h
    ≡ number_after 0 (a ∷ b ∷ c ∷ d ∷ e ∷ f ∷ g ∷ h ∷ [])
eight_joined a b c d e f g h b-fits c-fits d-fits e-fits f-fits g-fits h_fits =
    let ab = next_byte 48 (number_after 0 (a ∷ [])) b (a * 2 ^ 56) (omega arith) b-fits in
    let abc = next_byte 40 (number_after 0 (a ∷ b ∷ [])) c _ ab c-fits in
    let abcd = next_byte 32 (number_after 0 (a ∷ b ∷ c ∷ [])) d _ abc d-fits in
    let abcde = next_byte 24 (number_after 0 (a ∷ b ∷ c ∷ d ∷ [])) e _ abcd e-fits in
    let abcdef = next_byte 16 (number_after 0 (a ∷ b ∷ c ∷ d ∷ e ∷ [])) f _ abcde f-fits in
    let abcdefg = next_byte 8 (number_after 0 (a ∷ b ∷ c ∷ d ∷ e ∷ f ∷ [])) g _ abcdef g-fits in
    ap (λ (above : ℕ). bit_or above h) abcdefg ∙ or_shifted (number_after 0 (a ∷ b ∷ c ∷ d ∷ e ∷ f ∷ g ∷ [])) 8 h h_fits
