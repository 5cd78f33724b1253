-- Text laid part by part. Assumes nothing.
use mathlib.Core.Path.{◌≡◌, refl, ap, sym, ◌∙◌}
use mathlib.Core.List.{List, [], ◌∷◌, ◌++◌}
use Prim.Native.Nat.{ℕ, suc, ◌+◌, ◌≤◌, ◌<◌}
use native.Mathlib.Numerals.{add-one}
use lib.ListN.{length, drop, get_or, drop_of_length-le}
use lib.Seq.{drop-cons}
use Rattle.lines.specs.Text.{field, fields}
use Rattle.lines.specs.Place.{Laid, laid, put, lay}

pub lay_append : (a b : List ℕ) (l : Laid) → lay (a ++ b) l ≡ lay b (lay a l)
unfolding lay
lay_append [] b l = refl
lay_append (byte ∷ a) b l = lay_append a b (put byte l)

pub lay_one : (byte : ℕ) (l : Laid) → lay (byte ∷ []) l ≡ put byte l
unfolding lay
lay_one byte l = refl

-- ONE ANSWER ONLY: a promise that says where a text was laid fixes the place after it and every byte of the buffer
pub laid_only : {l : Laid} {a b : List ℕ} {i j : ℕ} → laid a i ≡ l → laid b j ≡ l → (a ≡ b) × (i ≡ j)
laid_only h g = (ap (λ (l : Laid). l.buf) (h ∙ sym g), ap (λ (l : Laid). l.at) (h ∙ sym g))

-- ── Numbers, field by field ──

pub fields_turn : (ns : List ℕ) (i : ℕ) (l : Laid) → i < length ns → lay (fields (drop i ns)) l ≡ lay (fields (drop (i + 1) ns)) (lay (field (get_or ns i 0)) l)
unfolding fields
fields_turn ns i l h = rw (add-one, drop-cons ns i 0) (lay_append (field (get_or ns i 0)) (fields (drop (suc i) ns)) l)

pub fields_done : (ns : List ℕ) (i : ℕ) (l : Laid) → length ns ≤ i → lay (fields (drop i ns)) l ≡ l
unfolding lay fields
fields_done ns i l h = rw (drop_of_length-le ns h)
