-- Beat lines, laid part by part and pair by pair. Assumes nothing.
use Prim.Native.Nat.{ℕ, zero, suc, ◌+◌, ◌/◌, ◌≤◌, ◌<◌}
use native.Mathlib.Numerals.{add-one}
use mathlib.Core.Path.{◌≡◌, refl, ap, sym}
use mathlib.Core.List.{List, [], ◌∷◌, ◌++◌}
use native.Mathlib.Omega.{arith}
use lib.ListN.{length, drop, get_or, drop_of_length-le}
use lib.Seq.{drop-cons}
use Rattle.std.specs.Simd.{first_chunks}
use Rattle.lines.specs.Text.{hex, fields, beat_line, beat_text, beat_lines}
use Rattle.lines.specs.Place.{Laid, put, lay}
use Rattle.lines.proofs.Laying.{lay_append}

pub line_parts : (letter : ℕ) (ns : List ℕ) (lanes : ℕ) (l : Laid)
    → put 10 (lay (hex lanes) (put 32 (lay (fields ns) (put letter l)))) ≡ lay (beat_line letter ns lanes) l
unfolding beat_line lay
line_parts letter ns lanes l =
    rw (lay_append (fields ns) (32 ∷ hex lanes ++ (10 ∷ [])) (put letter l))

-- ── The words of all records ──

-- the lines of records k, k + 1, .., from two words each
pub record_lines : ℕ → List (List ℕ) → List ℕ
record_lines k [] = []
record_lines k (pair ∷ more) = beat_text k (get_or pair 0 0) (get_or pair 1 0) ++ record_lines (k + 1) more

-- by twos, the words are the records'
records_from : (words : List ℕ) (k n : ℕ) → n ≡ length words / 2 → beat_lines k words ≡ record_lines k (first_chunks 2 n words)
unfolding beat_lines record_lines
records_from [] k zero h = refl
records_from [] k (suc n) h = absurd (omega arith)
records_from (word ∷ []) k zero h = refl
records_from (word ∷ []) k (suc n) h = absurd (omega arith)
records_from (word ∷ clock ∷ more) k zero h = absurd (omega arith)
records_from (word ∷ clock ∷ more) k (suc n) h = ap (λ (text : List ℕ). beat_text k word clock ++ text) (records_from more (k + 1) n (omega arith))

pub records_of : (words : List ℕ) (l : Laid) → lay (record_lines 0 (first_chunks 2 (length words / 2) words)) l ≡ lay (beat_lines 0 words) l
records_of words l = ap (λ (text : List ℕ). lay text l) (sym (records_from words 0 (length words / 2) refl))

pub record_turn : (records : List (List ℕ)) (k : ℕ) (l : Laid) → k < length records
    → lay (record_lines k (drop k records)) l
    ≡ lay (record_lines (k + 1) (drop (k + 1) records)) (lay (beat_text k (get_or (get_or records k []) 0 0) (get_or (get_or records k []) 1 0)) l)
unfolding record_lines
record_turn records k l h = rw (drop-cons records k [] h, add-one k) (lay_append _ _ l)

pub records_done : (records : List (List ℕ)) (k : ℕ) (l : Laid) → length records ≤ k → lay (record_lines k (drop k records)) l ≡ l
unfolding lay record_lines
records_done records k l h = rw (drop_of_length-le records h)
