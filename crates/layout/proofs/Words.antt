-- A word of a slice is its bytes, read one by one. Assumes nothing.
use Prim.Native.Nat.{ℕ, zero, suc, ◌+◌, ◌≤◌}
use mathlib.Core.Path.{◌≡◌, refl, ap, sym, ◌∙◌}
use mathlib.Core.List.{List, [], ◌∷◌}
use native.Mathlib.Omega.{arith}
use mathlib.Core.Bool.{cond}
use lib.Dec.{leb}
use borrow.Author.Tests.{le-leb}
use lib.ListN.{length, take, drop, get_or, length-drop}
use lib.Seq.{drop-cons, length-take-le, take-take}
use Rattle.layout.specs.Bytes.{number_after, word_at}

-- k bytes from place i on, each by its index
abbrev pub indexed : ℕ → List ℕ → ℕ → List ℕ
indexed zero s i = []
indexed (suc k) s i = get_or s i 0 ∷ indexed k s (suc i)

taken_is_indexed : (k : ℕ) (s : List ℕ) (i : ℕ) → i + k ≤ length s → take k (drop i s) ≡ indexed k s i
taken_is_indexed zero s i h = refl
taken_is_indexed (suc k) s i h =
    ap (take (suc k)) (drop-cons s i 0 (omega arith))
    ∙ ap (λ (l : List ℕ). get_or s i 0 ∷ l) (taken_is_indexed k s (suc i) (omega arith))

-- where there are eight bytes, the first word is their number
pub word_is_indexed : (s : List ℕ) (r : ℕ) → 8 ≤ length s → r ≡ number_after 0 (indexed 8 s 0)
    → r ≡ cond (leb 8 (length s)) (word_at s 0) 0
word_is_indexed s r long e =
    rw (le-leb 8 (length s) long) (e ∙ ap (number_after 0) (sym (taken_is_indexed 8 s 0 (omega arith))))

-- the two words of 16 bytes, as what `first_word` answers of them and of their second half
word_here : (s : List ℕ) (r : ℕ) → 8 ≤ length s → r ≡ cond (leb 8 (length s)) (word_at s 0) 0 → r ≡ word_at s 0
word_here s r h e = e ∙ simp (le-leb 8 (length s) h)

pub first_of_two : (s : List ℕ) (r : ℕ) → 16 ≤ length s → r ≡ cond (leb 8 (length s)) (word_at s 0) 0 → r ≡ word_at s 0
first_of_two s r h e = word_here s r (omega arith) e

pub second_of_two : (s : List ℕ) (r : ℕ) → 16 ≤ length s
    → r ≡ cond (leb 8 (length (take 8 (drop 8 s)))) (word_at (take 8 (drop 8 s)) 0) 0
    → r ≡ word_at s 8
second_of_two s r h e =
    let half : 8 ≤ length (drop 8 s) = simp length-drop (omega arith) in
    word_here (take 8 (drop 8 s)) r (omega (arith, length-take-le 8 (drop 8 s) half)) e
    ∙ ap (number_after 0) (take-take 8 8 (drop 8 s) (omega arith))
