-- A record's two words, read a turn ahead, are those of its 16 bytes. Assumes nothing.
use Prim.Native.Nat.{ℕ, ◌*◌, ◌-◌, ◌≤◌, ◌<◌}
use native.Mathlib.Omega.{arith}
use mathlib.Core.Path.{◌≡◌, refl, ap, sym, ◌∙◌}
use mathlib.Core.List.{List, [], ◌∷◌}
use lib.ListN.{length, take, drop, length-drop}
use lib.Seq.{take_all, take-take}
use borrow.Author.Tests.{le-leb, lt-leb}
use Rattle.units.specs.declared.Module.{Module}
use Rattle.layout.specs.Bytes.{number_after, word_at, record_from, record_of}
use Rattle.device.specs.declared.Words.{Words}
use Rattle.device.specs.InPlace.{words_ahead}

pub words_here : (s : List ℕ) → 16 ≤ length s → words_ahead s ≡ record { first = word_at s 0; second = word_at s 8 }
unfolding words_ahead
words_here s h = rw (le-leb 16 (length s) h)

pub words_none : (s : List ℕ) → length s < 16 → words_ahead s ≡ record { first = 0; second = 0 }
unfolding words_ahead
words_none s h = rw (lt-leb 16 (length s) h)

second_half : (l : List ℕ) → drop 8 (take 16 l) ≡ take 8 (drop 8 l)
second_half [] = refl
second_half (a ∷ []) = refl
second_half (a ∷ b ∷ []) = refl
second_half (a ∷ b ∷ c ∷ []) = refl
second_half (a ∷ b ∷ c ∷ d ∷ []) = refl
second_half (a ∷ b ∷ c ∷ d ∷ e ∷ []) = refl
second_half (a ∷ b ∷ c ∷ d ∷ e ∷ f ∷ []) = refl
second_half (a ∷ b ∷ c ∷ d ∷ e ∷ f ∷ g ∷ []) = refl
second_half (a ∷ b ∷ c ∷ d ∷ e ∷ f ∷ g ∷ h ∷ l) = refl

of_sixteen : (m : Module) (l : List ℕ) → record_from m (word_at l 0) (word_at l 8) ≡ record_of m (take 16 l)
of_sixteen m l =
    let p : word_at l 0 ≡ word_at (take 16 l) 0 = ap (number_after 0) (sym (take-take 8 16 l (omega arith))) in
    let q : word_at l 8 ≡ word_at (take 16 l) 8 = ap (number_after 0) (sym (ap (take 8) (second_half l) ∙ take-take 8 8 (drop 8 l) (omega arith))) in
    λ i. record_from m (p i) (q i)

-- record k of so many
pub words_read : (m : Module) (k count : ℕ) (s : List ℕ) {w : Words} → length s ≡ 16 * count → k < count → w ≡ words_ahead (drop (16 * k) s)
    → record_from m w.first w.second ≡ record_of m (take 16 (drop (16 * k) s))
words_read m k count s {w} h l e =
    let long : 16 ≤ length (drop (16 * k) s) = simp length-drop (omega arith) in
    ap (λ (x : Words). record_from m x.first x.second) (e ∙ words_here (drop (16 * k) s) long) ∙ of_sixteen m (drop (16 * k) s)

pub next_read : (m : ℕ) (s : List ℕ) {w : Words} → w ≡ words_ahead (take (length s - m) (drop m s)) → w ≡ words_ahead (drop m s)
next_read m s e =
    let short : length (drop m s) ≤ length s - m = simp length-drop (omega arith) in
    e ∙ ap words_ahead (take_all (length s - m) (drop m s) short)
