-- Numbers that are stored one after another are a list put over a list. Assumes nothing.
use Prim.Native.Nat.{ℕ, suc, ◌+◌}
use native.Mathlib.Omega.{arith}
use mathlib.Core.Path.{◌≡◌, refl, ap, sym, subst, ◌∙◌}
use mathlib.Core.List.{List, [], ◌∷◌, ◌++◌}
use lib.ListN.{length, set, length-append}
use lib.Seq.{sets}
use Rattle.bursts.specs.declared.Burst.{Burst}
use Rattle.bursts.specs.declared.Bus.{Bus}
use Rattle.bursts.proofs.Four as bursts
use Rattle.rules.specs.declared.Bank.{Bank}
use Rattle.rules.specs.declared.State.{State}
use Rattle.rules.proofs.Four as banks
use Rattle.words.specs.Words.{state_words, head_numbers, bursts_numbers, bus_numbers, banks_numbers, words_of, put_words}

-- ── Lists that are put ──

-- two lists stored one after the other are stored as one
stored_after : (a b l : List ℕ) (i j : ℕ) → i + length a ≡ j → sets (sets l i a) j b ≡ sets l i (a ++ b)
stored_after [] b l i j e = let k : j ≡ i = omega (arith, e) in ap (λ (n : ℕ). sets l n b) k
stored_after (x ∷ a) b l i j e = stored_after a b (set l i x) (suc i) j (omega (arith, e))

none_held : (ws : List ℕ) (i : ℕ) → sets [] i ws ≡ []
none_held [] i = refl
none_held (w ∷ ws) i = none_held ws (suc i)

one_kept : (ws l : List ℕ) (x i : ℕ) → sets (x ∷ l) (suc i) ws ≡ (x ∷ sets l i ws)
one_kept [] l x i = refl
one_kept (w ∷ ws) l x i = one_kept ws (set l i w) x (suc i)

-- numbers stored from place 0 on are put over what stood there
pub stored_is_put : (ws l : List ℕ) → sets l 0 ws ≡ put_words ws l
unfolding put_words
stored_is_put [] l = refl
stored_is_put (w ∷ ws) [] = none_held ws 1
stored_is_put (w ∷ ws) (x ∷ xs) = one_kept ws xs w 0 ∙ ap (λ (l : List ℕ). w ∷ l) (stored_is_put ws xs)

-- as many as there are places: all are put, and nothing else is left
pub put_all : (ws l : List ℕ) → length l ≡ length ws → put_words ws l ≡ ws
unfolding put_words
put_all [] [] e = refl
put_all [] (x ∷ l) e = absurd (omega arith)
put_all (w ∷ ws) [] e = absurd (omega arith)
put_all (w ∷ ws) (x ∷ l) e = ap (λ (l : List ℕ). w ∷ l) (put_all ws l (omega arith))

-- as many places as before
pub put_keeps_length : (ws l : List ℕ) → length (put_words ws l) ≡ length l
unfolding put_words
put_keeps_length [] l = refl
put_keeps_length (w ∷ ws) [] = refl
put_keeps_length (w ∷ ws) (x ∷ l) = ap suc (put_keeps_length ws l)

-- ── A state by its parts ──

-- this bus with these READs
abbrev with_reads : List Burst → Bus → Bus
with_reads rs u = record { write = u.write; reads = rs; masks = u.masks }

bus_length : (u : Bus) → length u.reads ≡ 4 → length (bus_numbers u) ≡ 48
bus_length u e = ap (λ (rs : List Burst). length (bus_numbers (with_reads rs u))) (bursts.four u.reads e)

banks_length : (bs : List Bank) → length bs ≡ 4 → length (banks_numbers bs) ≡ 32
banks_length bs e = ap (λ (l : List Bank). length (banks_numbers l)) (banks.four bs e)

-- the WRITE, the READs and the masks, stored one after the other, are the bus
pub bus_stored : (l : List ℕ) (u : Bus) → length u.reads ≡ 4
    → sets (sets (sets l 14 (bursts_numbers (u.write ∷ []))) 23 (bursts_numbers u.reads)) 59 (u.masks.first ∷ u.masks.second ∷ u.masks.third ∷ [])
    ≡ sets l 14 (bus_numbers u)
bus_stored l u e =
    let stored : List Burst → Type 0 = λ (rs : List Burst).
    sets (sets (sets l 14 (bursts_numbers (u.write ∷ []))) 23 (bursts_numbers rs)) 59 (u.masks.first ∷ u.masks.second ∷ u.masks.third ∷ [])
    ≡ sets l 14 (bus_numbers (with_reads rs u)) in
    subst stored (sym (bursts.four u.reads e)) refl

module _ (s : State) (e : length s.core.bus.reads ≡ 4) where
  abbrev head_list : List ℕ
  head_list = head_numbers s.core

  abbrev bus_list : List ℕ
  bus_list = bus_numbers s.core.bus

  abbrev banks_list : List ℕ
  banks_list = banks_numbers s.banks

  -- its three parts, stored one after the other, are put over what stood there
  pub state_stored : (l : List ℕ) → sets (sets (sets l 0 (head_numbers s.core)) 14 (bus_numbers s.core.bus)) 62 (banks_numbers s.banks) ≡ put_words (words_of s) l
  unfolding words_of
  state_stored l =
      stored_after bus_list banks_list (sets l 0 head_list) 14 62 (ap (λ (n : ℕ). 14 + n) (bus_length s.core.bus e))
      ∙ stored_after head_list (bus_list ++ banks_list) l 0 14 refl
      ∙ stored_is_put (head_list ++ (bus_list ++ banks_list)) l

  -- a state of four READs and four banks has 94 numbers
  pub words_length : length s.banks ≡ 4 → length (words_of s) ≡ state_words
  unfolding words_of
  words_length f =
      length-append head_list (bus_list ++ banks_list)
      ∙ ap (λ (n : ℕ). 14 + n)
      (length-append bus_list banks_list ∙ (λ j. bus_length s.core.bus e j + banks_length s.banks f j))
