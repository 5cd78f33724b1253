-- Numbers that are put where bank i has its own change bank i, and no other. Assumes nothing.
use Rattle.std.specs.Prelude.{Option, None, Some}
use Prim.Native.Nat.{ℕ, zero, suc, ◌+◌, ◌*◌, ◌%◌, ◌<◌}
use native.Mathlib.Omega.{arith}
use mathlib.Core.Path.{◌≡◌, refl, ap, sym, subst, ◌∙◌}
use mathlib.Core.Bool.{true}
use mathlib.Core.List.{List, [], ◌∷◌}
use lib.ListN.{length, get_or, set}
use Rattle.units.specs.declared.Clock.{Clock}
use Rattle.rules.specs.declared.Status.{Status}
use Rattle.rules.specs.declared.Status.TheVariants.{NotStarted, Open, Closed}
use Rattle.rules.specs.declared.Bank.{Bank}
use Rattle.rules.specs.Banks.{bank_at, row_of}
use Rattle.rules.specs.After.{with_status, marked}
use Rattle.rules.proofs.Four.{four}
use Rattle.words.specs.Words.{event_kind, event_number, status_kind, status_clock, status_time, banks_numbers}
use Rattle.packed.specs.Packed.{event_in, status_in, bank_in, banks_in, Held, Packed}

-- ── A list of 32 by its numbers ──

abbrev numbers : (ℕ → ℕ) → ℕ → List ℕ
numbers f zero = []
numbers f (suc n) = f 0 ∷ numbers (λ i. f (suc i)) n

by_numbers : (l : List ℕ) → l ≡ numbers (λ i. get_or l i 0) (length l)
by_numbers [] = refl
by_numbers (a ∷ l) = ap (λ (x : List ℕ). a ∷ x) (by_numbers l)

of_32 : (P : List ℕ → Type 0) → ((f : ℕ → ℕ) → P (numbers f 32)) → (l : List ℕ) → length l ≡ 32 → P l
of_32 P h l e = subst P (sym (by_numbers l ∙ ap (numbers (λ i. get_or l i 0)) e)) (h (λ i. get_or l i 0))

-- what holds of each of the four banks by its number, holds of bank i
module _ (P : ℕ → Type 0) (a : P 0) (b : P 1) (c : P 2) (d : P 3) where
  by_place : (i : ℕ) → i < 4 → P i
  by_place zero h = a
  by_place (suc zero) h = b
  by_place (suc (suc zero)) h = c
  by_place (suc (suc (suc zero))) h = d
  by_place (suc (suc (suc (suc i)))) h = absurd (omega arith)

-- the same in whatever 32 numbers
module _ (P : ℕ → List ℕ → Type 0)
    (a : (f : ℕ → ℕ) → P 0 (numbers f 32)) (b : (f : ℕ → ℕ) → P 1 (numbers f 32))
    (c : (f : ℕ → ℕ) → P 2 (numbers f 32)) (d : (f : ℕ → ℕ) → P 3 (numbers f 32)) where
  at_each : (i : ℕ) → i < 4 → (l : List ℕ) → length l ≡ 32 → P i l
  at_each i h l e = by_place (λ (i : ℕ). P i l) (of_32 (P 0) a l e) (of_32 (P 1) b l e) (of_32 (P 2) c l e) (of_32 (P 3) d l e) i h

-- ── The bank that is changed ──

abbrev put_status : List ℕ → ℕ → ℕ → ℕ → ℕ → ℕ → List ℕ
put_status l at k r n t = set (set (set (set l at k) (at + 1) r) (at + 2) n) (at + 3) t

abbrev put_active : List ℕ → ℕ → ℕ → ℕ → List ℕ
put_active l at k n = set (set l (at + 4) k) (at + 5) n

abbrev put_stored : List ℕ → ℕ → ℕ → ℕ → List ℕ
put_stored l at k n = set (set l (at + 6) k) (at + 7) n

-- ── What was put is read again ──

event_again : (e : Option Clock) → event_in (event_kind e) (event_number e) ≡ e
unfolding event_in
event_again None = refl
event_again (Some n) = refl

status_again : (x : Status) → row_of x < 65_536 → status_in (status_kind x) (row_of x) (status_clock x) (status_time x) ≡ x
unfolding status_in
status_again NotStarted h = refl
status_again (Open row n) h = let m : row % 65_536 ≡ row = omega arith in rw m
status_again (Closed t) h = refl

-- the numbers of a status, and of an event
pub record StatusNumbers (x : Status) (k r n t : ℕ) : Type 0 where
  pub kind : k ≡ status_kind x
  pub row : r ≡ row_of x
  pub on_clock : n ≡ status_clock x
  pub at_time : t ≡ status_time x
  pub small : r < 65_536

pub record EventNumbers (e : Option Clock) (k n : ℕ) : Type 0 where
  pub kind : k ≡ event_kind e
  pub number : n ≡ event_number e

status_read : {x : Status} {k r n t : ℕ} → StatusNumbers x k r n t → status_in k r n t ≡ x
status_read {x} h =
    (λ i. status_in (h.kind i) (h.row i) (h.on_clock i) (h.at_time i)) ∙ status_again x (omega (arith, h.small, h.row))

event_read : {e : Option Clock} {k n : ℕ} → EventNumbers e k n → event_in k n ≡ e
event_read {e} h = (λ i. event_in (h.kind i) (h.number i)) ∙ event_again e

-- ── From number p on, where bank i has its own ──

module _ (l : List ℕ) (g : Packed l) (i : ℕ) (h : i < 4) {p : ℕ} (hp : p ≡ 8 * i) where
  e : length l ≡ 32
  e = ap length g

  pub status_put : (x : Status) {k r n t : ℕ} → StatusNumbers x k r n t
      → Held (put_status l p k r n t) (set (banks_in l) i (with_status x (bank_at (banks_in l) i)))
  unfolding bank_in
  status_put x {k} {r} {n} {t} w =
      let b : banks_in (put_status l p k r n t) ≡ set (banks_in l) i (with_status (status_in k r n t) (bank_at (banks_in l) i)) =
      ap (λ (p : ℕ). banks_in (put_status l p k r n t)) hp
      ∙ at_each
      (λ (i : ℕ) (l : List ℕ). banks_in (put_status l (8 * i) k r n t) ≡ set (banks_in l) i (with_status (status_in k r n t) (bank_at (banks_in l) i)))
      (λ f. refl) (λ f. refl) (λ f. refl) (λ f. refl) i h l e in
      record {
        banks = b ∙ ap (λ (x : Status). set (banks_in l) i (with_status x (bank_at (banks_in l) i))) (status_read w);
        numbers =
            (λ j. put_status (g j) (hp j) (w.kind j) (w.row j) (w.on_clock j) (w.at_time j))
            ∙ by_place
            (λ (i : ℕ). put_status (banks_numbers (banks_in l)) (8 * i) (status_kind x) (row_of x) (status_clock x) (status_time x)
            ≡ banks_numbers (set (banks_in l) i (with_status x (bank_at (banks_in l) i))))
            refl refl refl refl i h;
      }

  pub stored_put : (n : Clock) → Held (put_stored l p 1 n.0) (set (banks_in l) i (marked true n (bank_at (banks_in l) i)))
  unfolding bank_in event_in
  stored_put n =
      record {
        numbers =
            (λ j. put_stored (g j) (hp j) 1 n.0)
            ∙ by_place
            (λ (i : ℕ). put_stored (banks_numbers (banks_in l)) (8 * i) 1 n.0 ≡ banks_numbers (set (banks_in l) i (marked true n (bank_at (banks_in l) i))))
            refl refl refl refl i h;
        banks =
            ap (λ (p : ℕ). banks_in (put_stored l p 1 n.0)) hp
            ∙ at_each (λ (i : ℕ) (l : List ℕ). banks_in (put_stored l (8 * i) 1 n.0) ≡ set (banks_in l) i (marked true n (bank_at (banks_in l) i)))
            (λ f. refl) (λ f. refl) (λ f. refl) (λ f. refl) i h l e;
      }

  pub bank_put : (b : Bank) {k r n t a x c d : ℕ} → StatusNumbers b.status k r n t → EventNumbers b.active a x → EventNumbers b.stored c d
      → Held (put_stored (put_active (put_status l p k r n t) p a x) p c d) (set (banks_in l) i b)
  unfolding bank_in
  bank_put b {k} {r} {n} {t} {a} {x} {c} {d} hs ha ht =
      let y : banks_in (put_stored (put_active (put_status l p k r n t) p a x) p c d)
      ≡ set (banks_in l) i (record { status = status_in k r n t; active = event_in a x; stored = event_in c d }) =
      ap (λ (p : ℕ). banks_in (put_stored (put_active (put_status l p k r n t) p a x) p c d)) hp
      ∙ at_each
      (λ (i : ℕ) (l : List ℕ). banks_in (put_stored (put_active (put_status l (8 * i) k r n t) (8 * i) a x) (8 * i) c d)
      ≡ set (banks_in l) i (record { status = status_in k r n t; active = event_in a x; stored = event_in c d }))
      (λ f. refl) (λ f. refl) (λ f. refl) (λ f. refl) i h l e in
      record {
        banks = y ∙ (λ j. set (banks_in l) i (record { status = status_read hs j; active = event_read ha j; stored = event_read ht j }));
        numbers =
            (λ j. put_stored (put_active (put_status (g j) (hp j) (hs.kind j) (hs.row j) (hs.on_clock j) (hs.at_time j)) (hp j) (ha.kind j) (ha.number j)) (hp j)
            (ht.kind j) (ht.number j))
            ∙ by_place
            (λ (i : ℕ). put_stored
            (put_active (put_status (banks_numbers (banks_in l)) (8 * i) (status_kind b.status) (row_of b.status) (status_clock b.status) (status_time b.status)) (8 * i)
            (event_kind b.active) (event_number b.active))
            (8 * i) (event_kind b.stored) (event_number b.stored)
            ≡ banks_numbers (set (banks_in l) i b))
            refl refl refl refl i h;
      }

-- ── Banks that are held ──

pub held_as : {l : List ℕ} {bs cs : List Bank} → Held l bs → bs ≡ cs → Held l cs
held_as h e = record { banks = h.banks ∙ e; numbers = h.numbers ∙ ap banks_numbers e }

pub packed_held : {l : List ℕ} → Packed l → Held l (banks_in l)
packed_held g = record { banks = refl; numbers = g }

pub held_packed : {l : List ℕ} {bs : List Bank} → Held l bs → Packed l
held_packed h = h.numbers ∙ ap banks_numbers (sym h.banks)

-- ONE ANSWER ONLY: a promise that an array holds these banks fixes each of its numbers
pub held_only : {l m : List ℕ} {bs : List Bank} → Held l bs → Held m bs → l ≡ m
held_only h g = h.numbers ∙ sym g.numbers

pub bank_held : (l : List ℕ) (i : ℕ) → i < 4 → bank_at (banks_in l) i ≡ bank_in l i
bank_held l i h = by_place (λ (i : ℕ). bank_at (banks_in l) i ≡ bank_in l i) refl refl refl refl i h

-- a bank that was read by its place, among those that were read
pub own_held : (l : List ℕ) (i : ℕ) → i < 4 → {b : Bank} {bs : List Bank} → b ≡ bank_in l (i % 4) → bs ≡ banks_in l → b ≡ bank_at bs i
own_held l i h p q =
    let m : i % 4 ≡ i = omega arith in
    p ∙ ap (bank_in l) m ∙ sym (bank_held l i h) ∙ ap (λ (x : List Bank). bank_at x i) (sym q)

-- ── All four, one after another ──

pub banks_put : (l : List ℕ) {m n o p : List ℕ} (all : List Bank) → length all ≡ 4
    → Held m (set (banks_in l) 0 (bank_at all 0)) → Held n (set (banks_in m) 1 (bank_at all 1))
    → Held o (set (banks_in n) 2 (bank_at all 2)) → Held p (set (banks_in o) 3 (bank_at all 3)) → Held p all
banks_put l all e h0 h1 h2 h3 =
    held_as h3
    (ap (λ (x : List Bank). set x 3 (bank_at all 3))
    (h2.banks ∙ ap (λ (x : List Bank). set x 2 (bank_at all 2)) (h1.banks ∙ ap (λ (x : List Bank). set x 1 (bank_at all 1)) h0.banks))
    ∙ sym (four all e))
