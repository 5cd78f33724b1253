-- The three masks that the state holds are those found by looking back. Assumes nothing.
use Prim.Native.Nat.{ℕ, zero, suc, ◌+◌, ◌-◌, ◌<◌, ◌≤◌}
use native.Mathlib.Omega.{arith}
use mathlib.Core.Path.{◌≡◌, refl, sym, ◌∙◌}
use mathlib.Core.Bool.{Bool, true, false, cond}
use mathlib.Core.List.{List, [], ◌∷◌}
use lib.Dec.{eqb, leb}
use lib.ListN.{get_or}
use borrow.Author.Tests.{eq-eqb, ne_eqb, leb-true, leb-false, eqb-true, eqb-false}
use Rattle.units.specs.declared.Clock.{Clock}
use Rattle.layout.specs.declared.Record.{Record}
use Rattle.bursts.specs.declared.Masks.{Masks}
use Rattle.bursts.specs.Bus.{all_high, masks_on, masks_after, all_masks_high}
use Rattle.lookback.specs.Past.{first_free, clock_in, newest, masks_at}

-- the masks of the last three clocks, as the state holds them
unfoldable pub masks_held : List Record → Masks
masks_held [] = all_masks_high
masks_held (r ∷ past) = masks_after r.skipped r.masks (masks_held past)

-- no record stands on a free clock
pub free_high : (past : List Record) (m : Clock) → first_free past ≤ m.0 → masks_at past m ≡ all_high
unfolding masks_at
free_high [] m h = refl
free_high (r ∷ past) m h = rw (ne_eqb m.0 (clock_in past r).0 (λ e. omega arith)) (free_high past m (omega arith))

-- the masks of an earlier clock
before_record : (r : Record) (past : List Record) (m : Clock) → m.0 < (clock_in past r).0
    → masks_at (r ∷ past) m ≡ masks_at past m
unfolding masks_at
before_record r past m g = rw (ne_eqb m.0 (clock_in past r).0 (λ e. omega arith))

-- one clock, two clocks, three clocks before the first free one
pub first_back : (past : List Record) (m : Clock) → m.0 + 1 ≡ first_free past → (masks_held past).first ≡ masks_at past m
unfolding masks_held masks_at masks_after
first_back [] m h = refl
first_back (r ∷ past) m h = rw (eq-eqb m.0 (clock_in past r).0 (omega arith))

pub second_back : (past : List Record) (m : Clock) → m.0 + 2 ≡ first_free past → (masks_held past).second ≡ masks_at past m
unfolding masks_held masks_after
second_back [] m h = absurd (omega arith)
second_back (r ∷ past) m h = go (eqb r.skipped 0) refl ∙ sym (before_record r past m (omega arith))
  where
    go : (x : Bool) → eqb r.skipped 0 ≡ x → cond (eqb r.skipped 0) (masks_held past).first all_high ≡ masks_at past m
    go true e = rw e (first_back past m (omega (arith, eqb-true r.skipped 0 e)))
    go false e = rw e (sym (free_high past m (let n : (r.skipped ≡ 0 → ⊥) = eqb-false r.skipped 0 e in omega arith)))

pub third_back : (past : List Record) (m : Clock) → m.0 + 3 ≡ first_free past → (masks_held past).third ≡ masks_at past m
unfolding masks_held masks_after
third_back [] m h = absurd (omega arith)
third_back (r ∷ past) m h = go (eqb r.skipped 0) (eqb r.skipped 1) refl refl ∙ sym (before_record r past m (omega arith))
  where
    go : (x y : Bool) → eqb r.skipped 0 ≡ x → eqb r.skipped 1 ≡ y
        → cond (eqb r.skipped 0) (masks_held past).second (cond (eqb r.skipped 1) (masks_held past).first all_high)
        ≡ masks_at past m
    go true y e f = rw e (second_back past m (omega (arith, eqb-true r.skipped 0 e)))
    go false true e f = rw (e, f) (first_back past m (omega (arith, eqb-true r.skipped 1 f)))
    go false false e f =
        let n : (r.skipped ≡ 0 → ⊥) = eqb-false r.skipped 0 e in
        let k : (r.skipped ≡ 1 → ⊥) = eqb-false r.skipped 1 f in
        rw (e, f) (sym (free_high past m (omega arith)))

-- they as a list, the newest first
abbrev three_held : List Record → List ℕ
three_held past = (masks_held past).first ∷ (masks_held past).second ∷ (masks_held past).third ∷ []

-- THE MASKS OF THE LAST THREE CLOCKS AND OF ALL AFTER
pub same_masks : (past : List Record) (m : Clock) → first_free past ≤ m.0 + 3
    → masks_on (newest past) (masks_held past) m ≡ masks_at past m
unfolding masks_on
same_masks [] m h = sym (free_high [] m (omega arith))
same_masks (r ∷ past) m h = go (leb m.0 (clock_in past r).0) refl
  where
    by_age : (d : ℕ) → m.0 + d ≡ (clock_in past r).0
        → get_or (three_held (r ∷ past)) d all_high ≡ masks_at (r ∷ past) m
    by_age zero e = first_back (r ∷ past) m (omega arith)
    by_age (suc zero) e = second_back (r ∷ past) m (omega arith)
    by_age (suc (suc zero)) e = third_back (r ∷ past) m (omega arith)
    by_age (suc (suc (suc d))) e = absurd (omega arith)

    go : (x : Bool) → leb m.0 (clock_in past r).0 ≡ x
        → cond (leb m.0 (clock_in past r).0) (get_or (three_held (r ∷ past)) ((clock_in past r).0 - m.0) all_high) all_high
        ≡ masks_at (r ∷ past) m
    go true e = rw e (by_age ((clock_in past r).0 - m.0) (omega (arith, leb-true m.0 (clock_in past r).0 e)))
    go false e = rw e (sym (free_high (r ∷ past) m (omega (arith, leb-false m.0 (clock_in past r).0 e))))
