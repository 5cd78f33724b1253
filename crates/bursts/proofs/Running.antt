-- Which READs run on a clock, and when the bus is clear of them (01, Beats; number 20). Assumes nothing.
use Rattle.std.specs.Prelude.{Option}
use Rattle.std.specs.List.{list_all}
use Prim.Native.Nat.{ℕ, ◌-◌, ◌≤◌}
use native.Mathlib.Omega.{arith}
use mathlib.Core.Path.{◌≡◌, refl, ap, ap₂, sym, ◌∙◌}
use mathlib.Core.Bool.{Bool, true, false, not, ◌&&◌, ◌||◌, cond, and-false, and_comm, true≢false}
use mathlib.Core.List.{List, [], ◌∷◌}
use lib.Dec.{ltb, eqb}
use lib.ListN.{length}
use borrow.Author.Tests.{eq-eqb, ne_eqb, eqb-true, eqb-false}
use Rattle.units.specs.declared.Clock.{Clock}
use Rattle.mode.specs.Word.{latency}
use Rattle.bursts.specs.declared.Burst.{Burst}
use Rattle.bursts.specs.declared.Masks.{Masks}
use Rattle.bursts.specs.declared.Beat.TheVariants.{Quiet, Drives}
use Rattle.bursts.specs.Burst.{lanes_low, cells, reads_on, read_beat}
use Rattle.bursts.specs.Bus.{
  all_high,
  masks_on,
  two_before,
  reads_beat,
  reads_run,
  later_run,
  drives_lane,
  driven,
  one_before,
  bus_clear,
}
use Rattle.bursts.proofs.Four.{burst, reads_run_four}
use Rattle.bursts.proofs.HasBeat.{reads_none}

-- ── A beat of the READs ──

-- a later READ that runs is one that runs
later_runs : (x : Clock) (bs : List Burst) (n : Clock) → later_run x bs n ≡ true → reads_run bs n ≡ true
later_runs x [] n h = absurd (true≢false (sym h))
later_runs x (b ∷ bs) n h = go (reads_on b n) (ltb x.0 b.start.0) (later_runs x bs n) h
  where
    go : (z y : Bool) → (later_run x bs n ≡ true → reads_run bs n ≡ true) → (z && y || later_run x bs n) ≡ true
        → (z || reads_run bs n) ≡ true
    go true y ih e = refl
    go false y ih e = ih e

-- all READs of a clock have the same masks: a lane is driven where some beat runs and some lane is LOW
drives_any : (bs : List Burst) (masks : ℕ) (n : Clock) → drives_lane (reads_beat bs masks n) ≡ (reads_run bs n && not (eqb (lanes_low masks) 0))
unfolding read_beat
drives_any [] masks n = refl
drives_any (b ∷ bs) masks n = go (reads_on b n) (later_run b.start bs n) refl (drives_any bs masks n)
  where
    go : (x y : Bool) → later_run b.start bs n ≡ y
        → drives_lane (reads_beat bs masks n) ≡ (reads_run bs n && not (eqb (lanes_low masks) 0))
        → drives_lane
        (cond (x && not y) (cond x (Drives (cells b (n.0 - latency b.word - b.start.0) masks)) Quiet) (reads_beat bs masks n))
        ≡ ((x || reads_run bs n) && not (eqb (lanes_low masks) 0))
    go true true e h = h ∙ rw (later_runs b.start bs n e)
    go true false e h = refl
    go false y e h = h

-- ── Clear on two clocks ──

-- neither of two tests holds, each asked only where x, or y, says so
abbrev neither : Bool → Bool → Bool → Bool → Bool
neither x y a b = not (x && a) && not (y && b)

not_asked : (x y a b : Bool) → (x || y) ≡ false → true ≡ neither x y a b
not_asked true y a b h = absurd (true≢false h)
not_asked false true a b h = absurd (true≢false h)
not_asked false false a b h = refl

-- neither of these and neither of those: none of all
neither_of_all : (x y a b r s : Bool) → (neither x y a b && neither x y r s) ≡ neither x y (a || r) (b || s)
neither_of_all false false a b r s = refl
neither_of_all false true a true r s = refl
neither_of_all false true a false r s = refl
neither_of_all true false true b r s = refl
neither_of_all true false false b r s = refl
neither_of_all true true true b r s = refl
neither_of_all true true false true r s = sym (and-false (not r))
neither_of_all true true false false r s = refl

-- a burst that is not live has no beat to look for, nor has one whose lanes are all masked
pub clear_unasked : (b : Burst) (x y : Bool) (n m : Clock) → (b.live && (x || y)) ≡ false
    → true ≡ (not (x && reads_on b n) && not (y && reads_on b m))
clear_unasked b x y n m h = go b.live refl h
  where
    go : (l : Bool) → b.live ≡ l → (l && (x || y)) ≡ false → true ≡ neither x y (reads_on b n) (reads_on b m)
    go true e i = not_asked x y (reads_on b n) (reads_on b m) i
    go false e i = rw (← reads_none b n e, ← reads_none b m e, and-false x, and-false y)

pub clear_four : (bs : List Burst) → length bs ≡ 4 → (x y : Bool) (n m : Clock)
    → (neither x y (reads_on (burst bs 0) n) (reads_on (burst bs 0) m)
    && (neither x y (reads_on (burst bs 1) n) (reads_on (burst bs 1) m)
    && (neither x y (reads_on (burst bs 2) n) (reads_on (burst bs 2) m) && neither x y (reads_on (burst bs 3) n) (reads_on (burst bs 3) m))))
    ≡ (not (x && reads_run bs n) && not (y && reads_run bs m))
clear_four bs h x y n m = rw (reads_run_four bs h n, reads_run_four bs h m, neither_of_all, neither_of_all, neither_of_all)

-- each of the READs is clear: none of them runs
pub all_clear : (x y : Bool) (n m : Clock) (bs : List Burst)
    → list_all (λ b. not (x && reads_on b n) && not (y && reads_on b m)) bs ≡ (not (x && reads_run bs n) && not (y && reads_run bs m))
all_clear x y n m [] = rw (and-false x, and-false y)
all_clear x y n m (b ∷ bs) = rw (all_clear x y n m bs, neither_of_all x y (reads_on b n) (reads_on b m) (reads_run bs n) (reads_run bs m))

-- ── By masks ──

-- a lane is LOW where the masks are not all HIGH
some_low : (masks : ℕ) → masks ≤ all_high → eqb (lanes_low masks) 0 ≡ eqb masks all_high
some_low masks h = go (eqb masks all_high) refl
  where
    go : (t : Bool) → eqb masks all_high ≡ t → eqb (lanes_low masks) 0 ≡ eqb masks all_high
    go true e = eq-eqb (lanes_low masks) 0 (omega (arith, eqb-true masks all_high e)) ∙ sym e
    go false e = ne_eqb (lanes_low masks) 0 (λ z. eqb-false masks all_high e (omega arith)) ∙ sym e

-- a lane is driven where some READ runs and the masks of two clocks before are not all HIGH
pub driven_by_masks : (last : Option Clock) (held : Masks) (bs : List Burst) (n earlier : Clock) (masks : ℕ)
    → earlier ≡ two_before n → masks ≡ masks_on last held earlier → masks ≤ all_high
    → driven last held bs n ≡ (not (eqb masks all_high) && reads_run bs n)
unfolding driven
driven_by_masks last held bs n earlier masks p q h =
    rw (← p, ← q, drives_any, some_low masks h) (and_comm (reads_run bs n) (not (eqb masks all_high)))

-- clear on n and on the clock before it: not driven on either
pub clear_by_driven : (last : Option Clock) (held : Masks) (bs : List Burst) (n m : Clock) (x y : Bool)
    → m ≡ one_before n → driven last held bs n ≡ x → driven last held bs m ≡ y → (not x && not y) ≡ bus_clear last held bs n
unfolding bus_clear
clear_by_driven last held bs n m x y e p q =
    ap₂ (λ (u v : Bool). not u && not v) (sym p) (sym q ∙ ap (driven last held bs) e)
