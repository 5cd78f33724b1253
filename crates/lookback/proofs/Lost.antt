-- A beat is lost by "x with w < x <= w + i" exactly where the burst's first cut stands by then. Assumes nothing.
use Rattle.std.specs.Prelude.{Option, None, Some}
use Prim.Native.Nat.{ℕ, suc, ◌<◌, ◌≤◌}
use native.Mathlib.Omega.{arith}
use mathlib.Core.Path.{◌≡◌, refl, ap, sym, ◌∙◌}
use mathlib.Core.Bool.{Bool, true, false, not, ◌&&◌, ◌||◌, cond, and-false, or-false, or-true}
use mathlib.Core.List.{List, [], ◌∷◌}
use lib.Dec.{leb}
use borrow.Author.Tests.{lt-ltb, le-ltb, lt-leb, leb-false}
use Rattle.units.specs.declared.Clock.{Clock}
use Rattle.units.specs.Time.{clock}
use Rattle.layout.specs.declared.Record.{Record}
use Rattle.bursts.specs.Burst.{before_cut}
use Rattle.lookback.specs.Past.{first_free, clock_in, stands}
use Rattle.lookback.specs.Bursts.{cuts_write}
use Rattle.lookback.proofs.Held.{uncut, cuts_from}

-- the cut stands by clock f
abbrev pub cut_by_then : Option Clock → ℕ → Bool
cut_by_then None f = false
cut_by_then (Some y) f = leb y.0 f

-- a cut from clock x on
abbrev pub From : ℕ → Option Clock → Type 0
From x None = Unit {0}
From x (Some y) = x ≤ y.0

-- no record stands after its own clock
pub none_after : (g : Record → Bool) (x f : ℕ) (past : List Record) → first_free past ≤ suc x → stands g x f past ≡ false
none_after g x f [] h = refl
none_after g x f (r ∷ past) h = rw (le-ltb x (clock_in past r).0 (omega arith), and-false) (none_after g x f past (omega arith))

from_cond : (a : ℕ) (x : Bool) (n : Clock) (e : Option Clock) → a ≤ n.0 → From a e → From a (cond x (Some n) e)
from_cond a true n e h g = h
from_cond a false n e h g = g

from_less : (a d : ℕ) (e : Option Clock) → a ≤ d → From d e → From a e
from_less a d None h g = tt
from_less a d (Some y) h g = omega (arith, g)

-- all these records, of which those after `past` cut as c says, by a test g of their own
pub record Summed (g : ℕ → Record → Bool) (c : ℕ → Option Clock) (all past : List Record) : Type 0 where
  pub from : (i : ℕ) → From (first_free past) (c i)
  pub lost : (i x f : ℕ) → x < first_free past → stands (g i) x f all ≡ (cut_by_then (c i) f || stands (g i) x f past)

pub all_told : (g : ℕ → Record → Bool) (past : List Record) → Summed g uncut past past
all_told g past = record { from = λ i. tt; lost = λ i x f h. refl }

-- the first of a cut on clock y, where b asks it, and one after it
first_of_two : (b : Bool) (y f : ℕ) (e : Option Clock) (s : Bool) → From (suc y) e
    → (cut_by_then e f || ((b && leb y f) || s)) ≡ (cut_by_then (cond b (Some (clock y)) e) f || s)
first_of_two false y f e s h = refl
first_of_two true y f None s h = refl
first_of_two true y f (Some z) s h = go (leb y f) refl
  where
    go : (x : Bool) → leb y f ≡ x → (leb z.0 f || (leb y f || s)) ≡ (leb y f || s)
    go true p = rw (p, or-true)
    go false p = rw (p, lt-leb z.0 f (omega (arith, h, leb-false y f p)))

module _ (g : ℕ → Record → Bool) (c : ℕ → Option Clock) (all : List Record) (r : Record) (past : List Record)
    (s : Summed g c all (r ∷ past)) where
  -- one record further back, where g tells of it what cuts
  pub one_back : ((i : ℕ) → g i r ≡ cuts_write i r) → Summed g (cuts_from r past c) all past
  one_back same =
      record {
        from = λ i.
            from_cond (first_free past) (cuts_write i r) (clock_in past r) (c i) (omega arith)
            (from_less (first_free past) (first_free (r ∷ past)) (c i) (omega arith) (s.from i));
        lost = λ i x f h.
            s.lost i x f (omega (arith, h))
            ∙ rw (lt-ltb x (clock_in past r).0 (omega (arith, h)), same i)
            (first_of_two (cuts_write i r) (clock_in past r).0 f (c i) (stands (g i) x f past) (s.from i));
      }

  -- of the burst that r registers
  pub own_lost : (i f : ℕ) → stands (g i) (clock_in past r).0 f all ≡ cut_by_then (c i) f
  own_lost i f =
      s.lost i (clock_in past r).0 f (omega arith)
      ∙ rw (none_after (g i) (clock_in past r).0 f (r ∷ past) (omega arith), or-false)

  pub own_kept : (i : ℕ) (f : Clock) → before_cut (clock_in past r) f (c i) ≡ not (stands (g i) (clock_in past r).0 f.0 all)
  own_kept i f = go (c i) (s.from i) ∙ ap not (sym (own_lost i f.0))
    where
      go : (e : Option Clock) → From (first_free (r ∷ past)) e → before_cut (clock_in past r) f e ≡ not (cut_by_then e f.0)
      go None h = refl
      go (Some y) h = rw (lt-ltb (clock_in past r).0 y.0 (omega (arith, h)))
