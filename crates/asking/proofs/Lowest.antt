-- Number 16's rows as eight tests: laws by which the code reads them off the events. Assumes nothing.
use Rattle.std.specs.Prelude.{Option, None, Some, Err}
use Prim.Native.Nat.{ℕ}
use mathlib.Core.Path.{◌≡◌, refl, ap, sym, ◌∙◌}
use mathlib.Core.Bool.{Bool, true, false, not, ◌&&◌, ◌||◌, cond, and_assoc, and-false, or-false}
use mathlib.Core.List.{List, [], ◌∷◌, ◌++◌}
use lib.Dec.{ltb, eqb}
use lib.ListN.{length}
use Rattle.units.specs.declared.Clock.{Clock}
use Rattle.units.specs.declared.Ps.{Ps}
use Rattle.units.specs.Time.{at, by, plus, clocks_of}
use Rattle.speed.specs.declared.SpeedTable.{SpeedTable}
use Rattle.asking.specs.declared.Shorts.{Shorts}
use Rattle.rules.specs.declared.Refusal.{Refusal}
use Rattle.rules.specs.declared.Status.{Status}
use Rattle.rules.specs.declared.Status.TheVariants.{NotStarted, Open, Closed}
use Rattle.rules.specs.declared.Bank.{Bank}
use Rattle.rules.specs.Numbers.{Rule, rule, first_broken, tRCD, tRAS, tRC, tRP, tRRD, tRFC, tWR, tMRD}
use Rattle.rules.specs.Banks.{bank_at, opened, closings, clock_after, last_store}
use Rattle.rules.specs.Minima.{Since, since, from_times, from, only, each, met}
use Rattle.rules.specs.Rules.{minimum_rules}
use Rattle.asking.specs.Shorts.{
  shorts,
  no_shorts,
  either,
  lowest,
  short_on,
  short_since,
  short_after,
  short_opened,
  short_stored,
  short_closed,
}
use Rattle.rules.proofs.Four.{four}

-- ── The rows and the lowest ──

pub row : (w : Refusal) (b : Bool) (l : List Rule) → first_broken (rule w b ∷ l) ≡ cond (not b) (Err w) (first_broken l)
row w true l = refl
row w false l = refl

pub minimum_lowest : (t : SpeedTable) (period now : Ps) (l : List Since) → first_broken (minimum_rules t period now l) ≡ lowest (shorts t period now l)
unfolding minimum_rules lowest shorts
minimum_lowest t period now l = simp row

-- ── Joined events ──

not_and : (a b : Bool) → not (a && b) ≡ (not a || not b)
not_and true b = refl
not_and false b = refl

met_join : (k : ℕ) (m now : Ps) (a b : List Since) → met k m now (a ++ b) ≡ (met k m now a && met k m now b)
met_join k m now [] b = refl
met_join k m now (since j e ∷ a) b =
    ap (λ (x : Bool). (not (eqb j k) || by (plus e m) now) && x) (met_join k m now a b)
    ∙ sym (and_assoc (not (eqb j k) || by (plus e m) now) (met k m now a) (met k m now b))

short_join : (k : ℕ) (m now : Ps) (a b : List Since) → not (met k m now (a ++ b)) ≡ (not (met k m now a) || not (met k m now b))
short_join k m now a b = ap not (met_join k m now a b) ∙ not_and (met k m now a) (met k m now b)

pub shorts_join : (t : SpeedTable) (period now : Ps) (a b : List Since)
    → shorts t period now (a ++ b) ≡ either (shorts t period now a) (shorts t period now b)
unfolding shorts either
shorts_join t period now a b = simp short_join

pub shorts_only : (t : SpeedTable) (period now : Ps) (x : Bool) (l : List Since)
    → shorts t period now (only x l) ≡ cond x (shorts t period now l) no_shorts
unfolding shorts
shorts_only t period now true l = refl
shorts_only t period now false l = refl

pub shorts_none : (t : SpeedTable) (period now : Ps) → shorts t period now [] ≡ no_shorts
unfolding shorts
shorts_none t period now = refl

pub either_none : (s : Shorts) → either s no_shorts ≡ s
unfolding either
either_none s = simp or-false

pub none_either : (s : Shorts) → either no_shorts s ≡ s
unfolding either
none_either s = refl

-- ── One interval ──

-- only interval k, by a test of its minimum
abbrev pub one_short : SpeedTable → Ps → ℕ → (Ps → Bool) → Shorts
one_short t period k f =
    record {
      rcd = eqb k tRCD && f t.trcd;
      ras = eqb k tRAS && f t.trasmin;
      rc = eqb k tRC && f t.trc;
      rp = eqb k tRP && f t.trp;
      rrd = eqb k tRRD && f t.trrd;
      rfc = eqb k tRFC && f t.trfc;
      wr = eqb k tWR && f t.twr;
      mrd = eqb k tMRD && f (at period t.tmrd);
    }

one_test : (x y : Bool) → not ((not x || y) && true) ≡ (x && not y)
one_test true true = refl
one_test true false = refl
one_test false y = refl

shorts_one : (t : SpeedTable) (period now : Ps) (k : ℕ) (e : Ps)
    → shorts t period now (since k e ∷ []) ≡ one_short t period k (λ m. not (by (plus e m) now))
unfolding shorts
shorts_one t period now k e = simp one_test

pub shorts_zero : (t : SpeedTable) (period now : Ps) (k : ℕ) → shorts t period now [] ≡ one_short t period k (λ m. false)
unfolding shorts
shorts_zero t period now k = simp and-false

pub shorts_since : (t : SpeedTable) (period now : Ps) (k : ℕ) (e : Option Clock)
    → shorts t period now (from k period (clocks_of e)) ≡ one_short t period k (λ m. short_since period e m now)
unfolding short_since short_on
shorts_since t period now k None = shorts_zero t period now k
shorts_since t period now k (Some x) = shorts_one t period now k (at period x)

pub shorts_opened : (t : SpeedTable) (period now : Ps) (k : ℕ) (x : Status)
    → shorts t period now (from k period (opened x)) ≡ one_short t period k (λ m. short_opened period x m now)
unfolding short_opened short_on
shorts_opened t period now k NotStarted = shorts_zero t period now k
shorts_opened t period now k (Open row n) = shorts_one t period now k (at period n)
shorts_opened t period now k (Closed c) = shorts_zero t period now k

shorts_after : (t : SpeedTable) (period now : Ps) (k : ℕ) (n : Clock) (e : Option Clock)
    → shorts t period now (from k period (clock_after n e)) ≡ one_short t period k (λ m. short_after period n e m now)
unfolding short_after short_on
shorts_after t period now k n None = shorts_zero t period now k
shorts_after t period now k n (Some x) = go (ltb n.0 x.0)
  where
    go : (y : Bool)
        → shorts t period now (from k period (cond y (x ∷ []) [])) ≡ one_short t period k (λ m. y && not (by (plus (at period x) m) now))
    go true = shorts_one t period now k (at period x)
    go false = shorts_zero t period now k

pub shorts_stored : (t : SpeedTable) (period now : Ps) (k : ℕ) (x : Status) (e : Option Clock)
    → shorts t period now (from k period (last_store x e)) ≡ one_short t period k (λ m. short_stored period x e m now)
unfolding short_stored
shorts_stored t period now k NotStarted e = shorts_zero t period now k
shorts_stored t period now k (Open row n) e = shorts_after t period now k n e
shorts_stored t period now k (Closed c) e = shorts_zero t period now k

pub shorts_closed : (t : SpeedTable) (period now : Ps) (k : ℕ) (x : Status)
    → shorts t period now (from_times k (closings x)) ≡ one_short t period k (λ m. short_closed x m now)
unfolding short_closed
shorts_closed t period now k NotStarted = shorts_zero t period now k
shorts_closed t period now k (Open row n) = shorts_zero t period now k
shorts_closed t period now k (Closed c) = shorts_one t period now k c

-- ── The four banks ──

-- the events of each bank in turn
pub shorts_each : (t : SpeedTable) (period now : Ps) (f : ℕ → Bank → List Since) (l : List Bank) → length l ≡ 4
    → shorts t period now (each f 0 l)
    ≡ either (shorts t period now (f 0 (bank_at l 0)))
    (either (shorts t period now (f 1 (bank_at l 1)))
    (either (shorts t period now (f 2 (bank_at l 2))) (shorts t period now (f 3 (bank_at l 3)))))
shorts_each t period now f l h =
    ap (λ (x : List Bank). shorts t period now (each f 0 x)) (four l h)
    ∙ simp (shorts_join, shorts_none, either_none)
