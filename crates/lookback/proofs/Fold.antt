-- The state after these records, newest first, and its parts by looking back: last clock, start-up. Assumes nothing.
use Rattle.std.specs.Prelude.{Some}
use Prim.Native.Nat.{ℕ, suc, ◌+◌}
use native.Mathlib.Omega.{arith}
use mathlib.Core.Path.{◌≡◌, refl, ap, sym, ◌∙◌}
use mathlib.Core.Bool.{Bool, true, false, cond}
use mathlib.Core.List.{List, [], ◌∷◌}
use lib.Dec.{ltb}
use borrow.Author.Tests.{le-ltb}
use Rattle.units.specs.declared.Clock.{Clock}
use Rattle.units.specs.declared.Ps.{Ps}
use Rattle.units.specs.Time.{clock}
use Rattle.layout.specs.declared.Record.{Record}
use Rattle.layout.specs.Commands.{command}
use Rattle.rules.specs.declared.Refreshes.TheVariants.{One, Two}
use Rattle.rules.specs.declared.State.{State}
use Rattle.rules.specs.declared.Setup.{Setup}
use Rattle.rules.specs.Parts.{next_clock, clock_of, start, loaded}
use Rattle.rules.specs.After.{one_more, startup_after, core_from, core_after, next}
use Rattle.lookback.specs.Past.{first_free, clock_in, back_to, newest, last_of, count_of}
use Rattle.lookback.specs.StartUp.{closes_all, refreshes, loads, refreshes_by, refreshes_in, loaded_by, register_in, startup_in}

-- what the state is after these records, the newest first
unfoldable pub after : Setup → State → List Record → State
after u s [] = s
after u s (r ∷ past) = next u (after u s past) r

module _ (u : Setup) (period : Ps) (grade bank row : ℕ) where
  pub at_first_free : (past : List Record) → next_clock (after u (start period grade bank row) past).core.last ≡ first_free past
  unfolding after next core_after core_from
  at_first_free [] = refl
  at_first_free (r ∷ past) = ap (λ (x : ℕ). suc (x + r.skipped)) (at_first_free past)

  pub same_clock : (past : List Record) (r : Record)
      → clock_of (after u (start period grade bank row) past).core r ≡ clock_in past r
  same_clock past r = ap (λ (x : ℕ). clock (x + r.skipped)) (at_first_free past)

  pub same_last : (past : List Record) → (after u (start period grade bank row) past).core.last ≡ newest past
  unfolding after next core_after core_from
  same_last [] = refl
  same_last (r ∷ past) = ap Some (same_clock past r)

-- ── Start-up ──

more_than_one : (c : ℕ) → ltb (suc (suc c)) 2 ≡ false
more_than_one c = le-ltb (suc (suc c)) 2 (omega arith)

-- one refresh more
pub counts_on : (f : Record → Bool) (x : Clock) (past : List Record)
    → one_more x (refreshes_by (count_of f past) (last_of f past)) ≡ refreshes_by (suc (count_of f past)) (Some x)
counts_on f x [] = refl
counts_on f x (r ∷ past) = go (f r) (counts_on f x past)
  where
    two : (b : Bool) (y : Clock) → one_more x (cond b (One y) (Two y)) ≡ Two x
    two true y = refl
    two false y = refl

    go : (b : Bool) → one_more x (refreshes_by (count_of f past) (last_of f past)) ≡ refreshes_by (suc (count_of f past)) (Some x)
        → one_more x
        (refreshes_by (cond b (suc (count_of f past)) (count_of f past)) (newest (cond b (r ∷ past) (back_to f past))))
        ≡ refreshes_by (suc (cond b (suc (count_of f past)) (count_of f past))) (Some x)
    go true h =
        two (ltb (suc (count_of f past)) 2) (clock_in past r)
        ∙ sym (ap (λ (z : Bool). cond z (One x) (Two x)) (more_than_one (count_of f past)))
    go false h = h

refreshes_step : (r : Record) (past : List Record)
    → cond (refreshes r) (one_more (clock_in past r) (refreshes_in past)) (refreshes_in past) ≡ refreshes_in (r ∷ past)
refreshes_step r past = go (refreshes r) (counts_on refreshes (clock_in past r) past)
  where
    go : (b : Bool)
        → one_more (clock_in past r) (refreshes_in past) ≡ refreshes_by (suc (count_of refreshes past)) (Some (clock_in past r))
        → cond b (one_more (clock_in past r) (refreshes_in past)) (refreshes_in past)
        ≡ refreshes_by (cond b (suc (count_of refreshes past)) (count_of refreshes past))
        (newest (cond b (r ∷ past) (back_to refreshes past)))
    go true h = h
    go false h = refl

-- the last of a kind, one record more
pub last_step : (f : Record → Bool) (r : Record) (past : List Record)
    → cond (f r) (Some (clock_in past r)) (last_of f past) ≡ last_of f (r ∷ past)
last_step f r past = go (f r)
  where
    go : (b : Bool) → cond b (Some (clock_in past r)) (last_of f past) ≡ newest (cond b (r ∷ past) (back_to f past))
    go true = refl
    go false = refl

register_step : (r : Record) (past : List Record)
    → cond (loads r) (loaded r.addr (clock_in past r)) (register_in past) ≡ register_in (r ∷ past)
register_step r past = go (loads r)
  where
    go : (b : Bool)
        → cond b (loaded r.addr (clock_in past r)) (register_in past) ≡ loaded_by (cond b (r ∷ past) (back_to loads past))
    go true = refl
    go false = refl

pub startup_step : (r : Record) (past : List Record)
    → startup_after (command r) r (clock_in past r) (startup_in past) ≡ startup_in (r ∷ past)
unfolding startup_after
startup_step r past =
    λ i. record {
      allclosed = last_step closes_all r past i;
      refreshes = refreshes_step r past i;
      register = register_step r past i;
    }

module _ (u : Setup) (period : Ps) (grade bank row : ℕ) where
  pub same_startup : (past : List Record) → (after u (start period grade bank row) past).core.startup ≡ startup_in past
  unfolding after next core_after core_from
  same_startup [] = refl
  same_startup (r ∷ past) = rw (same_clock u period grade bank row past r, same_startup past) (startup_step r past)
