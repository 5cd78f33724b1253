-- A bank's status by looking back, one record more. Assumes nothing.
use Prim.Native.Nat.{ℕ}
use mathlib.Core.Path.{◌≡◌, refl, sym}
use mathlib.Core.Bool.{Bool, true, false, ◌||◌, cond, true≢false}
use mathlib.Core.List.{List, [], ◌∷◌}
use Rattle.units.specs.declared.Ps.{Ps}
use Rattle.units.specs.Time.{at}
use Rattle.speed.specs.declared.SpeedTable.{SpeedTable}
use Rattle.layout.specs.declared.Record.{Record}
use Rattle.rules.specs.declared.Status.{Status}
use Rattle.rules.specs.declared.Status.TheVariants.{Open}
use Rattle.rules.specs.Banks.{is_open, is_closed}
use Rattle.rules.specs.After.{precharged, auto_closed}
use Rattle.lookback.specs.Past.{clock_in, back_to}
use Rattle.lookback.specs.Banks.{activates, auto_closes, precharges, or_these, back_to_close, end_in, status_by, status_in}

module _ (t : SpeedTable) (period : Ps) (i : ℕ) (r : Record) (past : List Record) (again : Bool) where
  -- the status after r, as the state has it
  abbrev pub status_next : Status → Status
  status_next x =
      cond (activates i r) (Open r.addr (clock_in past r))
      (cond (auto_closes i r) (auto_closed t period (end_in t period r past) x)
      (cond (precharges i r) (precharged again (at period (clock_in past r)) x) x))

  pub status_step : (auto_closes i r ≡ true → is_open (status_in t period i past) ≡ true)
      → (is_closed (status_in t period i past) ≡ true → again ≡ true)
      → status_next (status_in t period i past) ≡ status_in t period i (r ∷ past)
  status_step =
      go (activates i r) (auto_closes i r) (precharges i r) (back_to_close i past) (back_to (activates i) past) refl refl
    where
      go : (a b c : Bool) (cl act : List Record) → auto_closes i r ≡ b → back_to (activates i) past ≡ act
          → (b ≡ true → is_open (status_by t period i cl act) ≡ true)
          → (is_closed (status_by t period i cl act) ≡ true → again ≡ true)
          → cond a (Open r.addr (clock_in past r))
          (cond b (auto_closed t period (end_in t period r past) (status_by t period i cl act))
          (cond c (precharged again (at period (clock_in past r)) (status_by t period i cl act)) (status_by t period i cl act)))
          ≡ status_by t period i (cond a [] (or_these cl (cond (b || c) (r ∷ past) []))) (cond a (r ∷ past) act)
      go true b c cl act e f h g = refl
      go false true c [] [] e f h g = absurd (true≢false (sym (h refl)))
      go false true c [] (x ∷ xs) e f h g = rw (e, f)
      go false true c (y ∷ ys) act e f h g = refl
      go false false true [] [] e f h g = rw e
      go false false true [] (x ∷ xs) e f h g = rw e
      go false false true (y ∷ ys) act e f h g = rw (g refl)
      go false false false [] act e f h g = refl
      go false false false (y ∷ ys) act e f h g = refl
