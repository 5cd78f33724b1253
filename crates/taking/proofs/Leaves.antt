-- Most commands leave the four banks as they were. Assumes nothing.
use Prim.Native.Nat.{ℕ}
use Rattle.std.specs.Prelude.{None, Some}
use native.Mathlib.Omega.{arith}
use mathlib.Core.Path.{◌≡◌, refl, ap, sym}
use mathlib.Core.Bool.{Bool, true, false, ◌&&◌, ◌||◌, cond}
use mathlib.Core.List.{List, [], ◌∷◌}
use lib.Dec.{eqb}
use lib.ListN.{length}
use Rattle.units.specs.declared.Clock.{Clock}
use Rattle.units.specs.declared.Ps.{Ps}
use Rattle.speed.specs.declared.SpeedTable.{SpeedTable}
use Rattle.layout.specs.declared.Record.{Record}
use Rattle.layout.specs.declared.Command.{Command}
use Rattle.layout.specs.declared.Command.TheVariants.{Active, Precharge}
use Rattle.layout.specs.Commands.{is, covers}
use Rattle.bursts.specs.declared.Beat.{Beat}
use Rattle.taking.specs.Marks.{stores_byte, bank_of}
use Rattle.rules.specs.declared.Bank.{Bank}
use Rattle.rules.specs.Banks.{bank_at}
use Rattle.rules.specs.Rules.{asks_auto}
use Rattle.rules.specs.After.{with_status, precharged, auto_closed, activated, bank_after, each_bank, commanded}
use Rattle.rules.proofs.Four.{four}

pub each_four : (f : ℕ → Bank → Bank) (l : List Bank) → length l ≡ 4
    → each_bank f 0 l ≡ (f 0 (bank_at l 0) ∷ f 1 (bank_at l 1) ∷ f 2 (bank_at l 2) ∷ f 3 (bank_at l 3) ∷ [])
each_four f l h = ap (each_bank f 0) (four l h)

pub each_same : (f : ℕ → Bank → Bank) (i : ℕ) (l : List Bank) → ((i : ℕ) (b : Bank) → f i b ≡ b) → each_bank f i l ≡ l
each_same f i [] h = refl
each_same f i (b ∷ l) h = rw (h i b, each_same f (ℕ.suc i) l h)

module _ (k : Command) (t : SpeedTable) (period end : Ps) (again : Bool) (r : Record) (n : Clock) (moment : Ps) where
  pub untouched : (is k Active || (asks_auto k r || is k Precharge)) ≡ false → (l : List Bank) → commanded k t period end again r n moment l ≡ l
  unfolding commanded bank_after
  untouched h l = each_same (bank_after k t period end again r n moment) 0 l (λ i b. go (is k Active) (asks_auto k r) (is k Precharge) h i b)
    where
      go : (x y z : Bool) → (x || (y || z)) ≡ false → (i : ℕ) (b : Bank)
          → cond (x && eqb i r.ba) (activated r.addr n)
          (cond (y && eqb i r.ba) (with_status (auto_closed t period end b.status) b)
          (cond (z && covers r.addr r.ba i) (with_status (precharged again moment b.status) b) b))
          ≡ b
      go false false false h i b = refl
      go true y z h i b = cc
      go false true z h i b = cc
      go false false true h i b = cc

-- ── A stored byte ──

pub stored_some : (w : Beat) (i : ℕ) → cond (stores_byte w) (Some (bank_of w)) None ≡ Some i → (stores_byte w ≡ true) × (i ≡ bank_of w)
stored_some w i = go (stores_byte w)
  where
    go : (x : Bool) → cond x (Some (bank_of w)) None ≡ Some i → (x ≡ true) × (i ≡ bank_of w)
    go true h = let e : bank_of w ≡ i = cc in (refl, sym e)
    go false h = let z : ◌≡◌ {A = ℕ} 0 1 = cc in absurd (omega arith)

pub stored_none : (w : Beat) → cond (stores_byte w) (Some (bank_of w)) None ≡ None → stores_byte w ≡ false
stored_none w = go (stores_byte w)
  where
    go : (x : Bool) → cond x (Some (bank_of w)) None ≡ None → x ≡ false
    go true h = let z : ◌≡◌ {A = ℕ} 0 1 = cc in absurd (omega arith)
    go false h = refl
