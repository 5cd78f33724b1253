-- A READ or WRITE that was taken found its bank open: the row of its burst is that of the last ACTIVE. Assumes nothing.
use Prim.Native.Nat.{ℕ, zero, suc}
use mathlib.Core.Path.{◌≡◌, refl, sym, subst}
use mathlib.Core.Bool.{true, true≢false}
use mathlib.Core.List.{List, [], ◌∷◌}
use lib.Dec.{eqb}
use borrow.Author.Tests.{eqb-true}
use Rattle.units.specs.declared.Clock.{Clock}
use Rattle.units.specs.declared.Ps.{Ps}
use Rattle.units.proofs.Both.{both}
use Rattle.speed.specs.declared.SpeedTable.{SpeedTable}
use Rattle.layout.specs.declared.Record.{Record}
use Rattle.layout.specs.declared.Command.{Command}
use Rattle.layout.specs.declared.Command.TheVariants.{
  Inhibit,
  Nop,
  Active,
  Read,
  Write,
  Terminate,
  Precharge,
  Refresh,
  LoadMode,
}
use Rattle.layout.specs.Commands.{command, access, a10}
use Rattle.bursts.specs.declared.Burst.{Burst}
use Rattle.bursts.specs.Bus.{reads_from, write_after, reads_after}
use Rattle.rules.specs.declared.Bank.{Bank}
use Rattle.rules.specs.Banks.{bank_at, is_open, row_of, banks_found}
use Rattle.rules.specs.Rules.{asks_auto}
use Rattle.lookback.specs.Past.{back_to}
use Rattle.lookback.specs.Banks.{activates, auto_closes, row_by, row_in, back_to_close, status_by, status_in}
use Rattle.lookback.specs.Look.{banks_in}

-- ── The open bank of a READ or WRITE ──

open_row : (t : SpeedTable) (period : Ps) (i : ℕ) (past : List Record) → is_open (status_in t period i past) ≡ true
    → row_of (status_in t period i past) ≡ row_in i past
open_row t period i past = go (back_to_close i past) (back_to (activates i) past)
  where
    go : (cl act : List Record) → is_open (status_by t period i cl act) ≡ true → row_of (status_by t period i cl act) ≡ row_by act
    go [] [] h = refl
    go [] (x ∷ xs) h = refl
    go (y ∷ ys) act h = absurd (true≢false (sym h))

-- bank i of the four, where it is open
module _ (t : SpeedTable) (period : Ps) (past : List Record) where
  pub open_at : (i : ℕ) → is_open (bank_at (banks_in t period past) i).status ≡ true → is_open (status_in t period i past) ≡ true
  open_at zero h = h
  open_at (suc zero) h = h
  open_at (suc (suc zero)) h = h
  open_at (suc (suc (suc zero))) h = h
  open_at (suc (suc (suc (suc i)))) h = absurd (true≢false (sym h))

  pub row_at : (i : ℕ) → is_open (bank_at (banks_in t period past) i).status ≡ true
      → row_of (bank_at (banks_in t period past) i).status ≡ row_in i past
  row_at zero h = open_row t period 0 past h
  row_at (suc zero) h = open_row t period 1 past h
  row_at (suc (suc zero)) h = open_row t period 2 past h
  row_at (suc (suc (suc zero))) h = open_row t period 3 past h
  row_at (suc (suc (suc (suc i)))) h = absurd (true≢false (sym h))

pub access_open : (k : Command) (ba : ℕ) (bs : List Bank) → banks_found k ba bs ≡ true → access k ≡ true
    → is_open (bank_at bs ba).status ≡ true
unfolding banks_found
access_open Inhibit ba bs h a = absurd (true≢false (sym a))
access_open Nop ba bs h a = absurd (true≢false (sym a))
access_open Active ba bs h a = absurd (true≢false (sym a))
access_open Read ba bs h a = (both _ _ h).0
access_open Write ba bs h a = (both _ _ h).0
access_open Terminate ba bs h a = absurd (true≢false (sym a))
access_open Precharge ba bs h a = absurd (true≢false (sym a))
access_open Refresh ba bs h a = absurd (true≢false (sym a))
access_open LoadMode ba bs h a = absurd (true≢false (sym a))

-- the bank of an auto precharge is open
pub auto_open : (t : SpeedTable) (period : Ps) (r : Record) (past : List Record)
    → banks_found (command r) r.ba (banks_in t period past) ≡ true
    → (i : ℕ) → auto_closes i r ≡ true → is_open (status_in t period i past) ≡ true
auto_open t period r past f i h =
    let a = both (asks_auto (command r) r) (eqb i r.ba) h in
    let e = (both (access (command r)) (a10 r) a.0).0 in
    let o = open_at t period past r.ba (access_open (command r) r.ba (banks_in t period past) f e) in
    subst (λ (j : ℕ). is_open (status_in t period j past) ≡ true) (sym (eqb-true i r.ba a.1)) o

-- ── The row matters to a READ or WRITE only ──

module _ (k : Command) (r : Record) (n : Clock) (w a b : ℕ) (e : access k ≡ true → a ≡ b) where
  pub write_row : (x : Burst) → write_after k r n w a x ≡ write_after k r n w b x
  write_row x = go k e
    where
      go : (k : Command) → (access k ≡ true → a ≡ b) → write_after k r n w a x ≡ write_after k r n w b x
      go Inhibit e = refl
      go Nop e = refl
      go Active e = refl
      go Read e = refl
      go Write e = rw (e refl)
      go Terminate e = refl
      go Precharge e = refl
      go Refresh e = refl
      go LoadMode e = refl

  pub reads_row : (l : List Burst) → reads_after k r n w a l ≡ reads_after k r n w b l
  unfolding reads_from
  reads_row l = go k e
    where
      go : (k : Command) → (access k ≡ true → a ≡ b) → reads_after k r n w a l ≡ reads_after k r n w b l
      go Inhibit e = refl
      go Nop e = refl
      go Active e = refl
      go Read e = rw (e refl)
      go Write e = refl
      go Terminate e = refl
      go Precharge e = refl
      go Refresh e = refl
      go LoadMode e = refl
