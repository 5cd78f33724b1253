-- What a command and a beat leave of the four banks, one bank at a time. Assumes nothing.
use Prim.Native.Nat.{ℕ, zero, suc, ◌%◌, ◌<◌}
use native.Mathlib.Omega.{arith}
use mathlib.Core.Path.{◌≡◌, refl, ap, sym, subst, ◌∙◌}
use mathlib.Core.Bool.{Bool, true, false, not, ◌&&◌, true≢false, and-false}
use mathlib.Core.List.{List, [], ◌∷◌}
use lib.Dec.{ltb, eqb}
use lib.ListN.{length, set}
use borrow.Author.Tests.{eq-eqb, ne_eqb, ltb-true, ltb-false}
use Rattle.units.specs.declared.Clock.{Clock}
use Rattle.units.specs.declared.Ps.{Ps}
use Rattle.units.proofs.Both.{both}
use Rattle.speed.specs.declared.SpeedTable.{SpeedTable}
use Rattle.layout.specs.declared.Record.{Record}
use Rattle.layout.specs.declared.Command.{Command}
use Rattle.layout.specs.declared.Command.TheVariants.{Active, Precharge}
use Rattle.layout.specs.Commands.{is, looks_at_all}
use Rattle.layout.proofs.Codes.{other}
use Rattle.bursts.specs.declared.Beat.{Beat}
use Rattle.bursts.specs.declared.Beat.TheVariants.{Quiet, Stores, Drives}
use Rattle.bursts.specs.Bus.{stores_in}
use Rattle.rules.specs.declared.Bank.{Bank}
use Rattle.rules.specs.Banks.{bank_at}
use Rattle.rules.specs.Rules.{asks_auto}
use Rattle.rules.specs.After.{with_status, auto_closed, activated, bank_after, marked, each_bank, commanded, mark_banks}
use Rattle.rules.proofs.Four.{four}
use Rattle.taking.specs.Marks.{stores_byte, bank_of}
use Rattle.taking.proofs.Leaves.{each_four, each_same, untouched}

-- ── The command ──

-- one bank of the four is changed
set_four : (f : ℕ → Bank → Bank) (m : ℕ) → m < 4 → ((i : ℕ) (b : Bank) → (i ≡ m → ⊥) → f i b ≡ b) → (a b c d : Bank)
    → each_bank f 0 (a ∷ b ∷ c ∷ d ∷ []) ≡ set (a ∷ b ∷ c ∷ d ∷ []) m (f m (bank_at (a ∷ b ∷ c ∷ d ∷ []) m))
set_four f zero h same a b c d = rw (same 1 b (λ e. omega arith), same 2 c (λ e. omega arith), same 3 d (λ e. omega arith))
set_four f (suc zero) h same a b c d = rw (same 0 a (λ e. omega arith), same 2 c (λ e. omega arith), same 3 d (λ e. omega arith))
set_four f (suc (suc zero)) h same a b c d = rw (same 0 a (λ e. omega arith), same 1 b (λ e. omega arith), same 3 d (λ e. omega arith))
set_four f (suc (suc (suc zero))) h same a b c d = rw (same 0 a (λ e. omega arith), same 1 b (λ e. omega arith), same 2 c (λ e. omega arith))
set_four f (suc (suc (suc (suc m)))) h same a b c d = absurd (omega arith)

each_set : (f : ℕ → Bank → Bank) (m : ℕ) → m < 4 → ((i : ℕ) (b : Bank) → (i ≡ m → ⊥) → f i b ≡ b) → (l : List Bank) → length l ≡ 4
    → each_bank f 0 l ≡ set l m (f m (bank_at l m))
each_set f m h same l e =
    subst (λ (x : List Bank). each_bank f 0 x ≡ set x m (f m (bank_at x m))) (sym (four l e)) (set_four f m h same _ _ _ _)

module _ (k : Command) (t : SpeedTable) (period end : Ps) (again : Bool) (r : Record) (n : Clock) (moment : Ps) where
  -- a command but PRECHARGE touches its own bank alone
  pub own_commanded : is k Precharge ≡ false → r.ba < 4 → (l : List Bank) → length l ≡ 4
      → set l r.ba (bank_after k t period end again r n moment r.ba (bank_at l r.ba)) ≡ commanded k t period end again r n moment l
  unfolding commanded bank_after
  own_commanded h small l e =
      sym (each_set (bank_after k t period end again r n moment) r.ba small (λ i b d. simp (h, ne_eqb _ _ d, and-false)) l e)

  own_active : is k Active ≡ true → (b : Bank) → activated r.addr n ≡ bank_after k t period end again r n moment r.ba b
  unfolding bank_after
  own_active h b = rw (h, eq-eqb r.ba r.ba refl)

  own_auto : is k Active ≡ false → asks_auto k r ≡ true → (b : Bank)
      → with_status (auto_closed t period end b.status) b ≡ bank_after k t period end again r n moment r.ba b
  unfolding bank_after
  own_auto h a b = rw (h, a, eq-eqb r.ba r.ba refl)

-- ACTIVE, and a READ or WRITE with auto precharge, change the record's bank; the commands above them change none
module _ (k : Command) (t : SpeedTable) (period end : Ps) (again : Bool) (r : Record) (n : Clock) (moment : Ps) (l : List Bank) (e : length l ≡ 4) (small : r.ba < 4) where
  own_place : r.ba % 4 ≡ r.ba
  own_place = omega (arith, small)

  pub active_moved : is k Active ≡ true → set l (r.ba % 4) (activated r.addr n) ≡ commanded k t period end again r n moment l
  active_moved h =
      let other-one = other (λ k. is k Active) k Precharge refl h in
      rw own_place
      (ap (set l r.ba) (own_active k t period end again r n moment h (bank_at l r.ba))
      ∙ own_commanded k t period end again r n moment other-one small l e)

  pub auto_moved : is k Active ≡ false → asks_auto k r ≡ true
      → set l (r.ba % 4) (with_status (auto_closed t period end (bank_at l (r.ba % 4)).status) (bank_at l (r.ba % 4)))
      ≡ commanded k t period end again r n moment l
  auto_moved h a =
      let other-one = other (λ k. asks_auto k r) k Precharge refl a in
      rw own_place
      (ap (set l r.ba) (own_auto k t period end again r n moment h a (bank_at l r.ba))
      ∙ own_commanded k t period end again r n moment other-one small l e)

  pub none_moved : is k Active ≡ false → asks_auto k r ≡ false → looks_at_all k ≡ false → l ≡ commanded k t period end again r n moment l
  none_moved h a g =
      let other-one = other (λ k. not (looks_at_all k)) k Precharge refl (rw g) in
      sym (untouched k t period end again r n moment (rw (h, a, other-one)) l)

-- ── The beat's mark ──

-- a beat that stores no byte in a bank of the module marks none
pub mark_none : (w : Beat) → stores_byte w ≡ false → (n : Clock) (l : List Bank) → length l ≡ 4 → l ≡ mark_banks w n l
unfolding mark_banks stores_byte
mark_none Quiet h n l e = sym (each_same (λ i b. marked (stores_in Quiet i) n b) 0 l (λ i b. refl))
mark_none (Stores c) h n l e = go (eqb c.lanes 0) (ltb c.bank 4) refl refl h
  where
    go : (x y : Bool) → eqb c.lanes 0 ≡ x → ltb c.bank 4 ≡ y → (not x && y) ≡ false → l ≡ each_bank (λ i b. marked (stores_in (Stores c) i) n b) 0 l
    go true y p q h = sym (each_same (λ i b. marked (stores_in (Stores c) i) n b) 0 l (λ i b. rw (p, and-false (eqb i c.bank))))
    go false true p q h = absurd (true≢false h)
    go false false p q h =
        let far = ltb-false c.bank 4 q in
        let none : (i : ℕ) → i < 4 → stores_in (Stores c) i ≡ false = λ i small. rw (ne_eqb i c.bank (λ x. omega (arith, far))) in
        four l e
        ∙ sym (each_four (λ i b. marked (stores_in (Stores c) i) n b) l e
        ∙ rw (none 0 (omega arith), none 1 (omega arith), none 2 (omega arith), none 3 (omega arith)))
mark_none (Drives c) h n l e = sym (each_same (λ i b. marked (stores_in (Drives c) i) n b) 0 l (λ i b. refl))

bank_small : (w : Beat) → stores_byte w ≡ true → bank_of w < 4
unfolding stores_byte bank_of
bank_small Quiet h = absurd (true≢false (sym h))
bank_small (Stores c) h = ltb-true _ _ (both (not (eqb c.lanes 0)) (ltb c.bank 4) h).1
bank_small (Drives c) h = absurd (true≢false (sym h))

-- one that stores marks its bank
mark_one : (w : Beat) → stores_byte w ≡ true → (n : Clock) (l : List Bank) → length l ≡ 4
    → set l (bank_of w) (marked true n (bank_at l (bank_of w))) ≡ mark_banks w n l
unfolding mark_banks stores_byte bank_of
mark_one Quiet h n l e = absurd (true≢false (sym h))
mark_one (Stores c) h n l e =
    let b = both (not (eqb c.lanes 0)) (ltb c.bank 4) h in
    let own : true ≡ stores_in (Stores c) c.bank = rw (eq-eqb c.bank c.bank refl, b.0) in
    ap (λ (x : Bool). set l c.bank (marked x n (bank_at l c.bank))) own
    ∙ sym (each_set (λ i b. marked (stores_in (Stores c) i) n b) c.bank (ltb-true _ _ b.1) (λ i b d. rw (ne_eqb _ _ d)) l e)
mark_one (Drives c) h n l e = absurd (true≢false (sym h))

-- the same by the place that is looked up
pub mark_placed : (w : Beat) → stores_byte w ≡ true → (n : Clock) (l : List Bank) → length l ≡ 4
    → set l (bank_of w % 4) (marked true n (bank_at l (bank_of w % 4))) ≡ mark_banks w n l
mark_placed w h n l e = let p : bank_of w % 4 ≡ bank_of w = omega (arith, bank_small w h) in rw p (mark_one w h n l e)
