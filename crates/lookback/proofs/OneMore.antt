-- The state that looking back finds, one taken record more, is what `next` makes of it. Assumes nothing.
use Rattle.std.specs.Prelude.{None, Some}
use Prim.Native.Nat.{ℕ, ◌+◌}
use native.Mathlib.Omega.{arith}
use mathlib.Core.Path.{◌≡◌, refl, ap₂, ◌∙◌}
use mathlib.Core.Bool.{Bool, true, false, cond}
use mathlib.Core.List.{List, [], ◌∷◌}
use Rattle.units.specs.declared.Clock.{Clock}
use Rattle.units.specs.declared.Ps.{Ps}
use Rattle.units.specs.Time.{at}
use Rattle.speed.specs.declared.SpeedTable.{SpeedTable}
use Rattle.layout.specs.declared.Record.{Record}
use Rattle.layout.specs.Commands.{command, access}
use Rattle.bursts.specs.Bus.{write_after, reads_after, bus_after, beat_on, stores_in, two_before, or_else}
use Rattle.rules.specs.declared.Status.{Status}
use Rattle.rules.specs.declared.Status.TheVariants.{Open}
use Rattle.rules.specs.declared.Bank.{Bank}
use Rattle.rules.specs.declared.Setup.{Setup}
use Rattle.rules.specs.Parts.{bank_of}
use Rattle.rules.specs.StartUp.{begun}
use Rattle.rules.specs.Banks.{is_open, is_closed, banks_found}
use Rattle.rules.specs.After.{
  core_from,
  core_after,
  with_status,
  precharged,
  auto_closed,
  activated,
  bank_after,
  marked,
  commanded,
  mark_banks,
  banks_after,
  own_row,
  beat,
  next,
}
use Rattle.lookback.specs.Past.{clock_in, count, masks_at}
use Rattle.lookback.specs.StartUp.{mode_in, startup_in}
use Rattle.lookback.specs.Banks.{activates, auto_closes, precharges, row_in, end_in, status_in}
use Rattle.lookback.specs.Beats.{beat_in, stored_in}
use Rattle.lookback.specs.Look.{bank_in, banks_in}
use Rattle.lookback.proofs.Fold.{startup_step, last_step}
use Rattle.lookback.proofs.Status.{status_step}
use Rattle.lookback.proofs.Held.{uncut, write_back, held}
use Rattle.lookback.proofs.HeldReads.{write_step, reads_step}
use Rattle.lookback.proofs.FourReads.{Words, held_beat}
use Rattle.lookback.proofs.HeldMasks.{masks_held, same_masks}
use Rattle.lookback.proofs.OwnBeats.{write_found, reads_found}
use Rattle.lookback.proofs.State.{core_in, state_in, free_clock}
use Rattle.lookback.proofs.OpenBank.{access_open, auto_open, row_at, write_row, reads_row}

-- ── All but the banks; `row0` is the open row that the state finds ──

module _ (t : SpeedTable) (period : Ps) (grade bank row : ℕ) (r : Record) (past : List Record) (row0 : ℕ)
    (same_row : access (command r) ≡ true → row0 ≡ row_in r.ba past) (w : Words (r ∷ past)) where
  write_one : write_after (command r) r (clock_in past r) (mode_in past) row0 (write_back uncut past)
      ≡ write_back uncut (r ∷ past)
  write_one =
      write_row (command r) r (clock_in past r) (mode_in past) row0 (row_in r.ba past) same_row (write_back uncut past)
      ∙ write_step r past

  reads_one : reads_after (command r) r (clock_in past r) (mode_in past) row0 (held past) ≡ held (r ∷ past)
  reads_one =
      reads_row (command r) r (clock_in past r) (mode_in past) row0 (row_in r.ba past) same_row (held past)
      ∙ reads_step r past w.1

  core_one : core_after (core_in period grade bank row past) r row0 ≡ core_in period grade bank row (r ∷ past)
  unfolding core_after core_from bus_after masks_held
  core_one =
      rw (free_clock past)
      (λ i. record {
        period = period;
        grade = grade;
        bank = bank;
        row = row;
        number = count past + 1;
        last = Some (clock_in past r);
        startup = startup_step r past i;
        bus = record { write = write_one i; reads = reads_one i; masks = masks_held (r ∷ past) };
      })

  pub beat_one : beat (core_in period grade bank row past) r row0 ≡ beat_in past r
  unfolding beat beat_on beat_in
  beat_one =
      let n = clock_in past r in
      let m = masks_at past (two_before n) in
      rw (free_clock past, write_one, reads_one, same_masks past (two_before n) (omega arith))
      (ap₂ or_else (write_found (r ∷ past) r.masks n (omega arith))
      (held_beat (r ∷ past) m n w (omega arith) ∙ reads_found (r ∷ past) m n (omega arith)))

-- ── A bank ──

bank_split : (x a b c : Bool) (n : Clock) (addr : ℕ) (p q : Status) (d : Bank)
    → marked x n (cond a (activated addr n) (cond b (with_status p d) (cond c (with_status q d) d)))
    ≡ bank_of (cond a (Open addr n) (cond b p (cond c q d.status))) (cond a (Some n) d.active)
    (cond x (Some n) (cond a None d.stored))
bank_split x true b c n addr p q d = refl
bank_split x false true c n addr p q d = refl
bank_split x false false true n addr p q d = refl
bank_split x false false false n addr p q d = refl

module _ (t : SpeedTable) (period : Ps) (r : Record) (past : List Record) (again : Bool) where
  -- bank i after r's command, and after the beat on its clock
  abbrev commanded_bank : ℕ → Bank
  commanded_bank i =
      bank_after (command r) t period (end_in t period r past) again r (clock_in past r) (at period (clock_in past r)) i
      (bank_in t period i past)

  abbrev left_bank : ℕ → Bank
  left_bank i = marked (stores_in (beat_in past r) i) (clock_in past r) (commanded_bank i)

  bank_one : (i : ℕ) → (auto_closes i r ≡ true → is_open (status_in t period i past) ≡ true)
      → (is_closed (status_in t period i past) ≡ true → again ≡ true)
      → left_bank i ≡ bank_in t period i (r ∷ past)
  unfolding bank_after stored_in
  bank_one i h g =
      bank_split (stores_in (beat_in past r) i) (activates i r) (auto_closes i r) (precharges i r) (clock_in past r) r.addr
      (auto_closed t period (end_in t period r past) (status_in t period i past))
      (precharged again (at period (clock_in past r)) (status_in t period i past))
      (bank_in t period i past)
      ∙ (λ j. bank_of (status_step t period i r past again h g j) (last_step (activates i) r past j) (stored_in i (r ∷ past)))

-- ── The state ──

module _ (u : Setup) (period : Ps) (grade bank row : ℕ) (r : Record) (past : List Record)
    (f : banks_found (command r) r.ba (banks_in u.table period past) ≡ true)
    (g : (i : ℕ) → is_closed (status_in u.table period i past) ≡ true → begun (startup_in past) ≡ true)
    (w : Words (r ∷ past)) where
  pub same_row : access (command r) ≡ true → own_row (state_in u.table period grade bank row past) r ≡ row_in r.ba past
  same_row a = row_at u.table period past r.ba (access_open (command r) r.ba (banks_in u.table period past) f a)

  bank_more : (i : ℕ) → left_bank u.table period r past (begun (startup_in past)) i ≡ bank_in u.table period i (r ∷ past)
  bank_more i = bank_one u.table period r past (begun (startup_in past)) i (auto_open u.table period r past f i) (g i)

  pub state_more : next u (state_in u.table period grade bank row past) r
      ≡ state_in u.table period grade bank row (r ∷ past)
  unfolding next banks_after mark_banks commanded
  state_more =
      rw (
        beat_one u.table period grade bank row r past (own_row (state_in u.table period grade bank row past) r) same_row w,
        core_one u.table period grade bank row r past (own_row (state_in u.table period grade bank row past) r) same_row w,
        free_clock past,
      )
      (λ j. record {
        core = core_in period grade bank row (r ∷ past);
        banks = bank_more 0 j ∷ bank_more 1 j ∷ bank_more 2 j ∷ bank_more 3 j ∷ [];
      })
