-- The beats of the last WRITE and of the READs since it are the beats that looking back finds. Assumes nothing.
use Rattle.std.specs.Prelude.{Option}
use Prim.Native.Nat.{ℕ, ◌+◌, ◌-◌, ◌<◌, ◌≤◌}
use native.Mathlib.Omega.{arith}
use mathlib.Core.Path.{◌≡◌, refl, sym, ◌∙◌}
use mathlib.Core.Bool.{Bool, true, false, not, ◌&&◌, ◌||◌, cond, and-false, and-true, and_comm, or-false, or-true}
use mathlib.Core.List.{List, [], ◌∷◌}
use lib.Dec.{leb, ltb}
use borrow.Author.Tests.{lt-ltb, le-ltb, lt-leb, le-leb, leb-true, leb-false, ltb-true, ltb-false, eqb-true, ne_eqb}
use Rattle.units.specs.declared.Clock.{Clock}
use Rattle.units.specs.Time.{clock}
use Rattle.layout.specs.declared.Record.{Record}
use Rattle.layout.specs.Commands.{code_of, command}
use Rattle.mode.specs.Word.{full_page, length_of, latency, write_length, write_endless}
use Rattle.bursts.specs.declared.Beat.{Beat}
use Rattle.bursts.specs.declared.Beat.TheVariants.{Quiet, Stores, Drives}
use Rattle.bursts.specs.Burst.{has_beat, write_beat, reads_on, read_beat}
use Rattle.lookback.specs.Past.{first_free, clock_in, stands}
use Rattle.lookback.specs.StartUp.{mode_in}
use Rattle.lookback.specs.Bursts.{
  reads,
  writes,
  cells_in,
  cuts_write,
  write_has,
  write_on,
  cuts_read,
  read_has,
  read_first,
  read_on,
}
use Rattle.lookback.proofs.Held.{uncut, cuts_from, registered, write_back, reads_back}
use Rattle.lookback.proofs.Lost.{Summed, none_after, all_told, one_back, own_kept}
use Rattle.lookback.proofs.FourReads.{latest_beat}

-- ── Numbers ──

-- clock n is beat n - w
own_beat_number : (w n l : ℕ) → w ≤ n → ltb n (w + l) ≡ ltb (n - w) l
own_beat_number w n l h = go (ltb (n - w) l) refl
  where
    go : (x : Bool) → ltb (n - w) l ≡ x → ltb n (w + l) ≡ ltb (n - w) l
    go true p = rw (p, lt-ltb n (w + l) (omega (arith, h, ltb-true (n - w) l p)))
    go false p = rw (p, le-ltb n (w + l) (omega (arith, h, ltb-false (n - w) l p)))

back_again : (w n : ℕ) → w ≤ n → w + (n - w) ≡ n
back_again w n h = omega (arith, h)

-- ── The WRITE ──

module _ (all : List Record) (masks : ℕ) (n : Clock) where
  -- a WRITE before one that stands by clock n has lost its beat
  older_writes : (v : ℕ) (past : List Record) → v ≤ n.0 → first_free past ≤ v
      → ((i x : ℕ) → x < v → stands (cuts_write i) x n.0 all ≡ true) → write_on all masks n past ≡ Quiet
  unfolding write_on
  older_writes v [] h k cut = refl
  older_writes v (r ∷ past) h k cut =
      let w = (clock_in past r).0 in
      rw (back_again w n.0 (omega arith), cut r.ba w (omega arith), and-false, and-false, and-false)
      (older_writes v past h (omega arith) cut)

  module _ (c : ℕ → Option Clock) (r : Record) (past : List Record) (s : Summed cuts_write c all (r ∷ past))
      (h : (clock_in past r).0 ≤ n.0) where
    write_same : has_beat (registered c r past) (write_length (mode_in past)) (write_endless (mode_in past)) n
        ≡ (leb (clock_in past r).0 n.0 && write_has all r past (n.0 - (clock_in past r).0))
    unfolding has_beat
    write_same =
        let w = (clock_in past r).0 in
        rw (
          le-leb w n.0 h,
          back_again w n.0 h,
          own_kept cuts_write c all r past s r.ba n,
          own_beat_number w n.0 (write_length (mode_in past)) h,
        )
        (and_comm (not (stands (cuts_write r.ba) w n.0 all))
        (write_endless (mode_in past) || ltb (n.0 - w) (write_length (mode_in past))))

    newer_cuts : writes r ≡ true → (i x : ℕ) → x < (clock_in past r).0 → stands (cuts_write i) x n.0 all ≡ true
    newer_cuts e i x k =
        s.lost i x n.0 (omega arith)
        ∙ rw (lt-ltb x (clock_in past r).0 k, le-leb (clock_in past r).0 n.0 h, e, or-true, or-true)

  pub write_told : (c : ℕ → Option Clock) (past : List Record) → Summed cuts_write c all past → first_free past ≤ n.0 + 1
      → write_beat (write_back c past) masks n ≡ write_on all masks n past
  unfolding write_beat write_back write_on has_beat
  write_told c [] s h = refl
  write_told c (r ∷ past) s h =
      go (writes r) refl (write_told (cuts_from r past c) past (one_back cuts_write c all r past s (λ i. refl)) (omega arith))
    where
      own : (x y : Bool) → x ≡ y → write_on all masks n past ≡ Quiet
          → cond x (Stores (cells_in r past (n.0 - (clock_in past r).0) masks)) Quiet
          ≡ cond y (Stores (cells_in r past (n.0 - (clock_in past r).0) masks)) (write_on all masks n past)
      own true y e q = rw (← e)
      own false y e q = rw (← e) (sym q)

      go : (x : Bool) → writes r ≡ x → write_beat (write_back (cuts_from r past c) past) masks n ≡ write_on all masks n past
          → write_beat (cond x (registered c r past) (write_back (cuts_from r past c) past)) masks n
          ≡ cond (x && (leb (clock_in past r).0 n.0 && write_has all r past (n.0 - (clock_in past r).0)))
          (Stores (cells_in r past (n.0 - (clock_in past r).0) masks)) (write_on all masks n past)
      go true e rest =
          own _ _ (write_same c r past s (omega arith))
          (older_writes (clock_in past r).0 past (omega arith) (omega arith) (newer_cuts c r past s (omega arith) e))
      go false e rest = rest

-- ── The READs ──

-- clock n is beat n - (w + l) of a READ at w with CL l
module _ (w l n len : ℕ) (full : Bool) (kept : ℕ → Bool) where
  by_number :
      (leb l n && ((leb w (n - l) && kept (n - l)) && (full || ltb (n - l) (w + len))))
      ≡ (leb (w + l) n && ((full || ltb (n - (w + l)) len) && kept (w + (n - (w + l)))))
  by_number = go (leb (w + l) n) refl
    where
      late : (x : Bool) → leb l n ≡ x → n < w + l
          → (leb l n && ((leb w (n - l) && kept (n - l)) && (full || ltb (n - l) (w + len)))) ≡ false
      late true p h = rw (p, lt-leb w (n - l) (omega (arith, h, leb-true l n p)))
      late false p h = rw p

      go : (x : Bool) → leb (w + l) n ≡ x
          → (leb l n && ((leb w (n - l) && kept (n - l)) && (full || ltb (n - l) (w + len))))
          ≡ (leb (w + l) n && ((full || ltb (n - (w + l)) len) && kept (w + (n - (w + l)))))
      go true e =
          let h = leb-true (w + l) n e in
          let i : n - l - w ≡ n - (w + l) = omega (arith, h) in
          let j : w + (n - (w + l)) ≡ n - l = omega (arith, h) in
          rw (
            e,
            j,
            le-leb l n (omega (arith, h)),
            le-leb w (n - l) (omega (arith, h)),
            own_beat_number w (n - l) len (omega (arith, h)),
            i,
          )
          (and_comm (kept (n - l)) (full || ltb (n - (w + l)) len))
      go false e = rw e (late (leb l n) refl (leb-false (w + l) n e))

-- a WRITE is no READ, and what is no WRITE cuts READs as it cuts WRITEs
no_read : (r : Record) → writes r ≡ true → reads r ≡ false
no_read r e = ne_eqb (code_of (command r)) 5 (λ f. omega (arith, f, eqb-true (code_of (command r)) 4 e))

cuts_both : (r : Record) → writes r ≡ false → (i : ℕ) → cuts_read i r ≡ cuts_write i r
cuts_both r e i = rw (e, or-false)

module _ (all : List Record) (masks : ℕ) (n : Clock) where
  -- a READ before a WRITE that stands by clock n has lost its beat
  older_reads : (v : ℕ) (past : List Record) → v ≤ n.0 → first_free past ≤ v
      → ((x : ℕ) → x < v → stands writes x n.0 all ≡ true) → read_on all masks n past ≡ Quiet
  unfolding read_on
  older_reads v [] h k cut = refl
  older_reads v (r ∷ past) h k cut = go (leb (read_first r past) n.0) refl (older_reads v past h (omega arith) cut)
    where
      go : (x : Bool) → leb (read_first r past) n.0 ≡ x → read_on all masks n past ≡ Quiet
          → cond (reads r && (leb (read_first r past) n.0 && read_has all r past (n.0 - read_first r past)))
          (Drives (cells_in r past (n.0 - read_first r past) masks))
          (read_on all masks n past)
          ≡ Quiet
      go true e rest =
          rw (
            back_again (read_first r past) n.0 (leb-true (read_first r past) n.0 e),
            cut (clock_in past r).0 (omega arith),
            and-false,
            and-false,
            and-false,
            and-false,
          )
          rest
      go false e rest = rw (e, and-false) rest

  module _ (c : ℕ → Option Clock) (r : Record) (past : List Record) (s : Summed cuts_read c all (r ∷ past))
      (free : (x f : ℕ) → x < first_free (r ∷ past) → stands writes x f all ≡ stands writes x f (r ∷ past)) where
    unwritten : (f : ℕ) → stands writes (clock_in past r).0 f all ≡ false
    unwritten f = free (clock_in past r).0 f (omega arith) ∙ none_after writes (clock_in past r).0 f (r ∷ past) (omega arith)

    -- the READ that r registers runs on clock n
    read_same : reads_on (registered c r past) n
        ≡ (leb (read_first r past) n.0 && read_has all r past (n.0 - read_first r past))
    unfolding has_beat
    read_same =
        rw (
          own_kept cuts_read c all r past s r.ba (clock (n.0 - latency (mode_in past))),
          unwritten (read_first r past + (n.0 - read_first r past)),
          and-true,
        )
        (by_number (clock_in past r).0 (latency (mode_in past)) n.0 (length_of (mode_in past)) (full_page (mode_in past))
        (λ f. not (stands (cuts_read r.ba) (clock_in past r).0 f all)))

  pub read_told : (c : ℕ → Option Clock) (past : List Record) → Summed cuts_read c all past
      → ((x f : ℕ) → x < first_free past → stands writes x f all ≡ stands writes x f past) → first_free past ≤ n.0 + 1
      → latest_beat (reads_back c past) masks n ≡ read_on all masks n past
  unfolding reads_back read_beat read_on
  read_told c [] s free h = refl
  read_told c (r ∷ past) s free h =
      go (writes r) (reads r) refl refl
      (λ e. read_told (cuts_from r past c) past (one_back cuts_read c all r past s (cuts_both r e)) (further e) (omega arith))
    where
      further : writes r ≡ false → (x f : ℕ) → x < first_free past → stands writes x f all ≡ stands writes x f past
      further e x f k = free x f (omega (arith, k)) ∙ rw e

      own : (x y : Bool) (b d : Beat) → x ≡ y → b ≡ d
          → cond x (cond x (Drives (cells_in r past (n.0 - latency (mode_in past) - (clock_in past r).0) masks)) Quiet) b
          ≡ cond y (Drives (cells_in r past (n.0 - read_first r past) masks)) d
      own true y b d e q =
          let i : n.0 - latency (mode_in past) - (clock_in past r).0 ≡ n.0 - read_first r past = omega arith in
          rw (← e, i)
      own false y b d e q = rw (← e) q

      by_write : writes r ≡ true → (x : ℕ) → x < (clock_in past r).0 → stands writes x n.0 all ≡ true
      by_write e x k =
          free x n.0 (omega (arith, k))
          ∙ rw (e, lt-ltb x (clock_in past r).0 k, le-leb (clock_in past r).0 n.0 (omega arith))

      go : (x y : Bool) → writes r ≡ x → reads r ≡ y
          → (writes r ≡ false → latest_beat (reads_back (cuts_from r past c) past) masks n ≡ read_on all masks n past)
          → latest_beat
          (cond x [] (cond y (registered c r past ∷ reads_back (cuts_from r past c) past) (reads_back (cuts_from r past c) past)))
          masks n
          ≡ cond (y && (leb (read_first r past) n.0 && read_has all r past (n.0 - read_first r past)))
          (Drives (cells_in r past (n.0 - read_first r past) masks))
          (read_on all masks n past)
      go true y e f rest =
          let z : y ≡ false = sym f ∙ no_read r e in
          rw z (sym (older_reads (clock_in past r).0 past (omega arith) (omega arith) (by_write e)))
      go false true e f rest = own _ _ _ _ (read_same c r past s free) (rest e)
      go false false e f rest = rest e

-- ── All records told ──

module _ (past : List Record) (masks : ℕ) (n : Clock) (h : first_free past ≤ n.0 + 1) where
  pub write_found : write_beat (write_back uncut past) masks n ≡ write_on past masks n past
  write_found = write_told past masks n uncut past (all_told cuts_write past) h

  pub reads_found : latest_beat (reads_back uncut past) masks n ≡ read_on past masks n past
  reads_found = read_told past masks n uncut past (all_told cuts_read past) (λ x f k. refl) h
