-- When a burst has a beat (01, Beats), with clocks compared by subtraction as the code does it. Assumes nothing.
use Prim.Native.Nat.{ℕ, suc, ◌+◌, ◌-◌, ◌≤◌, ◌<◌}
use native.Mathlib.Omega.{arith}
use mathlib.Core.Path.{◌≡◌, sym}
use mathlib.Core.Bool.{Bool, true, false, ◌&&◌, ◌||◌, and-false}
use lib.Dec.{leb, ltb}
use borrow.Author.Tests.{le-leb, lt-leb, leb-true}
use Rattle.units.specs.declared.Clock.{Clock}
use Rattle.units.specs.Time.{clock}
use Rattle.mode.specs.Word.{length_of, full_page, latency, write_length, write_endless}
use Rattle.units.proofs.Both.{both}
use Rattle.units.proofs.Subtraction.{leb_alike}
use Rattle.bursts.specs.declared.Burst.{Burst}
use Rattle.bursts.specs.declared.Beat.TheVariants.{Quiet}
use Rattle.bursts.specs.Burst.{before_cut, in_time, has_beat, write_beat, reads_on}

-- n is before k after s: less than k has gone by since s
ltb_since : (n s k : ℕ) → s ≤ n → ltb n (s + k) ≡ ltb (n - s) k
ltb_since n s k h = leb_alike (suc n) (s + k) (suc (n - s)) k (λ p. omega arith) (λ p. omega arith)

-- ── In time ──

module _ (b : Burst) (n : Clock) where
  pub no_burst_in_time : b.live ≡ false → false ≡ in_time b n
  no_burst_in_time h = rw h

  pub ahead_not_in_time : n.0 < b.start.0 → false ≡ in_time b n
  ahead_not_in_time h = simp (lt-leb b.start.0 n.0 h, and-false)

  pub in_time_unless_cut : b.live ≡ true → b.start.0 ≤ n.0 → before_cut b.start n b.cut ≡ in_time b n
  in_time_unless_cut l h = rw (l, le-leb b.start.0 n.0 h)

  -- a burst that is in time is not ahead
  pub in_time_is_not_ahead : in_time b n ≡ true → b.start.0 ≤ n.0
  in_time_is_not_ahead h =
      leb-true b.start.0 n.0
      (both b.live (leb b.start.0 n.0) (both (b.live && leb b.start.0 n.0) (before_cut b.start n b.cut) h).0).1

-- ── A beat ──

module _ (b : Burst) (length : ℕ) (endless : Bool) (n : Clock) where
  -- none where the burst is not in time, whatever else holds
  pub none_out_of_time : in_time b n ≡ false → has_beat b length endless n ≡ false
  unfolding has_beat
  none_out_of_time h = rw h

  pub none_where_no_burst : b.live ≡ false → has_beat b length endless n ≡ false
  none_where_no_burst h = none_out_of_time (sym (no_burst_in_time b n h))

  -- in time, by what has gone by since the registration
  pub beat_in_time : in_time b n ≡ true → has_beat b length endless n ≡ (endless || ltb (n.0 - b.start.0) length)
  unfolding has_beat
  beat_in_time h = rw (h, ltb_since n.0 b.start.0 length (in_time_is_not_ahead b n h))

  pub beat_is_in_time : has_beat b length endless n ≡ true → in_time b n ≡ true
  unfolding has_beat
  beat_is_in_time h = (both (in_time b n) (endless || ltb n.0 (b.start.0 + length)) h).0

module _ (b : Burst) (masks : ℕ) (n : Clock) where
  pub quiet_write : in_time b n ≡ false → Quiet ≡ write_beat b masks n
  unfolding write_beat
  quiet_write h = rw (none_out_of_time b (write_length b.word) (write_endless b.word) n h)

module _ (b : Burst) (n : Clock) where
  -- the clock of the fetch that is seen on clock n
  abbrev fetch : Clock
  fetch = clock (n.0 - latency b.word)

  pub reads_none : b.live ≡ false → false ≡ reads_on b n
  reads_none h = rw (none_where_no_burst b (length_of b.word) (full_page b.word) fetch h, and-false)

  -- nor where the burst was not in time for it
  pub reads_none_out_of_time : in_time b fetch ≡ false → false ≡ reads_on b n
  reads_none_out_of_time h = rw (none_out_of_time b (length_of b.word) (full_page b.word) fetch h, and-false)

  pub reads_in_time : latency b.word ≤ n.0 → in_time b fetch ≡ true
      → (full_page b.word || ltb (n.0 - latency b.word - b.start.0) (length_of b.word)) ≡ reads_on b n
  reads_in_time l h = rw (le-leb (latency b.word) n.0 l, beat_in_time b (length_of b.word) (full_page b.word) fetch h)

  -- a beat on the bus is one that was fetched CL clocks before, not before the registration
  pub fetched_late : reads_on b n ≡ true → latency b.word ≤ n.0
  fetched_late h =
      leb-true _ _ (both (leb (latency b.word) n.0) (has_beat b (length_of b.word) (full_page b.word) fetch) h).0

  pub fetched_since : reads_on b n ≡ true → b.start.0 ≤ n.0 - latency b.word
  fetched_since h =
      in_time_is_not_ahead b fetch
      (beat_is_in_time b (length_of b.word) (full_page b.word) fetch
      (both (leb (latency b.word) n.0) (has_beat b (length_of b.word) (full_page b.word) fetch) h).1)
