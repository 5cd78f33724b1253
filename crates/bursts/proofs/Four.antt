-- Recursions on the four READ bursts, as the code writes them out. Assumes nothing.
use Rattle.std.specs.Prelude.{None}
use Rattle.std.specs.List.{list_all}
use Prim.Native.Nat.{ℕ}
use native.Mathlib.Omega.{arith}
use mathlib.Core.Path.{◌≡◌, refl, ap, ◌∙◌}
use mathlib.Core.Bool.{Bool, true, false, not, ◌&&◌, ◌||◌, cond, and-true, or-false}
use mathlib.Core.List.{List, [], ◌∷◌}
use lib.Dec.{ltb}
use lib.ListN.{length, get_or}
use Rattle.units.specs.declared.Clock.{Clock}
use Rattle.units.specs.Time.{clock}
use Rattle.layout.specs.declared.Record.{Record}
use Rattle.layout.specs.declared.Command.{Command}
use Rattle.layout.specs.declared.Command.TheVariants.{Read, Write}
use Rattle.layout.specs.Commands.{is}
use Rattle.mode.specs.Word.{length_of}
use Rattle.bursts.specs.declared.Burst.{Burst}
use Rattle.bursts.specs.declared.Beat.TheVariants.{Quiet}
use Rattle.bursts.specs.Burst.{no_burst, burst_at, cut_if, cut_by, reads_on, read_beat, finished}
use Rattle.bursts.specs.Bus.{
  reads_beat,
  reads_run,
  cut_each,
  written_over,
  with_room,
  reads_from,
  reads_after,
  reads_finished,
}

-- what an array of bursts is taken to hold past its end
abbrev pub past : Burst
past = record { live = false; auto = false; bank = 0; row = 0; column = 0; start = clock 0; cut = None; word = 0 }

-- the burst at place i
abbrev pub burst : List Burst → ℕ → Burst
burst bs i = get_or bs i past

-- a list of four is its elements
pub four : (bs : List Burst) → length bs ≡ 4 → bs ≡ (burst bs 0 ∷ burst bs 1 ∷ burst bs 2 ∷ burst bs 3 ∷ [])
four [] h = absurd (omega arith)
four (a ∷ []) h = absurd (omega arith)
four (a ∷ b ∷ []) h = absurd (omega arith)
four (a ∷ b ∷ c ∷ []) h = absurd (omega arith)
four (a ∷ b ∷ c ∷ d ∷ []) h = refl
four (a ∷ b ∷ c ∷ d ∷ e ∷ l) h = absurd (omega arith)

-- READ d runs and was registered after READ b
abbrev pub outruns : Burst → Burst → Clock → Bool
outruns d b n = reads_on d n && ltb b.start.0 d.start.0

module _ (bs : List Burst) (h : length bs ≡ 4) where
  -- the beat of the READs is that of the one registered last of those that run
  pub reads_beat_four : (masks : ℕ) (n : Clock)
      → reads_beat bs masks n
      ≡ cond
      (reads_on (burst bs 0) n
      && not (outruns (burst bs 1) (burst bs 0) n || (outruns (burst bs 2) (burst bs 0) n || outruns (burst bs 3) (burst bs 0) n)))
      (read_beat (burst bs 0) masks n)
      (cond (reads_on (burst bs 1) n && not (outruns (burst bs 2) (burst bs 1) n || outruns (burst bs 3) (burst bs 1) n))
      (read_beat (burst bs 1) masks n)
      (cond (reads_on (burst bs 2) n && not (outruns (burst bs 3) (burst bs 2) n)) (read_beat (burst bs 2) masks n)
      (cond (reads_on (burst bs 3) n) (read_beat (burst bs 3) masks n) Quiet)))
  reads_beat_four masks n = ap (λ (l : List Burst). reads_beat l masks n) (four bs h) ∙ simp (or-false, and-true)

  pub reads_run_four : (n : Clock)
      → reads_run bs n
      ≡ (reads_on (burst bs 0) n || (reads_on (burst bs 1) n || (reads_on (burst bs 2) n || reads_on (burst bs 3) n)))
  reads_run_four n = ap (λ (l : List Burst). reads_run l n) (four bs h) ∙ rw or-false

  pub cut_each_four : (k : Command) (addr ba : ℕ) (n : Clock)
      → cut_each k addr ba n bs
      ≡ (cut_by k addr ba n (burst bs 0)
      ∷ cut_by k addr ba n (burst bs 1)
      ∷ cut_by k addr ba n (burst bs 2)
      ∷ cut_by k addr ba n (burst bs 3)
      ∷ [])
  cut_each_four k addr ba n = ap (cut_each k addr ba n) (four bs h)

  pub reads_finished_four : (n : Clock)
      → reads_finished n bs
      ≡ (finished (length_of (burst bs 0).word) n (burst bs 0)
      && (finished (length_of (burst bs 1).word) n (burst bs 1)
      && (finished (length_of (burst bs 2).word) n (burst bs 2)
      && finished (length_of (burst bs 3).word) n (burst bs 3))))
  reads_finished_four n = ap (reads_finished n) (four bs h) ∙ rw and-true

  -- a WRITE leaves those READs that are not before it
  pub written_four : (n : Clock)
      → written_over n bs
      ≡ (cond (ltb (burst bs 0).start.0 n.0) no_burst (burst bs 0)
      ∷ cond (ltb (burst bs 1).start.0 n.0) no_burst (burst bs 1)
      ∷ cond (ltb (burst bs 2).start.0 n.0) no_burst (burst bs 2)
      ∷ cond (ltb (burst bs 3).start.0 n.0) no_burst (burst bs 3)
      ∷ [])
  written_four n = ap (written_over n) (four bs h)

module _ (k : Command) (r : Record) (n : Clock) (word row : ℕ) (bs : List Burst) where
  -- a WRITE leaves the READs that are not before it
  pub after_write : is k Write ≡ true → written_over n bs ≡ reads_after k r n word row bs
  unfolding reads_from
  after_write w = rw w

  -- a READ comes first, and cuts the three that stay
  pub after_read : is k Write ≡ false → is k Read ≡ true → (x y z : Burst) → with_room n bs ≡ (x ∷ y ∷ z ∷ [])
      → (burst_at word n r.addr r.column r.ba row ∷ cut_if true n x ∷ cut_if true n y ∷ cut_if true n z ∷ [])
      ≡ reads_after k r n word row bs
  unfolding reads_from
  after_read w e x y z q = rw (w, e, q, e)

  -- any other command cuts those that it ends
  pub after_others : is k Write ≡ false → is k Read ≡ false → cut_each k r.addr r.ba n bs ≡ reads_after k r n word row bs
  unfolding reads_from
  after_others w e = rw (w, e)

-- each of the READs is finished
pub all_finished : (n : Clock) (bs : List Burst) → list_all (λ b. finished (length_of b.word) n b) bs ≡ reads_finished n bs
all_finished n [] = refl
all_finished n (b ∷ bs) = rw (all_finished n bs)
