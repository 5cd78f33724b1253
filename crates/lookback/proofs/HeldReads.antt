-- The WRITE and the four READs that the state holds are those found by looking back, one record more. Assumes nothing.
use Prim.Native.Nat.{ℕ, zero, suc, ◌≤◌}
use native.Mathlib.Omega.{arith}
use mathlib.Core.Path.{◌≡◌, refl, ap, ap₂, sym, ◌∙◌}
use mathlib.Core.Bool.{Bool, true, false, cond, and-false}
use mathlib.Core.List.{List, [], ◌∷◌, ◌++◌}
use lib.Dec.{ltb}
use lib.ListN.{take}
use borrow.Author.Tests.{lt-ltb}
use Rattle.units.specs.declared.Clock.{Clock}
use Rattle.layout.specs.declared.Record.{Record}
use Rattle.layout.specs.declared.Command.{Command}
use Rattle.layout.specs.Commands.{command}
use Rattle.bursts.specs.declared.Burst.{Burst}
use Rattle.bursts.specs.Burst.{no_burst, cut_by}
use Rattle.bursts.specs.Bus.{no_reads, cut_each, written_over, with_room, reads_from, write_after, reads_after}
use Rattle.lookback.specs.Past.{first_free, clock_in}
use Rattle.lookback.specs.StartUp.{mode_in}
use Rattle.lookback.specs.Banks.{row_in}
use Rattle.lookback.specs.Bursts.{reads, writes}
use Rattle.lookback.proofs.Held.{uncut, cuts_from, registered, write_back, reads_back, held}
use Rattle.lookback.proofs.Cuts.{write_later, reads_later, write_placed, reads_placed, cut_first, each_first}
use Rattle.lookback.proofs.FourReads.{Ordered, Words, back_ordered, held_room}

-- ── The WRITE ──

pub write_step : (r : Record) (past : List Record)
    → write_after (command r) r (clock_in past r) (mode_in past) (row_in r.ba past) (write_back uncut past)
    ≡ write_back uncut (r ∷ past)
unfolding write_back
write_step r past = go (writes r) rest
  where
    rest : cut_by (command r) r.addr r.ba (clock_in past r) (write_back uncut past)
        ≡ write_back (cuts_from r past uncut) past
    rest =
        cut_first r past (write_back uncut past) (write_placed (first_free past) uncut past (omega arith) (λ i. tt))
        ∙ sym (write_later (cuts_from r past uncut) past)

    go : (x : Bool)
        → cut_by (command r) r.addr r.ba (clock_in past r) (write_back uncut past)
        ≡ write_back (cuts_from r past uncut) past
        → cond x (registered uncut r past) (cut_by (command r) r.addr r.ba (clock_in past r) (write_back uncut past))
        ≡ cond x (registered uncut r past) (write_back (cuts_from r past uncut) past)
    go true h = refl
    go false h = h

-- ── The READs ──

module _ (k : Command) (addr ba : ℕ) (n : Clock) where
  cut_take : (m : ℕ) (l : List Burst) → cut_each k addr ba n (take m l) ≡ take m (cut_each k addr ba n l)
  cut_take zero l = refl
  cut_take (suc m) [] = refl
  cut_take (suc m) (b ∷ l) = ap (λ (x : List Burst). cut_by k addr ba n b ∷ x) (cut_take m l)

  cut_join : (l m : List Burst) → cut_each k addr ba n (l ++ m) ≡ cut_each k addr ba n l ++ cut_each k addr ba n m
  cut_join [] m = refl
  cut_join (b ∷ l) m = ap (λ (x : List Burst). cut_by k addr ba n b ∷ x) (cut_join l m)

-- an empty place is not cut
cut_none : (k : Command) (addr ba : ℕ) (n : Clock) → cut_each k addr ba n no_reads ≡ no_reads
cut_none k addr ba n = rw and-false

empty_stays : (x : Bool) → cond x no_burst no_burst ≡ no_burst
empty_stays true = refl
empty_stays false = refl

-- a WRITE on clock n leaves no READ, for all stand before it
written_all : (bs : List Burst) (n : Clock) (x : ℕ) → Ordered x bs → x ≤ n.0
    → written_over n (take 4 (bs ++ no_reads)) ≡ no_reads
written_all [] n x o h = rw (empty_stays (ltb 0 n.0))
written_all (a ∷ []) n x o h = rw (lt-ltb a.start.0 n.0 (omega (arith, o.0.0)), empty_stays (ltb 0 n.0))
written_all (a ∷ b ∷ []) n x o h =
    rw (
      lt-ltb a.start.0 n.0 (omega (arith, o.0.0)),
      lt-ltb b.start.0 n.0 (omega (arith, o.0.0, o.1.0.0)),
      empty_stays (ltb 0 n.0),
    )
written_all (a ∷ b ∷ c ∷ []) n x o h =
    rw (
      lt-ltb a.start.0 n.0 (omega (arith, o.0.0)),
      lt-ltb b.start.0 n.0 (omega (arith, o.0.0, o.1.0.0)),
      lt-ltb c.start.0 n.0 (omega (arith, o.0.0, o.1.0.0, o.1.1.0.0)),
      empty_stays (ltb 0 n.0),
    )
written_all (a ∷ b ∷ c ∷ d ∷ bs) n x o h =
    rw (
      lt-ltb a.start.0 n.0 (omega (arith, o.0.0)),
      lt-ltb b.start.0 n.0 (omega (arith, o.0.0, o.1.0.0)),
      lt-ltb c.start.0 n.0 (omega (arith, o.0.0, o.1.0.0, o.1.1.0.0)),
      lt-ltb d.start.0 n.0 (omega (arith, o.0.0, o.1.0.0, o.1.1.0.0, o.1.1.1.0.0)),
    )

module _ (r : Record) (past : List Record) where
  -- the places after a command that cuts what it ends
  places : (m : ℕ)
      → cut_each (command r) r.addr r.ba (clock_in past r) (take m (reads_back uncut past ++ no_reads))
      ≡ take m (reads_back (cuts_from r past uncut) past ++ no_reads)
  places m =
      cut_take (command r) r.addr r.ba (clock_in past r) m (reads_back uncut past ++ no_reads)
      ∙ ap (take m)
      (cut_join (command r) r.addr r.ba (clock_in past r) (reads_back uncut past) no_reads
      ∙ ap₂ (λ (l d : List Burst). l ++ d)
      (each_first r past (reads_back uncut past) (reads_placed (first_free past) uncut past (omega arith) (λ i. tt))
      ∙ sym (reads_later (cuts_from r past uncut) past))
      (cut_none (command r) r.addr r.ba (clock_in past r)))

  pub reads_step : Words past
      → reads_after (command r) r (clock_in past r) (mode_in past) (row_in r.ba past) (held past) ≡ held (r ∷ past)
  unfolding reads_back reads_from
  reads_step w = go (writes r) (reads r) (held_room past (clock_in past r) w (omega arith))
    where
      go : (x y : Bool) → with_room (clock_in past r) (held past) ≡ take 3 (reads_back uncut past ++ no_reads)
          → cond x (written_over (clock_in past r) (held past))
          (cond y
          (registered uncut r past
          ∷ cut_each (command r) r.addr r.ba (clock_in past r) (with_room (clock_in past r) (held past)))
          (cut_each (command r) r.addr r.ba (clock_in past r) (held past)))
          ≡ take 4
          (cond x []
          (cond y (registered uncut r past ∷ reads_back (cuts_from r past uncut) past) (reads_back (cuts_from r past uncut) past))
          ++ no_reads)
      go true y h =
          written_all (reads_back uncut past) (clock_in past r) (first_free past)
          (back_ordered (first_free past) uncut past (omega arith) w)
          (omega arith)
      go false true h = ap (λ (l : List Burst). registered uncut r past ∷ l) (rw h (places 3))
      go false false h = places 4
