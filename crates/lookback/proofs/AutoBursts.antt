-- Number 19: what the state holds is finished exactly where every earlier READ and WRITE is. Assumes nothing.
use Rattle.std.specs.Prelude.{Option, Ok}
use Prim.Native.Nat.{ℕ, zero, suc, ◌+◌, ◌≤◌}
use native.Mathlib.Omega.{arith}
use mathlib.Core.Path.{◌≡◌, refl, ap, sym, ◌∙◌}
use mathlib.Core.Bool.{Bool, true, false, not, ◌&&◌, ◌||◌, cond, or-true}
use mathlib.Core.List.{List, [], ◌∷◌, ◌++◌}
use lib.Dec.{leb}
use lib.ListN.{take}
use borrow.Author.Tests.{le-leb, leb-true}
use Rattle.units.specs.declared.Clock.{Clock}
use Rattle.units.specs.declared.Ps.{Ps}
use Rattle.units.proofs.Both.{both, joined}
use Rattle.layout.specs.declared.Record.{Record}
use Rattle.layout.specs.declared.Command.TheVariants.{Terminate}
use Rattle.layout.specs.Commands.{command, is, access, a10}
use Rattle.mode.specs.Word.{length_of, write_length}
use Rattle.bursts.specs.declared.Burst.{Burst}
use Rattle.bursts.specs.Burst.{finished}
use Rattle.bursts.specs.Bus.{no_reads, reads_finished, bursts_finished}
use Rattle.rules.specs.declared.Setup.{Setup}
use Rattle.rules.specs.Numbers.{◌⇒◌}
use Rattle.rules.specs.Parts.{start}
use Rattle.rules.specs.Rules.{asks_auto, ask}
use Rattle.rules.proofs.Rows.{finished_kept}
use Rattle.lookback.specs.Past.{first_free, clock_in}
use Rattle.lookback.specs.StartUp.{mode_in}
use Rattle.lookback.specs.Bursts.{reads, writes, burst_length, finished_in}
use Rattle.lookback.proofs.Held.{uncut, cuts_from, registered, write_back, reads_back, held}
use Rattle.lookback.proofs.Cuts.{each_later, write_later, reads_later}
use Rattle.lookback.proofs.State.{state_in, free_clock}
use Rattle.lookback.proofs.Tied.{Took, tied}

-- ── Finished once, finished for good ──

still : (a : Bool) (x m n : ℕ) → m ≤ n → (a ⇒ leb x m) ≡ true → (a ⇒ leb x n) ≡ true
still true x m n h p = le-leb x n (omega (arith, h, leb-true x m p))
still false x m n h p = refl

pub finished_later : (m n : Clock) (past : List Record) → m.0 ≤ n.0 → finished_in m past ≡ true → finished_in n past ≡ true
unfolding finished_in
finished_later m n [] h p = refl
finished_later m n (r ∷ past) h p =
    let x = (clock_in past r).0 + burst_length (command r) (mode_in past) in
    let q = both (asks_auto (command r) r ⇒ leb x m.0) (finished_in m past) p in
    joined (still (asks_auto (command r) r) x m.0 n.0 h q.0) (finished_later m n past h q.1)

-- ── Of the bursts held ──

-- a cut finishes nothing
write_cut : (c : ℕ → Option Clock) (past : List Record) (n : Clock)
    → finished (write_length (write_back c past).word) n (write_back c past)
    ≡ finished (write_length (write_back uncut past).word) n (write_back uncut past)
unfolding finished
write_cut c past n = ap (λ (b : Burst). finished (write_length b.word) n b) (write_later c past)

each_cut : (c : ℕ → Option Clock) (m : ℕ) (n : Clock) (bs : List Burst)
    → reads_finished n (take m (each_later c bs ++ no_reads)) ≡ reads_finished n (take m (bs ++ no_reads))
unfolding finished
each_cut c zero n bs = refl
each_cut c (suc m) n [] = refl
each_cut c (suc m) n (b ∷ bs) = ap (λ (y : Bool). finished (length_of b.word) n b && y) (each_cut c m n bs)

reads_cut : (c : ℕ → Option Clock) (m : ℕ) (n : Clock) (past : List Record)
    → reads_finished n (take m (reads_back c past ++ no_reads)) ≡ reads_finished n (take m (reads_back uncut past ++ no_reads))
reads_cut c m n past = rw (reads_later c past) (each_cut c m n (reads_back uncut past))

-- one fewer
fewer : (m : ℕ) (n : Clock) (bs : List Burst) → reads_finished n (take (suc m) bs) ≡ true → reads_finished n (take m bs) ≡ true
fewer zero n bs p = refl
fewer (suc m) n [] p = refl
fewer (suc m) n (b ∷ bs) p =
    let q = both (finished (length_of b.word) n b) (reads_finished n (take (suc m) bs)) p in
    joined q.0 (fewer m n bs q.1)

-- a burst of its own, that asks auto precharge or does not
own_finished : (a x : Bool) → (not a || x) ≡ (a ⇒ x)
own_finished true x = refl
own_finished false x = refl

guarded : (x y b : Bool) → x ≡ true → (x || y ⇒ b) ≡ true → b ≡ true
guarded x y b e h = rw e at h

module _ (u : Setup) (period : Ps) (grade bank row : ℕ) where
  pub same_finished : (past : List Record) → Took u (start period grade bank row) past → (n : Clock) → first_free past ≤ n.0
      → bursts_finished (write_back uncut past) (held past) n ≡ finished_in n past
  unfolding bursts_finished finished finished_in write_back reads_back
  same_finished [] k n h = refl
  same_finished (r ∷ past) k n h =
      go (writes r) (reads r) refl refl (same_finished past k.1 n (omega arith))
      (same_finished past k.1 x (omega arith)) kept
    where
      x : Clock
      x = clock_in past r

      kept :
          (access (command r) || is (command r) Terminate
          ⇒ bursts_finished (write_back uncut past) (held past) (clock_in past r)) ≡ true
      kept =
          let d = tied u period grade bank row past k.1 in
          let s = state_in u.table period grade bank row past in
          let p : ask u s r ≡ Ok tt = rw d.state at k.0 in
          rw (free_clock past) at (finished_kept u s r p)

      go : (v y : Bool) → writes r ≡ v → reads r ≡ y
          → bursts_finished (write_back uncut past) (held past) n ≡ finished_in n past
          → bursts_finished (write_back uncut past) (held past) (clock_in past r) ≡ finished_in (clock_in past r) past
          → (y || v || is (command r) Terminate ⇒ bursts_finished (write_back uncut past) (held past) (clock_in past r)) ≡ true
          → bursts_finished (cond v (registered uncut r past) (write_back (cuts_from r past uncut) past))
          (take 4
          (cond v []
          (cond y (registered uncut r past ∷ reads_back (cuts_from r past uncut) past) (reads_back (cuts_from r past uncut) past))
          ++ no_reads))
          n
          ≡ (((y || v) && a10 r
          ⇒ leb ((clock_in past r).0 + cond v (write_length (mode_in past)) (length_of (mode_in past))) n.0)
          && finished_in n past)
      go true y e f now then g =
          let b = sym then ∙ guarded (y || true) (is (command r) Terminate) _ (or-true y) g in
          let l = x.0 + write_length (mode_in past) in
          rw (or-true, finished_later x n past (omega arith) b, own_finished (a10 r) (leb l n.0))
      go false true e f now then g =
          let b = finished_later x n past (omega arith) (sym then ∙ g) in
          let w = write_back uncut past in
          let q = both (finished (write_length w.word) n w) (reads_finished n (held past)) (now ∙ b) in
          rw (
            write_cut (cuts_from r past uncut) past n,
            q.0,
            reads_cut (cuts_from r past uncut) 3 n past,
            fewer 3 n (reads_back uncut past ++ no_reads) q.1,
            b,
            own_finished (a10 r) (leb (x.0 + length_of (mode_in past)) n.0),
          )
      go false false e f now then g =
          rw (write_cut (cuts_from r past uncut) past n, reads_cut (cuts_from r past uncut) 4 n past) now
