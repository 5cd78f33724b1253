-- DEMAND 3 by records and by state: a table that is nowhere harder never stops earlier; beats and page agree up to the harder table's stop.
-- Two runs are held side by side: their cores are equal, and a bank may differ only in an earlier closing time. Assumes nothing.
use Rattle.std.specs.Prelude.{Ok}
use Prim.Native.Nat.{ℕ, ◌≤◌}
use native.Mathlib.Omega.{arith}
use mathlib.Core.Path.{◌≡◌, refl, ap, sym, subst, ◌∙◌}
use mathlib.Core.List.{List, [], ◌∷◌, ◌++◌}
use lib.ListN.{length, take}
use Rattle.speed.specs.declared.SpeedTable.{SpeedTable}
use Rattle.speed.specs.Table.{table, grade_13E, grade_133}
use Rattle.layout.specs.declared.Record.{Record}
use Rattle.rules.specs.declared.Bank.{Bank}
use Rattle.rules.specs.declared.Core.{Core}
use Rattle.rules.specs.declared.State.{State}
use Rattle.rules.specs.Parts.{clock_of}
use Rattle.rules.specs.After.{own_row, beat, core_after, banks_after, next}
use Rattle.rules.specs.Run.{Line, Run, line, with_line, run}
use Rattle.rules.specs.Harder.{NowhereHarder, NearBanks}
use Rattle.rules.proofs.Near.{near_at, near_row, near_self}
use Rattle.rules.proofs.Easier.{state_of, setup, easier_taken, near_after}
use Rattle.rules.proofs.Runs.{run_taken, by_answer, reports, before_stop}

-- the second run goes at least as far as the first, with its lines; where the first is clean the two are equal
pub record Follows (a b : Run) : Type 0 where
  pub more : List Line
  pub lines : b.lines ≡ a.lines ++ more
  pub no_earlier : a.reported ≤ b.reported
  pub clean : a.verdict ≡ Ok tt → a ≡ b

follows_line : (l : Line) {a b : Run} → Follows a b → Follows (with_line l a) (with_line l b)
follows_line l f =
    record {
      more = f.more;
      lines = ap (λ (ls : List Line). l ∷ ls) f.lines;
      no_earlier = f.no_earlier;
      clean = λ h. ap (with_line l) (f.clean h);
    }

module _ {t u : SpeedTable} (e : NowhereHarder t u) where
  follows : (c : Core) {bs ds : List Bank} → NearBanks bs ds → (rs : List Record)
      → Follows (run (setup t) (state_of c bs) rs) (run (setup u) (state_of c ds) rs)
  unfolding run next
  follows c h [] = record { more = []; lines = refl; no_earlier = omega arith; clean = λ x. refl }
  follows c {bs} {ds} h (r ∷ rs) =
      let row = own_row (state_of c bs) r in
      by_answer (λ a. Follows a (run (setup u) (state_of c ds) (r ∷ rs))) (setup t) (state_of c bs) r rs
      (λ p. rw (run_taken (setup u) (state_of c ds) r rs (easier_taken e c r h p))
      (subst (λ (m : ℕ). Follows (with_line (line (state_of c bs) r) (run (setup t) (next (setup t) (state_of c bs) r) rs))
      (with_line (record { clock = clock_of c r; beat = beat c r m })
      (run (setup u) (state_of (core_after c r m) (banks_after u c r (beat c r m) ds)) rs)))
      (near_row (near_at h r.ba))
      (follows_line (line (state_of c bs) r) (follows (core_after c r row) (near_after e c r (beat c r row) h) rs))))
      (λ w p. record {
        more = (run (setup u) (state_of c ds) (r ∷ rs)).lines;
        lines = refl;
        no_earlier = omega (arith, reports (setup u) (state_of c ds) (r ∷ rs));
        clean = λ x. let z : ◌≡◌ {A = ℕ} 0 1 = cc in absurd (omega arith);
      })

-- the same records from the same state, on a table that is nowhere harder
pub demand_3 : {t u : SpeedTable} → NowhereHarder t u → (s : State) (rs : List Record) → Follows (run (setup t) s rs) (run (setup u) s rs)
demand_3 e s rs = follows e s.core (near_self s.banks) rs

-- the records before the harder table's stop: the easier table takes them all, with the same lines
pub demand_3_before : {t u : SpeedTable} → NowhereHarder t u → (s : State) (rs : List Record)
    → run (setup u) s (take (length (run (setup t) s rs).lines) rs)
    ≡ record { verdict = Ok tt; reported = (run (setup t) s rs).reported; lines = (run (setup t) s rs).lines }
demand_3_before {t} e s rs =
    let h = before_stop (setup t) s rs in
    sym ((demand_3 e s (take (length (run (setup t) s rs).lines) rs)).clean (ap (λ (a : Run). a.verdict) h)) ∙ h

-- of the two grades, -13E is nowhere harder than -133
pub grades : NowhereHarder grade_133 grade_13E
grades =
    record {
      tck2 = omega arith;
      tck3 = omega arith;
      trasmin = omega arith;
      trasmax = omega arith;
      trc = omega arith;
      trcd = omega arith;
      trp = omega arith;
      trrd = omega arith;
      trfc = omega arith;
      twr = omega arith;
      addition = omega arith;
      interval = omega arith;
      tmrd = omega arith;
    }

-- a table that is easier in every number is nowhere harder: each minimum smaller, each maximum larger
easier_in_all : NowhereHarder grade_133 (table 9_999 7_499 43_999 120_000_001 65_999 19_999 19_999 14_999 65_999 14_999 7_499 7_812_501 1)
easier_in_all =
    record {
      tck2 = omega arith;
      tck3 = omega arith;
      trasmin = omega arith;
      trasmax = omega arith;
      trc = omega arith;
      trcd = omega arith;
      trp = omega arith;
      trrd = omega arith;
      trfc = omega arith;
      twr = omega arith;
      addition = omega arith;
      interval = omega arith;
      tmrd = omega arith;
    }
