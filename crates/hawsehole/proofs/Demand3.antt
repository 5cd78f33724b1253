-- DEMAND 3 of the whole-trace judge, from its bytes. Assumes nothing.
use Rattle.rules.specs.Numbers.{Verdict}
use Rattle.std.specs.Prelude.{Ok, Err}
use Prim.Native.Nat.{ℕ, ◌≤◌}
use native.Mathlib.Omega.{arith}
use mathlib.Core.Path.{◌≡◌, refl, ap, sym, ◌∙◌}
use mathlib.Core.Bool.{true}
use mathlib.Core.List.{List, [], ◌++◌, append-nil}
use lib.ListN.{length, take}
use lib.Seq.{take-append-le, take_at}
use Rattle.speed.specs.declared.SpeedTable.{SpeedTable}
use Rattle.speed.specs.Table.{table_fits}
use Rattle.layout.specs.Bytes.{header_of}
use Rattle.rules.specs.Run.{Line}
use Rattle.rules.specs.Harder.{NowhereHarder}
use Rattle.rules.proofs.Easier.{setup}
use Rattle.rules.proofs.Demand3.{demand_3}
use Rattle.hawsehole.specs.Demand3.{Demand3Holds}
use Rattle.hawsehole.specs.Trace.{Judged, lent_rules, whole_rules, start_of, records, page_of, judged, refused, judge, page_when}
use Rattle.hawsehole.proofs.Whole.{entry, judge_entered, judge_refused, page_is}

-- the second answer goes at least as far as the first, with its lines; where the first is clean the two are equal
pub record FollowsWhole (a b : Judged) : Type 0 where
  pub more : List Line
  pub lines : b.lines ≡ a.lines ++ more
  pub no_earlier : a.reported ≤ b.reported
  pub clean : a.verdict ≡ Ok tt → a ≡ b

follows_self : (a : Judged) → FollowsWhole a a
follows_self a = record { more = []; lines = simp append-nil; no_earlier = omega arith; clean = λ h. refl }

module _ {t u : SpeedTable} (e : NowhereHarder t u) (fit-t : table_fits t ≡ true) (fit-u : table_fits u ≡ true) (trace page : List ℕ) where
  -- two admitted tables pass and fail 1 to 7 alike
  entry_alike : entry (setup t) trace page ≡ entry (setup u) trace page
  unfolding whole_rules lent_rules
  entry_alike = rw (fit-t, fit-u)

  -- DEMAND 3: the second table does not stop at an earlier record, and its beats are the first's up to the first's stop
  pub demand_3_whole : FollowsWhole (judge (setup t) trace page) (judge (setup u) trace page)
  demand_3_whole = go (entry (setup t) trace page) refl
    where
      go : (v : Verdict) → entry (setup t) trace page ≡ v → FollowsWhole (judge (setup t) trace page) (judge (setup u) trace page)
      go (Ok o) p =
          let f = demand_3 e (start_of (header_of trace)) (records trace) in
          rw (judge_entered (setup t) trace page p, judge_entered (setup u) trace page (sym entry_alike ∙ p))
          (record { more = f.more; lines = f.lines; no_earlier = f.no_earlier; clean = λ h. ap (judged trace page) (f.clean h) })
      go (Err w) p =
          rw (judge_refused (setup t) trace page w p, judge_refused (setup u) trace page w (sym entry_alike ∙ p)) (follows_self (refused w page))

  -- the page agrees at each record up to the first table's stop
  pub pages_agree : (k : ℕ) → k ≤ length (judge (setup t) trace page).lines → page_when (setup t) trace page k ≡ page_when (setup u) trace page k
  pages_agree k h =
      ap (λ (l : List Line). page_of trace l page)
      (sym (ap (take k) demand_3_whole.lines ∙ take-append-le k (judge (setup t) trace page).lines demand_3_whole.more h))

  -- the page that the first table leaves is the second's at that record
  pub page_at_stop : (judge (setup t) trace page).page ≡ page_when (setup u) trace page (length (judge (setup t) trace page).lines)
  page_at_stop =
      page_is (setup t) trace page
      ∙ ap (λ (l : List Line). page_of trace l page)
      (sym (ap (take (length (judge (setup t) trace page).lines)) demand_3_whole.lines ∙ take_at (judge (setup t) trace page).lines demand_3_whole.more (length (judge (setup t) trace page).lines) refl))

-- DEMAND 3 HOLDS of the whole-trace judge
pub demand_3_holds : Demand3Holds
demand_3_holds t u e ft fu trace page =
    let f = demand_3_whole e ft fu trace page in
    record {
      never_earlier = f.no_earlier;
      beats_agree = ap (take (length (judge (setup t) trace page).lines)) f.lines ∙ take_at (judge (setup t) trace page).lines f.more (length (judge (setup t) trace page).lines) refl;
      page_agrees = sym (page_at_stop e ft fu trace page);
      clean = λ h. sym (f.clean h);
    }
