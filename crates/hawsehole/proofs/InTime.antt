-- NO WHOLE VERSION 1 TRACE GETS 23 OR 25, and its start state is admitted. Assumes nothing.
use Rattle.rules.specs.Numbers.{number}
use Rattle.std.specs.Prelude.{Err}
use Prim.Native.Nat.{ℕ, ◌<◌, ◌^◌}
use native.Mathlib.Omega.{arith}
use mathlib.Core.Path.{◌≡◌, refl, sym, subst, ◌∙◌, ap}
use mathlib.Core.Bool.{Bool, true, false, cond}
use mathlib.Core.List.{List}
use lib.Dec.{eqb}
use lib.ListN.{length, drop}
use Rattle.units.specs.Module.{rows, module_of}
use Rattle.layout.specs.Bytes.{header_of}
use Rattle.layout.proofs.Widths.{records_fit, records_length, header_fits}
use Rattle.rules.specs.declared.Refusal.{Refusal}
use Rattle.rules.specs.declared.Setup.{Setup}
use Rattle.rules.specs.OneRecord.{grade_known}
use Rattle.rules.specs.Admitted.{Admitted}
use Rattle.rules.proofs.Kept.{broken_number}
use Rattle.rules.proofs.InTime.{Other, never}
use Rattle.rules.proofs.OneRecord.{known_bench}
use Rattle.rules.proofs.Stays.{start_admitted}
use Rattle.hawsehole.specs.Trace.{whole_rules, trace_rules, lent_rules, module_in, start_of, records, judge}
use Rattle.hawsehole.proofs.Whole.{entry, by_entry}

-- 1 to 7 are below 8
below_8 : (u : Setup) (trace page : List ℕ) (w : Refusal) → entry u trace page ≡ Err w → (k : ℕ) → cond (eqb k 23) true (eqb k 25) ≡ true → number w ≡ k → ⊥
unfolding whole_rules lent_rules
below_8 u trace page w p k h e =
    let f : ℕ → Bool = λ m. cond (cond (eqb m 23) true (eqb m 25)) false true in
    let q : f (number w) ≡ true = broken_number f (trace_rules u trace (length page)) w refl p in
    let d : f k ≡ true = subst (λ (m : ℕ). f m ≡ true) e q in
    let c : cond true false true ≡ true = subst (λ (b : Bool). cond b false true ≡ true) h d in
    let z : ◌≡◌ {A = ℕ} 0 1 = cc in
    omega arith

pub no_23_no_25 : (u : Setup) (trace page : List ℕ) (w : Refusal) → (judge u trace page).verdict ≡ Err w → Other (number w)
no_23_no_25 u trace page w =
    by_entry (λ j. j.verdict ≡ Err w → Other (number w)) u trace page
    (λ p. never u (start_of (header_of trace)) (records trace) (records_fit (module_in trace) (header_of trace).count (drop 16 trace)) (omega arith)
    (omega (arith, (header_fits trace).count, records_length (module_in trace) (header_of trace).count (drop 16 trace))) w)
    (λ v p q.
    let e : number w ≡ number v = let f : w ≡ v = cc in ap number f in
    record {
      not_23 = λ x. below_8 u trace page v p 23 refl (sym e ∙ x);
      not_25 = λ x. below_8 u trace page v p 25 refl (sym e ∙ x);
    })

-- a row of 13 bits is one of the bench's
bench_row : (grade row : ℕ) → grade_known grade ≡ true → row < 2 ^ 13 → row < rows (module_of grade)
bench_row grade row k h = rw (known_bench grade k) h

pub start_of_admitted : (trace : List ℕ) → grade_known (header_of trace).grade ≡ true → Admitted (start_of (header_of trace))
start_of_admitted trace k =
    start_admitted _ (header_of trace).grade (header_of trace).bank (header_of trace).row (header_fits trace).bank
    (bench_row (header_of trace).grade (header_of trace).row k (header_fits trace).row)
