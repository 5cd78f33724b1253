-- The whole-trace judge by what it finds first; what 1 to 7 leave; what it reports. Assumes nothing.
use Rattle.std.specs.Prelude.{Ok, Err}
use Prim.Native.Nat.{ℕ}
use native.Mathlib.Omega.{arith}
use mathlib.Core.Path.{◌≡◌, refl, sym}
use mathlib.Core.List.{List, [], ◌∷◌}
use lib.ListN.{length}
use Rattle.units.specs.declared.Module.{Module}
use Rattle.layout.specs.declared.Record.{Record}
use Rattle.layout.specs.Bytes.{header_of}
use Rattle.rules.specs.declared.Refusal.{Refusal}
use Rattle.rules.specs.declared.Setup.{Setup}
use Rattle.rules.specs.Numbers.{first_broken, Verdict}
use Rattle.rules.specs.Run.{page_after}
use Rattle.rules.proofs.Runs.{reports}
use Rattle.hawsehole.specs.Trace.{Judged, trace_rules, start_of, records, run_of, page_of, judged, refused, judged_by, judge}

-- what is found before the first record
abbrev pub entry : Setup → List ℕ → List ℕ → Verdict
entry u trace page = first_broken (trace_rules u trace (length page))

pub judge_entered : (u : Setup) (trace page : List ℕ) → entry u trace page ≡ Ok tt → judge u trace page ≡ judged trace page (run_of u trace)
unfolding judge
judge_entered u trace page p = rw (p, judged_by)

-- 1 TO 7 LEAVE THE PAGE AND REPORT RECORD 0
pub judge_refused : (u : Setup) (trace page : List ℕ) (w : Refusal) → entry u trace page ≡ Err w → judge u trace page ≡ refused w page
unfolding judge
judge_refused u trace page w p = rw (p, judged_by)

-- what holds of the judge, shown by what is found before the first record
pub by_entry : (P : Judged → Type 0) (u : Setup) (trace page : List ℕ)
    → (entry u trace page ≡ Ok tt → P (judged trace page (run_of u trace)))
    → ((w : Refusal) → entry u trace page ≡ Err w → P (refused w page))
    → P (judge u trace page)
by_entry P u trace page f g = go (entry u trace page) refl
  where
    go : (v : Verdict) → entry u trace page ≡ v → P (judge u trace page)
    go (Ok o) p = rw (judge_entered u trace page p) (f p)
    go (Err w) p = rw (judge_refused u trace page w p) (g w p)

-- THE REPORTED RECORD IS THE FIRST ILLEGAL ONE, or the count: as many lines as records were taken
pub reported_is : (u : Setup) (trace page : List ℕ) → (judge u trace page).reported ≡ length (judge u trace page).lines
reported_is u trace page =
    by_entry (λ j. j.reported ≡ length j.lines) u trace page
    (λ p. omega (arith, reports u (start_of (header_of trace)) (records trace)))
    (λ w p. refl)

no_lines : (m : Module) (bank row : ℕ) (rs : List Record) (page : List ℕ) → page_after m bank row rs [] page ≡ page
unfolding page_after
no_lines m bank row [] page = refl
no_lines m bank row (r ∷ rs) page = refl

-- the page that is left is the page after the records taken
pub page_is : (u : Setup) (trace page : List ℕ) → (judge u trace page).page ≡ page_of trace (judge u trace page).lines page
page_is u trace page =
    by_entry (λ j. j.page ≡ page_of trace j.lines page) u trace page
    (λ p. refl)
    (λ w p. sym (no_lines _ _ _ (records trace) page))
