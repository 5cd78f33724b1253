-- A run of records from so many bits each, from the start: its clocks stay at most 2^40, so that 23 is never given; nor is 25. Assumes nothing.
use Rattle.std.specs.Prelude.{Err}
use Prim.Native.Nat.{ℕ, ◌+◌, ◌*◌, ◌^◌, ◌≤◌, ◌<◌}
use native.Mathlib.Omega.{arith}
use mathlib.Core.Path.{◌≡◌, refl, ap, sym, ◌∙◌, subst}
use mathlib.Core.Bool.{Bool, true, false, cond}
use mathlib.Core.List.{List, [], ◌∷◌, ◌++◌}
use lib.Dec.{eqb}
use lib.ListN.{length}
use borrow.Author.Tests.{le-leb}
use Rattle.units.proofs.Both.{joined}
use Rattle.layout.specs.declared.Record.{Record}
use Rattle.layout.specs.Commands.{command, executable}
use Rattle.layout.specs.Widths.{Widths, AllWidths}
use Rattle.rules.specs.declared.Refusal.{Refusal}
use Rattle.rules.specs.declared.State.{State}
use Rattle.rules.specs.declared.Setup.{Setup}
use Rattle.rules.specs.Numbers.{asked, number}
use Rattle.rules.specs.Parts.{next_clock, clock_of}
use Rattle.rules.specs.Rules.{clock_max, every_rules, place_rules, minimum_rules, mode_rules, bus_rules, command_rules, rules, ask}
use Rattle.rules.specs.After.{core_from, core_after, next}
use Rattle.rules.specs.Run.{run}
use Rattle.rules.proofs.Kept.{every_rules_of, command_rules_of, rules_of, all_numbers, numbers_asked, broken_number, all_of, all_of_join, absent, broken_of}
use Rattle.rules.proofs.Runs.{by_answer, next_number}

-- neither 23 nor 25
pub record Other (n : ℕ) : Type 0 where
  pub not_23 : n ≡ 23 → ⊥
  pub not_25 : n ≡ 25 → ⊥

abbrev other_than : ℕ → ℕ → Bool
other_than n m = cond (eqb m n) false true

commands_other : (n : ℕ) (u : Setup) (s : State) (r : Record)
    → all_numbers (other_than n) (command_rules_of u s r) ≡ true
    → all_numbers (other_than n) (asked (executable (command r)) (command_rules_of u s r)) ≡ true
commands_other n u s r h = numbers_asked (other_than n) (executable (command r)) (command_rules_of u s r) h

-- 25 is in no row
not_25 : (u : Setup) (s : State) (r : Record) (w : Refusal) → ask u s r ≡ Err w → number w ≡ 25 → ⊥
unfolding ask rules every_rules command_rules place_rules minimum_rules mode_rules bus_rules
not_25 u s r w p e =
    let q : other_than 25 (number w) ≡ true = broken_number (other_than 25) (rules_of u s r) w (commands_other 25 u s r refl) p in
    let d : other_than 25 25 ≡ true = subst (λ (m : ℕ). other_than 25 m ≡ true) e q in
    let z : ◌≡◌ {A = ℕ} 0 1 = cc in
    omega arith

-- 23 is one row, and the clock keeps it
not_23 : (u : Setup) (s : State) (r : Record) (w : Refusal) → (clock_of s.core r).0 ≤ clock_max → ask u s r ≡ Err w → number w ≡ 23 → ⊥
unfolding ask rules every_rules command_rules place_rules minimum_rules mode_rules bus_rules
not_23 u s r w h p e =
    let l = every_rules_of u s r in
    let m = asked (executable (command r)) (command_rules_of u s r) in
    let q : all_of 23 (l ++ m) ≡ false = subst (λ (k : ℕ). all_of k (rules_of u s r) ≡ false) e (broken_of (rules_of u s r) w p) in
    let a : all_of 23 l ≡ true = rw (le-leb _ _ h) in
    let v : all_of 23 m ≡ true = absent 23 m (commands_other 23 u s r refl) in
    let j : all_of 23 (l ++ m) ≡ true = all_of_join 23 l m ∙ joined a v in
    let d : ◌≡◌ {A = Bool} true false = sym j ∙ q in
    let z : ◌≡◌ {A = ℕ} 0 1 = cc in
    omega arith

-- the clock of the next record of a run: each record moved it by at most 2^24
next_in_time : (u : Setup) (s : State) (r : Record) → Widths r → next_clock s.core.last ≤ s.core.number * 2 ^ 24
    → next_clock (next u s r).core.last ≤ (next u s r).core.number * 2 ^ 24
unfolding next core_after core_from
next_in_time u s r w h = omega (arith, w.skipped)

pub never : (u : Setup) (s : State) (rs : List Record) → AllWidths rs → next_clock s.core.last ≤ s.core.number * 2 ^ 24
    → s.core.number + length rs < 2 ^ 16 → (x : Refusal) → (run u s rs).verdict ≡ Err x → Other (number x)
unfolding run
never u s [] w h k x = λ p. let z : ◌≡◌ {A = ℕ} 0 1 = cc in absurd (omega arith)
never u s (r ∷ rs) w h k x =
    by_answer (λ a. a.verdict ≡ Err x → Other (number x)) u s r rs
    (λ q. never u (next u s r) rs w.1 (next_in_time u s r w.0 h) (omega (arith, next_number u s r)) x)
    (λ y q p.
    let e : number x ≡ number y = let f : x ≡ y = cc in ap number f in
    record {
      not_23 = λ z. not_23 u s r y (omega (arith, w.0.skipped)) q (sym e ∙ z);
      not_25 = λ z. not_25 u s r y q (sym e ∙ z);
    })
