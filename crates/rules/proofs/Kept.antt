-- Where no rule is broken each is kept, named by number and interval; a broken one is of the list. Assumes nothing.
use Rattle.std.specs.Prelude.{Ok, Err}
use Prim.Native.Nat.{ℕ, ◌≤◌}
use native.Mathlib.Omega.{arith}
use mathlib.Core.Path.{◌≡◌, refl, ap, sym, subst, ◌∙◌}
use mathlib.Core.Bool.{Bool, true, false, cond, ◌&&◌, and-false, and_assoc}
use mathlib.Core.List.{List, [], ◌∷◌, ◌++◌}
use lib.Dec.{eqb}
use borrow.Author.Tests.{eq-eqb, leb-true}
use Rattle.units.specs.declared.Clock.{Clock}
use Rattle.units.specs.declared.Ps.{Ps}
use Rattle.speed.specs.declared.SpeedTable.{SpeedTable}
use Rattle.layout.specs.declared.Record.{Record}
use Rattle.layout.specs.Commands.{command}
use Rattle.rules.specs.declared.Refusal.{Refusal}
use Rattle.rules.specs.declared.Refreshes.{Refreshes}
use Rattle.rules.specs.declared.Bank.{Bank}
use Rattle.rules.specs.declared.State.{State}
use Rattle.rules.specs.declared.Setup.{Setup}
use Rattle.rules.specs.Numbers.{Rule, rule, first_broken, asked, number, interval, number_of, Verdict}
use Rattle.rules.specs.Parts.{clock_of, now, state_module}
use Rattle.rules.specs.Rules.{clock_max, every_rules, command_rules, rules, found}

-- the rows that a record meets in a state
abbrev pub rules_of : Setup → State → Record → List Rule
rules_of u s r =
    rules u.table (state_module s) s.core.period (found s.core s.banks (clock_of s.core r)) r (clock_of s.core r) (now s.core r)

abbrev pub every_rules_of : Setup → State → Record → List Rule
every_rules_of u s r =
    every_rules u.table s.core.period s.core.startup.refreshes s.banks r (clock_of s.core r) (now s.core r)

abbrev pub command_rules_of : Setup → State → Record → List Rule
command_rules_of u s r =
    command_rules (command r) u.table (state_module s) s.core.period (found s.core s.banks (clock_of s.core r)) r (clock_of s.core r)
    (now s.core r)

-- the test of number n, interval i
abbrev pub test : ℕ → ℕ → List Rule → Bool
test n i [] = true
test n i (rule w b ∷ l) = cond (eqb (number w) n && eqb (interval w) i) b (test n i l)

pub kept : (n i : ℕ) (l : List Rule) → first_broken l ≡ Ok tt → test n i l ≡ true
kept n i [] p = refl
kept n i (rule w true ∷ l) p = go (eqb (number w) n && eqb (interval w) i) (test n i l) (kept n i l p)
  where
    go : (x a : Bool) → a ≡ true → cond x true a ≡ true
    go true a h = refl
    go false a h = h
kept n i (rule w false ∷ l) p = let z : ◌≡◌ {A = ℕ} 0 1 = cc in absurd (omega arith)

-- f of every number in the list
abbrev pub all_numbers : (ℕ → Bool) → List Rule → Bool
all_numbers f [] = true
all_numbers f (rule w b ∷ l) = f (number w) && all_numbers f l

first_true : (a b : Bool) → (a && b) ≡ true → a ≡ true
first_true true b h = refl
first_true false b h = h

rest_true : (a b : Bool) → (a && b) ≡ true → b ≡ true
rest_true true b h = h
rest_true false b h = let z : ◌≡◌ {A = ℕ} 0 1 = cc in absurd (omega arith)

pub broken_number : (f : ℕ → Bool) (l : List Rule) (w : Refusal) → all_numbers f l ≡ true → first_broken l ≡ Err w → f (number w) ≡ true
broken_number f [] w h p = let z : ◌≡◌ {A = ℕ} 0 1 = cc in absurd (omega arith)
broken_number f (rule v true ∷ l) w h p = broken_number f l w (rest_true (f (number v)) (all_numbers f l) h) p
broken_number f (rule v false ∷ l) w h p =
    let e : v ≡ w = cc in
    subst (λ (x : Refusal). f (number x) ≡ true) e (first_true (f (number v)) (all_numbers f l) h)

pub numbers_asked : (f : ℕ → Bool) (x : Bool) (l : List Rule) → all_numbers f l ≡ true → all_numbers f (asked x l) ≡ true
numbers_asked f true l h = h
numbers_asked f false l h = refl

-- a list with no number 0 in it gives number 0 only where it refuses nothing
pub zero_taken : (l : List Rule) (v : Verdict) → all_numbers (λ n. cond (eqb n 0) false true) l ≡ true → first_broken l ≡ v
    → number_of v ≡ 0 → v ≡ Ok tt
zero_taken l (Ok o) h p z = refl
zero_taken l (Err w) h p z =
    let e : cond (eqb (number w) 0) false true ≡ true = broken_number (λ m. cond (eqb m 0) false true) l w h p in
    let d : cond (eqb 0 0) false true ≡ true = subst (λ (x : ℕ). cond (eqb x 0) false true ≡ true) z e in
    let q : ◌≡◌ {A = ℕ} 0 1 = cc in
    absurd (omega arith)

-- every test of number n
abbrev pub all_of : ℕ → List Rule → Bool
all_of n [] = true
all_of n (rule w b ∷ l) = cond (eqb (number w) n) b true && all_of n l

pub all_of_join : (n : ℕ) (l m : List Rule) → all_of n (l ++ m) ≡ (all_of n l && all_of n m)
all_of_join n [] m = refl
all_of_join n (rule w b ∷ l) m =
    ap (λ (x : Bool). cond (eqb (number w) n) b true && x) (all_of_join n l m)
    ∙ sym (and_assoc (cond (eqb (number w) n) b true) (all_of n l) (all_of n m))

-- a number that is in no row has no test that fails
pub absent : (n : ℕ) (l : List Rule) → all_numbers (λ m. cond (eqb m n) false true) l ≡ true → all_of n l ≡ true
absent n [] h = refl
absent n (rule w b ∷ l) h =
    go (eqb (number w) n) refl (absent n l (rest_true (cond (eqb (number w) n) false true) (all_numbers (λ k. cond (eqb k n) false true) l) h))
  where
    go : (x : Bool) → eqb (number w) n ≡ x → all_of n l ≡ true → (cond (eqb (number w) n) b true && all_of n l) ≡ true
    go false e rest = rw (e, rest)
    go true e rest =
        let d : ◌≡◌ {A = Bool} false true = rw e at (first_true (cond (eqb (number w) n) false true) (all_numbers (λ k. cond (eqb k n) false true) l) h) in
        let z : ◌≡◌ {A = ℕ} 0 1 = cc in
        absurd (omega arith)

-- a number is given only where one of its tests fails
pub broken_of : (l : List Rule) (w : Refusal) → first_broken l ≡ Err w → all_of (number w) l ≡ false
broken_of [] w p = let z : ◌≡◌ {A = ℕ} 0 1 = cc in absurd (omega arith)
broken_of (rule v true ∷ l) w p = rw (broken_of l w p, and-false)
broken_of (rule v false ∷ l) w p =
    let e : v ≡ w = cc in
    rw (eq-eqb (number v) (number w) (ap number e))

-- a record that the rows of every record pass stands on a clock up to 2^40
pub every_clock : (t : SpeedTable) (period : Ps) (f : Refreshes) (bs : List Bank) (r : Record) (n : Clock) (moment : Ps)
    → first_broken (every_rules t period f bs r n moment) ≡ Ok tt → n.0 ≤ clock_max
unfolding every_rules
every_clock t period f bs r n moment p = leb-true _ _ (kept 23 0 (every_rules t period f bs r n moment) p)
