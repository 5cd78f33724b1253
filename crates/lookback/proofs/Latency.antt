-- A mode that was loaded has CL 2 or 3: number 17. Assumes nothing.
use Prim.Native.Nat.{ℕ, ◌%◌, ◌/◌, ◌≤◌}
use native.Mathlib.Omega.{arith}
use mathlib.Core.Path.{◌≡◌, refl, sym, ◌∙◌}
use mathlib.Core.Bool.{Bool, true, false, not, ◌&&◌, ◌||◌, cond, true≢false}
use mathlib.Core.List.{List, ◌∷◌}
use lib.Dec.{eqb, ltb}
use borrow.Author.Tests.{eqb-true}
use Rattle.units.specs.declared.Module.{Module}
use Rattle.units.specs.Module.{has_full_page}
use Rattle.units.proofs.Both.{both}
use Rattle.layout.specs.declared.Record.{Record}
use Rattle.layout.specs.declared.Command.TheVariants.{LoadMode}
use Rattle.layout.specs.Commands.{command, is}
use Rattle.mode.specs.Word.{well_formed, legal, latency, full_page, interleaved}
use Rattle.mode.proofs.Shown.{legal_is}
use Rattle.rules.specs.Numbers.{◌⇒◌}
use Rattle.rules.specs.Parts.{word_in}
use Rattle.lookback.specs.Past.{back_to}
use Rattle.lookback.specs.StartUp.{loads, loaded_by, mode_in}

or_three : (x : ℕ) → (eqb x 2 || eqb x 3) ≡ true → x ≤ 3
or_three x h = go (eqb x 2) (eqb x 3) refl refl h
  where
    go : (a b : Bool) → eqb x 2 ≡ a → eqb x 3 ≡ b → (a || b) ≡ true → x ≤ 3
    go true b e f h = omega (arith, eqb-true x 2 e)
    go false true e f h = omega (arith, eqb-true x 3 f)
    go false false e f h = absurd (true≢false (sym h))

legal_latency : (m : Module) (w : ℕ) → legal m w ≡ true → latency w ≤ 3
legal_latency m w h =
    let a = ltb (w % 8) 4 || (has_full_page m && full_page w && not (interleaved w)) in
    let b = eqb (latency w) 2 || eqb (latency w) 3 in
    let p : well_formed m w ≡ true = sym (legal_is m w) ∙ h in
    or_three (latency w)
    (both a b (both (a && b) (eqb (w / 128 % 4) 0) (both (a && b && eqb (w / 128 % 4) 0) (eqb (w / 1024) 0) p).0).0).1

pub word_more : (m : Module) (r : Record) (past : List Record)
    → (is (command r) LoadMode ⇒ legal m r.addr && eqb r.ba 0) ≡ true
    → latency (mode_in past) ≤ 3 → latency (mode_in (r ∷ past)) ≤ 3
word_more m r past k h = go (loads r) refl
  where
    go : (x : Bool) → loads r ≡ x → latency (word_in (loaded_by (cond x (r ∷ past) (back_to loads past)))) ≤ 3
    go true e = legal_latency m r.addr (both (legal m r.addr) (eqb r.ba 0) (rw e at k)).0
    go false e = h
