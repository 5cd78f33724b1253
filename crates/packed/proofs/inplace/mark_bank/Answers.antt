-- `packed::inplace::mark_bank` meets its contract, by whether the beat stores a byte.
use Rattle.rules.specs.After.{marked}
use Rattle.rules.specs.Banks.{bank_at}
use lib.ListN.{set}
use mathlib.Core.Bool.{true}
use Prim.Native.Nat.{◌%◌}
use mathlib.Core.Path.{refl, sym, ◌∙◌}
use Rattle.packed.specs.Packed.{banks_in, Held}
use Rattle.taking.proofs.Leaves.{stored_some, stored_none}
use Rattle.packed.proofs.Own.{mark_placed, mark_none}
use Rattle.packed.proofs.Puts.{held_as, packed_held}
use Rattle.packed.proofs.inplace.mark_bank.Goals as goal

pub returns-in-Some : goal.returns-in-Some
returns-in-Some c =
    let a = c.args in
    let l = banks_in a.held.now in
    let i = c.in-Some.i % 4 in
    let put : Held _ (set l i (marked true a.n (bank_at l i))) = c.put_stored.ensures in
    let s = stored_some a.beat _ (sym c.stored_in.ensures ∙ c.in-Some.is) in
    held_as put (rw s.1 (mark_placed a.beat s.0 a.n l refl))

pub returns-in_default : goal.returns-in_default
returns-in_default c =
    let a = c.args in
    let s = stored_none a.beat (sym c.stored_in.ensures ∙ c.in_default.is) in
    held_as (packed_held c.requires) (mark_none a.beat s a.n (banks_in a.held.now) refl)
