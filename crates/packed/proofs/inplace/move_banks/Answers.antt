-- `packed::inplace::move_banks` meets its contract.
use borrow.Author.Rules.{rules}
use mathlib.Core.Path.{ap}
use Rattle.rules.specs.declared.Status.{Status}
use Rattle.units.specs.Time.{at}
use Rattle.rules.specs.StartUp.{begun}
use Rattle.rules.specs.Parts.{word_in}
use Rattle.rules.specs.Closing.{burst_end}
use Rattle.rules.specs.Admitted.{FitStatus}
use Rattle.rules.specs.declared.Bank.{Bank}
use Prim.Native.Nat.{◌%◌}
use mathlib.Core.Path.{refl, sym, subst, ◌∙◌}
use native.Mathlib.Omega.{arith}
use Rattle.packed.specs.Packed.{banks_in}
use Rattle.packed.proofs.Own.{active_moved, auto_moved, none_moved}
use Rattle.packed.proofs.Puts.{held_as, packed_held, bank_held}
use Rattle.packed.proofs.inplace.move_banks.Goals as goal

pub returns-then-eq : goal.returns-then-eq
returns-then-eq c = let a = c.args in held_as c.put_bank.ensures (rw c.activated-opened.ensures (active_moved a.k a.timing.table a.timing.period (burst_end a.k a.timing.table a.timing.period (word_in a.startup.register) a.n) (begun a.startup) a.r a.n (at a.timing.period a.n) (banks_in a.held.now) refl c.requires.2 (search rules)))

pub self_closed-closed-requires : goal.self_closed-closed-requires
self_closed-closed-requires c = let a = c.args in (subst (λ (x : Status). FitStatus x) (ap (λ (b : Bank). b.status) (bank_held a.held.now (a.r.ba % 4) (omega arith)) ∙ sym c.status-status.ensures) (c.requires.0.each (a.r.ba % 4)).status, c.requires.1)

pub returns-then-asks_auto : goal.returns-then-asks_auto
returns-then-asks_auto c = let a = c.args in held_as c.put_status.ensures (rw (c.self_closed-closed.ensures, c.status-status.ensures, ← bank_held a.held.now (a.r.ba % 4) (omega arith)) (auto_moved a.k a.timing.table a.timing.period (burst_end a.k a.timing.table a.timing.period (word_in a.startup.register) a.n) (begun a.startup) a.r a.n (at a.timing.period a.n) (banks_in a.held.now) refl c.requires.2 (search rules) (sym c.asks_auto.ensures ∙ c.if-asks_auto.true)))

pub returns-else-looks_at_all : goal.returns-else-looks_at_all
returns-else-looks_at_all c = let a = c.args in held_as (packed_held c.requires.3) (none_moved a.k a.timing.table a.timing.period (burst_end a.k a.timing.table a.timing.period (word_in a.startup.register) a.n) (begun a.startup) a.r a.n (at a.timing.period a.n) (banks_in a.held.now) refl c.requires.2 (search rules) (sym c.asks_auto.ensures ∙ c.if-asks_auto.false) (sym c.looks_at_all.ensures ∙ c.if-looks_at_all.false))
