-- `device::engine::judge` meets its contract: refused before the first record, all judged, or some and then 25.
use Prim.Native.Nat.{ℕ, ◌≤◌, ◌*◌, ◌/◌}
use native.Mathlib.Omega.{arith}
use mathlib.Core.Path.{refl, sym, subst, ◌∙◌}
use lib.ListN.{length, length-take}
use Rattle.rules.specs.Calls.{Able}
use Rattle.device.proofs.Starts.{most_within, entry_of, lent_refused, next_out, beat_out, all_left, next_left, last_left, some_left, some_next, some_last}
use Rattle.device.proofs.engine.judge.Goals as goal

pub returns-in_default : goal.returns-in_default
returns-in_default c = let a = c.args in
    let p = sym c.records_verdict-v.ensures ∙ c.in_default.is in
    rw (c.unmoved.ensures, c.in_default.is)
    (sym (lent_refused a.u a.s a.bytes.now a.lent a.page.now a.beats.now _ p), next_out a.u a.s a.bytes.now a.lent _ p, beat_out a.u a.s a.bytes.now a.lent _ p)

pub before_max-some-requires : goal.before_max-some-requires
before_max-some-requires c = let p = sym c.records_verdict-v.ensures ∙ c.in-Ok.is in (entry_of _ _ _ _ p).number

pub fold-w-requires : goal.fold-w-requires
fold-w-requires c =
    let a = c.args in
    let p = sym c.records_verdict-v.ensures ∙ c.in-Ok.is in
    let w : c.before_max-some.result ≤ length c.args.bytes.now / 16 = rw c.before_max-some.ensures (most_within _ _) in
    (simp length-take (omega (arith, w)), subst (λ (n : ℕ). Able a.u a.s n) (sym c.before_max-some.ensures) (entry_of _ _ _ _ p).able)

pub returns-then-some-count : goal.returns-then-some-count
returns-then-some-count c =
    let a = c.args in
    let p = sym c.records_verdict-v.ensures ∙ c.in-Ok.is in
    let n = c.before_max-some.result in
    let e = c.before_max-some.ensures in
    let g = c.fold-w.ensures in
    let h = c.if-some-count.true in
    let x = c.above_max.ensures in
    (some_left a.u a.s a.bytes.now a.lent a.page.now a.beats.now p n (16 * n) e refl g h x, some_next a.u a.s a.bytes.now a.lent a.page.now a.beats.now p n (16 * n) e refl g h x, some_last a.u a.s a.bytes.now a.lent a.page.now a.beats.now p n (16 * n) e refl g h x)

pub returns : goal.returns
returns c =
    let a = c.args in
    let p = sym c.records_verdict-v.ensures ∙ c.in-Ok.is in
    let n = c.before_max-some.result in
    let e = c.before_max-some.ensures in
    let g = c.fold-w.ensures in
    (all_left a.u a.s a.bytes.now a.lent a.page.now a.beats.now p n (16 * n) e refl g c.if-some-count.false, next_left a.u a.s a.bytes.now a.lent a.page.now a.beats.now p n (16 * n) e refl g, last_left a.u a.s a.bytes.now a.lent a.page.now a.beats.now p n (16 * n) e refl g)
