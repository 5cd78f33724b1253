-- `device::engine::fold` meets its contract: each turn of the loop is one record of the run, with the banks that the array holds.
use Rattle.std.specs.Prelude.{Ok}
use Prim.Native.Nat.{ℕ, ◌*◌, ◌-◌, ◌≤◌, ◌<◌}
use native.Mathlib.Omega.{arith}
use mathlib.Core.Path.{◌≡◌, refl, ap, sym, subst, ◌∙◌}
use mathlib.Core.List.{List}
use lib.ListN.{length, take, drop}
use Rattle.units.specs.declared.Clock.{Clock}
use Rattle.units.specs.Time.{at}
use Rattle.units.specs.declared.Module.{Module}
use Rattle.layout.specs.declared.Record.{Record}
use Rattle.layout.specs.Bytes.{record_from, record_of, records_of}
use Rattle.layout.specs.Widths.{Widths}
use Rattle.layout.proofs.Widths.{record_fits}
use Rattle.bursts.specs.declared.Beat.TheVariants.{Quiet}
use Rattle.bursts.specs.Bus.{bus_after}
use Rattle.page.specs.Store.{stored}
use Rattle.rules.specs.declared.Bank.{Bank}
use Rattle.rules.specs.declared.Core.{Core}
use Rattle.rules.specs.declared.Setup.{Setup}
use Rattle.rules.specs.Parts.{word_in, core_module}
use Rattle.rules.specs.StartUp.{begun}
use Rattle.rules.specs.Banks.{bank_at, row_of}
use Rattle.rules.specs.Closing.{burst_end}
use Rattle.rules.specs.Rules.{clock_max, ask}
use Rattle.rules.specs.After.{startup_after, commanded}
use Rattle.rules.proofs.Rows.{clock_kept}
use Rattle.units.specs.Reach.{Reach}
use Rattle.rules.specs.Calls.{Call}
use Rattle.rules.proofs.Times.{clock_reach}
use Rattle.packed.specs.Packed.{banks_in, Held}
use Rattle.packed.proofs.Puts.{own_held, held_as, packed_held, held_packed}
use Rattle.device.specs.declared.Words.{Words}
use Rattle.device.specs.InPlace.{words_ahead, whole, state_of}
use Rattle.device.proofs.Ahead.{words_read}
use Rattle.device.proofs.InPlace.{bus_ended, bus_left, startup_kept, banks_kept, settled}
use Rattle.device.specs.Engine.{went_by}
use Rattle.device.proofs.FoldRun.{went_none}
use Rattle.device.proofs.Folds.{able_call, asked_as, goes_on, stays_able, stops}
use Rattle.device.proofs.engine.fold.Goals as goal
use Rattle.device.proofs.engine.fold.Goals.{then-can_end, else-can_end, then-is_executable, else-is_executable}

-- ── A record that has been read ──

record_read : (core : Core) (bytes : List ℕ) (count j : ℕ) {m : Module} {w : Words} {r : Record} → length bytes ≡ 16 * count → j < count
    → w ≡ words_ahead (drop (16 * j) bytes) → m ≡ core_module core → r ≡ record_from m w.first w.second
    → r ≡ record_of (core_module core) (take 16 (drop (16 * j) bytes))
record_read core bytes count j {m = m} {w = w} {r = r} h lt e hm hr =
    hr ∙ ap (λ (x : Module). record_from x w.first w.second) hm ∙ words_read _ j _ bytes h lt e

read_widths : (m : Module) (part : List ℕ) {r : Record} → r ≡ record_of m part → Widths r
read_widths m part read = subst (λ (x : Record). Widths x) (sym read) (record_fits m part)

-- the banks that were put are those that came
from_banks : (u : Setup) (c : Core) {bs cs : List Bank} → cs ≡ bs → (rs : List Record) (page beats : List ℕ)
    → went_by u (whole c bs) rs Quiet page beats ≡ went_by u (whole c cs) rs Quiet page beats
from_banks u c h rs page beats = ap (λ (x : List Bank). went_by u (whole c x) rs Quiet page beats) (sym h)

pub ask-v-requires : goal.ask-v-requires
ask-v-requires c =
    let l = c.loop-j in
    let r = c.record_from-r.result in
    let read = record_read c.args.core c.args.bytes.now c.args.count l.j c.requires.0 c.loop-j-test.true l.invariant.6 c.of_grade-m.ensures c.record_from-r.ensures in
    let widths = read_widths _ _ read in
    let call = able_call l.invariant.4 (omega (arith, c.loop-j-test.true)) r widths in
    subst (λ (x : Core). Call c.args.u.table x (banks_in l.held) r × Reach x.period c.clock_of-n.result) (sym c.core_of-c.ensures) (
      call,
      clock_reach l.last r.skipped call.core.last widths.skipped l.invariant.4.period c.clock_of-n.ensures,
    )

pub returns-in_default : goal.returns-in_default
returns-in_default c =
    let l = c.loop-j in
    let a = c.args in
    let r = c.record_from-r.result in
    let st = state_of a.core l.number l.last l.startup l.bus (banks_in l.held) in
    let read = record_read a.core a.bytes.now a.count l.j c.requires.0 c.loop-j-test.true l.invariant.6 c.of_grade-m.ensures c.record_from-r.ensures in
    rw (c.went.ensures, c.core_of-c.ensures, c.in_default.is)
    (sym
    (from_banks a.u a.core c.hold-held.ensures.banks (records_of (core_module a.core) a.count a.bytes.now) a.page.now a.beats.now
    ∙ l.invariant.5
    ∙ stops _ _ l.j c.loop-j-test.true a.u st _ _ _ _ _ refl read _
    (asked_as a.u st r c.core_of-c.ensures c.clock_of-n.ensures c.ask-v.ensures ∙ c.in_default.is)))

pub move_banks-requires : goal.move_banks-requires
move_banks-requires c =
    let l = c.loop-j in
    let a = c.args in
    let r = c.record_from-r.result in
    let st = state_of a.core l.number l.last l.startup l.bus (banks_in l.held) in
    let read = record_read a.core a.bytes.now a.count l.j c.requires.0 c.loop-j-test.true l.invariant.6 c.of_grade-m.ensures c.record_from-r.ensures in
    let widths = read_widths _ _ read in
    let call = able_call l.invariant.4 (omega (arith, c.loop-j-test.true)) r widths in
    let stands : ask a.u st r ≡ Ok tt = asked_as a.u st r c.core_of-c.ensures c.clock_of-n.ensures c.ask-v.ensures ∙ c.in-Ok.is in
    let most : c.clock_of-n.result.0 ≤ clock_max = subst (λ (n : Clock). n.0 ≤ clock_max) (sym c.clock_of-n.ensures) (clock_kept a.u st r stands) in
    (call.banks, most, widths.ba, l.invariant.3)

pub loop-j-preserved : goal.loop-j-preserved
loop-j-preserved c =
    let l = c.loop-j in
    let a = c.args in
    let lt = c.loop-j-test.true in
    let r = c.record_from-r.result in
    let n = c.clock_of-n.result in
    let k = c.from-k.result in
    let st = state_of a.core l.number l.last l.startup l.bus (banks_in l.held) in
    let read = record_read a.core a.bytes.now a.count l.j c.requires.0 lt l.invariant.6 c.of_grade-m.ensures c.record_from-r.ensures in
    let widths = read_widths _ _ read in
    let stands : ask a.u st r ≡ Ok tt = asked_as a.u st r c.core_of-c.ensures c.clock_of-n.ensures c.ask-v.ensures ∙ c.in-Ok.is in
    let word = word_in l.startup.register in
    let moved = bus_after k r n word (row_of (bank_at st.banks r.ba).status) l.bus in
    let banks = commanded k a.u.table a.core.period (burst_end k a.u.table a.core.period word n) (begun l.startup) r n (at a.core.period n) st.banks in
    let bus : record { write = c.if-can_end.bus.write; reads = c.if-can_end.bus.reads; masks = c.after-bus.result } ≡ moved =
    elim c.if-can_end.branch [
      | then-can_end w ↦
          bus_ended k r n _ _ l.bus c.after-bus.ensures
          (w.bus-is
          ∙ w.move_bus-bus.ensures
          ∙ ap (λ (b : Bank). bus_after k r n word (row_of b.status) l.bus) (own_held l.held r.ba widths.ba refl refl))
      | else-can_end w ↦ bus_left k r n _ _ l.bus c.after-bus.ensures (sym c.can_end.ensures ∙ w.if-can_end.false) w.bus-is
    ] in
    let startup : c.if-is_executable.startup ≡ startup_after k r n l.startup =
    elim c.if-is_executable.branch [
      | then-is_executable w ↦ w.startup-is ∙ w.startup_after-startup.ensures
      | else-is_executable w ↦ w.startup-is ∙ startup_kept k (sym c.is_executable.ensures ∙ w.if-is_executable.false) r n l.startup
    ] in
    let held : Held c.if-is_executable.held banks =
    elim c.if-is_executable.branch [
      | then-is_executable w ↦ subst (λ (x : List ℕ). Held x banks) (sym w.held-is) w.move_banks.ensures
      | else-is_executable w ↦
          subst (λ (x : List ℕ). Held x banks) (sym w.held-is)
          (held_as (packed_held l.invariant.3)
          (banks_kept k (sym c.is_executable.ensures ∙ w.if-is_executable.false) _ _ _ _ _ _ _ st.banks))
    ] in
    let x = settled a.u st r c.from-k.ensures c.clock_of-n.ensures bus startup c.beat_on-beat.ensures held.banks c.mark_bank.ensures.banks in (
      omega (arith, lt),
      c.stored.auto.page ∙ l.invariant.1,
      c.report.auto.beats ∙ l.invariant.2,
      held_packed c.mark_bank.ensures,
      stays_able _ _ l.j lt a.u st r l.own l.page l.beats _ refl read stands x l.invariant.4,
      l.invariant.5
          ∙ goes_on _ _ l.j lt a.u st r l.own l.page l.beats _ refl read stands x c.clock_of-n.ensures
          (c.stored.ensures ∙ ap (λ (y : Module). stored y a.core.bank a.core.row r.dq c.beat_on-beat.result l.page) c.of_grade-m.ensures)
          c.report.ensures,
      c.words_at-words-in-loop-j.ensures,
    )

pub returns : goal.returns
unfolding records_of
returns c =
    let l = c.loop-j in
    let a = c.args in
    let none : a.count - l.j ≡ 0 = omega (arith, c.loop-j-test.false) in
    rw (c.went-2.ensures, c.core_of-c-2.ensures)
    (sym
    (from_banks a.u a.core c.hold-held.ensures.banks (records_of (core_module a.core) a.count a.bytes.now) a.page.now a.beats.now
    ∙ l.invariant.5
    ∙ ap
    (λ (m : ℕ). went_by a.u (state_of a.core l.number l.last l.startup l.bus (banks_in l.held))
    (records_of (core_module a.core) m (drop (16 * l.j) a.bytes.now)) l.own l.page l.beats)
    none
    ∙ went_none _ _ _ _ _))
