-- The one-record call on each record in turn is the call of many records and the whole-trace judge. Assumes nothing.
use Rattle.std.specs.Prelude.{Ok, Err}
use Prim.Native.Nat.{ℕ, zero, suc, ◌+◌, ◌-◌, ◌*◌, ◌/◌, ◌<◌}
use native.Mathlib.Omega.{arith}
use mathlib.Core.Path.{◌≡◌, refl, ap, sym, subst, ◌∙◌}
use mathlib.Core.Bool.{Bool, true, false, cond}
use mathlib.Core.List.{List, ◌∷◌}
use lib.Dec.{leb, eqb}
use lib.ListN.{length, take, drop, length-drop}
use lib.Seq.{length-take-le}
use borrow.Author.Tests.{eq-eqb, ne_eqb, leb-false}
use Rattle.units.specs.Module.{page_bytes}
use Rattle.layout.specs.declared.Record.{Record}
use Rattle.layout.specs.Bytes.{header_of, records_of}
use Rattle.layout.proofs.ReadBack.{sixteen_pass}
use Rattle.rules.specs.declared.Refusal.{Refusal}
use Rattle.rules.specs.declared.Refusal.TheVariants.{UnfitState}
use Rattle.rules.specs.declared.State.{State}
use Rattle.rules.specs.declared.Setup.{Setup}
use Rattle.rules.specs.Parts.{state_module}
use Rattle.rules.specs.Numbers.{first_broken, Verdict, number, number_of}
use Rattle.rules.specs.Rules.{ask}
use Rattle.rules.specs.After.{core_from, core_after, next}
use Rattle.rules.specs.Run.{line, run, page_after}
use Rattle.rules.specs.OneRecord.{state_rules, entry_rules, Stepped, step, record_for}
use Rattle.rules.specs.Report.{put_line, lines_into, Left, left, ran, fold, records_rules, room, past_room, records_call}
use Rattle.rules.specs.Fits.{number_max, fits}
use Rattle.rules.proofs.Admitted.{admitted}
use Rattle.rules.proofs.Kept.{kept}
use Rattle.rules.proofs.Runs.{next_number, page_next}
use Rattle.rules.proofs.OneRecord.{refused, taken, step_refuses, entry_refused, taken_at_zero, step_taken}
use Rattle.admitting.proofs.Ladder.{records_ladder}
use Rattle.device.proofs.Starts.{at_most, Entry, entry_of, records_entered, records_past}
use Rattle.device.proofs.Ready.{Ready, ready_of, ready_entered, ready_next}
use Rattle.device.proofs.Joined.{longer, longer_is}
use Rattle.device.proofs.FoldRun.{fold_taken, fold_refused}
use Rattle.hawsehole.specs.Trace.{start_of}
use Rattle.hawsehole.specs.Numbers.{whole_call}
use Rattle.hawsehole.specs.Walk.{walk}
use Rattle.hawsehole.proofs.Whole.{entry}
use Rattle.hawsehole.proofs.Calls.{rest_long, enters, call_records}

-- ── One call ──

module _ (u : Setup) (s : State) (k : ℕ) (bytes page beats : List ℕ) where
  abbrev first : Record
  first = record_for s (take 16 bytes)

  -- a call that takes its record
  walk_taken : step u s (take 16 bytes) page ≡ taken u s first page
      → walk u s (suc k) bytes page beats
      ≡ walk u (next u s first) k (drop 16 bytes) (page_next s first page) (put_line s.core.number (line s first) beats)
  unfolding walk next core_after core_from
  walk_taken p = rw (p, walk)

  -- one that refuses it, with another number than 0
  walk_refused : (w : Refusal) → step u s (take 16 bytes) page ≡ refused w s.core.number s page → eqb (number w) 0 ≡ false
      → walk u s (suc k) bytes page beats ≡ left (ran (Err w) s.core.number) page beats
  unfolding walk
  walk_refused w p z = rw (p, z)

  -- where the call looks at its record, by what it finds
  module _ (p : first_broken (entry_rules u s (take 16 bytes) page) ≡ Ok tt) where
    asked_taken : ask u s first ≡ Ok tt
        → walk u s (suc k) bytes page beats
        ≡ walk u (next u s first) k (drop 16 bytes) (page_next s first page) (put_line s.core.number (line s first) beats)
    asked_taken q = walk_taken (step_taken u s (take 16 bytes) page (record { entered = p; asked = q }))

    -- no row that a record meets has number 0
    asked_refused : (w : Refusal) → ask u s first ≡ Err w
        → walk u s (suc k) bytes page beats ≡ left (ran (Err w) s.core.number) page beats
    asked_refused w q =
        let r = step_refuses u s (take 16 bytes) page p w q in
        walk_refused w r
        (ne_eqb (number w) 0
        (λ z.
        let e = taken_at_zero u s (take 16 bytes) page (subst (λ (x : Stepped). number_of x.answer.verdict ≡ 0) (sym r) z) in
        let a : ◌≡◌ {A = Verdict} (Err w) (Ok tt) = sym q ∙ e.asked in
        let b : ◌≡◌ {A = ℕ} 0 1 = cc in
        absurd (omega arith)))

-- ── Call after call ──

walk_none : (u : Setup) (s : State) (bytes page beats : List ℕ) → walk u s 0 bytes page beats ≡ left (ran (Ok tt) s.core.number) page beats
unfolding walk
walk_none u s bytes page beats = refl

-- the walk over `count` records and `more` after them, up to record number `total`: the fold over the first, then `after`, which what
-- the calls give at that number must be, and which leaves a refusal as it is
module _ (u : Setup) (more total : ℕ) (after : Left → Left)
    (refusal : (w : Refusal) (k : ℕ) (page beats : List ℕ) → after (left (ran (Err w) k) page beats) ≡ left (ran (Err w) k) page beats)
    (base : (s : State) (bytes page beats : List ℕ) → length bytes ≡ 16 * more → Ready u s 0 page → s.core.number ≡ total
    → walk u s more bytes page beats ≡ after (left (ran (Ok tt) s.core.number) page beats)) where
  ready_walk : (s : State) (count : ℕ) (bytes page beats : List ℕ) → length bytes ≡ 16 * longer count more → Ready u s count page
      → s.core.number + count ≡ total
      → walk u s (longer count more) bytes page beats ≡ after (fold u s (records_of (state_module s) count bytes) page beats)
  unfolding walk fold run page_after lines_into records_of next core_after core_from
  ready_walk s zero bytes page beats h e k = base s bytes page beats h e (omega (arith, k))
  ready_walk s (suc c) bytes page beats h e k =
      go (ask u s r) refl
      (λ p.
      ready_walk (next u s r) c (drop 16 bytes) (page_next s r page) (put_line s.core.number (line s r) beats) rest
      (ready_next u s c (take 16 bytes) page e p) (omega (arith, k, next_number u s r)))
    where
      r : Record
      r = record_for s (take 16 bytes)

      rest : length (drop 16 bytes) ≡ 16 * longer c more
      rest = simp length-drop (omega (arith, h))

      enter : first_broken (entry_rules u s (take 16 bytes) page) ≡ Ok tt
      enter = ready_entered u s c (take 16 bytes) page e (length-take-le 16 bytes (omega (arith, h)))

      go : (v : Verdict) → ask u s r ≡ v
          → (ask u s r ≡ Ok tt
          → walk u (next u s r) (longer c more) (drop 16 bytes) (page_next s r page) (put_line s.core.number (line s r) beats)
          ≡ after (fold u (next u s r) (records_of (state_module s) c (drop 16 bytes)) (page_next s r page) (put_line s.core.number (line s r) beats)))
          → walk u s (suc (longer c more)) bytes page beats
          ≡ after (fold u s (r ∷ records_of (state_module s) c (drop 16 bytes)) page beats)
      go (Ok o) p ih =
          asked_taken u s (longer c more) bytes page beats enter p
          ∙ ih p
          ∙ ap after (sym (fold_taken u s r (records_of (state_module s) c (drop 16 bytes)) page beats p))
      go (Err w) p ih =
          asked_refused u s (longer c more) bytes page beats enter w p
          ∙ sym (refusal w s.core.number page beats)
          ∙ ap after (sym (fold_refused u s r (records_of (state_module s) c (drop 16 bytes)) page beats w p))

-- ── A record number above 2^41 ──

too_many : (s : State) → s.core.number ≡ suc number_max → fits s ≡ false
too_many s e = go (fits s) refl
  where
    go : (x : Bool) → fits s ≡ x → fits s ≡ false
    go true h = absurd (omega (arith, (admitted s h).core.number, e))
    go false h = h

-- the call after the last record that may be judged gives 25, and reports record 0
twenty_five : (u : Setup) (more : ℕ) (s : State) (bytes page beats : List ℕ) → length bytes ≡ 16 * suc more → Ready u s 0 page
    → s.core.number ≡ suc number_max
    → walk u s (suc more) bytes page beats ≡ past_room (left (ran (Ok tt) s.core.number) page beats)
unfolding walk entry_rules state_rules
twenty_five u more s bytes page beats h e k =
    let long : length (take 16 bytes) ≡ 16 = length-take-le 16 bytes (omega (arith, h)) in
    let p : first_broken (entry_rules u s (take 16 bytes) page) ≡ Err UnfitState =
    rw (sixteen_pass (state_module s) (take 16 bytes) long, e.period, e.grade, e.table, eq-eqb (length page) (page_bytes (state_module s)) e.lent, too_many s k)
    in
    rw (entry_refused u s (take 16 bytes) page UnfitState p)

-- ── From what the call of many records tries before its first ──

-- what the call tries before its first record is ready for as many records as may be judged
ready : (u : Setup) (s : State) (bytes : ℕ) (page : List ℕ) → first_broken (records_rules u s bytes (length page)) ≡ Ok tt
    → Ready u s (at_most (bytes / 16) (room s)) page
unfolding records_rules
ready u s bytes page p =
    let whole = kept 1 0 (records_rules u s bytes (length page)) p in
    let e = entry_of u s bytes (length page) p in
    ready_of u s (at_most (bytes / 16) (room s)) page (sym (records_ladder u s bytes (length page) whole) ∙ p) e.able.room

-- THE ONE-RECORD CALL ON EACH RECORD IN TURN IS THE CALL OF MANY RECORDS, where 1, 3, 4, 6, 7 and 25 pass before the first
pub walk_records : (u : Setup) (s : State) (bytes page beats : List ℕ)
    → first_broken (records_rules u s (length bytes) (length page)) ≡ Ok tt
    → walk u s (length bytes / 16) bytes page beats ≡ records_call u s bytes page beats
walk_records u s bytes page beats p = go (leb count (room s)) refl
  where
    count : ℕ
    count = length bytes / 16

    e : Entry u s (length bytes)
    e = entry_of u s (length bytes) (length page) p

    whole : length bytes ≡ 16 * count
    whole = omega (arith, e.whole)

    some : (x : Bool) → leb count (room s) ≡ x → Ready u s (cond x count (room s)) page
    some x t = subst (λ (y : Bool). Ready u s (cond y count (room s)) page) t (ready u s (length bytes) page p)

    go : (x : Bool) → leb count (room s) ≡ x → walk u s count bytes page beats ≡ records_call u s bytes page beats
    go true t =
        let n : longer count 0 ≡ count = longer_is count 0 ∙ omega arith in
        ap (λ (k : ℕ). walk u s k bytes page beats) (sym n)
        ∙ ready_walk u 0 (s.core.number + count) (λ l. l) (λ w k page beats. refl) (λ r b pg bt h q k. walk_none u r b pg bt) s count bytes page beats
        (omega (arith, whole, n)) (some true t) refl
        ∙ sym (records_entered u s bytes page beats p t)
    go false t =
        let over : room s < count = leb-false count (room s) t in
        let left_over : suc (count - suc (room s)) ≡ count - room s = omega (arith, over) in
        let n : longer (room s) (suc (count - suc (room s))) ≡ count = longer_is (room s) (suc (count - suc (room s))) ∙ omega (arith, over) in
        ap (λ (k : ℕ). walk u s k bytes page beats) (sym n)
        ∙ ready_walk u (suc (count - suc (room s))) (suc number_max) past_room (λ w k page beats. refl)
        (λ r b pg bt h q k. twenty_five u (count - suc (room s)) r b pg bt h q k) s (room s) bytes page beats
        (omega (arith, whole, n)) (some false t) (omega (arith, e.number))
        ∙ sym (records_past u s bytes page beats p t)

-- AND, FROM A TRACE'S START STATE, THE WHOLE-TRACE JUDGE, where 1 to 7 pass
pub walk_whole : (u : Setup) (trace page beats : List ℕ) → entry u trace page ≡ Ok tt
    → walk u (start_of (header_of trace)) (header_of trace).count (drop 16 trace) page beats ≡ whole_call u trace page beats
walk_whole u trace page beats p =
    let count : length (drop 16 trace) / 16 ≡ (header_of trace).count = omega (arith, rest_long u trace page beats p) in
    sym (ap (λ (k : ℕ). walk u (start_of (header_of trace)) k (drop 16 trace) page beats) count)
    ∙ walk_records u (start_of (header_of trace)) (drop 16 trace) page beats (enters u trace page beats p)
    ∙ call_records u trace page beats p
