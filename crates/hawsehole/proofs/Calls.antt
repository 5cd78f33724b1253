-- The whole-trace call by what it finds before the first record. Assumes nothing.
use Rattle.std.specs.Prelude.{Ok, Err}
use Prim.Native.Nat.{ℕ, ◌+◌, ◌*◌, ◌/◌, ◌%◌, ◌-◌}
use native.Mathlib.Omega.{arith}
use mathlib.Core.Path.{◌≡◌, ap, sym, ◌∙◌}
use mathlib.Core.Bool.{Bool, true, false}
use mathlib.Core.List.{List, ◌∷◌}
use lib.Dec.{leb, eqb}
use lib.ListN.{length, take, drop, length-drop}
use lib.Seq.{take_all}
use borrow.Author.Tests.{eq-eqb, le-leb, eqb-true}
use Rattle.layout.specs.declared.Header.{Header}
use Rattle.layout.specs.Bytes.{header_of, read_header, header_number, records_of}
use Rattle.layout.proofs.ReadBack.{ReadHead}
use Rattle.layout.proofs.Widths.{header_fits}
use Rattle.rules.specs.declared.Refusal.{Refusal}
use Rattle.rules.specs.declared.Refusal.TheVariants.{WrongLength}
use Rattle.rules.specs.declared.Setup.{Setup}
use Rattle.rules.specs.Numbers.{rule, first_broken, Verdict}
use Rattle.rules.specs.OneRecord.{state_rules}
use Rattle.rules.specs.Report.{lines_into, left, ran, fold, records_rules, room, records_call}
use Rattle.rules.proofs.Admitted.{fits_admitted}
use Rattle.rules.proofs.Kept.{kept}
use Rattle.device.proofs.Starts.{records_entered}
use Rattle.device.proofs.FoldRun.{fold_run}
use Rattle.hawsehole.specs.Trace.{lent_rules, whole_rules, start_of, records, module_in}
use Rattle.hawsehole.specs.Numbers.{whole_call}
use Rattle.hawsehole.proofs.Whole.{entry, judge_entered, judge_refused}
use Rattle.hawsehole.proofs.InTime.{start_of_admitted}

-- ── Row 1 ──

pub too_short : (u : Setup) (trace page : List ℕ) → eqb (header_number (read_header trace)) 0 ≡ false → entry u trace page ≡ Err WrongLength
too_short u trace page h = rw h

-- a trace that passes 1 to 7 has a header, and passes them by it
pub by_header : (u : Setup) (trace page : List ℕ) → entry u trace page ≡ Ok tt
    → first_broken (whole_rules u (header_of trace) (length trace) (length page)) ≡ Ok tt
by_header u trace page p = go (eqb (header_number (read_header trace)) 0) p
  where
    go : (x : Bool) → first_broken (rule WrongLength x ∷ whole_rules u (header_of trace) (length trace) (length page)) ≡ Ok tt
        → first_broken (whole_rules u (header_of trace) (length trace) (length page)) ≡ Ok tt
    go true q = q
    go false q = let z : ◌≡◌ {A = ℕ} 0 1 = cc in absurd (omega arith)

-- ── The call ──

pub call_refused : (u : Setup) (trace page beats : List ℕ) (w : Refusal) → entry u trace page ≡ Err w
    → whole_call u trace page beats ≡ left (ran (Err w) 0) page beats
unfolding whole_call lines_into
call_refused u trace page beats w p = rw (judge_refused u trace page w p)

-- the entry, by a header that was read
pub entry_read : (u : Setup) (trace page : List ℕ) (h : Header) (v : Verdict) → ReadHead trace h
    → first_broken (whole_rules u h (length trace) (length page)) ≡ v → entry u trace page ≡ v
entry_read u trace page h v w p =
    rw w.passes (ap (λ (x : Header). first_broken (whole_rules u x (length trace) (length page))) (sym w.read) ∙ p)

module _ (u : Setup) (trace page beats : List ℕ) (p : entry u trace page ≡ Ok tt) where
  long : length trace ≡ 16 + 16 * (header_of trace).count
  unfolding whole_rules
  long =
      eqb-true _ _ (kept 1 0 (whole_rules u (header_of trace) (length trace) (length page)) (by_header u trace page p))

  pub rest_long : length (drop 16 trace) ≡ 16 * (header_of trace).count
  rest_long = simp length-drop (omega (arith, long))

  -- the start state passes what the call of many records tries
  pub enters : first_broken (records_rules u (start_of (header_of trace)) (length (drop 16 trace)) (length page)) ≡ Ok tt
  unfolding records_rules state_rules whole_rules lent_rules
  enters =
      let l = whole_rules u (header_of trace) (length trace) (length page) in
      let q = by_header u trace page p in
      let c = (header_of trace).count in
      let none : 16 * c % 16 ≡ 0 = omega arith in
      rw (rest_long, eq-eqb (16 * c % 16) 0 none, kept 3 0 l q, kept 4 0 l q, kept 6 0 l q, kept 7 0 l q, fits_admitted (start_of (header_of trace)) (start_of_admitted trace (kept 4 0 l q)))

  -- no trace has so many records that one's number is above 2^41
  pub few : leb (length (drop 16 trace) / 16) (room (start_of (header_of trace))) ≡ true
  few =
      le-leb (length (drop 16 trace) / 16) (room (start_of (header_of trace))) (omega (arith, rest_long, (header_fits trace).count))

  pub call_records : records_call u (start_of (header_of trace)) (drop 16 trace) page beats ≡ whole_call u trace page beats
  unfolding whole_call
  call_records =
      let count : length (drop 16 trace) / 16 ≡ (header_of trace).count = omega (arith, rest_long) in
      records_entered u (start_of (header_of trace)) (drop 16 trace) page beats enters few
      ∙ ap (λ (k : ℕ). fold u (start_of (header_of trace)) (records_of (module_in trace) k (drop 16 trace)) page beats) count
      ∙ fold_run u (start_of (header_of trace)) (records trace) page beats
      ∙ sym (rw (judge_entered u trace page p))

-- the bytes past the header, as a part of the trace
pub past_header : (trace : List ℕ) → take (length trace - 16) (drop 16 trace) ≡ drop 16 trace
past_header trace = take_all (length trace - 16) (drop 16 trace) (simp length-drop (omega arith))
