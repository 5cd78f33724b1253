-- The engine on one record is asking and taking it. Assumes nothing.
use Rattle.std.specs.Prelude.{Ok, Err}
use Prim.Native.Nat.{ℕ, ◌/◌, ◌%◌}
use native.Mathlib.Omega.{arith}
use mathlib.Core.Path.{◌≡◌, refl, ap, sym, ◌∙◌}
use mathlib.Core.Bool.{true, false, cond}
use mathlib.Core.List.{List, [], ◌∷◌}
use lib.Dec.{leb, eqb}
use lib.ListN.{length}
use lib.Seq.{take_all}
use borrow.Author.Tests.{eq-eqb, ne_eqb, le-leb}
use Rattle.units.specs.declared.Module.{Module}
use Rattle.layout.specs.Bytes.{read_record, record_number, record_of, records_of}
use Rattle.layout.proofs.ReadBack.{sixteen_pass}
use Rattle.bursts.specs.declared.Beat.TheVariants.{Quiet}
use Rattle.rules.specs.declared.Refusal.TheVariants.{WrongLength}
use Rattle.rules.specs.declared.State.{State}
use Rattle.rules.specs.declared.Setup.{Setup}
use Rattle.rules.specs.declared.Answer.{Answer}
use Rattle.rules.specs.declared.Ran.{Ran}
use Rattle.rules.specs.Parts.{state_module}
use Rattle.rules.specs.Numbers.{first_broken, Verdict}
use Rattle.rules.specs.Rules.{ask}
use Rattle.rules.specs.Run.{Run, run, state_left, beat_left}
use Rattle.rules.specs.OneRecord.{entry_rules, record_for, answer_of, found_of, ask_call, Took, took, take_call}
use Rattle.rules.specs.Report.{Left, ran, fold, records_rules, room, records_in, records_lent, call_run, records_next}
use Rattle.rules.proofs.Runs.{run_taken, run_refused, state_same}
use Rattle.rules.proofs.OneRecord.{asked_entered, took_entered, asked_out, took_out}
use Rattle.device.specs.Engine.{reported_by}
use Rattle.device.proofs.FoldRun.{from_run, fold_run}
use Rattle.admitting.proofs.Ladder.{records_ladder}
use Rattle.device.proofs.Starts.{entry_of, run_out, run_in, lent_refused, lent_entered}

pub not_sixteen : (m : Module) (bytes : List ℕ) → (length bytes ≡ 16 → ⊥) → eqb (record_number (read_record m bytes)) 0 ≡ false
unfolding read_record
not_sixteen m bytes h = rw (ne_eqb (length bytes) 16 h)

-- what asking answers of a verdict and the record that it reports
abbrev pub told : State → Ran → Answer
told s r = answer_of r.verdict (reported_by r.verdict r.reported s.core.number) Quiet

-- a slice that is not one record
module _ (u : Setup) (s : State) (bytes page : List ℕ) (h : eqb (record_number (read_record (state_module s) bytes)) 0 ≡ false) where
  wrong_out : first_broken (entry_rules u s bytes page) ≡ Err WrongLength
  unfolding entry_rules
  wrong_out = rw h

  pub ask_wrong : ask_call u s bytes page ≡ answer_of (Err WrongLength) 0 Quiet
  ask_wrong = asked_out u s bytes page WrongLength wrong_out

  pub take_wrong : take_call u s bytes page ≡ took Quiet s page
  take_wrong = took_out u s bytes page WrongLength wrong_out

-- one of 16 bytes
module _ (u : Setup) (s : State) (bytes page : List ℕ) (sixteen : length bytes ≡ 16) where
  -- what is tried before the first of many is what is tried before the one
  alike : first_broken (records_rules u s (length bytes) (length page)) ≡ first_broken (entry_rules u s bytes page)
  unfolding entry_rules
  alike =
      records_ladder u s (length bytes) (length page) (eq-eqb (length bytes % 16) 0 (omega (arith, sixteen)))
      ∙ sym (rw (sixteen_pass (state_module s) bytes sixteen))

  -- the slice is one record, and its number is not above 2^41
  module _ (p : first_broken (records_rules u s (length bytes) (length page)) ≡ Ok tt) where
    few : leb (length bytes / 16) (room s) ≡ true
    few = le-leb (length bytes / 16) (room s) (omega (arith, sixteen, (entry_of u s (length bytes) (length page) p).number))

    single : records_of (state_module s) (length bytes / 16) bytes ≡ (record_for s bytes ∷ [])
    unfolding records_of
    single =
        let one : length bytes / 16 ≡ 1 = omega (arith, sixteen) in
        ap (λ (k : ℕ). records_of (state_module s) k bytes) one
        ∙ ap (λ l. record_of (state_module s) l ∷ []) (take_all 16 bytes (omega (arith, sixteen)))

    in_one : records_in s bytes ≡ (record_for s bytes ∷ [])
    in_one = ap (λ x. records_of (state_module s) (cond x (length bytes / 16) (room s)) bytes) few ∙ single

    run_one : call_run u s bytes (length page) ≡ run u s (record_for s bytes ∷ [])
    run_one = run_in u s bytes (length page) p ∙ ap (run u s) in_one

    fold_one : (lent beats : List ℕ) → records_lent u s bytes (length page) lent beats ≡ from_run s (record_for s bytes ∷ []) lent beats (run u s (record_for s bytes ∷ []))
    fold_one lent beats =
        lent_entered u s bytes (length page) lent beats p few
        ∙ ap (λ rs. fold u s rs lent beats) single
        ∙ fold_run u s (record_for s bytes ∷ []) lent beats

  -- TAKING: beat, state and page of the engine
  abbrev taken_as : Took
  taken_as =
      took (beat_left (call_run u s bytes (length page))) (records_next u s bytes (length page)) (records_lent u s bytes (length page) page []).page

  pub takes : taken_as ≡ take_call u s bytes page
  takes = go (first_broken (records_rules u s (length bytes) (length page))) refl
    where
      go : (v : Verdict) → first_broken (records_rules u s (length bytes) (length page)) ≡ v → taken_as ≡ take_call u s bytes page
      go (Ok x) p =
          (λ i.
          took (beat_left (run_one p i)) (state_left u s (in_one p i) (run_one p i)) (fold_one p page [] i).page)
          ∙ sym (took_entered u s bytes page (sym alike ∙ p))
      go (Err n) p =
          let e = run_out u s bytes (length page) n p in
          (λ i.
          took (beat_left (e i)) ((ap (state_left u s (records_in s bytes)) e ∙ state_same u s (records_in s bytes) (record { verdict = Err n; reported = 0; lines = [] }) refl) i) (lent_refused u s bytes (length page) page [] n p i).page)
          ∙ sym (took_out u s bytes page n (sym alike ∙ p))

  -- ASKING: the verdict of the engine, whatever is lent to it
  module _ (lent : List ℕ) where
    pub asks : told s (records_lent u s bytes (length page) lent []).ran ≡ ask_call u s bytes page
    unfolding run
    asks = go (first_broken (records_rules u s (length bytes) (length page))) refl
      where
        of_run : Run → Answer
        of_run v = told s (ran v.verdict v.reported)

        look : (v : Verdict) → ask u s (record_for s bytes) ≡ v
            → of_run (run u s (record_for s bytes ∷ [])) ≡ found_of (ask u s (record_for s bytes)) s.core.number
        look (Ok x) q = ap of_run (run_taken u s (record_for s bytes) [] q) ∙ sym (ap (λ v. found_of v s.core.number) q)
        look (Err n) q = ap of_run (run_refused u s (record_for s bytes) [] n q) ∙ sym (ap (λ v. found_of v s.core.number) q)

        go : (v : Verdict) → first_broken (records_rules u s (length bytes) (length page)) ≡ v → told s (records_lent u s bytes (length page) lent []).ran ≡ ask_call u s bytes page
        go (Ok x) p = ap (λ (l : Left). told s l.ran) (fold_one p lent []) ∙ look (ask u s (record_for s bytes)) refl ∙ sym (asked_entered u s bytes page (sym alike ∙ p))
        go (Err n) p = ap (λ (l : Left). told s l.ran) (lent_refused u s bytes (length page) lent [] n p) ∙ sym (asked_out u s bytes page n (sym alike ∙ p))
