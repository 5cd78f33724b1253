-- The calls of the live monitor on the words of a state are the one-record calls on that state. Assumes nothing.
use Rattle.std.specs.Prelude.{Ok, Err}
use Prim.Native.Nat.{ℕ, ◌%◌, ◌^◌}
use native.Mathlib.Omega.{arith}
use mathlib.Core.Path.{◌≡◌, refl, ap, sym, ◌∙◌}
use mathlib.Core.Bool.{Bool, true, false}
use mathlib.Core.List.{List, [], ◌∷◌, ◌++◌}
use lib.Dec.{eqb}
use lib.ListN.{length}
use borrow.Author.Tests.{eq-eqb, eqb-true, eqb-false}
use Rattle.layout.specs.Bytes.{read_record, record_number}
use Rattle.layout.proofs.ReadBack.{sixteen_pass}
use Rattle.rules.specs.declared.Refusal.TheVariants.{UnfitState, WrongLength}
use Rattle.rules.specs.declared.State.{State}
use Rattle.rules.specs.declared.Setup.{Setup}
use Rattle.rules.specs.Parts.{state_module}
use Rattle.rules.specs.Numbers.{rule, first_broken, Verdict, number_of, interval_of}
use Rattle.rules.specs.OneRecord.{state_rules, entry_rules, ask_call, take_call}
use Rattle.rules.specs.Report.{put_line}
use Rattle.rules.proofs.OneRecord.{asked_out}
use Rattle.asking.proofs.Ladders.{then_taken, first_join}
use Rattle.device.proofs.OneRecord.{not_sixteen}
use Rattle.words.specs.Words.{state_words, words_of}
use Rattle.words.specs.Narrow.{Narrow}
use Rattle.words.proofs.Stores.{words_length, put_all}
use Rattle.words.proofs.ReadBack.{read_back, held}
use Rattle.hawsehole.specs.Numbers.{word_of}
use Rattle.hawsehole.specs.Monitor.{monitor_rules, word_for, ask_words, monitored, last_clock, take_words}
use Rattle.hawsehole.proofs.Monitored.{ask_out, ask_in, take_in}

module _ (u : Setup) (s : State) (h : Narrow s) (bytes page : List ℕ) where
  -- the words of a state pass what is asked of words
  of_words : first_broken (monitor_rules u (words_of s) (length bytes) (length page)) ≡ first_broken (rule WrongLength (eqb (length bytes) 16) ∷ state_rules u s (length page))
  unfolding monitor_rules
  of_words =
      rw (eq-eqb (length (words_of s)) state_words (words_length s h.four_reads h.four_banks), read_back s h, held s h) (go (eqb (length bytes) 16))
    where
      go : (x : Bool) → first_broken (rule WrongLength x ∷ rule UnfitState true ∷ (state_rules u s (length page) ++ (rule UnfitState true ∷ []))) ≡ first_broken (rule WrongLength x ∷ state_rules u s (length page))
      go true = first_join (state_rules u s (length page)) (rule UnfitState true ∷ []) ∙ then_taken (first_broken (state_rules u s (length page)))
      go false = refl

  entered : first_broken (monitor_rules u (words_of s) (length bytes) (length page)) ≡ first_broken (entry_rules u s bytes page)
  unfolding entry_rules
  entered = of_words ∙ ap (λ (x : Bool). first_broken (rule WrongLength x ∷ state_rules u s (length page))) (go (eqb (length bytes) 16) refl)
    where
      go : (x : Bool) → eqb (length bytes) 16 ≡ x → eqb (length bytes) 16 ≡ eqb (record_number (read_record (state_module s) bytes)) 0
      go true e = e ∙ sym (sixteen_pass (state_module s) bytes (eqb-true (length bytes) 16 e))
      go false e = e ∙ sym (not_sixteen (state_module s) bytes (eqb-false (length bytes) 16 e))

  -- ASKING BY WORDS IS ASKING
  pub ask_as : ask_words u (words_of s) bytes page ≡ word_for (ask_call u s bytes page)
  ask_as = go (first_broken (entry_rules u s bytes page)) refl
    where
      go : (v : Verdict) → first_broken (entry_rules u s bytes page) ≡ v → ask_words u (words_of s) bytes page ≡ word_for (ask_call u s bytes page)
      go (Ok o) p = ask_in u (words_of s) bytes page (entered ∙ p) ∙ ap (λ (x : State). word_for (ask_call u x bytes page)) (read_back s h)
      go (Err w) p = ask_out u (words_of s) bytes page w (entered ∙ p) ∙ sym (ap word_for (asked_out u s bytes page w p))

  zero_word : (n i k : ℕ) → n ≡ 0 → word_of n i k % 2 ^ 8 ≡ 0
  zero_word n i k z = omega (arith, z)

  -- TAKING BY WORDS IS TAKING: the words of the next state, its page, and its beat
  pub take_as : (beat : List ℕ) → number_of (ask_call u s bytes page).verdict ≡ 0 → Narrow (take_call u s bytes page).next
      → take_words u (words_of s) bytes page beat
      ≡ monitored (word_for (ask_call u s bytes page)) (words_of (take_call u s bytes page).next) (take_call u s bytes page).page
      (put_line 0 (record { clock = last_clock (take_call u s bytes page).next.core.last; beat = (take_call u s bytes page).beat }) beat)
  take_as beat z g =
      let t = take_call u s bytes page in
      let a = ask_call u s bytes page in
      let long : length (words_of s) ≡ length (words_of t.next) = words_length s h.four_reads h.four_banks ∙ sym (words_length t.next g.four_reads g.four_banks) in
      sym
      (take_in u (words_of s) bytes page beat (sym ask_as) (zero_word (number_of a.verdict) (interval_of a.verdict) a.reported z) (ap (λ (x : State). take_call u x bytes page) (sym (read_back s h)))
      (sym (put_all (words_of t.next) (words_of s) long)) refl)
