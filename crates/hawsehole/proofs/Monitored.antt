-- The calls of the live monitor, by what they find. Assumes nothing.
use Rattle.std.specs.Prelude.{Ok, Err}
use Prim.Native.Nat.{ℕ, ◌%◌, ◌^◌, ◌≤◌, ◌<◌}
use native.Mathlib.Omega.{arith}
use mathlib.Core.Path.{◌≡◌, refl, ap, sym, ◌∙◌}
use mathlib.Core.Bool.{Bool, true, false, ◌&&◌, ◌||◌, cond}
use mathlib.Core.List.{List, [], ◌∷◌, ◌++◌}
use lib.Dec.{eqb, ltb, leb}
use lib.ListN.{length, set}
use borrow.Author.Tests.{eq-eqb, ne_eqb, eqb-true, ltb-true, leb-true, le-ltb}
use Rattle.units.specs.declared.Module.{Module}
use Rattle.units.specs.declared.Module.TheVariants.{Bench, Handheld}
use Rattle.units.specs.Module.{module_of, rows, page_bytes}
use Rattle.units.specs.Time.{time}
use Rattle.units.proofs.Both.{both}
use Rattle.speed.specs.Table.{table_fits}
use Rattle.units.specs.declared.Clock.{Clock}
use Rattle.bursts.specs.declared.Beat.{Beat}
use Rattle.rules.specs.declared.Refusal.{Refusal}
use Rattle.rules.specs.declared.Refusal.TheVariants.{WrongLength, WrongPeriod, WrongGrade, WrongTable, WrongPage, UnfitState}
use Rattle.rules.specs.declared.State.{State}
use Rattle.rules.specs.declared.Setup.{Setup}
use Rattle.rules.specs.declared.Answer.{Answer}
use Rattle.rules.specs.Numbers.{Rule, rule, first_broken, number_of, interval_of, Verdict, number, interval}
use Rattle.layout.specs.declared.Record.{Record}
use Rattle.layout.specs.Commands.{command, executable}
use Rattle.layout.proofs.ReadBack.{sixteen_pass}
use Rattle.rules.specs.Parts.{start, state_module}
use Rattle.rules.specs.Rules.{every_rules, place_rules as bank-rules, minimum_rules, mode_rules, bus_rules, command_rules, rules, ask}
use Rattle.rules.specs.OneRecord.{period_fits, grade_known, state_rules, entry_rules, record_for, ask_call, Took, take_call}
use Rattle.rules.specs.Report.{beat_word, put_line}
use Rattle.rules.specs.Fits.{fits}
use Rattle.rules.proofs.Kept.{rules_of, command_rules_of, kept, broken_number, numbers_asked}
use Rattle.rules.proofs.OneRecord.{asked_entered, asked_out}
use Rattle.asking.proofs.Ladders.{then, then_taken, first_join}
use Rattle.words.specs.Words.{state_words, state_in, words_of, holds, put_words}
use Rattle.hawsehole.specs.Numbers.{word_of}
use Rattle.hawsehole.specs.Monitor.{place_rules, grade_rules, start_rules, started, start_call, monitor_rules, word_for, ask_words, monitored, last_clock, take_words}

-- ── A last rule after others ──

-- what the others refuse it leaves
pub then_words : (l : List Rule) (x : Bool) {w : Refusal} → first_broken l ≡ Err w → first_broken (l ++ (rule UnfitState x ∷ [])) ≡ Err w
then_words l x h = first_join l (rule UnfitState x ∷ []) ∙ ap (λ (v : Verdict). then v (first_broken (rule UnfitState x ∷ []))) h

-- where they all pass it decides
pub words_last : (l : List Rule) (x : Bool) → first_broken l ≡ Ok tt → first_broken (l ++ (rule UnfitState x ∷ [])) ≡ first_broken (rule UnfitState x ∷ [])
words_last l x h = first_join l (rule UnfitState x ∷ []) ∙ ap (λ (v : Verdict). then v (first_broken (rule UnfitState x ∷ []))) h

-- ── Before the first record ──

-- a grade that 4 passes is 1 or 2
known_small : (g : ℕ) → grade_known g ≡ true → g ≤ 2
known_small g h = go (eqb g 1) refl h
  where
    go : (x : Bool) → eqb g 1 ≡ x → (x || eqb g 2) ≡ true → g ≤ 2
    go true e h = omega (arith, eqb-true g 1 e)
    go false e h = omega (arith, eqb-true g 2 h)

pub large_unknown : (g : ℕ) → 256 ≤ g → grade_known g ≡ false
large_unknown g h = rw (ne_eqb g 1 (λ e. omega (arith, e, h)), ne_eqb g 2 (λ e. omega (arith, e, h)))

-- what a start that is not refused may rely on
pub record Fits (grade bank row : ℕ) : Type 0 where
  pub grade_fits : grade < 256
  pub bank_fits : bank < 256
  pub row_fits : row < 65_536

pub start_fits : (words period grade bank row : ℕ) → first_broken (start_rules words period grade bank row) ≡ Ok tt → Fits grade bank row
unfolding start_rules grade_rules place_rules
start_fits words period grade bank row p =
    let l = start_rules words period grade bank row in
    let g = known_small grade (kept 4 0 l p) in
    let q = (both (eqb words state_words) (ltb bank 4 && ltb row (rows (module_of grade))) (kept 25 0 l p)).1 in
    let r = both (ltb bank 4) (ltb row (rows (module_of grade))) q in
    record {
      grade_fits = omega (arith, g);
      bank_fits = omega (arith, ltb-true bank 4 r.0);
      row_fits = omega (arith, ltb-true row (rows (module_of grade)) r.1, rows_most (module_of grade));
    }
  where
    rows_most : (m : Module) → rows m ≤ 8192
    rows_most Bench = omega arith
    rows_most Handheld = omega arith

module _ (words : List ℕ) (period grade bank row : ℕ) where
  pub start_out : (w : Refusal) → first_broken (start_rules (length words) period grade bank row) ≡ Err w
      → start_call words period grade bank row ≡ started (number w) words
  unfolding start_call
  start_out w p = rw (p, start_call)

  pub start_in : first_broken (start_rules (length words) period grade bank row) ≡ Ok tt
      → start_call words period grade bank row ≡ started 0 (put_words (words_of (start (time period) grade bank row)) words)
  unfolding start_call
  start_in p = rw (p, start_call)

-- ── Asking ──

-- what the code answers where the words hold no state, by the number that asking gives the one that they are read as
abbrev pub unheld_word : ℕ → ℕ
unheld_word n = cond (eqb n 0) 25 (cond (ltb n 8) n 25)

-- what a record is asked has numbers from 10 on
large_number : (u : Setup) (s : State) (r : Record) (w : Refusal) → ask u s r ≡ Err w → leb 8 (number w) ≡ true
unfolding ask rules every_rules command_rules bank-rules minimum_rules mode_rules bus_rules
large_number u s r w p =
    broken_number (λ m. leb 8 m) (rules_of u s r) w (numbers_asked (λ m. leb 8 m) (executable (command r)) (command_rules_of u s r) refl) p

large_word : (n : ℕ) → 8 ≤ n → unheld_word n ≡ 25
large_word n h = rw (ne_eqb n 0 (λ e. omega (arith, e, h)), le-ltb n 8 h)

told : (v : Refusal) {w : Refusal} → ◌≡◌ {A = Verdict} (Err v) (Err w) → word_of (number v) (interval v) 0 ≡ unheld_word (number v)
    → word_of (number w) (interval w) 0 ≡ unheld_word (number w)
told v h e =
    let p : number v ≡ _ = ap number_of h in
    let q : interval v ≡ _ = ap interval_of h in
    rw (← p, ← q) e

-- what is asked of a state has these numbers
state_word : (a b c d e : Bool) {w : Refusal}
    → first_broken (rule WrongPeriod a ∷ rule WrongGrade b ∷ rule WrongTable c ∷ rule WrongPage d ∷ rule UnfitState e ∷ []) ≡ Err w
    → word_of (number w) (interval w) 0 ≡ unheld_word (number w)
state_word false b c d e h = told WrongPeriod h refl
state_word true false c d e h = told WrongGrade h refl
state_word true true false d e h = told WrongTable h refl
state_word true true true false e h = told WrongPage h refl
state_word true true true true false h = told UnfitState h refl
state_word true true true true true h = let z : ◌≡◌ {A = ℕ} 0 1 = cc in absurd (omega arith)

module _ (u : Setup) (words bytes page : List ℕ) where
  pub ask_out : (w : Refusal) → first_broken (monitor_rules u words (length bytes) (length page)) ≡ Err w → ask_words u words bytes page ≡ word_of (number w) (interval w) 0
  unfolding ask_words
  ask_out w p = rw (p, ask_words)

  pub ask_in : first_broken (monitor_rules u words (length bytes) (length page)) ≡ Ok tt
      → ask_words u words bytes page ≡ word_for (ask_call u (state_in words) bytes page)
  unfolding ask_words
  ask_in p = rw (p, ask_words)

  pub ask_short : (length bytes ≡ 16 → ⊥) → 1 ≡ ask_words u words bytes page
  unfolding monitor_rules
  ask_short h = sym (ask_out WrongLength (rw (ne_eqb (length bytes) 16 h)))

  pub ask_few : length bytes ≡ 16 → (length words ≡ state_words → ⊥) → 25 ≡ ask_words u words bytes page
  unfolding monitor_rules
  ask_few e h = sym (ask_out UnfitState (rw (eq-eqb (length bytes) 16 e, ne_eqb (length words) state_words h)))

  -- one record and the words of one state, by whether they hold it
  module _ (sixteen : length bytes ≡ 16) (all : length words ≡ state_words) where
    abbrev s : State
    s = state_in words

    abbrev of_state : List Rule
    of_state = state_rules u s (length page)

    past_first : first_broken (monitor_rules u words (length bytes) (length page)) ≡ first_broken (of_state ++ (rule UnfitState (holds words) ∷ []))
    unfolding monitor_rules
    past_first = rw (eq-eqb (length bytes) 16 sixteen, eq-eqb (length words) state_words all)

    entry_is : first_broken (entry_rules u s bytes page) ≡ first_broken of_state
    unfolding entry_rules
    entry_is = rw (sixteen_pass (state_module s) bytes sixteen)

    -- they hold it: what asking answers
    pub held_ask : holds words ≡ true → word_for (ask_call u s bytes page) ≡ ask_words u words bytes page
    held_ask h = go (first_broken of_state) refl
      where
        same : first_broken (monitor_rules u words (length bytes) (length page)) ≡ first_broken of_state
        same =
            past_first
            ∙ ap (λ (x : Bool). first_broken (of_state ++ (rule UnfitState x ∷ []))) h
            ∙ first_join of_state (rule UnfitState true ∷ [])
            ∙ then_taken (first_broken of_state)

        go : (v : Verdict) → first_broken of_state ≡ v → word_for (ask_call u s bytes page) ≡ ask_words u words bytes page
        go (Ok o) p = sym (ask_in (same ∙ p))
        go (Err w) p = ap word_for (asked_out u s bytes page w (entry_is ∙ p)) ∙ sym (ask_out w (same ∙ p))

    -- they do not
    pub unheld_ask : holds words ≡ false → unheld_word (number_of (ask_call u s bytes page).verdict) ≡ ask_words u words bytes page
    unfolding state_rules
    unheld_ask h = go (first_broken of_state) refl
      where
        last : first_broken (monitor_rules u words (length bytes) (length page)) ≡ first_broken (of_state ++ (rule UnfitState false ∷ []))
        last = past_first ∙ ap (λ (x : Bool). first_broken (of_state ++ (rule UnfitState x ∷ []))) h

        look : (v : Verdict) → ask u s (record_for s bytes) ≡ v → unheld_word (number_of v) ≡ 25
        look (Ok o) q = refl
        look (Err w) q = large_word (number w) (leb-true 8 (number w) (large_number u s (record_for s bytes) w q))

        go : (v : Verdict) → first_broken of_state ≡ v → unheld_word (number_of (ask_call u s bytes page).verdict) ≡ ask_words u words bytes page
        go (Ok o) p =
            ap (λ (a : Answer). unheld_word (number_of a.verdict)) (asked_entered u s bytes page (entry_is ∙ p))
            ∙ look (ask u s (record_for s bytes)) refl
            ∙ sym (ask_out UnfitState (last ∙ words_last of_state false p))
        go (Err w) p =
            ap (λ (a : Answer). unheld_word (number_of a.verdict)) (asked_out u s bytes page w (entry_is ∙ p))
            ∙ sym (state_word (period_fits s.core.period) (grade_known s.core.grade) (table_fits u.table) (eqb (length page) (page_bytes (state_module s))) (fits s) p)
            ∙ sym (ask_out w (last ∙ then_words of_state false p))

  -- ── Taking ──

  -- two words are a line
  pub beat_put : (w : Beat) (n : Clock) (beat : List ℕ) {b1 b2 : List ℕ} {x : ℕ} {m : Clock} → x ≡ beat_word w → b1 ≡ set beat 0 x → m ≡ n
      → b2 ≡ set b1 1 m.0 → b2 ≡ put_line 0 (record { clock = n; beat = w }) beat
  unfolding put_line
  beat_put w n beat hx h1 hm h2 = rw (h2, h1, hm, hx)

  module _ (beat : List ℕ) {w : ℕ} (e : w ≡ ask_words u words bytes page) where
    pub take_out : (w % 2 ^ 8 ≡ 0 → ⊥) → monitored w words page beat ≡ take_words u words bytes page beat
    unfolding take_words
    take_out h = rw (← e, ne_eqb (w % 2 ^ 8) 0 h)

    pub take_in : w % 2 ^ 8 ≡ 0 → {t : Took} {words' beat' : List ℕ} → t ≡ take_call u (state_in words) bytes page
        → words' ≡ put_words (words_of t.next) words
        → beat' ≡ put_line 0 (record { clock = last_clock t.next.core.last; beat = t.beat }) beat
        → monitored w words' t.page beat' ≡ take_words u words bytes page beat
    unfolding take_words
    take_in h {t} ht hw hb = rw (← e, eq-eqb (w % 2 ^ 8) 0 h, ← ht, hw, hb)
