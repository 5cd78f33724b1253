-- For the live monitor, which is C: one record asked, or taken, from a state that is lent as words (02, K7). Definitions only.
use Rattle.std.specs.Prelude.{ℕ, ◌%◌, ◌^◌, ◌&&◌, cond, List, [], ◌∷◌, ◌++◌, eqb, ltb, length, Option, None, Some, Ok, Err}
use Rattle.units.specs.declared.Module.{Module}
use Rattle.units.specs.Module.{module_of, rows}
use Rattle.units.specs.declared.Clock.{Clock}
use Rattle.units.specs.Time.{clock, time}
use Rattle.rules.specs.declared.Refusal.TheVariants.{UnfitState, WrongGrade, WrongLength, WrongPeriod}
use Rattle.rules.specs.declared.Setup.{Setup}
use Rattle.rules.specs.declared.Answer.{Answer}
use Rattle.rules.specs.Numbers.{Rule, rule, first_broken, number, interval, number_of, interval_of}
use Rattle.rules.specs.Parts.{start}
use Rattle.rules.specs.OneRecord.{period_fits, grade_known, state_rules, ask_call, Took, take_call}
use Rattle.rules.specs.Report.{put_line}
use Rattle.words.specs.Words.{state_words, state_in, words_of, holds, put_words}
use Rattle.hawsehole.specs.Numbers.{word_of}

-- ── Before the first record ──

-- "25 (a bank or row off the module, a wrong state_len)"
unfoldable pub place_rules : ℕ → Module → ℕ → ℕ → List Rule
place_rules words m bank row = rule UnfitState (eqb words state_words && (ltb bank 4 && ltb row (rows m))) ∷ []

-- 4 and 25
unfoldable pub grade_rules : ℕ → ℕ → ℕ → ℕ → List Rule
grade_rules words grade bank row = rule WrongGrade (grade_known grade) ∷ place_rules words (module_of grade) bank row

-- 3, 4 and 25
unfoldable pub start_rules : ℕ → ℕ → ℕ → ℕ → ℕ → List Rule
start_rules words period grade bank row = rule WrongPeriod (period_fits (time period)) ∷ grade_rules words grade bank row

-- what a call on a state leaves: the answer, and the state's words
pub record Started : Type 0 where
  pub number : ℕ
  pub words : List ℕ

abbrev pub started : ℕ → List ℕ → Started
started number words = record { number = number; words = words }

-- "answers 0 and writes every word, or .. writes nothing"
unfoldable pub start_call : List ℕ → ℕ → ℕ → ℕ → ℕ → Started
start_call words period grade bank row =
    elim (first_broken (start_rules (length words) period grade bank row)) [
      | Ok x ↦ started 0 (put_words (words_of (start (time period) grade bank row)) words)
      | Err w ↦ started (number w) words
    ]

-- ── One record ──

-- "a record that is not 16 bytes long is 1, then a wrong state_len is 25, then 3, 4, 6, 7, 25"
unfoldable pub monitor_rules : Setup → List ℕ → ℕ → ℕ → List Rule
monitor_rules u words bytes lent =
    rule WrongLength (eqb bytes 16)
    ∷ rule UnfitState (eqb (length words) state_words)
    ∷ (state_rules u (state_in words) lent ++ (rule UnfitState (holds words) ∷ []))

abbrev pub word_for : Answer → ℕ
word_for a = word_of (number_of a.verdict) (interval_of a.verdict) a.reported

-- "the answer word is the judge's"
unfoldable pub ask_words : Setup → List ℕ → List ℕ → List ℕ → ℕ
ask_words u words bytes page =
    elim (first_broken (monitor_rules u words (length bytes) (length page))) [
      | Ok x ↦ word_for (ask_call u (state_in words) bytes page)
      | Err w ↦ word_of (number w) (interval w) 0
    ]

-- what taking leaves: the answer, the words, the page and the lent beat
pub record Monitored : Type 0 where
  pub word : ℕ
  pub words : List ℕ
  pub page : List ℕ
  pub beat : List ℕ

abbrev pub monitored : ℕ → List ℕ → List ℕ → List ℕ → Monitored
monitored word words page beat = record { word = word; words = words; page = page; beat = beat }

-- the clock of the last record taken; no state after one is without it
abbrev pub last_clock : Option Clock → Clock
last_clock None = clock 0
last_clock (Some n) = n

-- "a taken record's two beat words go to `beat` as far as it has room"
abbrev pub taken_words : ℕ → Took → List ℕ → List ℕ → Monitored
taken_words word t words beat =
    monitored word (put_words (words_of t.next) words) t.page
    (put_line 0 (record { clock = last_clock t.next.core.last; beat = t.beat }) beat)

-- "Taking a record that asking refuses, for any reason, leaves state and page as they are and has no beat"
unfoldable pub take_words : Setup → List ℕ → List ℕ → List ℕ → List ℕ → Monitored
take_words u words bytes page beat =
    let word = ask_words u words bytes page in
    cond (eqb (word % 2 ^ 8) 0) (taken_words word (take_call u (state_in words) bytes page) words beat) (monitored word words page beat)
