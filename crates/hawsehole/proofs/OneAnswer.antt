-- ONE ANSWER ONLY: each promise, as the contract cites it, fixes the answer and every lent byte. Assumes nothing.
use Prim.Native.Nat.{ℕ}
use mathlib.Core.Path.{◌≡◌, ap, sym, ◌∙◌}
use mathlib.Core.List.{List}
use lib.ListN.{length}
use Rattle.speed.specs.declared.SpeedTable.{SpeedTable}
use Rattle.rules.specs.declared.State.{State}
use Rattle.rules.specs.declared.Setup.{Setup}
use Rattle.rules.specs.declared.Ran.{Ran}
use Rattle.rules.specs.OneRecord.{Took, took, take_call, Stepped, stepped, step}
use Rattle.rules.specs.Report.{Left, left, records_call, records_next}
use Rattle.device.specs.declared.Took.{Took as Taking}
use Rattle.device.specs.declared.Outcome.{Outcome}
use Rattle.device.specs.declared.Judged.{Judged}
use Rattle.hawsehole.specs.Numbers.{whole_call, Answered, answered, judge_beats, Alone, alone, judge_alone}
use Rattle.hawsehole.specs.Monitor.{Started, started, start_call, Monitored, monitored, take_words}

-- a promise that is one equation, `r ≡ definition inputs`, or `the lent bytes at exit ≡ definition inputs`
pub only : {A : Type 0} {a b d : A} → a ≡ d → b ≡ d → a ≡ b
only p q = p ∙ sym q

-- the one-record call: outcome (number, interval, record, beat, next state) and page
pub record_only : (u : Setup) (s : State) (bytes page : List ℕ) (a b : Outcome) (p q : List ℕ)
    → stepped a.answer a.next.0 p ≡ step u s bytes page → stepped b.answer b.next.0 q ≡ step u s bytes page
    → (a ≡ b) × (p ≡ q)
record_only u s bytes page a b p q h g =
    (ap (λ (x : Stepped). record { answer = x.answer; next = record { 0 = x.next } }) (only h g), ap (λ (x : Stepped). x.page) (only h g))

-- asking is one equation: `only`. Taking: beat, next state and page
pub take_only : (u : Setup) (s : State) (bytes page : List ℕ) (a b : Taking) (p q : List ℕ)
    → took a.beat a.next.0 p ≡ take_call u s bytes page → took b.beat b.next.0 q ≡ take_call u s bytes page
    → (a ≡ b) × (p ≡ q)
take_only u s bytes page a b p q h g =
    (ap (λ (x : Took). record { beat = x.beat; next = record { 0 = x.next } }) (only h g), ap (λ (x : Took). x.page) (only h g))

-- answer, page and beats of a call that leaves all three
left_only : {d : Left} {a b : Ran} {p q x y : List ℕ} → left a p x ≡ d → left b q y ≡ d → (a ≡ b) × (p ≡ q) × (x ≡ y)
left_only h g =
    (ap (λ (l : Left). l.ran) (only h g), ap (λ (l : Left). l.page) (only h g), ap (λ (l : Left). l.beats) (only h g))

-- many records from a state: answer and next state, page and beats
pub records_only : (u : Setup) (s : State) (bytes page beats : List ℕ) (a b : Judged) (p q x y : List ℕ)
    → (left a.ran p x ≡ records_call u s bytes page beats) × (a.next.0 ≡ records_next u s bytes (length page))
    → (left b.ran q y ≡ records_call u s bytes page beats) × (b.next.0 ≡ records_next u s bytes (length page))
    → (a ≡ b) × (p ≡ q) × (x ≡ y)
records_only u s bytes page beats a b p q x y h g =
    let l = left_only h.0 g.0 in
    let n = only h.1 g.1 in
    ((λ i. record { ran = l.0 i; next = record { 0 = n i } }), l.1, l.2)

-- the whole-trace judge
pub judge_only : (u : Setup) (trace page beats : List ℕ) (a b : Ran) (p q x y : List ℕ)
    → left a p x ≡ whole_call u trace page beats → left b q y ≡ whole_call u trace page beats → (a ≡ b) × (p ≡ q) × (x ≡ y)
judge_only u trace page beats a b p q x y h g = left_only h g

-- the judge for C, with beats
pub judge_beats_only : (t : SpeedTable) (trace page beats : List ℕ) (a b : ℕ) (p q x y : List ℕ)
    → answered a p x ≡ judge_beats t trace page beats → answered b q y ≡ judge_beats t trace page beats → (a ≡ b) × (p ≡ q) × (x ≡ y)
judge_beats_only t trace page beats a b p q x y h g =
    (ap (λ (l : Answered). l.word) (only h g), ap (λ (l : Answered). l.page) (only h g), ap (λ (l : Answered). l.beats) (only h g))

-- and without
pub judge_alone_only : (t : SpeedTable) (trace page : List ℕ) (a b : ℕ) (p q : List ℕ)
    → alone a p ≡ judge_alone t trace page → alone b q ≡ judge_alone t trace page → (a ≡ b) × (p ≡ q)
judge_alone_only t trace page a b p q h g = (ap (λ (l : Alone). l.word) (only h g), ap (λ (l : Alone). l.page) (only h g))

-- the calls of the live monitor: the start's answer and words; asking's is one equation; taking's answer, words, page and beat
pub start_only : (words : List ℕ) (period grade bank row : ℕ) (a b : ℕ) (v w : List ℕ)
    → started a v ≡ start_call words period grade bank row → started b w ≡ start_call words period grade bank row → (a ≡ b) × (v ≡ w)
start_only words period grade bank row a b v w h g = (ap (λ (x : Started). x.number) (only h g), ap (λ (x : Started). x.words) (only h g))

pub take_words_only : (u : Setup) (words bytes page beat : List ℕ) (a b : ℕ) (v w p q x y : List ℕ)
    → monitored a v p x ≡ take_words u words bytes page beat → monitored b w q y ≡ take_words u words bytes page beat
    → (a ≡ b) × (v ≡ w) × (p ≡ q) × (x ≡ y)
take_words_only u words bytes page beat a b v w p q x y h g =
    let e = only h g in
    (ap (λ (m : Monitored). m.word) e, ap (λ (m : Monitored). m.words) e, ap (λ (m : Monitored). m.page) e, ap (λ (m : Monitored). m.beat) e)
