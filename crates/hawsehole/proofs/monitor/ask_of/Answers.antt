-- `hawsehole::monitor::ask_of` meets its contract: no record, no words of a state, and then by whether they hold one.
use Rattle.rules.specs.Numbers.{number_of}
use mathlib.Core.Path.{sym, ap, ◌∙◌}
use Rattle.rules.specs.declared.State.{State}
use Rattle.rules.specs.declared.Answer.{Answer}
use Rattle.rules.specs.OneRecord.{ask_call}
use Rattle.hawsehole.specs.Monitor.{word_for}
use Rattle.hawsehole.proofs.Monitored.{unheld_word, ask_short, ask_few, held_ask, unheld_ask}
use Rattle.hawsehole.proofs.monitor.ask_of.Goals as goal

pub returns-then-bytes-ne16 : goal.returns-then-bytes-ne16
returns-then-bytes-ne16 c =
    let a = c.args in ask_short a.u a.state.now a.bytes.now a.page.now c.if-bytes-ne16.true

pub returns-then-state-ne-WORDS : goal.returns-then-state-ne-WORDS
returns-then-state-ne-WORDS c =
    let a = c.args in ask_few a.u a.state.now a.bytes.now a.page.now c.if-bytes-ne16.false c.if-state-ne-WORDS.true

pub returns-then-holds : goal.returns-then-holds
returns-then-holds c =
    let a = c.args in
    c.word_of.ensures
    ∙ ap word_for (c.ask-a.ensures ∙ ap (λ (s : State). ask_call a.u s a.bytes.now a.page.now) c.state.ensures)
    ∙ held_ask a.u a.state.now a.bytes.now a.page.now c.if-bytes-ne16.false c.if-state-ne-WORDS.false (sym c.holds.ensures ∙ c.if-holds.true)

pub returns : goal.returns
returns c =
    let a = c.args in
    c.unheld.ensures
    ∙ ap (λ (x : Answer). unheld_word (number_of x.verdict)) (c.ask-a.ensures ∙ ap (λ (s : State). ask_call a.u s a.bytes.now a.page.now) c.state.ensures)
    ∙ unheld_ask a.u a.state.now a.bytes.now a.page.now c.if-bytes-ne16.false c.if-state-ne-WORDS.false (sym c.holds.ensures ∙ c.if-holds.false)
