-- `hawsehole::monitor::take` meets its contract: what asking refuses leaves all, and a record that is taken its words and its beat.
use Rattle.hawsehole.specs.Numbers.{with_table}
use mathlib.Core.Path.{ap, ◌∙◌}
use Rattle.rules.specs.declared.State.{State}
use Rattle.rules.specs.OneRecord.{take_call}
use Rattle.hawsehole.proofs.Monitored.{beat_put, take_in}
use Rattle.hawsehole.proofs.monitor.take.Goals as goal

pub returns : goal.returns
returns c = let a = c.args in
    take_in (with_table a.table) a.state.now a.bytes.now a.page.now a.beat.now c.ask_of-word.ensures c.if-word-ne0.false
    (c.take-took.ensures ∙ ap (λ (s : State). take_call (with_table a.table) s a.bytes.now a.page.now) c.state.ensures)
    c.put-3.ensures
    (beat_put (with_table a.table) a.state.now a.bytes.now a.page.now _ _ a.beat.now c.beat_word.ensures c.put.ensures c.last_clock.ensures c.put-2.ensures)
