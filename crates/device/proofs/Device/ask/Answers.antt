-- `device::Device::ask` meets its contract: bytes that are no record, or what the engine finds of one.
use mathlib.Core.Path.{ap, sym, ◌∙◌}
use Rattle.rules.specs.Parts.{state_module}
use Rattle.rules.specs.Report.{Left}
use Rattle.device.proofs.OneRecord.{not_sixteen, told, ask_wrong, asks}
use Rattle.device.proofs.Device.ask.Goals as goal

pub returns-then-bytes-ne16 : goal.returns-then-bytes-ne16
returns-then-bytes-ne16 c =
    let a = c.args in
    rw c.answer.ensures
    (sym (ask_wrong a.setup a.self.0 a.bytes.now a.page.now (not_sixteen (state_module a.self.0) a.bytes.now c.if-bytes-ne16.true)))

pub returns : goal.returns
returns c =
    let a = c.args in
    let w = c.judge-w.ensures.0 in
    rw c.answer-2.ensures
    (ap (λ (l : Left). told a.self.0 l.ran) w ∙ asks a.setup a.self.0 a.bytes.now a.page.now c.if-bytes-ne16.false _)
