-- `device::Device::take` meets its contract: bytes that are no record, or what the engine leaves of one.
use mathlib.Core.Path.{sym, ◌∙◌}
use Rattle.rules.specs.Parts.{state_module}
use Rattle.rules.specs.OneRecord.{took}
use Rattle.device.proofs.OneRecord.{not_sixteen, take_wrong, takes}
use Rattle.device.proofs.Device.take.Goals as goal

pub returns-then-bytes-ne16 : goal.returns-then-bytes-ne16
returns-then-bytes-ne16 c =
    let a = c.args in
    sym (take_wrong a.setup a.self.0 a.bytes.now a.page.now (not_sixteen (state_module a.self.0) a.bytes.now c.if-bytes-ne16.true))

pub returns : goal.returns
returns c =
    let a = c.args in
    let w = c.judge-w.ensures in
    (λ i. took (w.2 i) (w.1 i) (w.0 i).page) ∙ takes a.setup a.self.0 a.bytes.now a.page.now c.if-bytes-ne16.false
