-- `device::Device::record` meets its contract: it asks, then takes.
use Rattle.rules.specs.OneRecord.{both, step}
use Rattle.device.proofs.Device.record.Goals as goal

pub returns : goal.returns
unfolding step
returns c =
    λ i. both (c.ask-asked.ensures i) (c.take-took.ensures i)
