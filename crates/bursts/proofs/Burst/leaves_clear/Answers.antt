-- `bursts::Burst::leaves_clear` meets its contract: a beat on either clock, none on both, and none looked for.
use Rattle.bursts.proofs.Running.{clear_unasked}
use Rattle.bursts.proofs.Burst.leaves_clear.Goals as goal

pub returns-else-self-lane : goal.returns-else-self-lane
returns-else-self-lane c = let a = c.args in clear_unasked a.self a.lane a.earlier a.n a.m c.if-self-lane.false
