-- `asking::verdicts::bus_verdict` meets its contract.
use Rattle.asking.proofs.Ladders.{bus_ladder}
use Rattle.asking.proofs.verdicts.bus_verdict.Goals as goal

pub returns-then-asks_auto : goal.returns-then-asks_auto
returns-then-asks_auto c =
    rw (c.auto_verdict.ensures, bus_ladder c.args.k c.requires.3, ← c.bursts_finished.ensures, c.if-not-bursts_finished.false, ← c.clear_for.ensures, c.if-not-clear_for.false, ← c.asks_auto.ensures, c.if-asks_auto.true)
