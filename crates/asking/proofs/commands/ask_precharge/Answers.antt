use Rattle.asking.proofs.Ladders.{precharge_ladder}
use Rattle.asking.proofs.commands.ask_precharge.Goals as goal

pub returns : goal.returns
returns c = rw (precharge_ladder _ c.args.c _ _ _ _ c.requires.1, ← c.any_shorts-any.ensures, ← c.precharge_shorts-own.ensures, ← c.or.ensures, ← c.lowest.ensures)
