-- Each case takes bytes.
use Rattle.std.proofs.Common.{length}
use Rattle.bench.proofs.all_cases.Given as goal

abbrev pub decreases-loop-case : goal.decreases-loop-case
decreases-loop-case g l = length l.rest
