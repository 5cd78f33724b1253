-- `hawsehole::monitor::start_verdict` meets its contract: the period, then the grade.
use Rattle.hawsehole.specs.Monitor.{grade_rules, start_rules}
use Rattle.hawsehole.proofs.Monitored.{large_unknown}
use Rattle.hawsehole.proofs.monitor.start_verdict.Goals as goal

pub returns-then-grade-ge256 : goal.returns-then-grade-ge256
unfolding start_rules grade_rules
returns-then-grade-ge256 c = rw (← c.period_fits.ensures, c.if-not-period_fits.false, large_unknown _ c.if-grade-ge256.true)
