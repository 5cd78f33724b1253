-- `hawsehole::monitor::start` meets its contract: refused with nothing written, or the words of the start.
use native.Mathlib.Omega.{arith}
use mathlib.Core.Path.{sym, ◌∙◌}
use Rattle.hawsehole.proofs.Monitored.{start_fits}
use Rattle.hawsehole.proofs.monitor.start.Goals as goal

pub overflow_cast-grade : goal.overflow_cast-grade
overflow_cast-grade c = let f = start_fits _ _ _ _ _ (sym c.start_verdict.ensures ∙ c.in-Ok.is) in omega (arith, f.grade_fits)

pub overflow_cast-bank : goal.overflow_cast-bank
overflow_cast-bank c = let f = start_fits _ _ _ _ _ (sym c.start_verdict.ensures ∙ c.in-Ok.is) in omega (arith, f.bank_fits)

pub overflow_cast-row : goal.overflow_cast-row
overflow_cast-row c = let f = start_fits _ _ _ _ _ (sym c.start_verdict.ensures ∙ c.in-Ok.is) in omega (arith, f.row_fits)
