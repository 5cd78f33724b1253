-- `bus::reads::reads_clear` meets its contract: the four one by one.
use mathlib.Core.Path.{◌≡◌}
use lib.ListN.{length}
use borrow.Author.Rules.{rules}
use Rattle.bursts.proofs.Running.{clear_four}
use Rattle.bus.proofs.reads.reads_clear.Goals as goal

pub returns : goal.returns
returns c =
    let a = c.args in
    let h : length a.bs ≡ 4 = search rules in
    rw (c.leaves_clear-d.ensures, c.leaves_clear-c.ensures, c.leaves_clear-b.ensures, c.leaves_clear-a.ensures)
    (clear_four a.bs h a.lane a.earlier a.n a.m)
