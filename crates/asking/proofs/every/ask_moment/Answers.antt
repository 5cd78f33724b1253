-- `asking::every::ask_moment` meets its contract: the four tests in the order of the rules.
use borrow.Author.Tests.{eq-eqb, ne_eqb, lt-leb, le-leb}
use Rattle.asking.specs.Moment.{moment_rules}
use Rattle.rules.specs.Rules.{every_rules}
use Rattle.asking.proofs.every.ask_moment.Goals as goal

pub returns-then-r-ne0 : goal.returns-then-r-ne0
unfolding every_rules moment_rules
returns-then-r-ne0 c = rw (ne_eqb _ _ c.if-r-ne0.true)

pub returns-then-n-gt-CLOCK_MAX : goal.returns-then-n-gt-CLOCK_MAX
unfolding every_rules moment_rules
returns-then-n-gt-CLOCK_MAX c = rw (eq-eqb _ _ c.if-r-ne0.false, lt-leb _ _ c.if-n-gt-CLOCK_MAX.true)

pub returns-then-r-ne1 : goal.returns-then-r-ne1
unfolding every_rules moment_rules
returns-then-r-ne1 c = rw (eq-eqb _ _ c.if-r-ne0.false, le-leb _ _ c.if-n-gt-CLOCK_MAX.false, ne_eqb _ _ c.if-r-ne1.true)

pub returns : goal.returns
unfolding every_rules moment_rules
returns c = rw (eq-eqb _ _ c.if-r-ne0.false, le-leb _ _ c.if-n-gt-CLOCK_MAX.false, eq-eqb _ _ c.if-r-ne1.false, ← c.counted.ensures, ← c.within.ensures, c.if-not-within.false)

pub returns-then-not-within : goal.returns-then-not-within
unfolding every_rules moment_rules
returns-then-not-within c = rw (eq-eqb _ _ c.if-r-ne0.false, le-leb _ _ c.if-n-gt-CLOCK_MAX.false, eq-eqb _ _ c.if-r-ne1.false, ← c.counted.ensures, ← c.within.ensures, c.if-not-within.true)
