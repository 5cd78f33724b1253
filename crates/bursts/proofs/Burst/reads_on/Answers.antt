-- `bursts::Burst::reads_on` meets its contract: no burst, a clock before CL, a fetch out of time, and one in time.
use borrow.Author.Tests.{not-true}
use Rattle.bursts.proofs.HasBeat.{reads_none, reads_none_out_of_time, reads_in_time}
use Rattle.bursts.proofs.Burst.reads_on.Goals as goal

pub returns-then-not-self : goal.returns-then-not-self
returns-then-not-self c = let a = c.args in reads_none a.self a.n (not-true _ c.if-not-self.true)

pub returns-then-not-in_time : goal.returns-then-not-in_time
returns-then-not-in_time c = let a = c.args in reads_none_out_of_time a.self a.n (rw (← c.latency-cl.ensures, ← c.in_time.ensures) c.if-not-in_time.true)

pub returns : goal.returns
returns c = let a = c.args in rw (c.full_page-endless.ensures, c.length_of-length.ensures, c.latency-cl.ensures) (reads_in_time a.self a.n (rw (← c.latency-cl.ensures) c.if-n-cl.false) (rw (← c.latency-cl.ensures, ← c.in_time.ensures) c.if-not-in_time.false))
