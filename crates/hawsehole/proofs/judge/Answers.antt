-- `hawsehole::judge` meets its contract.
use lib.ListN.{length}
use Prim.Native.Nat.{◌≤◌}
use Rattle.hawsehole.proofs.Calls.{past_header}
use native.Mathlib.Omega.{arith}
use borrow.Author.Tests.{leb-true}
use mathlib.Core.Path.{sym, ◌∙◌}
use Rattle.layout.proofs.ReadBack.{headed, short}
use Rattle.hawsehole.proofs.Calls.{call_refused, too_short, entry_read, call_records}
use Rattle.hawsehole.proofs.judge.Goals as goal

pub returns-in_default : goal.returns-in_default
returns-in_default c = rw c.unread.ensures (sym (call_refused c.args.u c.args.trace.now c.args.page.now c.args.beats.now _ (too_short c.args.u c.args.trace.now c.args.page.now (short _ (sym c.read_header.ensures ∙ c.in_default.is)))))

pub returns-in-Err : goal.returns-in-Err
returns-in-Err c = rw c.unread-in-Err.ensures (sym (call_refused c.args.u c.args.trace.now c.args.page.now c.args.beats.now _ (entry_read c.args.u c.args.trace.now c.args.page.now _ _ (headed _ _ (sym c.read_header.ensures ∙ c.in-Some.is)) (sym c.whole_verdict.ensures ∙ c.in-Err.is))))

pub slice_bounds-records-count : goal.slice_bounds-records-count
slice_bounds-records-count c = let w = headed _ _ (sym c.read_header.ensures ∙ c.in-Some.is) in let l : 16 ≤ length c.args.trace.now = leb-true _ _ w.long in omega arith

pub slice_bounds-records-start : goal.slice_bounds-records-start
slice_bounds-records-start c = let w = headed _ _ (sym c.read_header.ensures ∙ c.in-Some.is) in let l : 16 ≤ length c.args.trace.now = leb-true _ _ w.long in omega arith

pub returns-in-Ok : goal.returns-in-Ok
returns-in-Ok c = let w = headed _ _ (sym c.read_header.ensures ∙ c.in-Some.is) in c.records.ensures.0 ∙ rw (past_header, c.start-start.ensures, w.read) (call_records c.args.u c.args.trace.now c.args.page.now c.args.beats.now (entry_read c.args.u c.args.trace.now c.args.page.now _ _ w (sym c.whole_verdict.ensures ∙ c.in-Ok.is)))
