-- `judge::print_input` meets its contract where the input is longer than the longest trace.
use Rattle.std.proofs.Common.{◌≡◌, arith, rules, length}
use Rattle.lines.specs.Text.{too_long}
use Rattle.lines.proofs.Fits.{laid_holds}
use Rattle.judge.proofs.Lengths.{too_long_alone}
use Rattle.judge.proofs.print_input.Goals as goal

pub returns-then-input-gt-TRACE_MAX : goal.returns-then-input-gt-TRACE_MAX
returns-then-input-gt-TRACE_MAX c =
    let room : length c.args.out.now ≡ 450560 = search rules in
    rw (too_long_alone c.args.input.now c.if-input-gt-TRACE_MAX.true) (laid_holds too_long _ _ _ (omega arith) c.put_text.ensures)
