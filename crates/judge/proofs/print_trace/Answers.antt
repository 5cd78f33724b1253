-- `judge::print_trace` meets its contract.
use Rattle.std.proofs.Common.{◌≡◌, rules, length}
use Rattle.judge.proofs.Answers.{printed_held}
use Rattle.judge.proofs.print_trace.Goals as goal

pub returns : goal.returns
returns c =
    let judged = c.judge_beats-answer in
    let words = judged.new.beats in
    let room : length c.args.out.now ≡ 450560 = search rules in
    let full : length words ≡ 8190 = search rules in
    printed_held c.args.trace.now _ _ _ _ _ words c.args.out.now _ _ c.read_header.ensures c.grade.ensures c.of_grade-table.ensures judged.ensures full room c.report.ensures
