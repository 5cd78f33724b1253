-- What is left, laid from here, gives what the whole gives from the start.
use Rattle.std.proofs.Common.{◌≡◌, ◌≤◌, length, drop}
use Rattle.lines.specs.Text.{fields}
use Rattle.lines.specs.Place.{laid, lay}
use Rattle.lines.proofs.Text.fields.Given as goal

abbrev pub invariant-loop-n : goal.invariant-loop-n
invariant-loop-n l =
    (l.n-index ≤ length l.numbers)
    × (lay (fields l.numbers) (laid l.initial.self.buf.now l.initial.self.at) ≡ lay (fields (drop l.n-index l.numbers)) (laid l.self.buf.now l.self.at))
    × (l.self.buf.ghost_name ≡ l.initial.self.buf.ghost_name)
