-- What is left, laid from here, gives what the whole gives from the start.
use Rattle.std.proofs.Common.{◌≡◌, ◌≤◌, length, drop}
use Rattle.lines.specs.Place.{laid, lay}
use Rattle.lines.proofs.Text.bytes.Given as goal

abbrev pub invariant-loop-byte : goal.invariant-loop-byte
invariant-loop-byte l =
    (l.byte-index ≤ length l.text)
    × (lay l.text (laid l.initial.self.buf.now l.initial.self.at) ≡ lay (drop l.byte-index l.text) (laid l.self.buf.now l.self.at))
    × (l.self.buf.ghost_name ≡ l.initial.self.buf.ghost_name)
