-- The lines of the records that are left, laid from here, give what all give from the start.
use Rattle.std.proofs.Common.{◌≡◌, ◌≤◌, length, drop}
use Rattle.lines.specs.Place.{laid, lay}
use Rattle.lines.proofs.BeatLines.{record_lines}
use Rattle.lines.proofs.Text.beats.Given as goal

abbrev pub invariant-loop-k : goal.invariant-loop-k
invariant-loop-k l =
    (l.k ≤ length l.records)
    × (lay (record_lines 0 l.records) (laid l.initial.self.buf.now l.initial.self.at) ≡ lay (record_lines l.k (drop l.k l.records)) (laid l.self.buf.now l.self.at))
    × (l.self.buf.ghost_name ≡ l.initial.self.buf.ghost_name)
