-- What is stored of the lanes so far: the rest of them, stored from here, gives what all give.
use Rattle.std.proofs.Common.{◌≡◌, ◌-◌, length}
use Rattle.page.specs.Store.{put_lanes}
use Rattle.page.proofs.put_cells.Given as goal

abbrev pub invariant-loop-at : goal.invariant-loop-at
invariant-loop-at l =
    (put_lanes l.lanes l.first l.initial.low l.initial.rest l.initial.page ≡ put_lanes (l.at-end - l.at) l.at l.low l.rest l.page)
    × (length l.page ≡ length l.initial.page)
