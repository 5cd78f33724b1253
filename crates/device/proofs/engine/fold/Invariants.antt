-- `device::engine::fold`: each turn of the loop is one record of the run, with the banks that the array holds.
use Rattle.std.proofs.Common.{◌≡◌, ◌*◌, ◌-◌, ◌≤◌, length, drop}
use Rattle.layout.specs.Bytes.{records_of}
use Rattle.rules.specs.declared.Setup.{Setup}
use Rattle.speed.specs.declared.SpeedTable.{SpeedTable}
use Rattle.rules.specs.Parts.{core_module}
use Rattle.rules.specs.Calls.{Able}
use Rattle.packed.specs.Packed.{banks_in, Packed}
use Rattle.device.specs.InPlace.{words_ahead, state_of}
use Rattle.device.specs.Engine.{went_by}
use Rattle.device.proofs.engine.fold.Given as goal

abbrev pub setup_of : SpeedTable → Setup
setup_of t = record { table = t }

abbrev pub invariant-loop-j : goal.invariant-loop-j
invariant-loop-j l =
    (l.j ≤ l.count)
    × (length l.page ≡ length l.initial.page)
    × (length l.beats ≡ length l.initial.beats)
    × Packed l.held
    × Able (setup_of l.t) (state_of l.core l.number l.last l.startup l.bus (banks_in l.held)) (l.count - l.j)
    × (went_by (setup_of l.t) (state_of l.core l.initial.number l.initial.last l.initial.startup l.initial.bus (banks_in l.initial.held)) (records_of (core_module l.core) l.count l.bytes) l.initial.own l.initial.page l.initial.beats
    ≡ went_by (setup_of l.t) (state_of l.core l.number l.last l.startup l.bus (banks_in l.held)) (records_of (core_module l.core) (l.count - l.j) (drop (16 * l.j) l.bytes)) l.own l.page l.beats)
    × (l.words ≡ words_ahead (drop (16 * l.j) l.bytes))
