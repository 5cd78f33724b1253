-- The whole trace from its bytes, by looking back: 1 to 7, then record after record (02, K6). Definitions only.
use Rattle.std.specs.Prelude.{ℕ, List, []}
use Rattle.units.specs.Time.{time}
use Rattle.layout.specs.Bytes.{header_of}
use Rattle.rules.specs.declared.Setup.{Setup}
use Rattle.rules.specs.Run.{Run}
use Rattle.hawsehole.specs.Trace.{Judged, module_in, records, judged_by}
use Rattle.lookback.specs.Look.{look_run}

-- its records, from the first on
abbrev pub look_of : Setup → List ℕ → Run
look_of u trace = look_run u (module_in trace) (time (header_of trace).period) [] (records trace)

-- verdict, reported record, a line for each record taken, and the page left
unfoldable pub look_judge : Setup → List ℕ → List ℕ → Judged
look_judge u trace page = judged_by u trace page (look_of u trace)
