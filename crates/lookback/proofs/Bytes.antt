-- THE JUDGE THAT LOOKS BACK IS THE JUDGE, from the bytes of a trace: 1 to 7 too, and every byte of the page. Assumes nothing.
use Prim.Native.Nat.{ℕ}
use mathlib.Core.Path.{◌≡◌, ap}
use mathlib.Core.List.{List}
use Rattle.units.specs.Time.{time}
use Rattle.layout.specs.Bytes.{header_of}
use Rattle.rules.specs.declared.Setup.{Setup}
use Rattle.hawsehole.specs.Trace.{records, run_of, judged_by, judge}
use Rattle.lookback.specs.Trace.{look_of, look_judge}
use Rattle.lookback.proofs.Slow.{slow_is_judge}

module _ (u : Setup) (trace page : List ℕ) where
  same_records : look_of u trace ≡ run_of u trace
  same_records =
      let h = header_of trace in
      slow_is_judge u (time h.period) h.grade h.bank h.row (records trace)

  pub slow_is_judge_of_bytes : look_judge u trace page ≡ judge u trace page
  unfolding look_judge judge
  slow_is_judge_of_bytes = ap (judged_by u trace page) same_records
