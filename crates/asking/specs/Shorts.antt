-- Number 16 as eight tests: which minima are not met, and the lowest of them. Definitions only.
use Rattle.std.specs.Prelude.{ℕ, ◌^◌, ◌≤◌, Bool, false, not, ◌&&◌, ◌||◌, cond, List, ltb, eqb, Option, None, Some, Ok, Err}
use Rattle.units.specs.declared.Clock.{Clock}
use Rattle.units.specs.declared.Ps.{Ps}
use Rattle.units.specs.Time.{at, by, plus}
use Rattle.speed.specs.declared.SpeedTable.{SpeedTable}
use Rattle.asking.specs.declared.Shorts.{Shorts}
use Rattle.rules.specs.declared.Refusal.TheVariants.{TooSoon}
use Rattle.rules.specs.declared.Interval.TheVariants.{Mrd, Ras, Rc, Rcd, Rfc, Rp, Rrd, Wr}
use Rattle.rules.specs.declared.Status.{Status}
use Rattle.rules.specs.declared.Status.TheVariants.{NotStarted, Open, Closed}
use Rattle.rules.specs.declared.Bank.{Bank}
use Rattle.rules.specs.Numbers.{tRCD, tRAS, tRC, tRP, tRRD, tRFC, tWR, tMRD, Verdict}
use Rattle.rules.specs.Banks.{bank_at}
use Rattle.rules.specs.Minima.{Since, met}

-- a minimum whose sum with a time in reach fits 64 bits
abbrev pub FitSpan : Ps → Type 0
FitSpan m = m.0 ≤ 2 ^ 62

-- which of the eight are not met at time now, of these events
unfoldable pub shorts : SpeedTable → Ps → Ps → List Since → Shorts
shorts t period now l =
    record {
      rcd = not (met tRCD t.trcd now l);
      ras = not (met tRAS t.trasmin now l);
      rc = not (met tRC t.trc now l);
      rp = not (met tRP t.trp now l);
      rrd = not (met tRRD t.trrd now l);
      rfc = not (met tRFC t.trfc now l);
      wr = not (met tWR t.twr now l);
      mrd = not (met tMRD (at period t.tmrd) now l);
    }

-- all are met
abbrev pub no_shorts : Shorts
no_shorts =
    record { rcd = false; ras = false; rc = false; rp = false; rrd = false; rfc = false; wr = false; mrd = false }

-- those of either
unfoldable pub either : Shorts → Shorts → Shorts
either a b =
    record {
      rcd = a.rcd || b.rcd;
      ras = a.ras || b.ras;
      rc = a.rc || b.rc;
      rp = a.rp || b.rp;
      rrd = a.rrd || b.rrd;
      rfc = a.rfc || b.rfc;
      wr = a.wr || b.wr;
      mrd = a.mrd || b.mrd;
    }

-- "the lowest such is named"
unfoldable pub lowest : Shorts → Verdict
lowest s =
    cond s.rcd (Err (TooSoon Rcd))
    (cond s.ras (Err (TooSoon Ras))
    (cond s.rc (Err (TooSoon Rc))
    (cond s.rp (Err (TooSoon Rp))
    (cond s.rrd (Err (TooSoon Rrd))
    (cond s.rfc (Err (TooSoon Rfc)) (cond s.wr (Err (TooSoon Wr)) (cond s.mrd (Err (TooSoon Mrd)) (Ok tt))))))))

-- a minimum since a clock, an event, the ACTIVE of an open bank, its last store, a closing is not met
unfoldable pub short_on : Ps → Clock → Ps → Ps → Bool
short_on period n m now = not (by (plus (at period n) m) now)

unfoldable pub short_since : Ps → Option Clock → Ps → Ps → Bool
short_since period None m now = false
short_since period (Some n) m now = short_on period n m now

-- since an event, where that is after clock n
unfoldable pub short_after : Ps → Clock → Option Clock → Ps → Ps → Bool
short_after period n None m now = false
short_after period n (Some x) m now = ltb n.0 x.0 && short_on period x m now

unfoldable pub short_opened : Ps → Status → Ps → Ps → Bool
short_opened period NotStarted m now = false
short_opened period (Open row n) m now = short_on period n m now
short_opened period (Closed t) m now = false

unfoldable pub short_stored : Ps → Status → Option Clock → Ps → Ps → Bool
short_stored period NotStarted e m now = false
short_stored period (Open row n) e m now = short_after period n e m now
short_stored period (Closed t) e m now = false

unfoldable pub short_closed : Status → Ps → Ps → Bool
short_closed NotStarted m now = false
short_closed (Open row n) m now = false
short_closed (Closed t) m now = not (by (plus t m) now)

-- "tRRD since the last ACTIVE of another bank": of bank i, and of any of the four
abbrev pub short_other : Ps → ℕ → ℕ → Bank → Ps → Ps → Bool
short_other period ba i b m now = not (eqb i ba) && short_since period b.active m now

unfoldable pub short_others : Ps → ℕ → List Bank → Ps → Ps → Bool
short_others period ba bs m now =
    short_other period ba 0 (bank_at bs 0) m now
    || (short_other period ba 1 (bank_at bs 1) m now
    || (short_other period ba 2 (bank_at bs 2) m now || short_other period ba 3 (bank_at bs 3) m now))

-- "tRP since each closing"
unfoldable pub short_closings : List Bank → Ps → Ps → Bool
short_closings bs m now =
    short_closed (bank_at bs 0).status m now
    || (short_closed (bank_at bs 1).status m now
    || (short_closed (bank_at bs 2).status m now || short_closed (bank_at bs 3).status m now))
