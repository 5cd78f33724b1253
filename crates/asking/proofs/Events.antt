-- What is short of each command's minima, as the code computes it. Assumes nothing.
use Prim.Native.Nat.{ℕ}
use mathlib.Core.Path.{◌≡◌, refl, sym}
use mathlib.Core.Bool.{Bool, true, false, ◌&&◌, ◌||◌, cond, or-false, true≢false}
use mathlib.Core.List.{List}
use lib.Dec.{eqb}
use lib.ListN.{length}
use Rattle.units.specs.declared.Ps.{Ps}
use Rattle.units.specs.Time.{at}
use Rattle.speed.specs.declared.SpeedTable.{SpeedTable}
use Rattle.layout.specs.declared.Record.{Record}
use Rattle.layout.specs.declared.Command.{Command}
use Rattle.layout.specs.declared.Command.TheVariants.{Inhibit, Nop, Active, Read, Write, Terminate, Precharge, Refresh, LoadMode}
use Rattle.layout.specs.Commands.{is, access, covers}
use Rattle.rules.specs.declared.StartUp.{StartUp}
use Rattle.rules.specs.declared.Bank.{Bank}
use Rattle.rules.specs.Numbers.{tRCD, tRP, tRRD}
use Rattle.rules.specs.StartUp.{last_refresh, last_load}
use Rattle.rules.specs.Banks.{bank_at}
use Rattle.rules.specs.Minima.{only, of_closing, of_any, of_other, of_active, of_access, of_precharged, of_covered, of_precharge, of_idle, events}
use Rattle.asking.specs.Shorts.{
  shorts,
  no_shorts,
  either,
  short_since,
  short_opened,
  short_stored,
  short_closed,
  short_other,
  short_others,
  short_closings,
}
use Rattle.asking.proofs.Lowest.{shorts_join, shorts_none, shorts_only, either_none, none_either, one_short, shorts_since, shorts_opened, shorts_stored, shorts_closed, shorts_each}

module _ (t : SpeedTable) (period now : Ps) where
  closing_shorts : (b : Bank) → shorts t period now (of_closing b) ≡ one_short t period tRP (λ m. short_closed b.status m now)
  unfolding of_closing
  closing_shorts b = shorts_closed t period now tRP b.status

  -- any executable command
  pub any_shorts : (u : StartUp)
      → shorts t period now (of_any period u)
      ≡ record {
        rcd = false;
        ras = false;
        rc = false;
        rp = short_since period u.allclosed t.trp now;
        rrd = false;
        rfc = short_since period (last_refresh u.refreshes) t.trfc now;
        wr = false;
        mrd = short_since period (last_load u.register) (at period t.tmrd) now;
      }
  unfolding of_any either
  any_shorts u = simp (shorts_join, shorts_since, or-false)

  other_shorts : (ba i : ℕ) (b : Bank) → shorts t period now (of_other period ba i b) ≡ one_short t period tRRD (λ m. short_other period ba i b m now)
  other_shorts ba i b = go (eqb i ba) refl
    where
      go : (x : Bool) → eqb i ba ≡ x → shorts t period now (of_other period ba i b) ≡ one_short t period tRRD (λ m. short_other period ba i b m now)
      go true e = rw e (shorts_none t period now)
      go false e = rw e (shorts_since t period now tRRD b.active)

  -- ACTIVE
  pub active_shorts : (ba : ℕ) (bs : List Bank) → length bs ≡ 4
      → shorts t period now (of_active period ba bs)
      ≡ record {
        rcd = false;
        ras = false;
        rc = short_since period (bank_at bs ba).active t.trc now;
        rp = short_closed (bank_at bs ba).status t.trp now;
        rrd = short_others period ba bs t.trrd now;
        rfc = false;
        wr = false;
        mrd = false;
      }
  unfolding of_active either short_others
  active_shorts ba bs h =
      rw (shorts_join, shorts_join, closing_shorts, shorts_since, shorts_each t period now (of_other period ba) bs h, other_shorts ba 0, other_shorts ba 1, other_shorts ba 2, other_shorts ba 3)
      (simp or-false)

  -- READ and WRITE
  pub access_shorts : (x : Bool) (b : Bank)
      → shorts t period now (only x (of_access period b))
      ≡ record {
        rcd = x && short_opened period b.status t.trcd now;
        ras = false;
        rc = false;
        rp = false;
        rrd = false;
        rfc = false;
        wr = false;
        mrd = false;
      }
  unfolding of_access
  access_shorts true b = shorts_opened t period now tRCD b.status
  access_shorts false b = shorts_none t period now

  -- PRECHARGE of one bank
  pub precharged_shorts : (b : Bank)
      → shorts t period now (of_precharged period b)
      ≡ record {
        rcd = false;
        ras = short_opened period b.status t.trasmin now;
        rc = false;
        rp = short_closed b.status t.trp now;
        rrd = false;
        rfc = false;
        wr = short_stored period b.status b.stored t.twr now;
        mrd = false;
      }
  unfolding of_precharged either
  precharged_shorts b = simp (shorts_join, shorts_opened, shorts_stored, closing_shorts, or-false)

  pub covered_shorts : (r : Record) (i : ℕ) (b : Bank)
      → shorts t period now (of_covered period r i b) ≡ cond (covers r.addr r.ba i) (shorts t period now (of_precharged period b)) no_shorts
  covered_shorts r i b = shorts_only t period now (covers r.addr r.ba i) (of_precharged period b)

  pub precharge_shorts : (r : Record) (bs : List Bank) → length bs ≡ 4
      → shorts t period now (of_precharge period r bs)
      ≡ either (shorts t period now (of_covered period r 0 (bank_at bs 0)))
      (either (shorts t period now (of_covered period r 1 (bank_at bs 1)))
      (either (shorts t period now (of_covered period r 2 (bank_at bs 2))) (shorts t period now (of_covered period r 3 (bank_at bs 3)))))
  unfolding of_precharge
  precharge_shorts r bs h = shorts_each t period now (of_covered period r) bs h

  -- AUTO REFRESH and LOAD MODE
  pub idle_shorts : (bs : List Bank) → length bs ≡ 4
      → shorts t period now (of_idle bs)
      ≡ record {
        rcd = false;
        ras = false;
        rc = false;
        rp = short_closings bs t.trp now;
        rrd = false;
        rfc = false;
        wr = false;
        mrd = false;
      }
  unfolding of_idle either short_closings
  idle_shorts bs h =
      rw (shorts_each t period now (λ i b. of_closing b) bs h, closing_shorts (bank_at bs 0), closing_shorts (bank_at bs 1), closing_shorts (bank_at bs 2), closing_shorts (bank_at bs 3))

  -- ── By command, after the first PRECHARGE ALL ──

  module _ (u : StartUp) (r : Record) (bs : List Bank) where
    pub events_active : shorts t period now (events Active period u r bs) ≡ either (shorts t period now (of_any period u)) (shorts t period now (of_active period r.ba bs))
    unfolding events
    events_active = simp (shorts_join, shorts_only, either_none, none_either)

    -- WRITE, READ and BURST TERMINATE
    pub events_burst : (k : Command) → (access k || is k Terminate) ≡ true
        → shorts t period now (events k period u r bs) ≡ either (shorts t period now (of_any period u)) (shorts t period now (only (access k) (of_access period (bank_at bs r.ba))))
    unfolding events
    events_burst Inhibit h = absurd (true≢false (sym h))
    events_burst Nop h = absurd (true≢false (sym h))
    events_burst Active h = absurd (true≢false (sym h))
    events_burst Read h = simp (shorts_join, shorts_only, either_none, none_either)
    events_burst Write h = simp (shorts_join, shorts_only, either_none, none_either)
    events_burst Terminate h = simp (shorts_join, shorts_only, either_none, none_either)
    events_burst Precharge h = absurd (true≢false (sym h))
    events_burst Refresh h = absurd (true≢false (sym h))
    events_burst LoadMode h = absurd (true≢false (sym h))

    pub events_precharge : shorts t period now (events Precharge period u r bs) ≡ either (shorts t period now (of_any period u)) (shorts t period now (of_precharge period r bs))
    unfolding events
    events_precharge = simp (shorts_join, shorts_only, either_none, none_either)

    pub events_refresh : shorts t period now (events Refresh period u r bs) ≡ either (shorts t period now (of_any period u)) (shorts t period now (of_idle bs))
    unfolding events
    events_refresh = simp (shorts_join, shorts_only, either_none, none_either)

    pub events_load : shorts t period now (events LoadMode period u r bs) ≡ either (shorts t period now (of_any period u)) (shorts t period now (of_idle bs))
    unfolding events
    events_load = simp (shorts_join, shorts_only, either_none, none_either)
