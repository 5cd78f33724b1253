-- The bursts that the state holds, as looking back finds them, each with the first command that cuts it. Definitions only.
use Rattle.units.specs.declared.Clock.{Clock}
use Rattle.std.specs.Prelude.{Option, None, Some}
use Prim.Native.Nat.{ℕ}
use mathlib.Core.Bool.{cond}
use mathlib.Core.List.{List, [], ◌∷◌, ◌++◌}
use lib.ListN.{take}
use Rattle.layout.specs.declared.Record.{Record}
use Rattle.bursts.specs.declared.Burst.{Burst}
use Rattle.bursts.specs.Burst.{no_burst, burst_at}
use Rattle.bursts.specs.Bus.{no_reads}
use Rattle.lookback.specs.Past.{clock_in}
use Rattle.lookback.specs.StartUp.{mode_in}
use Rattle.lookback.specs.Banks.{row_in}
use Rattle.lookback.specs.Bursts.{reads, writes, cuts_write}

-- the first cut of each bank's bursts after a place: none yet, and from one record further back
abbrev pub uncut : ℕ → Option Clock
uncut i = None

abbrev pub cuts_from : Record → List Record → (ℕ → Option Clock) → ℕ → Option Clock
cuts_from r past c i = cond (cuts_write i r) (Some (clock_in past r)) (c i)

abbrev pub with_cut : Option Clock → Burst → Burst
with_cut e b =
    record {
      live = b.live;
      auto = b.auto;
      bank = b.bank;
      row = b.row;
      column = b.column;
      start = b.start;
      cut = e;
      word = b.word;
    }

-- the burst that record r registered, where the records after it cut as c says
abbrev pub registered : (ℕ → Option Clock) → Record → List Record → Burst
registered c r past =
    with_cut (c r.ba) (burst_at (mode_in past) (clock_in past r) r.addr r.column r.ba (row_in r.ba past))

-- the last WRITE
unfoldable pub write_back : (ℕ → Option Clock) → List Record → Burst
write_back c [] = no_burst
write_back c (r ∷ past) = cond (writes r) (registered c r past) (write_back (cuts_from r past c) past)

-- the READs back to the last WRITE, the latest first
unfoldable pub reads_back : (ℕ → Option Clock) → List Record → List Burst
reads_back c [] = []
reads_back c (r ∷ past) =
    cond (writes r) []
    (cond (reads r) (registered c r past ∷ reads_back (cuts_from r past c) past) (reads_back (cuts_from r past c) past))

-- the four places of the state: the latest four of them
abbrev pub held : List Record → List Burst
held past = take 4 (reads_back uncut past ++ no_reads)
