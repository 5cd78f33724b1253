-- "The rules are read on the state's own parts, so a state that no trace reaches has one fixed answer too": rows from such states. From
-- document 01's sentences and docs/DECISIONS.md, 13. Assumes nothing.
use Rattle.units.specs.declared.Clock.{Clock}
use Rattle.std.specs.Prelude.{ℕ, zero, suc, ◌+◌, ◌^◌, ◌≡◌, refl, Bool, true, false, cond, List, [], ◌∷◌, ◌++◌, leb, eqb, set, replicate, Option, None, Some}
use Rattle.units.specs.Time.{clock, time}
use Rattle.speed.specs.declared.SpeedTable.{SpeedTable}
use Rattle.speed.specs.Table.{table, grade_133}
use Rattle.units.specs.Module.{module_of}
use Rattle.layout.specs.declared.Record.{Record}
use Rattle.layout.specs.declared.Command.TheVariants.{Inhibit, Nop, Terminate, Precharge, Refresh, LoadMode}
use Rattle.mode.specs.Word.{length_of}
use Rattle.mode.specs.Order.{beat_column}
use Rattle.bursts.specs.declared.Burst.{Burst}
use Rattle.bursts.specs.declared.Bus.{Bus}
use Rattle.bursts.specs.declared.Masks.{Masks}
use Rattle.bursts.specs.Burst.{no_burst, has_beat, write_beat, read_beat, finished}
use Rattle.bursts.specs.Bus.{
  no_reads,
  quiet_bus,
  masks_on,
  masks_after,
  reads_from,
  bus_after,
  beat_on,
  bursts_finished,
  driven,
  bus_clear,
}
use Rattle.bursts.specs.Cases.{Row, found, expected}
use Rattle.rules.specs.declared.Refreshes.{Refreshes}
use Rattle.rules.specs.declared.Refreshes.TheVariants.{Zero, One, Two}
use Rattle.rules.specs.declared.Register.{Register}
use Rattle.rules.specs.declared.StartUp.{StartUp}
use Rattle.rules.specs.declared.Status.TheVariants.{NotStarted, Open, Closed}
use Rattle.rules.specs.declared.Bank.{Bank}
use Rattle.rules.specs.declared.State.{State}
use Rattle.rules.specs.Numbers.{tRCD, tRAS, tRC, tRP, tRRD, tRFC, tWR, tMRD}
use Rattle.rules.specs.Parts.{no_bank, loaded}
use Rattle.rules.specs.StartUp.{allowed}
use Rattle.rules.specs.Banks.{banks_found}
use Rattle.rules.specs.Minima.{of_closing, of_any, of_active, of_access, of_precharged, of_precharge, of_idle, events, minima}
use Rattle.rules.specs.Rules.{every_rules, place_rules, minimum_rules, mode_rules, bus_rules, command_rules, rules, ask}
use Rattle.rules.specs.After.{
  startup_after,
  beat,
  core_from,
  core_after,
  bank_after,
  commanded,
  mark_banks,
  banks_after,
  next,
}
use Rattle.rules.specs.Run.{run}
use Rattle.facts.specs.Cases.{
  rec,
  with_a10,
  all_banks,
  precharge,
  refresh,
  load,
  active,
  read,
  write,
  nop,
  terminate,
  Reported,
  W,
  R,
  Outcome,
  runs_from,
}
use Rattle.facts.specs.StateCases.{not_begun, over, state, bank, in_place, bank_in}

-- ── States on clock 1,000, of period 7,500, which watch row 7 of bank 1 ──

abbrev masks : ℕ → ℕ → ℕ → Masks
masks a b c = record { first = a; second = b; third = c }

abbrev bus : Burst → List Burst → Bus
bus write reads = record { write = write; reads = reads; masks = masks 0 0 0 }

-- the next record is number 5; start-up, bus and banks like this
abbrev at_1000 : StartUp → Bus → List Bank → State
at_1000 u b banks = state 7500 1 7 5 (Some (clock 1_000)) u b banks

abbrev begun_at : Option Clock → Refreshes → Option Register → StartUp
begun_at allclosed refreshes register = record { allclosed = allclosed; refreshes = refreshes; register = register }

-- in mode 0031, and the other one in this mode
abbrev up_in : ℕ → StartUp
up_in word = begun_at (Some (clock 0)) (Two (clock 900)) (loaded word (clock 950))

-- long open, and long closed
abbrev long_open : Bank
long_open = bank (Open 7 (clock 900)) (Some (clock 900)) None

abbrev long_closed : Bank
long_closed = bank (Closed (time 0)) None None

-- banks 1 and 2 open, the others closed
abbrev two_open : List Bank
two_open = long_closed ∷ long_open ∷ long_open ∷ long_closed ∷ []

-- a live burst of bank 1, row 7
abbrev burst : ℕ → ℕ → Option Clock → ℕ → Burst
burst column start cut word =
    record { live = true; auto = false; bank = 1; row = 7; column = column; start = clock start; cut = cut; word = word }

-- a WRITE burst in the state, or a READ in one of the four places
abbrev with_write : Burst → State
with_write b = at_1000 over (bus b no_reads) two_open

abbrev with_reads : List Burst → State
with_reads bs = at_1000 over (bus no_burst bs) two_open

-- a row with the table of -133
abbrev from : State → List Record → ℕ → ℕ → ℕ → List Reported → Row Outcome
from s rs number interval reported beats = runs_from grade_133 s rs number interval reported beats

-- so many records taken from number 5 on
abbrev clean : State → List Record → ℕ → List Reported → Row Outcome
clean s rs count beats = from s rs 0 0 (5 + count) beats

-- PRECHARGE with masks LOW: of bank b, and of all
abbrev close : ℕ → Record
close b = rec 0 Precharge b 0 0

abbrev close_all : Record
close_all = rec 0 Precharge 0 (with_a10 0) 0

-- ── Cuts: "at x with w < x <= w + i" ──

-- after command x on 1,001, the beats on 1,005 and 1,006 of a WRITE of length 4 that starts on 1,005; `own` are those of x
abbrev ahead : Record → List Reported → Row Outcome
ahead x own =
    clean (with_write (burst 0 1_005 None 0x32)) (x ∷ nop 3 0 ∷ nop 0 0 ∷ []) 3
    (own ++ (W 6 1_005 1 7 0 255 ∷ W 7 1_006 1 7 1 255 ∷ []))

-- of one that starts on x's own clock
abbrev beside : Record → Row Outcome
beside x =
    clean (with_write (burst 0 1_001 None 0x32)) (x ∷ nop 0 0 ∷ []) 2 (W 5 1_001 1 7 0 255 ∷ W 6 1_002 1 7 1 255 ∷ [])

-- of one that started on 1,000
abbrev behind : Record → Row Outcome
behind x = clean (with_write (burst 0 1_000 None 0x32)) (x ∷ nop 0 0 ∷ []) 2 []

-- the beats on 1,008 and 1,009 of a READ of length 4 with CL 3 that starts on 1,005, in place k
abbrev read_ahead : ℕ → Record → List Reported → Row Outcome
read_ahead k x own =
    clean (with_reads (in_place k (burst 0 1_005 None 0x32))) (x ∷ nop 4 0 ∷ nop 0 0 ∷ nop 0 0 ∷ nop 0 0 ∷ []) 5
    (own ++ (R 8 1_008 1 7 0 255 ∷ R 9 1_009 1 7 1 255 ∷ []))

-- of one that starts on x's own clock: on 1,004 and 1,005
abbrev read_beside : ℕ → Record → List Reported → Row Outcome
read_beside k x own =
    clean (with_reads (in_place k (burst 0 1_001 None 0x32))) (x ∷ nop 0 0 ∷ nop 0 0 ∷ nop 0 0 ∷ nop 0 0 ∷ []) 5
    (own ++ (R 8 1_004 1 7 0 255 ∷ R 9 1_005 1 7 1 255 ∷ []))

-- of one that started on 1,000: its first beat is on 1,003, and no other is left
abbrev read_behind : ℕ → Record → Row Outcome
read_behind k x =
    clean (with_reads (in_place k (burst 0 1_000 None 0x32))) (x ∷ nop 0 0 ∷ nop 0 0 ∷ nop 0 0 ∷ []) 4 (R 7 1_003 1 7 0 255 ∷ [])

-- in each of the four places
abbrev in_places : (ℕ → List (Row Outcome)) → List (Row Outcome)
in_places f = f 0 ++ f 1 ++ f 2 ++ f 3

abbrev cut_reads : ℕ → List (Row Outcome)
cut_reads k =
    read_ahead k (terminate 0) []
    ∷ read_ahead k (close 1) []
    ∷ read_ahead k close_all []
    -- a READ of bank 2 in mode 0031, with its own beats on the skipped clocks 1,004 and 1,005
    ∷ read_ahead k (read 0 2 0) []
    -- "A WRITE .. with r < x"
    ∷ read_ahead k (write 0 2 0) (W 5 1_001 2 7 0 255 ∷ [])
    ∷ read_beside k (terminate 0) []
    ∷ read_beside k (close 1) []
    ∷ read_beside k (write 0 2 0) (W 5 1_001 2 7 0 255 ∷ W 6 1_002 2 7 1 255 ∷ [])
    ∷ read_behind k (terminate 0)
    ∷ read_behind k (close 1)
    ∷ read_behind k close_all
    -- a WRITE loses what is still to come
    ∷ clean (with_reads (in_place k (burst 0 1_000 None 0x32))) (write 0 2 0 ∷ nop 0 0 ∷ nop 0 0 ∷ nop 0 0 ∷ []) 4
    (W 5 1_001 2 7 0 255 ∷ W 6 1_002 2 7 1 255 ∷ [])
    -- another bank's PRECHARGE leaves it
    ∷ clean (with_reads (in_place k (burst 0 1_000 None 0x32))) (close 2 ∷ nop 0 0 ∷ nop 0 0 ∷ nop 0 0 ∷ []) 4
    (R 7 1_003 1 7 0 255 ∷ R 8 1_004 1 7 1 255 ∷ [])
    ∷ []

abbrev cuts : List (Row Outcome)
cuts =
    -- a WRITE of length 4 ahead, on its clock, or before it
    ahead (terminate 0) []
    ∷ ahead (close 1) []
    ∷ ahead close_all []
    ∷ ahead (read 0 2 0) []
    ∷ beside (terminate 0)
    ∷ beside (close 1)
    ∷ beside close_all
    ∷ beside (read 0 2 0)
    ∷ behind (terminate 0)
    ∷ behind (close 1)
    ∷ behind close_all
    ∷ behind (read 0 2 0)
    -- "(The state has one place for a WRITE burst: a new WRITE takes it.)" In mode 0031 it has beats on 1,001 and 1,002
    ∷ clean (with_write (burst 0 1_005 None 0x32)) (write 0 2 8 ∷ nop 0 0 ∷ nop 2 0 ∷ []) 3
    (W 5 1_001 2 7 8 255 ∷ W 6 1_002 2 7 9 255 ∷ [])
    -- a held cut on the start or before it loses nothing; one after it does
    ∷ clean (with_write (burst 0 1_001 (Some (clock 1_001)) 0x32)) (nop 0 0 ∷ nop 0 0 ∷ []) 2
    (W 5 1_001 1 7 0 255 ∷ W 6 1_002 1 7 1 255 ∷ [])
    ∷ clean (with_write (burst 0 1_001 (Some (clock 1_000)) 0x32)) (nop 0 0 ∷ nop 0 0 ∷ []) 2
    (W 5 1_001 1 7 0 255 ∷ W 6 1_002 1 7 1 255 ∷ [])
    ∷ clean (with_write (burst 0 1_001 (Some (clock 1_002)) 0x32)) (nop 0 0 ∷ nop 0 0 ∷ []) 2 (W 5 1_001 1 7 0 255 ∷ [])
    -- and a command after the start cuts it all the same
    ∷ clean (with_write (burst 0 1_001 (Some (clock 1_000)) 0x32)) (nop 0 0 ∷ terminate 0 ∷ nop 0 0 ∷ []) 3
    (W 5 1_001 1 7 0 255 ∷ [])
    -- "of two cuts after the start the earlier counts": READs of full page since 990, cut on 1,000 and on 1,003
    ∷ clean (with_reads (in_place 0 (burst 0 990 (Some (clock 1_000)) 0x37))) (terminate 0 ∷ nop 0 0 ∷ nop 0 0 ∷ []) 3
    (R 5 1_001 1 7 8 255 ∷ R 6 1_002 1 7 9 255 ∷ [])
    ∷ clean (with_reads (in_place 0 (burst 0 990 (Some (clock 1_003)) 0x37))) (terminate 0 ∷ nop 0 0 ∷ nop 0 0 ∷ nop 0 0 ∷ []) 4
    (R 5 1_001 1 7 8 255 ∷ R 6 1_002 1 7 9 255 ∷ R 7 1_003 1 7 10 255 ∷ [])
    ∷ []

-- ── Room for a READ ──

-- a READ of length 8 since 998, in place k, and one on 1,001 from column 8 in mode 0031: its beats up to 1,003 still come
abbrev survives : ℕ → List (Row Outcome)
survives k =
    clean (with_reads (in_place k (burst 0 998 None 0x33))) (read 0 1 8 ∷ nop 0 0 ∷ nop 0 0 ∷ nop 0 0 ∷ []) 4
    (R 5 1_001 1 7 0 255 ∷ R 6 1_002 1 7 1 255 ∷ R 7 1_003 1 7 2 255 ∷ R 8 1_004 1 7 8 255 ∷ [])
    -- a WRITE on 1,003 finds it driven
    ∷ from (with_reads (in_place k (burst 0 998 None 0x33))) (read 0 1 8 ∷ nop 0 0 ∷ write 0 1 0 ∷ []) 20 0 7
    (R 5 1_001 1 7 0 255 ∷ R 6 1_002 1 7 1 255 ∷ [])
    -- the other three are over, or not live
    ∷ clean (with_reads (set (replicate 4 (burst 0 990 None 0x30)) k (burst 0 998 None 0x33)))
    (read 0 1 8 ∷ nop 0 0 ∷ nop 0 0 ∷ []) 3
    (R 5 1_001 1 7 0 255 ∷ R 6 1_002 1 7 1 255 ∷ R 7 1_003 1 7 2 255 ∷ [])
    ∷ []

-- four READs with beats to come: only the first one, of 996, has one on 1,003, and it makes room; the others were cut before
abbrev r996 : Burst
r996 = burst 16 996 None 0x33

abbrev r997 : Burst
r997 = burst 24 997 (Some (clock 999)) 0x33

abbrev r998 : Burst
r998 = burst 32 998 (Some (clock 999)) 0x33

abbrev r999 : Burst
r999 = burst 40 999 (Some (clock 1_000)) 0x33

abbrev crowded : List Burst → Row Outcome
crowded bs =
    clean (with_reads bs) (read 0 1 8 ∷ nop 0 0 ∷ nop 0 0 ∷ nop 0 0 ∷ []) 4
    (R 5 1_001 1 7 32 255 ∷ R 6 1_002 1 7 40 255 ∷ R 8 1_004 1 7 8 255 ∷ [])

abbrev rooms : List (Row Outcome)
rooms =
    crowded (r996 ∷ r997 ∷ r998 ∷ r999 ∷ [])
    ∷ crowded (r999 ∷ r996 ∷ r997 ∷ r998 ∷ [])
    ∷ crowded (r998 ∷ r999 ∷ r996 ∷ r997 ∷ [])
    ∷ crowded (r999 ∷ r998 ∷ r997 ∷ r996 ∷ [])
    -- without a READ it is there: on 1,003 its beat, fetched on 1,000
    ∷ clean (with_reads (r996 ∷ r997 ∷ r998 ∷ r999 ∷ [])) (nop 0 0 ∷ nop 0 0 ∷ nop 0 0 ∷ []) 3
    (R 5 1_001 1 7 32 255 ∷ R 6 1_002 1 7 40 255 ∷ R 7 1_003 1 7 20 255 ∷ [])
    -- "Two READs with a beat on one clock: the latest registered one's"; "of two registered on one clock the first"
    ∷ clean (with_reads (burst 0 996 None 0x33 ∷ burst 8 998 None 0x33 ∷ no_burst ∷ no_burst ∷ [])) (nop 0 0 ∷ []) 1
    (R 5 1_001 1 7 8 255 ∷ [])
    ∷ clean (with_reads (no_burst ∷ burst 8 998 None 0x33 ∷ no_burst ∷ burst 0 996 None 0x33 ∷ [])) (nop 0 0 ∷ []) 1
    (R 5 1_001 1 7 8 255 ∷ [])
    ∷ clean (with_reads (no_burst ∷ burst 8 998 None 0x33 ∷ burst 0 998 None 0x33 ∷ no_burst ∷ [])) (nop 0 0 ∷ []) 1
    (R 5 1_001 1 7 8 255 ∷ [])
    -- the WRITE's beat before a READ's
    ∷ clean (at_1000 over (bus (burst 16 1_001 None 0x30) (in_place 2 (burst 0 998 None 0x33))) two_open)
    (nop 0 0 ∷ nop 0 0 ∷ []) 2
    (W 5 1_001 1 7 16 255 ∷ R 6 1_002 1 7 1 255 ∷ [])
    ∷ []

-- ── Minima: which each command asks, and the lowest of those that are not met ──

-- m ps for the intervals that f picks, and three clocks for tMRD; 0 for the others
abbrev picked : (ℕ → Bool) → ℕ → ℕ → ℕ
picked f m k = cond (f k) m 0

abbrev minima_of : (ℕ → Bool) → ℕ → SpeedTable
minima_of f m =
    table 0 0 (picked f m tRAS) 120_000_000 (picked f m tRC) (picked f m tRCD) (picked f m tRP) (picked f m tRRD)
    (picked f m tRFC) (picked f m tWR) 0
    7_812_500 (picked f 3 tMRD)

-- three clocks of 7,500 ps
abbrev three : ℕ
three = 22_500

-- PRECHARGE ALL, refresh and LOAD MODE two clocks before 1,001, in mode 0030
abbrev just_now : StartUp
just_now = begun_at (Some (clock 999)) (Two (clock 999)) (loaded 0x30 (clock 999))

-- all banks opened and written just now; all opened and closed just now
abbrev opened : State
opened = at_1000 just_now quiet_bus (replicate 4 (bank (Open 7 (clock 999)) (Some (clock 999)) (Some (clock 1_000))))

abbrev closed : State
closed = at_1000 just_now quiet_bus (replicate 4 (bank (Closed (time 7_492_500)) (Some (clock 999)) (Some (clock 1_000))))

-- refused with interval k, or taken where that is 0
abbrev asks : SpeedTable → State → Record → List Reported → ℕ → Row Outcome
asks t s r own zero = runs_from t s (r ∷ []) 0 0 6 own
asks t s r own (suc k) = runs_from t s (r ∷ []) 16 (suc k) 5 []

-- with each minimum from number k on, for each k; with minimum number k alone
abbrev lowest_from : ℕ → State → Record → List Reported → List ℕ → List (Row Outcome)
lowest_from k s r own [] = []
lowest_from k s r own (n ∷ ns) = asks (minima_of (λ j. leb k j) three) s r own n ∷ lowest_from (suc k) s r own ns

abbrev alone_from : ℕ → State → Record → List Reported → List ℕ → List (Row Outcome)
alone_from k s r own [] = []
alone_from k s r own (n ∷ ns) = asks (minima_of (λ j. eqb j k) three) s r own n ∷ alone_from (suc k) s r own ns

-- from 1 tRCD to 8 tMRD, then none: the lowest that is not met where those before it are 0, and each alone
abbrev asked_by : State → Record → List Reported → List ℕ → List ℕ → List (Row Outcome)
asked_by s r own lowest alone = lowest_from 1 s r own lowest ++ alone_from 1 s r own alone

abbrev matrix : List (Row Outcome)
matrix =
    -- "READ, WRITE: tRCD since its ACTIVE", and the three of any executable command
    asked_by opened (read 0 1 0) [] (1 ∷ 4 ∷ 4 ∷ 4 ∷ 6 ∷ 6 ∷ 8 ∷ 8 ∷ 0 ∷ []) (1 ∷ 0 ∷ 0 ∷ 4 ∷ 0 ∷ 6 ∷ 0 ∷ 8 ∷ [])
    ++ asked_by opened (write 0 1 0) (W 5 1_001 1 7 0 255 ∷ []) (1 ∷ 4 ∷ 4 ∷ 4 ∷ 6 ∷ 6 ∷ 8 ∷ 8 ∷ 0 ∷ [])
    (1 ∷ 0 ∷ 0 ∷ 4 ∷ 0 ∷ 6 ∷ 0 ∷ 8 ∷ [])
    -- PRECHARGE of an open bank: tRAS min and tWR; each of the four
    ++ asked_by opened (precharge 0 1) [] (2 ∷ 2 ∷ 4 ∷ 4 ∷ 6 ∷ 6 ∷ 7 ∷ 8 ∷ 0 ∷ []) (0 ∷ 2 ∷ 0 ∷ 4 ∷ 0 ∷ 6 ∷ 7 ∷ 8 ∷ [])
    ++ asked_by opened (all_banks 0) [] (2 ∷ 2 ∷ 4 ∷ 4 ∷ 6 ∷ 6 ∷ 7 ∷ 8 ∷ 0 ∷ []) (0 ∷ 2 ∷ 0 ∷ 4 ∷ 0 ∷ 6 ∷ 7 ∷ 8 ∷ [])
    ++ asked_by opened (terminate 0) [] (4 ∷ 4 ∷ 4 ∷ 4 ∷ 6 ∷ 6 ∷ 8 ∷ 8 ∷ 0 ∷ []) (0 ∷ 0 ∷ 0 ∷ 4 ∷ 0 ∷ 6 ∷ 0 ∷ 8 ∷ [])
    -- "ACTIVE: tRP since its closing; tRC since its last ACTIVE; tRRD since the last ACTIVE of another bank"
    ++ asked_by closed (active 0 1 7) [] (3 ∷ 3 ∷ 3 ∷ 4 ∷ 5 ∷ 6 ∷ 8 ∷ 8 ∷ 0 ∷ []) (0 ∷ 0 ∷ 3 ∷ 4 ∷ 5 ∷ 6 ∷ 0 ∷ 8 ∷ [])
    -- a closed bank has no tRAS and no tWR
    ++ asked_by closed (precharge 0 1) [] (4 ∷ 4 ∷ 4 ∷ 4 ∷ 6 ∷ 6 ∷ 8 ∷ 8 ∷ 0 ∷ []) (0 ∷ 0 ∷ 0 ∷ 4 ∷ 0 ∷ 6 ∷ 0 ∷ 8 ∷ [])
    ++ asked_by closed (all_banks 0) [] (4 ∷ 4 ∷ 4 ∷ 4 ∷ 6 ∷ 6 ∷ 8 ∷ 8 ∷ 0 ∷ []) (0 ∷ 0 ∷ 0 ∷ 4 ∷ 0 ∷ 6 ∷ 0 ∷ 8 ∷ [])
    ++ asked_by closed (refresh 0) [] (4 ∷ 4 ∷ 4 ∷ 4 ∷ 6 ∷ 6 ∷ 8 ∷ 8 ∷ 0 ∷ []) (0 ∷ 0 ∷ 0 ∷ 4 ∷ 0 ∷ 6 ∷ 0 ∷ 8 ∷ [])
    ++ asked_by closed (load 0 0x30) [] (4 ∷ 4 ∷ 4 ∷ 4 ∷ 6 ∷ 6 ∷ 8 ∷ 8 ∷ 0 ∷ []) (0 ∷ 0 ∷ 0 ∷ 4 ∷ 0 ∷ 6 ∷ 0 ∷ 8 ∷ [])
    ++ asked_by closed (terminate 0) [] (4 ∷ 4 ∷ 4 ∷ 4 ∷ 6 ∷ 6 ∷ 8 ∷ 8 ∷ 0 ∷ []) (0 ∷ 0 ∷ 0 ∷ 4 ∷ 0 ∷ 6 ∷ 0 ∷ 8 ∷ [])
    -- NOP and COMMAND INHIBIT ask none
    ++ asked_by opened (nop 0 255) [] (0 ∷ []) []
    ++ asked_by closed (rec 0 Inhibit 0 0 255) [] (0 ∷ []) []

-- ── The state's own parts ──

-- no minimum at all
abbrev none : SpeedTable
none = minima_of (λ j. false) 0

-- a huge one for this interval alone
abbrev huge : ℕ → SpeedTable
huge k = minima_of (λ j. eqb j k) 1_000_000

-- bank k of a state after start-up like this, the others long closed
abbrev with_bank : ℕ → Bank → State
with_bank k b = at_1000 over quiet_bus (bank_in k b long_closed)

-- with bank k like this the record is refused with this interval; it is taken
abbrev held : SpeedTable → ℕ → Bank → Record → ℕ → Row Outcome
held t k b r interval = runs_from t (with_bank k b) (r ∷ []) 16 interval 5 []

abbrev free : SpeedTable → ℕ → Bank → Record → Row Outcome
free t k b r = runs_from t (with_bank k b) (r ∷ []) 0 0 6 []

abbrev with_startup : StartUp → List Bank → State
with_startup u banks = at_1000 u quiet_bus banks

-- each bank
abbrev by_bank : ℕ → List (Row Outcome)
by_bank k =
    -- tWR: a store before the open bank's ACTIVE, or on its clock, is none
    free (huge tWR) k (bank (Open 7 (clock 999)) (Some (clock 999)) (Some (clock 998))) (precharge 0 k)
    ∷ free (huge tWR) k (bank (Open 7 (clock 999)) (Some (clock 999)) (Some (clock 999))) (precharge 0 k)
    ∷ held (huge tWR) k (bank (Open 7 (clock 999)) (Some (clock 999)) (Some (clock 1_000))) (precharge 0 k) tWR
    ∷ held (huge tWR) k (bank (Open 7 (clock 999)) (Some (clock 999)) (Some (clock 1_000))) (all_banks 0) tWR
    ∷ free (huge tWR) k (bank (Open 7 (clock 999)) (Some (clock 999)) (Some (clock 999))) (all_banks 0)
    -- an open bank whose `active` is None: tRAS, tRCD, 13 and tWR count from the status's ACTIVE
    ∷ held (huge tRAS) k (bank (Open 7 (clock 999)) None None) (precharge 0 k) tRAS
    ∷ held (huge tRCD) k (bank (Open 7 (clock 999)) None None) (read 0 k 0) tRCD
    ∷ held (huge tRCD) k (bank (Open 7 (clock 999)) None None) (write 0 k 0) tRCD
    ∷ held (huge tWR) k (bank (Open 7 (clock 999)) None (Some (clock 1_000))) (precharge 0 k) tWR
    ∷ free (huge tWR) k (bank (Open 7 (clock 999)) None (Some (clock 999))) (precharge 0 k)
    ∷ runs_from (table 0 0 0 7_499 0 0 0 0 0 0 0 7_812_500 0) (with_bank k (bank (Open 7 (clock 1_000)) None None))
    (nop 0 255 ∷ []) 13 0 5 []
    ∷ free (table 0 0 0 7_500 0 0 0 0 0 0 0 7_812_500 0) k (bank (Open 7 (clock 1_000)) None None) (nop 0 255)
    -- not from its `active`, if that is another
    ∷ runs_from (table 0 0 22_500 120_000_000 0 22_500 0 0 0 0 0 7_812_500 0)
    (with_bank k (bank (Open 7 (clock 998)) (Some (clock 1_000)) None)) (read 0 k 0 ∷ precharge 0 k ∷ []) 0 0 7 []
    -- tRC and tRRD count from its `active`, and find no event where that is None
    ∷ free (huge tRC) k (bank (Closed (time 0)) None None) (active 0 k 7)
    ∷ held (huge tRC) k (bank (Closed (time 0)) (Some (clock 1_000)) None) (active 0 k 7) tRC
    -- a bank not started is neither open nor closed
    ∷ from (with_bank k no_bank) (active 0 k 7 ∷ []) 15 0 5 []
    ∷ from (with_bank k no_bank) (read 0 k 0 ∷ []) 15 0 5 []
    ∷ from (with_bank k no_bank) (write 0 k 0 ∷ []) 15 0 5 []
    ∷ from (with_bank k no_bank) (refresh 0 ∷ []) 15 0 5 []
    ∷ from (with_bank k no_bank) (load 0 0x30 ∷ []) 15 0 5 []
    -- a PRECHARGE asks nothing of it and closes it now: then tRP, three clocks of 7,500 ps
    ∷ from (with_bank k no_bank) (precharge 0 k ∷ active 1 k 7 ∷ []) 16 tRP 6 []
    ∷ from (with_bank k no_bank) (precharge 0 k ∷ active 2 k 7 ∷ []) 0 0 7 []
    ∷ from (with_bank k no_bank) (all_banks 0 ∷ active 2 k 7 ∷ []) 0 0 7 []
    -- with tRAS, tRC, tRCD or tWR there is nothing to count from, and 13 does not look at it
    ∷ free (table 0 0 0 0 1_000_000 0 0 0 0 1_000_000 0 7_812_500 0) k (bank NotStarted None (Some (clock 1_000))) (precharge 0 k)
    -- "An event still ahead .. its minimum is not met before it, not even a minimum of 0": its ACTIVE, its store, its closing
    ∷ held none k (bank (Open 7 (clock 1_002)) None None) (read 0 k 0) tRCD
    ∷ free none k (bank (Open 7 (clock 1_001)) None None) (read 0 k 0)
    ∷ held none k (bank (Open 7 (clock 1_002)) None None) (precharge 0 k) tRAS
    ∷ held none k (bank (Open 7 (clock 1_000)) None (Some (clock 1_002))) (precharge 0 k) tWR
    ∷ held none k (bank (Closed (time 0)) (Some (clock 1_002)) None) (active 0 k 7) tRC
    ∷ held none k (bank (Closed (time 7_507_501)) None None) (active 0 k 7) tRP
    ∷ free none k (bank (Closed (time 7_507_500)) None None) (active 0 k 7)
    ∷ held none k (bank (Closed (time 7_507_501)) None None) (precharge 0 k) tRP
    ∷ held none k (bank (Closed (time 7_507_501)) None None) (all_banks 0) tRP
    ∷ held none k (bank (Closed (time 7_507_501)) None None) (refresh 0) tRP
    ∷ held none k (bank (Closed (time 7_507_501)) None None) (load 0 0x30) tRP
    -- "and no maximum is passed": 13, of an ACTIVE ahead
    ∷ free (table 0 0 0 0 0 0 0 0 0 0 0 7_812_500 0) k (bank (Open 7 (clock 1_002)) None None) (nop 0 255)
    ∷ []

-- ACTIVE of bank b after one of bank a, whose `active` is like this
abbrev other_active : ℕ → ℕ → List (Row Outcome)
other_active a b =
    free (huge tRRD) a (bank (Open 7 (clock 1_000)) None None) (active 0 b 7)
    ∷ held (huge tRRD) a (bank (Open 7 (clock 900)) (Some (clock 1_000)) None) (active 0 b 7) tRRD
    ∷ held (huge tRRD) a (bank NotStarted (Some (clock 1_000)) None) (active 0 b 7) tRRD
    ∷ held none a (bank (Closed (time 0)) (Some (clock 1_002)) None) (active 0 b 7) tRRD
    ∷ []

-- a refresh, LOAD MODE or PRECHARGE ALL ahead meets no minimum of any executable command
abbrev ahead_of : Record → List (Row Outcome)
ahead_of r =
    runs_from none (with_startup (begun_at (Some (clock 0)) (Two (clock 1_002)) (loaded 0x30 (clock 0)))
    (replicate 4 long_closed)) (r ∷ []) 16 tRFC 5 []
    ∷ runs_from none (with_startup (begun_at (Some (clock 0)) (Two (clock 900)) (loaded 0x30 (clock 1_002)))
    (replicate 4 long_closed)) (r ∷ []) 16 tMRD 5 []
    ∷ runs_from none (with_startup (begun_at (Some (clock 1_002)) (Two (clock 900)) (loaded 0x30 (clock 0)))
    (replicate 4 long_closed)) (r ∷ []) 16 tRP 5 []
    ∷ []

-- at 100,000,500 ps: the last record on clock 2,000 of 50,000 ps, and start-up and banks like this
abbrev late : StartUp → List Bank → State
late u banks = state 50_000 1 7 5 (Some (clock 2_000)) u quiet_bus banks

abbrev startups : List (Row Outcome)
startups =
    -- first PRECHARGE ALL, two refreshes, mode loaded, asked in this order: one refresh and a mode loaded, or none
    from (with_startup (begun_at (Some (clock 0)) (One (clock 900)) (loaded 0x30 (clock 0))) (replicate 4 long_closed))
    (active 0 1 7 ∷ []) 14 0 5 []
    ∷ from (with_startup (begun_at (Some (clock 0)) (One (clock 900)) (loaded 0x30 (clock 0))) (replicate 4 long_closed))
    (load 0 0x30 ∷ []) 14 0 5 []
    ∷ from (with_startup (begun_at (Some (clock 0)) (One (clock 900)) (loaded 0x30 (clock 0))) (replicate 4 long_open))
    (read 0 1 0 ∷ []) 14 0 5 []
    ∷ from (with_startup (begun_at (Some (clock 0)) (One (clock 900)) (loaded 0x30 (clock 0))) (replicate 4 long_open))
    (terminate 0 ∷ []) 14 0 5 []
    ∷ from (with_startup (begun_at (Some (clock 0)) Zero (loaded 0x30 (clock 0))) (replicate 4 long_closed)) (active 0 1 7 ∷ [])
    14 0 5 []
    ∷ from (with_startup (begun_at (Some (clock 0)) Zero (loaded 0x30 (clock 0))) (replicate 4 long_closed)) (load 0 0x30 ∷ []) 14
    0 5 []
    ∷ from (with_startup (begun_at (Some (clock 0)) Zero (loaded 0x30 (clock 0))) (replicate 4 long_closed))
    (refresh 0 ∷ refresh 8 ∷ load 8 0x30 ∷ []) 0 0 8 []
    ∷ from (with_startup (begun_at (Some (clock 0)) (One (clock 900)) (loaded 0x30 (clock 0))) (replicate 4 long_closed))
    (refresh 0 ∷ active 8 1 7 ∷ []) 0 0 7 []
    -- no PRECHARGE ALL yet, though all else is done
    ∷ from (with_startup (begun_at None (Two (clock 900)) (loaded 0x30 (clock 0))) (replicate 4 long_closed))
    (active 0 1 7 ∷ []) 14 0 5 []
    ∷ from (with_startup (begun_at None (Two (clock 900)) (loaded 0x30 (clock 0))) (replicate 4 long_closed)) (refresh 0 ∷ [])
    14 0 5 []
    ∷ from (with_startup (begun_at None (Two (clock 900)) (loaded 0x30 (clock 0))) (replicate 4 long_closed))
    (all_banks 0 ∷ []) 14 0 5 []
    -- the first PRECHARGE ALL: 12 and 13 before it
    ∷ from (late (begun_at None (Two (clock 1_844)) None) (replicate 4 no_bank)) (all_banks 0 ∷ []) 12 0 5 []
    ∷ from (late (begun_at None (Two (clock 1_845)) None) (replicate 4 no_bank)) (all_banks 0 ∷ []) 0 0 6 []
    ∷ from (late (begun_at None (One (clock 0)) None) (replicate 4 no_bank)) (all_banks 0 ∷ []) 0 0 6 []
    ∷ runs_from (table 0 0 0 99_999 0 0 0 0 0 0 0 7_812_500 0)
    (late not_begun (replicate 4 (bank (Open 7 (clock 1_999)) None None))) (all_banks 0 ∷ []) 13 0 5 []
    ∷ runs_from (table 0 0 0 100_000 0 0 0 0 0 0 0 7_812_500 0)
    (late not_begun (replicate 4 (bank (Open 7 (clock 1_999)) None None))) (all_banks 0 ∷ []) 0 0 6 []
    -- 13 before 14
    ∷ runs_from (table 0 0 0 99_999 0 0 0 0 0 0 0 7_812_500 0)
    (late not_begun (replicate 4 (bank (Open 7 (clock 1_999)) None None))) (active 0 1 7 ∷ []) 13 0 5 []
    -- "and has no other condition": neither 15 nor a minimum, of a refresh, a mode load, an ACTIVE, a store, a closing ahead
    ∷ from (late (begun_at None (One (clock 2_000)) (loaded 0x30 (clock 2_000)))
    (replicate 4 (bank (Open 7 (clock 2_000)) (Some (clock 2_000)) (Some (clock 2_000))))) (all_banks 0 ∷ []) 0 0 6 []
    ∷ from (late (begun_at None Zero None) (replicate 4 (bank (Closed (time 900_000_000)) None None))) (all_banks 0 ∷ [])
    0 0 6 []
    -- only it: a second one needs them
    ∷ from (late (begun_at None Zero None) (replicate 4 no_bank)) (all_banks 0 ∷ all_banks 0 ∷ []) 0 0 7 []
    ∷ runs_from (huge tRP) (late (begun_at None Zero None) (replicate 4 no_bank)) (all_banks 0 ∷ all_banks 0 ∷ []) 16 tRP 6
    []
    -- 12: "no maximum is passed" by a refresh ahead; on the limit
    ∷ from (with_startup (begun_at (Some (clock 0)) (Two (clock 2_000)) None) (replicate 4 long_closed)) (nop 0 255 ∷ []) 0 0
    6 []
    ∷ runs_from (table 0 0 0 120_000_000 0 0 0 0 0 0 0 7_499 0)
    (with_startup (begun_at (Some (clock 0)) (Two (clock 1_000)) None) (replicate 4 long_closed)) (nop 0 255 ∷ []) 12 0 5 []
    ∷ runs_from (table 0 0 0 120_000_000 0 0 0 0 0 0 0 7_500 0)
    (with_startup (begun_at (Some (clock 0)) (Two (clock 1_000)) None) (replicate 4 long_closed)) (nop 0 255 ∷ []) 0 0 6 []
    -- 16 and 14, 17 and 18: a LOAD MODE in each order
    ∷ runs_from grade_133 (with_startup (up_in 0x30) (replicate 4 long_closed)) (rec 0 LoadMode 1 0x21 255 ∷ []) 17 0 5 []
    ∷ runs_from grade_133 (with_startup (up_in 0x30) (replicate 4 long_closed)) (load 0 0x21 ∷ []) 18 0 5 []
    -- record number 2^41 is taken and is its own
    ∷ from (state 7500 1 7 (2 ^ 41) (Some (clock 1_000)) over quiet_bus two_open) (nop 0 255 ∷ []) 0 0 (2 ^ 41 + 1) []
    ∷ from (state 7500 1 7 (2 ^ 41) (Some (clock 1_000)) over quiet_bus two_open) (active 0 1 7 ∷ []) 15 0 (2 ^ 41) []
    -- the first record stands on the clock equal to its skipped count
    ∷ clean (state 7500 1 7 5 None over (bus (burst 0 0 None 0x31) no_reads) two_open) (nop 0 0 ∷ []) 1 (W 5 0 1 7 0 255 ∷ [])
    ∷ clean (state 7500 1 7 5 None over (bus (burst 0 0 None 0x31) no_reads) two_open) (nop 1 0 ∷ []) 1 (W 5 1 1 7 1 255 ∷ [])
    ∷ []

abbrev aheads : List (Row Outcome)
aheads =
    ahead_of (active 0 1 7)
    ++ ahead_of (precharge 0 1)
    ++ ahead_of (all_banks 0)
    ++ ahead_of (refresh 0)
    ++ ahead_of (load 0 0x30)
    ++ ahead_of (terminate 0)
    ++ other_active 0 1
    ++ other_active 0 3
    ++ other_active 1 0
    ++ other_active 1 2
    ++ other_active 2 1
    ++ other_active 3 0
    ++ other_active 2 3
    ++ other_active 3 2

-- ── Rules that a command does not ask ──

-- an auto precharge READ of bank 1 with length 8, registered on 1,000, is unfinished; a READ since 998 drives all lanes on 1,001
abbrev unfinished : List Bank → State
unfinished banks =
    at_1000 over
    (bus no_burst
    (in_place 0
    (record { live = true; auto = true; bank = 1; row = 7; column = 0; start = clock 1_000; cut = None; word = 0x33 })))
    banks

abbrev drives_now : List Bank → State
drives_now banks = at_1000 over (bus no_burst (in_place 0 (burst 0 998 None 0x33))) banks

abbrev all_closed : List Bank
all_closed = replicate 4 long_closed

-- one record taken, which reports these beats
abbrev passes : State → Record → List Reported → Row Outcome
passes s r beats = from s (r ∷ []) 0 0 6 beats

-- the beat that is driven on 1,001
abbrev now : List Reported
now = R 5 1_001 1 7 0 255 ∷ []

abbrev unasked : List (Row Outcome)
unasked =
    -- 19: READ, WRITE and BURST TERMINATE only
    from (unfinished two_open) (read 0 2 0 ∷ []) 19 0 5 []
    ∷ from (unfinished two_open) (write 0 2 0 ∷ []) 19 0 5 []
    ∷ from (unfinished two_open) (terminate 0 ∷ []) 19 0 5 []
    ∷ passes (unfinished two_open) (active 0 0 7) []
    ∷ passes (unfinished two_open) (precharge 0 2) []
    ∷ passes (unfinished two_open) (all_banks 0) []
    ∷ passes (unfinished two_open) (nop 0 255) []
    ∷ passes (unfinished all_closed) (refresh 0) []
    ∷ passes (unfinished all_closed) (load 0 0x30) []
    -- 20: WRITE only
    ∷ from (drives_now two_open) (write 0 2 0 ∷ []) 20 0 5 []
    ∷ passes (drives_now two_open) (read 0 2 0) now
    ∷ passes (drives_now two_open) (terminate 0) now
    ∷ passes (drives_now two_open) (active 0 0 7) now
    ∷ passes (drives_now two_open) (precharge 0 2) now
    ∷ passes (drives_now two_open) (precharge 0 1) now
    ∷ passes (drives_now two_open) (all_banks 0) now
    ∷ passes (drives_now all_closed) (refresh 0) now
    ∷ passes (drives_now all_closed) (load 0 0x30) now
    -- 17 and 18: LOAD MODE only. Address 0020 is a word with CL 2, too fast for -133, and 0004 a reserved one
    ∷ passes (at_1000 over quiet_bus two_open) (active 0 0 0x20) []
    ∷ passes (at_1000 over quiet_bus two_open) (read 0 1 0x20) []
    ∷ passes (at_1000 over quiet_bus two_open) (write 0 1 0x20) (W 5 1_001 1 7 32 255 ∷ [])
    ∷ passes (at_1000 over quiet_bus two_open) (rec 0 Precharge 1 0x20 255) []
    ∷ passes (at_1000 over quiet_bus two_open) (rec 0 Terminate 1 0x20 255) []
    ∷ passes (at_1000 over quiet_bus all_closed) (rec 0 Refresh 1 0x20 255) []
    ∷ passes (at_1000 over quiet_bus all_closed) (rec 0 Refresh 1 4 255) []
    -- 21: READ and WRITE only. A10 is HIGH in full-page mode
    ∷ from (at_1000 (up_in 0x37) quiet_bus two_open) (read 0 1 (with_a10 0) ∷ []) 21 0 5 []
    ∷ passes (at_1000 (up_in 0x37) quiet_bus two_open) (active 0 0 (with_a10 0)) []
    ∷ passes (at_1000 (up_in 0x37) quiet_bus two_open) (all_banks 0) []
    ∷ passes (at_1000 (up_in 0x37) quiet_bus two_open) (rec 0 Terminate 1 (with_a10 0) 255) []
    ∷ passes (at_1000 (up_in 0x37) quiet_bus two_open) (rec 0 Nop 1 (with_a10 0) 255) []
    ∷ passes (at_1000 (up_in 0x37) quiet_bus all_closed) (rec 0 Refresh 1 (with_a10 0) 255) []
    -- an ACTIVE with A10 HIGH opens that row, and its bank is not under auto precharge
    ∷ from (at_1000 (up_in 0x30) quiet_bus two_open) (active 0 0 (with_a10 5) ∷ write 2 0 3 ∷ []) 0 0 7
    (W 6 1_004 0 1_029 3 255 ∷ [])
    ∷ []

pub odd_right :
    (found cuts ≡ expected cuts)
    × (found (in_places cut_reads) ≡ expected (in_places cut_reads))
    × (found (in_places survives) ≡ expected (in_places survives))
    × (found rooms ≡ expected rooms)
    × (found matrix ≡ expected matrix)
    × (found (in_places by_bank) ≡ expected (in_places by_bank))
    × (found startups ≡ expected startups)
    × (found aheads ≡ expected aheads)
    × (found unasked ≡ expected unasked)
unfolding module_of length_of beat_column has_beat write_beat read_beat finished masks_on masks_after reads_from bus_after beat_on bursts_finished driven bus_clear allowed banks_found of_closing of_any of_active of_access of_precharged of_precharge of_idle events minima every_rules place_rules minimum_rules mode_rules bus_rules command_rules rules ask startup_after beat core_from core_after bank_after commanded mark_banks banks_after next run
odd_right = (refl, refl, refl, refl, refl, refl, refl, refl, refl)
