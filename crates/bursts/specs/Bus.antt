-- The data bus: all bursts and the masks, the beat on a clock, numbers 19 and 20 (01, Beats). Definitions only.
use Rattle.std.specs.Prelude.{ℕ, ◌-◌, Bool, true, false, not, ◌&&◌, ◌||◌, cond, List, [], ◌∷◌, leb, ltb, eqb, get_or, Option, None, Some}
use Rattle.units.specs.declared.Clock.{Clock}
use Rattle.units.specs.Time.{clock}
use Rattle.layout.specs.declared.Record.{Record}
use Rattle.layout.specs.declared.Command.{Command}
use Rattle.layout.specs.declared.Command.TheVariants.{Read, Write}
use Rattle.layout.specs.Commands.{is}
use Rattle.mode.specs.Word.{length_of, write_length}
use Rattle.bursts.specs.declared.Burst.{Burst}
use Rattle.bursts.specs.declared.Masks.{Masks}
use Rattle.bursts.specs.declared.Bus.{Bus}
use Rattle.bursts.specs.declared.Beat.{Beat}
use Rattle.bursts.specs.declared.Beat.TheVariants.{Quiet, Stores, Drives}
use Rattle.bursts.specs.Burst.{no_burst, burst_at, cut_by, write_beat, reads_on, to_come, read_beat, finished}

-- ── Masks ──

-- all masks HIGH
abbrev pub all_high : ℕ
all_high = 255

-- the masks on clock m, where `last` is the clock of the last record: "a skipped clock had .. all masks HIGH"
unfoldable pub masks_on : Option Clock → Masks → Clock → ℕ
masks_on None held m = all_high
masks_on (Some x) held m =
    cond (leb m.0 x.0) (get_or (held.first ∷ held.second ∷ held.third ∷ []) (x.0 - m.0) all_high) all_high

-- "two clocks earlier" than n
abbrev pub two_before : Clock → Clock
two_before n = clock (n.0 - 2)

-- the masks that a record after so many skipped clocks leaves: its own, those of the clock before it, and of the one before that
unfoldable pub masks_after : ℕ → ℕ → Masks → Masks
masks_after skipped masks held =
    record {
      first = masks;
      second = cond (eqb skipped 0) held.first all_high;
      third = cond (eqb skipped 0) held.second (cond (eqb skipped 1) held.first all_high);
    }

abbrev pub all_masks_high : Masks
all_masks_high = record { first = all_high; second = all_high; third = all_high }

-- ── The beat on a clock ──

-- two beats never fall on one clock in a trace; elsewhere the first is meant
abbrev pub or_else : Beat → Beat → Beat
or_else Quiet b = b
or_else (Stores c) b = Stores c
or_else (Drives c) b = Drives c

-- some READ has a beat on clock n
abbrev pub reads_run : List Burst → Clock → Bool
reads_run [] n = false
reads_run (b ∷ bs) n = reads_on b n || reads_run bs n

-- some READ that was registered after clock x has a beat on clock n
abbrev pub later_run : Clock → List Burst → Clock → Bool
later_run x [] n = false
later_run x (b ∷ bs) n = (reads_on b n && ltb x.0 b.start.0) || later_run x bs n

-- of READ bursts, that of the latest; of two registered on one clock, the first of the list
abbrev pub reads_beat : List Burst → ℕ → Clock → Beat
reads_beat [] masks n = Quiet
reads_beat (b ∷ bs) masks n =
    cond (reads_on b n && not (later_run b.start bs n)) (read_beat b masks n) (reads_beat bs masks n)

-- ── What a record leaves on the bus ──

abbrev pub no_reads : List Burst
no_reads = no_burst ∷ no_burst ∷ no_burst ∷ no_burst ∷ []

abbrev pub cut_each : Command → ℕ → ℕ → Clock → List Burst → List Burst
cut_each k addr ba n [] = []
cut_each k addr ba n (b ∷ bs) = cut_by k addr ba n b ∷ cut_each k addr ba n bs

-- "a WRITE at x with r < x <= r + CL + i" loses all that is to come of a READ before it
abbrev pub written_over : Clock → List Burst → List Burst
written_over n [] = []
written_over n (b ∷ bs) = cond (ltb b.start.0 n.0) no_burst b ∷ written_over n bs

-- of two READs registered on clocks x and y, the first makes room for a new one: the second has beats to come (d), and the first has
-- none (b), or was registered before it
abbrev pub makes_room : Bool → Bool → ℕ → ℕ → Bool
makes_room b d x y = d && (not b || ltb x y)

-- READ b makes room before READ d
abbrev pub gives_way : Clock → Burst → Burst → Bool
gives_way n b d = makes_room (to_come n b) (to_come n d) b.start.0 d.start.0

abbrev pub gives_way_first : Clock → Burst → List Burst → Bool
gives_way_first n b [] = true
gives_way_first n b (d ∷ ds) = gives_way n b d && gives_way_first n b ds

-- all but the one that makes room, the last where several might
abbrev pub with_room : Clock → List Burst → List Burst
with_room n [] = []
with_room n (b ∷ bs) = cond (gives_way_first n b bs) bs (b ∷ with_room n bs)

-- the READ bursts after command k on clock n, which begins the burst `new` where it is a READ
unfoldable pub reads_from : Command → ℕ → ℕ → Clock → Burst → List Burst → List Burst
reads_from k addr ba n new bs =
    cond (is k Write) (written_over n bs)
    (cond (is k Read) (new ∷ cut_each k addr ba n (with_room n bs)) (cut_each k addr ba n bs))

-- the READ bursts after command k of record r on clock n, in mode `word`, of the open row
abbrev pub reads_after : Command → Record → Clock → ℕ → ℕ → List Burst → List Burst
reads_after k r n word row bs =
    reads_from k r.addr r.ba n (burst_at word n r.addr r.column r.ba row) bs

-- the WRITE burst after it
abbrev pub write_after : Command → Record → Clock → ℕ → ℕ → Burst → Burst
write_after k r n word row b =
    cond (is k Write) (burst_at word n r.addr r.column r.ba row) (cut_by k r.addr r.ba n b)

unfoldable pub bus_after : Command → Record → Clock → ℕ → ℕ → Bus → Bus
bus_after k r n word row u =
    record {
      write = write_after k r n word row u.write;
      reads = reads_after k r n word row u.reads;
      masks = masks_after r.skipped r.masks u.masks;
    }

-- "the beat on its own clock", n, of a record with these masks, from the bursts that it leaves; the masks before it are `held`
unfoldable pub beat_on : Option Clock → Masks → Burst → List Burst → ℕ → Clock → Beat
beat_on last held write reads masks n =
    or_else (write_beat write masks n) (reads_beat reads (masks_on last held (two_before n)) n)

-- ── Numbers 19 and 20 ──

abbrev pub reads_finished : Clock → List Burst → Bool
reads_finished n [] = true
reads_finished n (b ∷ bs) = finished (length_of b.word) n b && reads_finished n bs

-- 19: no auto precharge burst is unfinished on clock n
unfoldable pub bursts_finished : Burst → List Burst → Clock → Bool
bursts_finished write reads n = finished (write_length write.word) n write && reads_finished n reads

-- some lane is driven
abbrev pub drives_lane : Beat → Bool
drives_lane Quiet = false
drives_lane (Stores c) = false
drives_lane (Drives c) = not (eqb c.lanes 0)

unfoldable pub driven : Option Clock → Masks → List Burst → Clock → Bool
driven last held reads n = drives_lane (reads_beat reads (masks_on last held (two_before n)) n)

abbrev pub one_before : Clock → Clock
one_before n = clock (n.0 - 1)

-- 20: no lane "would be driven on its clock, or is driven one clock before"
unfoldable pub bus_clear : Option Clock → Masks → List Burst → Clock → Bool
bus_clear last held reads n = not (driven last held reads n) && not (driven last held reads (one_before n))

-- ── Stores ──

-- a byte is stored in bank i
abbrev pub stores_in : Beat → ℕ → Bool
stores_in Quiet i = false
stores_in (Stores c) i = eqb i c.bank && not (eqb c.lanes 0)
stores_in (Drives c) i = false

-- the bus before the first record
abbrev pub quiet_bus : Bus
quiet_bus = record { write = no_burst; reads = no_reads; masks = all_masks_high }
