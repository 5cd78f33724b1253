-- Bursts and the bus one sentence at a time: rows from the sentences of document 01's Beats, under one statement. Words in quotation
-- marks are 01's, or those of reading 13 in docs/DECISIONS.md. Assumes nothing.
use Rattle.units.specs.declared.Clock.{Clock}
use Rattle.std.specs.Prelude.{ℕ, zero, suc, ◌≡◌, refl, Bool, true, false, List, [], ◌∷◌, ◌++◌, replicate, Option, None, Some}
use Rattle.units.specs.Time.{clock}
use Rattle.layout.specs.declared.Record.{Record}
use Rattle.layout.specs.declared.Command.{Command}
use Rattle.layout.specs.declared.Command.TheVariants.{
  Inhibit,
  Nop,
  Active,
  Read,
  Write,
  Terminate,
  Precharge,
  Refresh,
  LoadMode,
}
use Rattle.layout.specs.Commands.{code_of, column_of}
use Rattle.mode.specs.Word.{length_of}
use Rattle.mode.specs.Order.{beat_column}
use Rattle.bursts.specs.declared.Burst.{Burst}
use Rattle.bursts.specs.declared.Masks.{Masks}
use Rattle.bursts.specs.declared.Bus.{Bus}
use Rattle.bursts.specs.declared.Beat.{Beat}
use Rattle.bursts.specs.declared.Beat.TheVariants.{Quiet, Stores, Drives}
use Rattle.bursts.specs.Burst.{
  no_burst,
  burst_at,
  ends,
  before_cut,
  cut_on,
  cut_if,
  cut_by,
  has_beat,
  write_beat,
  reads_on,
  to_come,
  read_beat,
  finished,
}
use Rattle.bursts.specs.Bus.{masks_on, two_before, one_before, masks_after, all_masks_high, or_else, reads_run, later_run, reads_beat, no_reads, cut_each, written_over, with_room, reads_from, reads_after, write_after, bus_after, beat_on, reads_finished, bursts_finished, drives_lane, driven, bus_clear, stores_in, quiet_bus}

-- ── A row: what the definition gives, and what document 01 says ──

pub record Row (A : Type 0) : Type 0 where
  pub found : A
  pub expected : A

infix 68 ◌gives◌
abbrev pub ◌gives◌ : {A : Type 0} → A → A → Row A
a gives b = record { found = a; expected = b }

abbrev pub found : {A : Type 0} → List (Row A) → List A
found [] = []
found (r ∷ rs) = r.found ∷ found rs

abbrev pub expected : {A : Type 0} → List (Row A) → List A
expected [] = []
expected (r ∷ rs) = r.expected ∷ expected rs

-- ── Bursts, beats and masks of the rows ──

-- a burst of bank 1 and row 7 in this mode from this address, registered on clock n
abbrev from_clock : ℕ → ℕ → ℕ → Burst
from_clock n word addr = burst_at word (clock n) addr (column_of addr) 1 7

-- on clock 100
abbrev from_100 : ℕ → ℕ → Burst
from_100 word addr = from_clock 100 word addr

-- a live burst of bank 1 and row 7 from column 0, each part as given
abbrev burst : Bool → ℕ → Option Clock → ℕ → Burst
burst auto start cut word =
    record { live = true; auto = auto; bank = 1; row = 7; column = 0; start = clock start; cut = cut; word = word }

-- the same burst that is no longer live
abbrev dead : Burst → Burst
dead b =
    record {
      live = false;
      auto = b.auto;
      bank = b.bank;
      row = b.row;
      column = b.column;
      start = b.start;
      cut = b.cut;
      word = b.word;
    }

-- the same burst, cut on clock x
abbrev cut_at : ℕ → Burst → Burst
cut_at x b =
    record {
      live = b.live;
      auto = b.auto;
      bank = b.bank;
      row = b.row;
      column = b.column;
      start = b.start;
      cut = Some (clock x);
      word = b.word;
    }

-- a beat of bank 1, row 7 in this column on these lanes
abbrev W : ℕ → ℕ → Beat
W column lanes = Stores (record { bank = 1; row = 7; column = column; lanes = lanes })

abbrev R : ℕ → ℕ → Beat
R column lanes = Drives (record { bank = 1; row = 7; column = column; lanes = lanes })

-- a beat on all lanes in each of these columns
abbrev Ws : List ℕ → List Beat
Ws [] = []
Ws (c ∷ cs) = W c 255 ∷ Ws cs

abbrev Rs : List ℕ → List Beat
Rs [] = []
Rs (c ∷ cs) = R c 255 ∷ Rs cs

abbrev silent : List Beat
silent = Quiet ∷ []

-- the beats of a WRITE's burst on as many clocks from n on, with all masks LOW
abbrev writes : Burst → ℕ → ℕ → List Beat
writes b n zero = []
writes b n (suc k) = write_beat b 0 (clock n) ∷ writes b (suc n) k

-- the beats of a READ's burst
abbrev reads : Burst → ℕ → ℕ → List Beat
reads b n zero = []
reads b n (suc k) = read_beat b 0 (clock n) ∷ reads b (suc n) k

abbrev masks : ℕ → ℕ → ℕ → Masks
masks a b c = record { first = a; second = b; third = c }

-- READ bursts of length 8 with CL 3: that of clock s, from column c, has its beats on s + 3 to s + 10
abbrev eight : ℕ → ℕ → Burst
eight s c = from_clock s 0x33 c

-- on clock 110 each of these has a beat to come, the first one its last
abbrev b100 : Burst
b100 = eight 100 0

abbrev b101 : Burst
b101 = eight 101 8

abbrev b102 : Burst
b102 = eight 102 16

abbrev b103 : Burst
b103 = eight 103 24

-- registered on 103 too, of length 1: its beat was on 106
abbrev over : Burst
over = from_clock 103 0x30 32

-- a burst in each of the four places, the others empty
abbrev in_places : Burst → List (List Burst)
in_places b =
    (b ∷ no_burst ∷ no_burst ∷ no_burst ∷ [])
    ∷ (no_burst ∷ b ∷ no_burst ∷ no_burst ∷ [])
    ∷ (no_burst ∷ no_burst ∷ b ∷ no_burst ∷ [])
    ∷ (no_burst ∷ no_burst ∷ no_burst ∷ b ∷ [])
    ∷ []

-- a test at each of those
abbrev at_places : (List Burst → Bool) → List (List Burst) → List Bool
at_places f [] = []
at_places f (l ∷ ls) = f l ∷ at_places f ls

-- a record after so many skipped clocks, for bank 2
abbrev rec : ℕ → Command → ℕ → ℕ → Record
rec skipped k addr low =
    record {
      skipped = skipped;
      cke = 1;
      code = code_of k;
      ba = 2;
      addr = addr;
      column = column_of addr;
      masks = low;
      zeros = 0;
      dq = 0;
    }

-- ── Tests ──

-- whether a command for bank 2 ends a burst of bank 2; one of bank 1; and one of bank 1 where A10 is HIGH. Every other address bit is HIGH
abbrev ended : Command → List Bool
ended k = ends k 0x1bff 2 2 ∷ ends k 0x1bff 2 1 ∷ ends k 0x1fff 2 1 ∷ []

-- whether a burst from clock 100 with this cut keeps its beats on these clocks
abbrev kept : Option Clock → List ℕ → List Bool
kept e [] = []
kept e (n ∷ ns) = before_cut (clock 100) (clock n) e ∷ kept e ns

-- whether a burst of length 4 from clock 100 has a beat on clocks 99, 100, 101, 102, 103, 104 and 5,100
abbrev beats_of : Burst → Bool → List Bool
beats_of b endless =
    has_beat b 4 endless (clock 99)
    ∷ has_beat b 4 endless (clock 100)
    ∷ has_beat b 4 endless (clock 101)
    ∷ has_beat b 4 endless (clock 102)
    ∷ has_beat b 4 endless (clock 103)
    ∷ has_beat b 4 endless (clock 104)
    ∷ has_beat b 4 endless (clock 5_100)
    ∷ []

-- whether a READ has beats to come on clock n, and on the next
abbrev coming : Burst → ℕ → List Bool
coming b n = to_come (clock n) b ∷ to_come (clock (suc n)) b ∷ []

-- whether bursts are finished on clock n, and on the next
abbrev finished_by : Burst → List Burst → ℕ → List Bool
finished_by write reads n = bursts_finished write reads (clock n) ∷ bursts_finished write reads (clock (suc n)) ∷ []

-- a READ on clock 100 of length 1 with CL 3: its beat on 103 has the masks of 101
abbrev one : Burst
one = from_100 0x30 0

-- whether its lanes are driven on 103, where the last record stood on this clock, with these masks before it
abbrev lane_on : ℕ → Masks → Bool
lane_on last held = driven (Some (clock last)) held (one ∷ no_burst ∷ no_burst ∷ no_burst ∷ []) (clock 103)

-- whether the bus is clear for a WRITE on clock n
abbrev clear : ℕ → Masks → List Burst → ℕ → Bool
clear last held reads n = bus_clear (Some (clock last)) held reads (clock n)

-- on each of these clocks
abbrev clears : ℕ → Masks → List Burst → List ℕ → List Bool
clears last held reads [] = []
clears last held reads (n ∷ ns) = clear last held reads n ∷ clears last held reads ns

abbrev tests : List (Row (List Bool))
tests =
    -- "READ, WRITE, BURST TERMINATE, or PRECHARGE of its bank"; PRECHARGE ALL is of each; the others end none
    ended Read gives (true ∷ true ∷ true ∷ [])
    ∷ ended Write gives (true ∷ true ∷ true ∷ [])
    ∷ ended Terminate gives (true ∷ true ∷ true ∷ [])
    ∷ ended Precharge gives (true ∷ false ∷ true ∷ [])
    ∷ ended Active gives (false ∷ false ∷ false ∷ [])
    ∷ ended Refresh gives (false ∷ false ∷ false ∷ [])
    ∷ ended LoadMode gives (false ∷ false ∷ false ∷ [])
    ∷ ended Nop gives (false ∷ false ∷ false ∷ [])
    ∷ ended Inhibit gives (false ∷ false ∷ false ∷ [])
    -- "lost if .. stands at x with w < x <= w + i": w is 100, and w + i each of these clocks
    ∷ kept None (100 ∷ 101 ∷ []) gives (true ∷ true ∷ [])
    ∷ kept (Some (clock 102)) (101 ∷ 102 ∷ 103 ∷ []) gives (true ∷ false ∷ false ∷ [])
    ∷ kept (Some (clock 101)) (100 ∷ 101 ∷ []) gives (true ∷ false ∷ [])
    -- a cut on the start's clock or before it loses nothing
    ∷ kept (Some (clock 100)) (100 ∷ 101 ∷ []) gives (true ∷ true ∷ [])
    ∷ kept (Some (clock 99)) (100 ∷ 101 ∷ []) gives (true ∷ true ∷ [])
    -- the beats of a burst: from its start, before start + length or without end, before the cut, and only while it is live
    ∷ beats_of (from_100 0x32 0) false gives (false ∷ true ∷ true ∷ true ∷ true ∷ false ∷ false ∷ [])
    ∷ beats_of (from_100 0x32 0) true gives (false ∷ true ∷ true ∷ true ∷ true ∷ true ∷ true ∷ [])
    ∷ beats_of (cut_at 102 (from_100 0x32 0)) false gives (false ∷ true ∷ true ∷ false ∷ false ∷ false ∷ false ∷ [])
    ∷ beats_of (cut_at 102 (from_100 0x32 0)) true gives (false ∷ true ∷ true ∷ false ∷ false ∷ false ∷ false ∷ [])
    ∷ beats_of (cut_at 100 (from_100 0x32 0)) false gives (false ∷ true ∷ true ∷ true ∷ true ∷ false ∷ false ∷ [])
    ∷ beats_of (dead (from_100 0x32 0)) false gives replicate 7 false
    ∷ beats_of (dead (from_100 0x32 0)) true gives replicate 7 false
    ∷ beats_of no_burst true gives replicate 7 false
    -- beats to come, on a clock or later: up to r + CL + length - 1; before a cut up to CL after it; from the start, however far ahead
    ∷ coming b100 110 gives (true ∷ false ∷ [])
    ∷ coming b100 100 gives (true ∷ true ∷ [])
    ∷ coming b100 0 gives (true ∷ true ∷ [])
    ∷ coming (from_100 0x22 0) 105 gives (true ∷ false ∷ [])
    ∷ coming one 103 gives (true ∷ false ∷ [])
    ∷ coming one 50 gives (true ∷ true ∷ [])
    -- M9 leaves READs as long as they are
    ∷ coming (from_100 0x233 0) 110 gives (true ∷ false ∷ [])
    ∷ coming (from_100 0x237 0) 9_999 gives (true ∷ true ∷ [])
    ∷ coming (cut_at 102 b100) 104 gives (true ∷ false ∷ [])
    ∷ coming (cut_at 100 b100) 110 gives (true ∷ false ∷ [])
    ∷ coming (from_100 0x37 0) 9_999 gives (true ∷ true ∷ [])
    ∷ coming (cut_at 102 (from_100 0x37 0)) 104 gives (true ∷ false ∷ [])
    ∷ coming (dead b100) 103 gives (false ∷ false ∷ [])
    ∷ coming no_burst 0 gives (false ∷ false ∷ [])
    -- "Unfinished means a clock before r + length or w + length": only of a live auto precharge burst
    ∷ (finished 4 (clock 103) (burst true 100 None 0x32) ∷ finished 4 (clock 104) (burst true 100 None 0x32) ∷ [])
    gives (false ∷ true ∷ [])
    ∷ (finished 4 (clock 99) (burst true 100 None 0x32) ∷ finished 4 (clock 100) (burst true 100 None 0x32) ∷ [])
    gives (false ∷ false ∷ [])
    ∷ (finished 4 (clock 103) (burst false 100 None 0x32) ∷ finished 4 (clock 103) (dead (burst true 100 None 0x32)) ∷ [])
    gives (true ∷ true ∷ [])
    -- a cut does not finish it
    ∷ (finished 4 (clock 103) (burst true 100 (Some (clock 102)) 0x32) ∷ []) gives (false ∷ [])
    -- 19 of a WRITE, with M9 of length 1; of a READ in any place, with M9 of its whole length
    ∷ finished_by (burst true 100 None 0x33) no_reads 107 gives (false ∷ true ∷ [])
    ∷ finished_by (burst true 100 None 0x233) no_reads 100 gives (false ∷ true ∷ [])
    ∷ finished_by no_burst (burst true 100 None 0x233 ∷ []) 107 gives (false ∷ true ∷ [])
    ∷ finished_by no_burst (burst true 100 None 0x21 ∷ []) 101 gives (false ∷ true ∷ [])
    ∷ finished_by (burst false 100 None 0x33) (burst false 100 None 0x33 ∷ []) 100 gives (true ∷ true ∷ [])
    ∷ at_places (λ l. bursts_finished no_burst l (clock 103)) (in_places (burst true 100 None 0x32)) gives replicate 4 false
    ∷ at_places (λ l. bursts_finished no_burst l (clock 104)) (in_places (burst true 100 None 0x32)) gives replicate 4 true
    ∷ (reads_finished (clock 0) [] ∷ reads_finished (clock 0) no_reads ∷ []) gives (true ∷ true ∷ [])
    -- some READ has a beat; some READ registered after a clock has one
    ∷ at_places (λ l. reads_run l (clock 103)) (in_places one) gives replicate 4 true
    ∷ at_places (λ l. reads_run l (clock 104)) (in_places one) gives replicate 4 false
    ∷ (reads_run [] (clock 103) ∷ reads_on one (clock 102) ∷ reads_on one (clock 103) ∷ []) gives (false ∷ false ∷ true ∷ [])
    ∷ at_places (λ l. later_run (clock 99) l (clock 103)) (in_places one) gives replicate 4 true
    ∷ at_places (λ l. later_run (clock 100) l (clock 103)) (in_places one) gives replicate 4 false
    ∷ at_places (λ l. later_run (clock 99) l (clock 104)) (in_places one) gives replicate 4 false
    -- "A lane is driven if its DQMB was LOW two clocks earlier": on 101, which is the last record's clock, or one or two before it
    ∷ (lane_on 101 (masks 0xfe 0xff 0xff) ∷ lane_on 101 (masks 0x7f 0xff 0xff) ∷ lane_on 101 (masks 0xff 0 0) ∷ [])
    gives (true ∷ true ∷ false ∷ [])
    ∷ (lane_on 102 (masks 0xff 0xfe 0xff) ∷ lane_on 102 (masks 0 0xff 0) ∷ []) gives (true ∷ false ∷ [])
    ∷ (lane_on 103 (masks 0xff 0xff 0xfe) ∷ lane_on 103 (masks 0 0 0xff) ∷ []) gives (true ∷ false ∷ [])
    -- a skipped clock had all masks HIGH, and three clocks back is as far as 20 looks
    ∷ (lane_on 100 (masks 0 0 0) ∷ lane_on 104 (masks 0 0 0) ∷ driven None (masks 0 0 0) (one ∷ []) (clock 103) ∷ [])
    gives (false ∷ false ∷ false ∷ [])
    ∷ (drives_lane (R 0 0x80) ∷ drives_lane (R 0 0x01) ∷ drives_lane (R 0 0) ∷ drives_lane (W 0 0xff) ∷ drives_lane Quiet ∷ [])
    gives (true ∷ true ∷ false ∷ false ∷ false ∷ [])
    -- 20: "some lane would be driven on its clock, or is driven one clock before"; one lane is enough
    ∷ clears 101 (masks 0xfe 0xff 0xff) (one ∷ []) (102 ∷ 103 ∷ 104 ∷ 105 ∷ []) gives (true ∷ false ∷ false ∷ true ∷ [])
    ∷ clears 103 (masks 0xff 0xff 0x7f) (one ∷ []) (104 ∷ []) gives (false ∷ [])
    ∷ clears 103 (masks 0 0 0xff) (one ∷ []) (104 ∷ []) gives (true ∷ [])
    -- CL 2: the beat is on 102, with the masks of 100
    ∷ clears 100 (masks 0 0 0) (from_100 0x20 0 ∷ []) (101 ∷ 102 ∷ 103 ∷ 104 ∷ []) gives (true ∷ false ∷ false ∷ true ∷ [])
    ∷ at_places (λ l. clear 101 (masks 0 0xff 0xff) l 103) (in_places one) gives replicate 4 false
    ∷ at_places (λ l. clear 101 (masks 0 0xff 0xff) l 104) (in_places one) gives replicate 4 false
    ∷ at_places (λ l. clear 101 (masks 0 0xff 0xff) l 105) (in_places one) gives replicate 4 true
    -- on clocks 0 and 1 no READ has a beat
    ∷ clears 0 (masks 0 0 0) (from_clock 0 0x20 0 ∷ []) (0 ∷ 1 ∷ 2 ∷ []) gives (true ∷ true ∷ false ∷ [])
    ∷ (bus_clear None (masks 0 0 0) (from_clock 0 0x20 0 ∷ []) (clock 0) ∷ []) gives (true ∷ [])
    -- a byte is stored in the beat's own bank, where some lane is
    ∷ (stores_in (W 0 0x01) 1 ∷ stores_in (W 0 0x80) 1 ∷ stores_in (W 0 0) 1 ∷ []) gives (true ∷ true ∷ false ∷ [])
    ∷ (stores_in (W 0 0xff) 0 ∷ stores_in (W 0 0xff) 2 ∷ stores_in (W 0 0xff) 3 ∷ []) gives (false ∷ false ∷ false ∷ [])
    ∷ (stores_in (R 0 0xff) 1 ∷ stores_in Quiet 1 ∷ stores_in Quiet 0 ∷ []) gives (false ∷ false ∷ false ∷ [])
    ∷ []

-- ── Masks and clocks ──

-- the masks on clock m, where the last record stood on clock 100 with masks 1, after masks 2 and 3
abbrev mask_on : ℕ → ℕ
mask_on m = masks_on (Some (clock 100)) (masks 1 2 3) (clock m)

abbrev numbers : List (Row (List ℕ))
numbers =
    (mask_on 100 ∷ mask_on 99 ∷ mask_on 98 ∷ mask_on 97 ∷ mask_on 0 ∷ []) gives (1 ∷ 2 ∷ 3 ∷ 255 ∷ 255 ∷ [])
    -- "a skipped clock had .. all masks HIGH": after the last record, and before the first
    ∷ (mask_on 101 ∷ mask_on 102 ∷ masks_on None (masks 1 2 3) (clock 0) ∷ []) gives (255 ∷ 255 ∷ 255 ∷ [])
    ∷ (masks_on (Some (clock 1)) (masks 1 2 3) (clock 0) ∷ masks_on (Some (clock 0)) (masks 1 2 3) (clock 0) ∷ []) gives (2 ∷ 1 ∷ [])
    ∷ ((two_before (clock 100)).0 ∷ (two_before (clock 2)).0 ∷ (two_before (clock 3)).0 ∷ []) gives (98 ∷ 0 ∷ 1 ∷ [])
    ∷ ((two_before (clock 0)).0 ∷ (two_before (clock 1)).0 ∷ []) gives (0 ∷ 0 ∷ [])
    ∷ ((one_before (clock 100)).0 ∷ (one_before (clock 1)).0 ∷ (one_before (clock 0)).0 ∷ []) gives (99 ∷ 0 ∷ 0 ∷ [])
    ∷ []

abbrev masks_left : List (Row Masks)
masks_left =
    masks_after 0 9 (masks 1 2 3) gives masks 9 1 2
    ∷ masks_after 1 9 (masks 1 2 3) gives masks 9 255 1
    ∷ masks_after 2 9 (masks 1 2 3) gives masks 9 255 255
    ∷ masks_after 3 9 (masks 1 2 3) gives masks 9 255 255
    ∷ masks_after 16_777_215 9 (masks 1 2 3) gives masks 9 255 255
    ∷ all_masks_high gives masks 255 255 255
    ∷ []

-- ── Cuts ──

-- the cut of a burst from clock 100 that a command ends on clock n
abbrev cut : ℕ → Option Clock → Option Clock
cut n e = cut_on (clock 100) (clock n) e

abbrev cuts : List (Row (Option Clock))
cuts =
    -- "at x with w < x": not on the start's clock, nor before it
    cut 102 None gives Some (clock 102)
    ∷ cut 101 None gives Some (clock 101)
    ∷ cut 100 None gives None
    ∷ cut 99 None gives None
    -- of two cuts after the start the earlier counts
    ∷ cut 103 (Some (clock 102)) gives Some (clock 102)
    ∷ cut 102 (Some (clock 102)) gives Some (clock 102)
    ∷ cut 102 (Some (clock 103)) gives Some (clock 102)
    ∷ cut 100 (Some (clock 103)) gives Some (clock 103)
    ∷ cut 99 (Some (clock 103)) gives Some (clock 103)
    -- a held cut on the start's clock or before it is none
    ∷ cut 103 (Some (clock 100)) gives Some (clock 103)
    ∷ cut 103 (Some (clock 99)) gives Some (clock 103)
    ∷ cut 101 (Some (clock 100)) gives Some (clock 101)
    ∷ []

-- ── Bursts ──

-- one with a value of its own in each part
abbrev odd : Option Clock → Burst
odd e = record { live = true; auto = true; bank = 3; row = 8191; column = 1029; start = clock 100; cut = e; word = 0x233 }

-- one of bank 2
abbrev second : Option Clock → Burst
second e = record { live = true; auto = false; bank = 2; row = 9; column = 0; start = clock 100; cut = e; word = 0x33 }

abbrev bursts : List (Row Burst)
bursts =
    no_burst
    gives record { live = false; auto = false; bank = 0; row = 0; column = 0; start = clock 0; cut = None; word = 0x30 }
    -- "A10 asks auto precharge"; "a burst keeps the mode of its registration"
    ∷ burst_at 0x233 (clock 100) 0xc05 1029 3 8191 gives odd None
    ∷ burst_at 0x30 (clock 7) 0x1bff 2047 2 5
    gives record { live = true; auto = false; bank = 2; row = 5; column = 2047; start = clock 7; cut = None; word = 0x30 }
    -- a cut changes nothing else; no command, no cut
    ∷ cut_if true (clock 102) (odd None) gives odd (Some (clock 102))
    ∷ cut_if false (clock 102) (odd None) gives odd None
    ∷ cut_if false (clock 102) (odd (Some (clock 103))) gives odd (Some (clock 103))
    -- what is no burst is not cut, nor is its old cut moved
    ∷ cut_if true (clock 102) (dead (odd None)) gives dead (odd None)
    ∷ cut_if true (clock 102) (dead (odd (Some (clock 104)))) gives dead (odd (Some (clock 104)))
    ∷ cut_by Precharge 1024 0 (clock 102) (dead (odd None)) gives dead (odd None)
    -- PRECHARGE of its bank, 3, of another, of all; the other commands
    ∷ cut_by Precharge 0 3 (clock 102) (odd None) gives odd (Some (clock 102))
    ∷ cut_by Precharge 0 0 (clock 102) (odd None) gives odd None
    ∷ cut_by Precharge 1024 0 (clock 102) (odd None) gives odd (Some (clock 102))
    ∷ cut_by Read 0 0 (clock 102) (odd None) gives odd (Some (clock 102))
    ∷ cut_by Write 0 0 (clock 102) (odd None) gives odd (Some (clock 102))
    ∷ cut_by Terminate 0 0 (clock 102) (odd None) gives odd (Some (clock 102))
    ∷ cut_by Nop 0 3 (clock 102) (odd None) gives odd None
    ∷ cut_by Active 0 3 (clock 102) (odd None) gives odd None
    -- each of the four on the burst's clock, or before it
    ∷ cut_by Read 0 3 (clock 100) (odd None) gives odd None
    ∷ cut_by Write 0 3 (clock 100) (odd None) gives odd None
    ∷ cut_by Terminate 0 3 (clock 99) (odd None) gives odd None
    ∷ cut_by Precharge 0 3 (clock 99) (odd None) gives odd None
    -- the WRITE burst after a WRITE of bank 2, row 9; after a READ; after a PRECHARGE of bank 2, which is not the burst's; after a NOP
    ∷ write_after Write (rec 0 Write 0x405 0) (clock 102) 0x31 9 (odd None)
    gives record { live = true; auto = true; bank = 2; row = 9; column = 5; start = clock 102; cut = None; word = 0x31 }
    ∷ write_after Read (rec 0 Read 5 0) (clock 102) 0x31 9 (odd None) gives odd (Some (clock 102))
    ∷ write_after Precharge (rec 0 Precharge 0 0) (clock 102) 0x31 9 (odd None) gives odd None
    ∷ write_after Precharge (rec 0 Precharge 0 0) (clock 102) 0x31 9 (second None) gives second (Some (clock 102))
    ∷ write_after Precharge (rec 0 Precharge 1024 0) (clock 102) 0x31 9 (odd None) gives odd (Some (clock 102))
    ∷ write_after Nop (rec 0 Nop 0 0) (clock 102) 0x31 9 (odd None) gives odd None
    ∷ []

-- ── The READs after a command ──

-- the READ that a record for bank 2, row 9 registers on clock 110
abbrev new : Burst
new = record { live = true; auto = false; bank = 2; row = 9; column = 5; start = clock 110; cut = None; word = 0x31 }

abbrev reads_left : List (Row (List Burst))
reads_left =
    -- a command cuts each of them that it ends
    cut_each Terminate 0 2 (clock 102) (b100 ∷ b101 ∷ no_burst ∷ b103 ∷ [])
    gives (cut_at 102 b100 ∷ cut_at 102 b101 ∷ no_burst ∷ b103 ∷ [])
    ∷ cut_each Precharge 0 2 (clock 102) (b100 ∷ odd None ∷ []) gives (b100 ∷ odd None ∷ [])
    ∷ cut_each Precharge 0 3 (clock 102) (b100 ∷ odd None ∷ []) gives (b100 ∷ odd (Some (clock 102)) ∷ [])
    ∷ cut_each Precharge 1024 0 (clock 102) (b100 ∷ odd None ∷ []) gives (cut_at 102 b100 ∷ odd (Some (clock 102)) ∷ [])
    ∷ no_reads gives (no_burst ∷ no_burst ∷ no_burst ∷ no_burst ∷ [])
    -- "a WRITE at x with r < x": a READ before it, in any place; not one on its clock, nor ahead of it
    ∷ written_over (clock 102) (b101 ∷ b100 ∷ b100 ∷ b101 ∷ []) gives no_reads
    ∷ written_over (clock 102) (b102 ∷ b103 ∷ b101 ∷ b102 ∷ []) gives (b102 ∷ b103 ∷ no_burst ∷ b102 ∷ [])
    -- where all four have beats to come, "the one registered first makes room", whatever its place
    ∷ with_room (clock 110) (b103 ∷ b102 ∷ b101 ∷ b100 ∷ []) gives (b103 ∷ b102 ∷ b101 ∷ [])
    ∷ with_room (clock 110) (b100 ∷ b101 ∷ b102 ∷ b103 ∷ []) gives (b101 ∷ b102 ∷ b103 ∷ [])
    ∷ with_room (clock 110) (b101 ∷ b100 ∷ b103 ∷ b102 ∷ []) gives (b101 ∷ b103 ∷ b102 ∷ [])
    ∷ with_room (clock 110) (b102 ∷ b103 ∷ b100 ∷ b101 ∷ []) gives (b102 ∷ b103 ∷ b101 ∷ [])
    ∷ with_room (clock 110) (b101 ∷ b103 ∷ b100 ∷ b102 ∷ []) gives (b101 ∷ b103 ∷ b102 ∷ [])
    -- one with none to come makes room before them, though it was registered last; empty places too
    ∷ with_room (clock 110) (over ∷ b102 ∷ b101 ∷ b100 ∷ []) gives (b102 ∷ b101 ∷ b100 ∷ [])
    ∷ with_room (clock 110) (b102 ∷ over ∷ b101 ∷ b100 ∷ []) gives (b102 ∷ b101 ∷ b100 ∷ [])
    ∷ with_room (clock 110) (b100 ∷ b101 ∷ over ∷ b102 ∷ []) gives (b100 ∷ b101 ∷ b102 ∷ [])
    ∷ with_room (clock 110) (b100 ∷ b101 ∷ b102 ∷ over ∷ []) gives (b100 ∷ b101 ∷ b102 ∷ [])
    ∷ with_room (clock 110) (no_burst ∷ b102 ∷ b101 ∷ b100 ∷ []) gives (b102 ∷ b101 ∷ b100 ∷ [])
    ∷ with_room (clock 110) (b103 ∷ dead b102 ∷ b101 ∷ b100 ∷ []) gives (b103 ∷ b101 ∷ b100 ∷ [])
    -- b100 has its last beat on 110, and none to come on 111
    ∷ with_room (clock 111) (b103 ∷ b102 ∷ b101 ∷ b100 ∷ []) gives (b103 ∷ b102 ∷ b101 ∷ [])
    ∷ with_room (clock 111) (b100 ∷ b103 ∷ over ∷ b101 ∷ []) gives (b100 ∷ b103 ∷ b101 ∷ [])
    ∷ with_room (clock 110) (b100 ∷ b103 ∷ over ∷ b101 ∷ []) gives (b100 ∷ b103 ∷ b101 ∷ [])
    -- where several might, the last
    ∷ with_room (clock 110) (no_burst ∷ b101 ∷ over ∷ b100 ∷ []) gives (no_burst ∷ b101 ∷ b100 ∷ [])
    ∷ with_room (clock 110) (no_burst ∷ over ∷ b100 ∷ b101 ∷ []) gives (no_burst ∷ b100 ∷ b101 ∷ [])
    ∷ with_room (clock 110) (b100 ∷ eight 100 40 ∷ b101 ∷ b102 ∷ []) gives (b100 ∷ b101 ∷ b102 ∷ [])
    ∷ with_room (clock 110) no_reads gives (no_burst ∷ no_burst ∷ no_burst ∷ [])
    -- the new READ comes first and cuts the others; a WRITE takes a place of its own; NOP leaves them, BURST TERMINATE cuts them
    ∷ reads_from Read 0 2 (clock 110) new (b103 ∷ over ∷ b101 ∷ b100 ∷ [])
    gives (new ∷ cut_at 110 b103 ∷ cut_at 110 b101 ∷ cut_at 110 b100 ∷ [])
    ∷ reads_from Write 0 2 (clock 103) new (b103 ∷ b102 ∷ b101 ∷ b100 ∷ []) gives (b103 ∷ no_burst ∷ no_burst ∷ no_burst ∷ [])
    ∷ reads_from Nop 0 2 (clock 110) new (b103 ∷ over ∷ b101 ∷ b100 ∷ []) gives (b103 ∷ over ∷ b101 ∷ b100 ∷ [])
    ∷ reads_from Terminate 0 2 (clock 110) new (b103 ∷ over ∷ b101 ∷ b100 ∷ [])
    gives (cut_at 110 b103 ∷ cut_at 110 over ∷ cut_at 110 b101 ∷ cut_at 110 b100 ∷ [])
    -- a PRECHARGE of bank 2, and of all
    ∷ reads_after Precharge (rec 0 Precharge 0 0) (clock 102) 0x31 9 (b100 ∷ second None ∷ [])
    gives (b100 ∷ second (Some (clock 102)) ∷ [])
    ∷ reads_after Precharge (rec 0 Precharge 1024 0) (clock 102) 0x31 9 (b100 ∷ second None ∷ [])
    gives (cut_at 102 b100 ∷ second (Some (clock 102)) ∷ [])
    -- a READ with auto precharge
    ∷ reads_after Read (rec 0 Read 0x405 0) (clock 110) 0x31 9 []
    gives (record { live = true; auto = true; bank = 2; row = 9; column = 5; start = clock 110; cut = None; word = 0x31 } ∷ [])
    -- a READ cuts those before it: what they fetched is still to come, and they stay
    ∷ reads_after Read (rec 0 Read 5 0) (clock 110) 0x31 9 (b103 ∷ b102 ∷ no_burst ∷ b101 ∷ [])
    gives (new ∷ cut_at 110 b103 ∷ cut_at 110 b102 ∷ cut_at 110 b101 ∷ [])
    -- with CL 3, cut on 102, b100 has its last beat on 104; on 105 it makes room before later ones
    ∷ reads_after Read (rec 0 Read 5 0) (clock 110) 0x31 9 (cut_at 102 b100 ∷ b103 ∷ b102 ∷ b101 ∷ [])
    gives (new ∷ cut_at 110 b103 ∷ cut_at 110 b102 ∷ cut_at 110 b101 ∷ [])
    -- one whose start is ahead of it, or on its clock, is not cut
    ∷ reads_after Read (rec 0 Read 5 0) (clock 110) 0x31 9 (eight 110 0 ∷ eight 111 0 ∷ no_burst ∷ no_burst ∷ [])
    gives (new ∷ eight 110 0 ∷ eight 111 0 ∷ no_burst ∷ [])
    ∷ reads_after Write (rec 0 Write 5 0) (clock 110) 0x31 9 (eight 110 0 ∷ eight 111 0 ∷ b100 ∷ no_burst ∷ [])
    gives (eight 110 0 ∷ eight 111 0 ∷ no_burst ∷ no_burst ∷ [])
    ∷ []

abbrev buses : List (Row Bus)
buses =
    quiet_bus gives record { write = no_burst; reads = no_reads; masks = masks 255 255 255 }
    -- a READ of bank 2 after one skipped clock with masks 0F
    ∷ bus_after Read (rec 1 Read 5 0x0f) (clock 110) 0x31 9
    (record { write = odd None; reads = b103 ∷ over ∷ b101 ∷ b100 ∷ []; masks = masks 1 2 3 })
    gives record {
      write = odd (Some (clock 110));
      reads = new ∷ cut_at 110 b103 ∷ cut_at 110 b101 ∷ cut_at 110 b100 ∷ [];
      masks =
          masks 0x0f 255 1;
    }
    -- a WRITE on the next clock
    ∷ bus_after Write (rec 0 Write 5 0x0f) (clock 110) 0x31 9
    (record { write = odd None; reads = b103 ∷ over ∷ b101 ∷ b100 ∷ []; masks = masks 1 2 3 })
    gives record { write = new; reads = no_reads; masks = masks 0x0f 1 2 }
    -- a NOP after two skipped clocks
    ∷ bus_after Nop (rec 2 Nop 5 0x0f) (clock 110) 0x31 9
    (record { write = odd None; reads = b103 ∷ over ∷ b101 ∷ b100 ∷ []; masks = masks 1 2 3 })
    gives record { write = odd None; reads = b103 ∷ over ∷ b101 ∷ b100 ∷ []; masks = masks 0x0f 255 255 }
    ∷ []

-- ── Beats ──

-- the beat of READs on a clock, with all masks LOW
abbrev read_on : ℕ → List Burst → Beat
read_on n l = reads_beat l 0 (clock n)

-- a WRITE burst from column 0 and a READ with CL 3 from column 8, both on clock 100, where the last record stood on 102
abbrev both : Burst → Burst → ℕ → Beat
both w r n = beat_on (Some (clock 102)) (masks 0xf0 0x0e 0x0d) w (no_burst ∷ r ∷ []) 0x81 (clock n)

-- a beat with each of these masks
abbrev masked : (ℕ → Beat) → List ℕ → List Beat
masked f [] = []
masked f (m ∷ ms) = f m ∷ masked f ms

abbrev beats : List (Row (List Beat))
beats =
    -- "beat i on w + i"; P6, P7; full page "goes on without end": beats 2,048 and 5,000
    writes (from_100 0x32 6) 99 6 gives (Quiet ∷ W 6 255 ∷ W 7 255 ∷ W 4 255 ∷ W 5 255 ∷ Quiet ∷ [])
    ∷ writes (from_100 0x3b 13) 100 9 gives (Ws (13 ∷ 12 ∷ 15 ∷ 14 ∷ 9 ∷ 8 ∷ 11 ∷ 10 ∷ []) ++ silent)
    ∷ writes (from_100 0x30 6) 100 2 gives (W 6 255 ∷ Quiet ∷ [])
    ∷ writes (from_100 0x37 3070) 98 5 gives (Quiet ∷ Quiet ∷ W 2046 255 ∷ W 2047 255 ∷ W 0 255 ∷ [])
    ∷ writes (from_100 0x37 3070) 2147 3 gives Ws (2045 ∷ 2046 ∷ 2047 ∷ [])
    ∷ writes (from_100 0x37 3070) 5100 2 gives Ws (902 ∷ 903 ∷ [])
    -- "M9 = 1 makes writes single"
    ∷ writes (from_100 0x231 5) 100 2 gives (W 5 255 ∷ Quiet ∷ [])
    ∷ writes (from_100 0x233 5) 100 2 gives (W 5 255 ∷ Quiet ∷ [])
    ∷ writes (from_100 0x237 5) 100 2 gives (W 5 255 ∷ Quiet ∷ [])
    ∷ writes (from_100 0x237 5) 2148 1 gives silent
    -- "lost if .. stands at x with w < x <= w + i"; a cut on the start's clock or before it loses nothing
    ∷ writes (cut_at 102 (from_100 0x32 6)) 100 4 gives (W 6 255 ∷ W 7 255 ∷ Quiet ∷ Quiet ∷ [])
    ∷ writes (cut_at 101 (from_100 0x37 0)) 100 2 gives (W 0 255 ∷ Quiet ∷ [])
    ∷ writes (cut_at 100 (from_100 0x32 6)) 100 5 gives (Ws (6 ∷ 7 ∷ 4 ∷ 5 ∷ []) ++ silent)
    ∷ writes (cut_at 99 (from_100 0x32 6)) 100 5 gives (Ws (6 ∷ 7 ∷ 4 ∷ 5 ∷ []) ++ silent)
    ∷ writes (dead (from_100 0x32 6)) 100 1 gives silent
    ∷ writes (dead (from_100 0x37 6)) 100 1 gives silent
    -- "Lanes with DQMB LOW on that clock are stored"; "a beat with no lane stored is reported with lanes 00"
    ∷ masked (λ m. write_beat (from_100 0x32 6) m (clock 101)) (0xf0 ∷ 0x01 ∷ 0xff ∷ []) gives (W 7 0x0f ∷ W 7 0xfe ∷ W 7 0 ∷ [])
    -- the burst's own bank and row
    ∷ (write_beat (odd None) 0 (clock 100) ∷ [])
    gives (Stores (record { bank = 3; row = 8191; column = 1029; lanes = 255 }) ∷ [])
    ∷ (read_beat (odd None) 0 (clock 104) ∷ []) gives (Drives (record { bank = 3; row = 8191; column = 1030; lanes = 255 }) ∷ [])
    -- "beat i on r + CL + i"
    ∷ reads (from_100 0x3b 13) 102 10 gives (silent ++ Rs (13 ∷ 12 ∷ 15 ∷ 14 ∷ 9 ∷ 8 ∷ 11 ∷ 10 ∷ []) ++ silent)
    ∷ reads (from_100 0x22 0) 101 6 gives (silent ++ Rs (0 ∷ 1 ∷ 2 ∷ 3 ∷ []) ++ silent)
    ∷ reads (from_clock 0 0x32 0) 0 4 gives (Quiet ∷ Quiet ∷ Quiet ∷ R 0 255 ∷ [])
    ∷ reads (from_clock 0 0x22 0) 0 3 gives (Quiet ∷ Quiet ∷ R 0 255 ∷ [])
    ∷ reads (from_100 0x37 3070) 102 4 gives (silent ++ Rs (2046 ∷ 2047 ∷ 0 ∷ []))
    ∷ reads (from_100 0x37 3070) 2150 3 gives Rs (2045 ∷ 2046 ∷ 2047 ∷ [])
    ∷ reads (from_100 0x27 3070) 5102 2 gives Rs (902 ∷ 903 ∷ [])
    -- M9 leaves READs as long as they are
    ∷ reads (from_100 0x231 4) 103 3 gives (R 4 255 ∷ R 5 255 ∷ Quiet ∷ [])
    ∷ reads (from_100 0x237 5) 2151 2 gives Rs (5 ∷ 6 ∷ [])
    -- "lost if .. at x with r < x <= r + i": P10, "BURST TERMINATE at r + 2 leaves beats on r + 3 and r + 4"
    ∷ reads (cut_at 102 (from_100 0x32 0)) 102 4 gives (Quiet ∷ R 0 255 ∷ R 1 255 ∷ Quiet ∷ [])
    ∷ reads (cut_at 101 (from_100 0x22 0)) 101 3 gives (Quiet ∷ R 0 255 ∷ Quiet ∷ [])
    ∷ reads (cut_at 102 (from_100 0x37 0)) 103 3 gives (R 0 255 ∷ R 1 255 ∷ Quiet ∷ [])
    ∷ reads (cut_at 100 (from_100 0x32 0)) 103 5 gives (Rs (0 ∷ 1 ∷ 2 ∷ 3 ∷ []) ++ silent)
    ∷ reads (cut_at 99 (from_100 0x32 0)) 103 5 gives (Rs (0 ∷ 1 ∷ 2 ∷ 3 ∷ []) ++ silent)
    ∷ reads (dead (from_100 0x32 0)) 103 1 gives silent
    ∷ masked (λ m. read_beat (from_100 0x32 6) m (clock 104)) (0xf0 ∷ 0x01 ∷ 0xff ∷ []) gives (R 7 0x0f ∷ R 7 0xfe ∷ R 7 0 ∷ [])
    -- of two beats the first
    ∷ (or_else Quiet (R 2 2) ∷ or_else Quiet (W 1 1) ∷ or_else Quiet Quiet ∷ []) gives (R 2 2 ∷ W 1 1 ∷ Quiet ∷ [])
    ∷ (or_else (W 1 1) (R 2 2) ∷ or_else (W 1 1) Quiet ∷ []) gives (W 1 1 ∷ W 1 1 ∷ [])
    ∷ (or_else (R 2 2) (W 1 1) ∷ or_else (R 2 2) Quiet ∷ []) gives (R 2 2 ∷ R 2 2 ∷ [])
    -- two READs with a beat on one clock: the latest registered one's, whatever its place
    ∷ (read_on 105 (b100 ∷ b102 ∷ []) ∷ read_on 105 (b102 ∷ b100 ∷ []) ∷ []) gives Rs (16 ∷ 16 ∷ [])
    ∷ (read_on 106 (b102 ∷ b100 ∷ b103 ∷ b101 ∷ []) ∷ read_on 106 (b103 ∷ b102 ∷ b101 ∷ b100 ∷ []) ∷ read_on 106
    (b100 ∷ b101 ∷ b102 ∷ b103 ∷ []) ∷ [])
    gives Rs (24 ∷ 24 ∷ 24 ∷ [])
    -- a later one without a beat there does not count
    ∷ (read_on 104 (b100 ∷ b102 ∷ []) ∷ read_on 104 (b102 ∷ b100 ∷ []) ∷ read_on 105 (b100 ∷ dead b102 ∷ []) ∷ [])
    gives Rs (1 ∷ 1 ∷ 2 ∷ [])
    ∷ (read_on 106 (no_burst ∷ b100 ∷ no_burst ∷ over ∷ []) ∷ []) gives Rs (32 ∷ [])
    -- "of two registered on one clock the first"
    ∷ (read_on 103 (b100 ∷ eight 100 40 ∷ []) ∷ read_on 103 (eight 100 40 ∷ b100 ∷ []) ∷ read_on 105
    (b100 ∷ eight 102 40 ∷ b102 ∷ []) ∷ [])
    gives Rs (0 ∷ 40 ∷ 40 ∷ [])
    ∷ (reads_beat (b100 ∷ []) 0x0f (clock 103) ∷ reads_beat [] 0 (clock 103) ∷ reads_beat no_reads 0 (clock 103) ∷ [])
    gives (R 0 0xf0 ∷ Quiet ∷ Quiet ∷ [])
    -- the WRITE's beat before a READ's; a WRITE's masks are its clock's, a READ's two clocks old, here of 101
    ∷ (both (from_100 0x32 0) (from_100 0x32 8) 103 ∷ both (from_100 0x30 0) (from_100 0x32 8) 103 ∷ both no_burst no_burst 103
    ∷ [])
    gives (W 3 0x7e ∷ R 8 0xf1 ∷ Quiet ∷ [])
    ∷ (both no_burst (from_100 0x32 8) 104 ∷ both no_burst (from_100 0x32 8) 105 ∷ []) gives (R 9 0x0f ∷ R 10 0 ∷ [])
    ∷ []

-- each row gives what it should
pub cases_right :
    (found tests ≡ expected tests)
    × (found numbers ≡ expected numbers)
    × (found masks_left ≡ expected masks_left)
    × (found cuts ≡ expected cuts)
    × (found bursts ≡ expected bursts)
    × (found reads_left ≡ expected reads_left)
    × (found buses ≡ expected buses)
    × (found beats ≡ expected beats)
unfolding length_of beat_column has_beat write_beat read_beat finished masks_on masks_after reads_from bus_after beat_on bursts_finished driven bus_clear
cases_right = (refl, refl, refl, refl, refl, refl, refl, refl)
