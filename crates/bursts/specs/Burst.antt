-- One burst: its registration, what cuts it, and its beats (01, Beats). Definitions only.
use Rattle.std.specs.Prelude.{ℕ, ◌+◌, ◌-◌, max, Bool, true, false, not, ◌&&◌, ◌||◌, cond, leb, ltb, Option, None, Some}
use Rattle.units.specs.declared.Clock.{Clock}
use Rattle.units.specs.Time.{clock}
use Rattle.layout.specs.declared.Command.{Command}
use Rattle.layout.specs.declared.Command.TheVariants.{Terminate, Precharge}
use Rattle.layout.specs.Commands.{is, access, a10_of, covers}
use Rattle.mode.specs.Word.{full_page, length_of, latency, write_length, write_endless}
use Rattle.mode.specs.Order.{beat_column}
use Rattle.bursts.specs.declared.Burst.{Burst}
use Rattle.bursts.specs.declared.Cells.{Cells}
use Rattle.bursts.specs.declared.Beat.{Beat}
use Rattle.bursts.specs.declared.Beat.TheVariants.{Quiet, Stores, Drives}

-- ── Registration ──

-- no burst; its mode word is a legal one, as every mode word that a state holds must be
abbrev pub no_burst : Burst
no_burst =
    record { live = false; auto = false; bank = 0; row = 0; column = 0; start = clock 0; cut = None; word = 0x30 }

-- a READ or WRITE of bank `ba`, row `row`, registered on clock n: "a burst keeps the mode of its registration"
abbrev pub burst_at : ℕ → Clock → ℕ → ℕ → ℕ → ℕ → Burst
burst_at word n addr column ba row =
    record {
      live = true;
      auto = a10_of addr;
      bank = ba;
      row = row;
      column = column;
      start = n;
      cut = None;
      word = word;
    }

-- ── What cuts a burst ──

-- "READ, WRITE, BURST TERMINATE, or PRECHARGE of its bank", i
abbrev pub ends : Command → ℕ → ℕ → ℕ → Bool
ends k addr ba i = access k || is k Terminate || (is k Precharge && covers addr ba i)

-- the beat on clock n, w + i, is not "lost if .. stands at x with w < x <= w + i"; w is `start`, and a command that ended the burst
-- stood on x, or none has
abbrev pub before_cut : Clock → Clock → Option Clock → Bool
before_cut start n None = true
before_cut start n (Some x) = not (ltb start.0 x.0 && leb x.0 n.0)

-- the cut of a burst that a command ends on clock n: the burst's own where that is as early, and where n is not after the start
abbrev pub cut_on : Clock → Clock → Option Clock → Option Clock
cut_on start n cut = cond (ltb start.0 n.0 && before_cut start n cut) (Some n) cut

-- a burst, cut on clock n where f asks it and there is one
abbrev pub cut_if : Bool → Clock → Burst → Burst
cut_if f n b =
    record {
      live = b.live;
      auto = b.auto;
      bank = b.bank;
      row = b.row;
      column = b.column;
      start = b.start;
      cut = cond (f && b.live) (cut_on b.start n b.cut) b.cut;
      word = b.word;
    }

-- a burst as this command on clock n leaves it
abbrev pub cut_by : Command → ℕ → ℕ → Clock → Burst → Burst
cut_by k addr ba n b = cut_if (ends k addr ba b.bank) n b

-- ── Beats ──

-- the burst has begun by clock n, and is not lost by then
abbrev pub in_time : Burst → Clock → Bool
in_time b n = b.live && leb b.start.0 n.0 && before_cut b.start n b.cut

-- beat i = n - start is one of the burst's, and is not lost
unfoldable pub has_beat : Burst → ℕ → Bool → Clock → Bool
has_beat b length endless n = in_time b n && (endless || ltb n.0 (b.start.0 + length))

-- "Lanes with DQMB LOW"
abbrev pub lanes_low : ℕ → ℕ
lanes_low masks = 255 - masks

-- beat i of a burst from this bank, row and column, in mode `word`, on these lanes
abbrev pub cells_at : ℕ → ℕ → ℕ → ℕ → ℕ → ℕ → Cells
cells_at bank row word column i masks =
    record { bank = bank; row = row; column = beat_column word column i; lanes = lanes_low masks }

abbrev pub cells : Burst → ℕ → ℕ → Cells
cells b i masks = cells_at b.bank b.row b.word b.column i masks

-- "WRITE at w: beat i on w + i. Lanes with DQMB LOW on that clock are stored"
unfoldable pub write_beat : Burst → ℕ → Clock → Beat
write_beat b masks n =
    cond (has_beat b (write_length b.word) (write_endless b.word) n) (Stores (cells b (n.0 - b.start.0) masks)) Quiet

-- "READ at r: beat i on r + CL + i": on clock n runs the beat that was fetched CL clocks before
abbrev pub reads_on : Burst → Clock → Bool
reads_on b n =
    leb (latency b.word) n.0
    && has_beat b (length_of b.word) (full_page b.word) (clock (n.0 - latency b.word))

-- some beat is still to come, on clock n or later: they are fetched clock after clock, so the first one from CL before n on tells
abbrev pub to_come : Clock → Burst → Bool
to_come n b =
    has_beat b (length_of b.word) (full_page b.word) (clock (max b.start.0 (n.0 - latency b.word)))

-- the beat, with the masks of two clocks before
unfoldable pub read_beat : Burst → ℕ → Clock → Beat
read_beat b masks n = cond (reads_on b n) (Drives (cells b (n.0 - latency b.word - b.start.0) masks)) Quiet

-- ── Auto precharge ──

-- an auto precharge burst of that length is finished on clock n: "unfinished means a clock before r + length or w + length"
unfoldable pub finished : ℕ → Clock → Burst → Bool
finished length n b = not (b.live && b.auto) || leb (b.start.0 + length) n.0
