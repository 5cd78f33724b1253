-- Which burst runs on a clock, by looking back: READs and WRITEs, and what cuts them (01, Beats). Definitions only.
use Rattle.std.specs.Prelude.{ℕ, ◌+◌, ◌-◌, Bool, true, not, ◌&&◌, ◌||◌, cond, List, [], ◌∷◌, leb, ltb}
use Rattle.units.specs.declared.Clock.{Clock}
use Rattle.layout.specs.declared.Record.{Record}
use Rattle.layout.specs.declared.Command.{Command}
use Rattle.layout.specs.declared.Command.TheVariants.{Read, Write, Terminate}
use Rattle.layout.specs.Commands.{command, is, access}
use Rattle.mode.specs.Word.{full_page, length_of, latency, write_length, write_endless}
use Rattle.bursts.specs.declared.Cells.{Cells}
use Rattle.bursts.specs.declared.Beat.{Beat}
use Rattle.bursts.specs.declared.Beat.TheVariants.{Quiet, Stores, Drives}
use Rattle.bursts.specs.Burst.{cells_at}
use Rattle.rules.specs.Numbers.{◌⇒◌}
use Rattle.rules.specs.Rules.{asks_auto}
use Rattle.lookback.specs.Past.{clock_in, stands}
use Rattle.lookback.specs.StartUp.{mode_in}
use Rattle.lookback.specs.Banks.{precharges, row_in}

-- "READ"
abbrev pub reads : Record → Bool
reads r = is (command r) Read

-- "WRITE"
abbrev pub writes : Record → Bool
writes r = is (command r) Write

-- beat i of the burst that record r after these registers, on these lanes: "A burst keeps the mode of its registration"
abbrev pub cells_in : Record → List Record → ℕ → ℕ → Cells
cells_in r past i masks = cells_at r.ba (row_in r.ba past) (mode_in past) r.column i masks

-- ── WRITE ──

-- "READ, WRITE, BURST TERMINATE, or PRECHARGE of its bank", i
abbrev pub cuts_write : ℕ → Record → Bool
cuts_write i r = access (command r) || is (command r) Terminate || precharges i r

-- of all these records: the WRITE after `past` has beat i, not "lost if .. stands at x with w < x <= w + i"
abbrev pub write_has : List Record → Record → List Record → ℕ → Bool
write_has all write past i =
    let w = (clock_in past write).0 in
    (write_endless (mode_in past) || ltb i (write_length (mode_in past))) && not (stands (cuts_write write.ba) w (w + i) all)

-- the beat on clock n of the last WRITE that has one, with these masks: "WRITE at w: beat i on w + i"
unfoldable pub write_on : List Record → ℕ → Clock → List Record → Beat
write_on all masks n [] = Quiet
write_on all masks n (r ∷ past) =
    let i = n.0 - (clock_in past r).0 in
    cond (writes r && (leb (clock_in past r).0 n.0 && write_has all r past i)) (Stores (cells_in r past i masks))
    (write_on all masks n past)

-- ── READ ──

-- "READ, BURST TERMINATE, or PRECHARGE of its bank", i
abbrev pub cuts_read : ℕ → Record → Bool
cuts_read i r = reads r || is (command r) Terminate || precharges i r

-- of all these records: the READ after `past` has beat i, not "lost if .. stands at x with r < x <= r + i, or a WRITE at x with
-- r < x <= r + CL + i"
abbrev pub read_has : List Record → Record → List Record → ℕ → Bool
read_has all read past i =
    let r = (clock_in past read).0 in
    (full_page (mode_in past) || ltb i (length_of (mode_in past)))
    && (not (stands (cuts_read read.ba) r (r + i) all) && not (stands writes r (r + latency (mode_in past) + i) all))

-- the clock of its beat 0
abbrev pub read_first : Record → List Record → ℕ
read_first r past = (clock_in past r).0 + latency (mode_in past)

-- the beat on clock n of the last READ that has one, with these masks: "READ at r: beat i on r + CL + i"
unfoldable pub read_on : List Record → ℕ → Clock → List Record → Beat
read_on all masks n [] = Quiet
read_on all masks n (r ∷ past) =
    let i = n.0 - read_first r past in
    cond (reads r && (leb (read_first r past) n.0 && read_has all r past i)) (Drives (cells_in r past i masks))
    (read_on all masks n past)

-- ── Auto precharge ──

-- how long a READ's or WRITE's burst is
abbrev pub burst_length : Command → ℕ → ℕ
burst_length k word = cond (is k Write) (write_length word) (length_of word)

-- no auto precharge burst is unfinished on clock n: "Unfinished means a clock before r + length or w + length"
unfoldable pub finished_in : Clock → List Record → Bool
finished_in n [] = true
finished_in n (r ∷ past) =
    (asks_auto (command r) r ⇒ leb ((clock_in past r).0 + burst_length (command r) (mode_in past)) n.0) && finished_in n past
