-- Traces as bytes, for the tables of facts: a header, records and what a judged trace shows (01, Trace layout). Definitions only.
use Rattle.std.specs.Prelude.{ℕ, zero, suc, ◌+◌, ◌*◌, ◌/◌, ◌%◌, ◌^◌, List, [], ◌∷◌, ◌++◌}
use Rattle.bursts.specs.declared.Cells.{Cells}
use Rattle.bursts.specs.declared.Beat.{Beat}
use Rattle.bursts.specs.declared.Beat.TheVariants.{Quiet, Stores, Drives}
use Rattle.rules.specs.Run.{Line}

-- ── Bytes ──

-- a number as so many bytes, most significant first
abbrev pub big : ℕ → ℕ → List ℕ
big zero n = []
big (suc k) n = big k (n / 256) ++ (n % 256 ∷ [])

-- "Header, 16 bytes: version 8 bits; clock period 24; record count 16; speed grade 8; watched bank 2; watched row 13; zeros 57"
abbrev pub header : ℕ → ℕ → ℕ → ℕ → ℕ → ℕ → ℕ → List ℕ
header version period count grade bank row zeros =
    big 1 version
    ++ big 3 period
    ++ big 2 count
    ++ big 1 grade
    ++ big 9 (bank * 2 ^ 70 + row * 2 ^ 57 + zeros)

-- "skipped clocks 24; CKE 1; CS#, RAS#, CAS#, WE# 4; BA 2; A12 to A0 13; DQMB7 to DQMB0 8; zeros 12; DQ63 to DQ0 64"
abbrev pub bits_of : ℕ → ℕ → ℕ → ℕ → ℕ → ℕ → ℕ → ℕ → List ℕ
bits_of skipped cke code ba addr masks zeros dq =
    big 3 skipped ++ big 5 (cke * 2 ^ 39 + code * 2 ^ 35 + ba * 2 ^ 33 + addr * 2 ^ 20 + masks * 2 ^ 12 + zeros) ++ big 8 dq

-- CKE HIGH and the zeros zero
abbrev pub pins : ℕ → ℕ → ℕ → ℕ → ℕ → ℕ → List ℕ
pins skipped code ba addr masks dq = bits_of skipped 1 code ba addr masks 0 dq

-- ── Records by their codes in 003 table 8, and the clocks skipped before them; "Masks not named are FF" ──

abbrev pub all_banks : ℕ → List ℕ
all_banks skipped = pins skipped 2 0 0x400 255 0

abbrev pub precharge : ℕ → ℕ → List ℕ
precharge skipped bank = pins skipped 2 bank 0 255 0

abbrev pub refresh : ℕ → List ℕ
refresh skipped = pins skipped 1 0 0 255 0

abbrev pub load : ℕ → ℕ → List ℕ
load skipped word = pins skipped 0 0 word 255 0

abbrev pub active : ℕ → ℕ → ℕ → List ℕ
active skipped bank row = pins skipped 3 bank row 255 0

abbrev pub read : ℕ → ℕ → ℕ → List ℕ
read skipped bank addr = pins skipped 5 bank addr 255 0

-- a WRITE and a NOP with these masks and this data
abbrev pub write : ℕ → ℕ → ℕ → ℕ → ℕ → List ℕ
write skipped bank addr masks dq = pins skipped 4 bank addr masks dq

abbrev pub nop : ℕ → ℕ → ℕ → List ℕ
nop skipped masks dq = pins skipped 7 0 0 masks dq

-- "13,334 PRECHARGE ALL; 2 AUTO REFRESH; 8 AUTO REFRESH; 8 LOAD MODE", on clock 13,355, with this mode word: four records
abbrev pub up : ℕ → List ℕ
up word = all_banks 13_334 ++ refresh 2 ++ refresh 8 ++ load 8 word

-- the same, and "1 ACTIVE bank 1 row 7", on clock 13,357: five records
abbrev pub up_active : ℕ → List ℕ
up_active word = up word ++ active 1 1 7

-- ── What a judged trace shows ──

-- kind (0 none, 1 a READ's, 2 a WRITE's), then bank, row, column and lanes
abbrev pub cells : ℕ → Cells → List ℕ
cells kind c = kind ∷ c.bank ∷ c.row ∷ c.column ∷ c.lanes ∷ []

abbrev pub of_beat : Beat → List ℕ
of_beat Quiet = 0 ∷ []
of_beat (Drives c) = cells 1 c
of_beat (Stores c) = cells 2 c

-- of each record that was taken: its clock, and the beat on it
abbrev pub of_lines : List Line → List ℕ
of_lines [] = []
of_lines (l ∷ ls) = (l.clock.0 ∷ of_beat l.beat) ++ of_lines ls
