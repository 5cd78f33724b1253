-- Header, record and command bit by bit (01, Trace layout and Commands; 003 table 8), and what a record's bits are to each module
-- (02, K9). Assumes nothing.
use Rattle.std.specs.Prelude.{ℕ, zero, suc, ◌+◌, ◌-◌, ◌*◌, ◌^◌, ◌≡◌, refl, Bool, ◌&&◌, not, cond, List, [], ◌∷◌, ◌++◌, eqb, T, replicate, Option, None, Some}
use Rattle.units.specs.declared.Module.{Module}
use Rattle.units.specs.declared.Module.TheVariants.{Bench, Handheld}
use Rattle.units.specs.Facts.{all_true, same_numbers}
use Rattle.layout.specs.declared.Header.{Header}
use Rattle.layout.specs.declared.Record.{Record}
use Rattle.layout.specs.declared.Command.{Command}
use Rattle.layout.specs.declared.Command.TheVariants.{
  Inhibit,
  Nop,
  Active,
  Read,
  Write,
  Terminate,
  Precharge,
  Refresh,
  LoadMode,
}
use Rattle.layout.specs.Commands.{
  command_of,
  command,
  code_of,
  is,
  executable,
  looks_at_all,
  access,
  a10_of,
  a10,
  column_of,
  column_on,
  covers,
  precharge_all,
}
use Rattle.layout.specs.Bytes.{
  number_after,
  bits,
  word_at,
  has_pins,
  lane_masks,
  header_from,
  record_from,
  read_header,
  header_number,
  read_record,
  record_number,
  records_of,
}

-- ── The commands ──

abbrev commands : List ℕ → List Command
commands [] = []
commands (code ∷ more) = command_of code ∷ commands more

-- 003 table 8, CS# RAS# CAS# WE# from LLLL to LHHH: a code for each of eight commands
pub low_codes :
    commands (0 ∷ 1 ∷ 2 ∷ 3 ∷ 4 ∷ 5 ∷ 6 ∷ 7 ∷ [])
    ≡ (LoadMode ∷ Refresh ∷ Precharge ∷ Active ∷ Write ∷ Read ∷ Terminate ∷ Nop ∷ [])
low_codes = refl

-- with CS# HIGH each is COMMAND INHIBIT
pub high_codes : commands (8 ∷ 9 ∷ 10 ∷ 11 ∷ 12 ∷ 13 ∷ 14 ∷ 15 ∷ []) ≡ replicate 8 Inhibit
high_codes = refl

-- the nine commands in the order of 003 table 8 from LLLL on
abbrev nine : List Command
nine = LoadMode ∷ Refresh ∷ Precharge ∷ Active ∷ Write ∷ Read ∷ Terminate ∷ Nop ∷ Inhibit ∷ []

abbrev mark : Bool → ℕ
mark b = cond b 1 0

-- 1 for each command that f says yes to, else 0
abbrev marks : (Command → Bool) → List Command → List ℕ
marks f [] = []
marks f (k ∷ more) = mark (f k) ∷ marks f more

abbrev marks_by_nine : (Command → Bool) → List ℕ → Bool
marks_by_nine f expected = same_numbers (marks f nine) expected

abbrev codes : List Command → List ℕ
codes [] = []
codes (k ∷ more) = code_of k ∷ codes more

-- a record with this code, BA and address, all its other bits 1
abbrev of_pins : ℕ → ℕ → ℕ → Record
of_pins code ba addr =
    record {
      skipped = 2 ^ 24 - 1;
      cke = 1;
      code = code;
      ba = ba;
      addr = addr;
      column = 2047;
      masks = 255;
      zeros = 4095;
      dq = 2 ^ 64 - 1;
    }

abbrev pub command_facts : List Bool
command_facts =
    same_numbers (codes nine) (0 ∷ 1 ∷ 2 ∷ 3 ∷ 4 ∷ 5 ∷ 6 ∷ 7 ∷ 8 ∷ [])
    -- a record's command is that of its code
    ∷ is (command (of_pins 5 0 0)) Read
    ∷ is (command (of_pins 13 0 0)) Inhibit
    -- each command is itself and no other
    ∷ marks_by_nine (λ k. is k LoadMode) (1 ∷ 0 ∷ 0 ∷ 0 ∷ 0 ∷ 0 ∷ 0 ∷ 0 ∷ 0 ∷ [])
    ∷ marks_by_nine (λ k. is k Refresh) (0 ∷ 1 ∷ 0 ∷ 0 ∷ 0 ∷ 0 ∷ 0 ∷ 0 ∷ 0 ∷ [])
    ∷ marks_by_nine (λ k. is k Precharge) (0 ∷ 0 ∷ 1 ∷ 0 ∷ 0 ∷ 0 ∷ 0 ∷ 0 ∷ 0 ∷ [])
    ∷ marks_by_nine (λ k. is k Active) (0 ∷ 0 ∷ 0 ∷ 1 ∷ 0 ∷ 0 ∷ 0 ∷ 0 ∷ 0 ∷ [])
    ∷ marks_by_nine (λ k. is k Write) (0 ∷ 0 ∷ 0 ∷ 0 ∷ 1 ∷ 0 ∷ 0 ∷ 0 ∷ 0 ∷ [])
    ∷ marks_by_nine (λ k. is k Read) (0 ∷ 0 ∷ 0 ∷ 0 ∷ 0 ∷ 1 ∷ 0 ∷ 0 ∷ 0 ∷ [])
    ∷ marks_by_nine (λ k. is k Terminate) (0 ∷ 0 ∷ 0 ∷ 0 ∷ 0 ∷ 0 ∷ 1 ∷ 0 ∷ 0 ∷ [])
    ∷ marks_by_nine (λ k. is k Nop) (0 ∷ 0 ∷ 0 ∷ 0 ∷ 0 ∷ 0 ∷ 0 ∷ 1 ∷ 0 ∷ [])
    ∷ marks_by_nine (λ k. is k Inhibit) (0 ∷ 0 ∷ 0 ∷ 0 ∷ 0 ∷ 0 ∷ 0 ∷ 0 ∷ 1 ∷ [])
    -- "executable commands (all but those two)"
    ∷ marks_by_nine (λ k. executable k) (1 ∷ 1 ∷ 1 ∷ 1 ∷ 1 ∷ 1 ∷ 1 ∷ 0 ∷ 0 ∷ [])
    -- LOAD MODE, AUTO REFRESH and PRECHARGE
    ∷ marks_by_nine (λ k. looks_at_all k) (1 ∷ 1 ∷ 1 ∷ 0 ∷ 0 ∷ 0 ∷ 0 ∷ 0 ∷ 0 ∷ [])
    -- READ and WRITE
    ∷ marks_by_nine (λ k. access k) (0 ∷ 0 ∷ 0 ∷ 0 ∷ 1 ∷ 1 ∷ 0 ∷ 0 ∷ 0 ∷ [])
    -- "PRECHARGE, one bank or (A10 HIGH) each of the four": with A10 only PRECHARGE is PRECHARGE ALL, with all bits but A10 none is
    ∷ marks_by_nine (λ k. precharge_all k (of_pins 2 0 0x400)) (0 ∷ 0 ∷ 1 ∷ 0 ∷ 0 ∷ 0 ∷ 0 ∷ 0 ∷ 0 ∷ [])
    ∷ marks_by_nine (λ k. precharge_all k (of_pins 2 3 0x1fff)) (0 ∷ 0 ∷ 1 ∷ 0 ∷ 0 ∷ 0 ∷ 0 ∷ 0 ∷ 0 ∷ [])
    ∷ marks_by_nine (λ k. precharge_all k (of_pins 2 3 0x1bff)) (replicate 9 0)
    ∷ marks_by_nine (λ k. precharge_all k (of_pins 2 0 0)) (replicate 9 0)
    ∷ []

pub commands_right : T (all_true command_facts)
commands_right = tt

-- ── A10, column, and the banks that a PRECHARGE is for ──

-- f of each
abbrev each : (ℕ → ℕ) → List ℕ → List ℕ
each f [] = []
each f (n ∷ more) = f n ∷ each f more

-- an address with A0 alone, A1 alone, .., A12 alone
abbrev one_line : List ℕ
one_line = 0x1 ∷ 0x2 ∷ 0x4 ∷ 0x8 ∷ 0x10 ∷ 0x20 ∷ 0x40 ∷ 0x80 ∷ 0x100 ∷ 0x200 ∷ 0x400 ∷ 0x800 ∷ 0x1000 ∷ []

-- banks 0 to 3
abbrev four : List ℕ
four = 0 ∷ 1 ∷ 2 ∷ 3 ∷ []

-- the banks that a PRECHARGE with this address and BA is for: 1, else 0
abbrev covered : ℕ → ℕ → List ℕ
covered addr ba = each (λ i. mark (covers addr ba i)) four

abbrev pub address_facts : List Bool
address_facts =
    -- "A10 asks auto precharge": that line alone, and every other
    same_numbers (each (λ a. mark (a10_of a)) one_line) (0 ∷ 0 ∷ 0 ∷ 0 ∷ 0 ∷ 0 ∷ 0 ∷ 0 ∷ 0 ∷ 0 ∷ 1 ∷ 0 ∷ 0 ∷ [])
    ∷ same_numbers (each (λ a. mark (a10_of (0x1fff - a))) one_line) (1 ∷ 1 ∷ 1 ∷ 1 ∷ 1 ∷ 1 ∷ 1 ∷ 1 ∷ 1 ∷ 1 ∷ 0 ∷ 1 ∷ 1 ∷ [])
    ∷ a10 (of_pins 5 0 0x400)
    ∷ not (a10 (of_pins 5 0 0x1bff))
    -- "Column is A11 then A9 to A0; A12 is ignored": line by line, and each line alone LOW
    ∷ same_numbers (each column_of one_line) (1 ∷ 2 ∷ 4 ∷ 8 ∷ 16 ∷ 32 ∷ 64 ∷ 128 ∷ 256 ∷ 512 ∷ 0 ∷ 1_024 ∷ 0 ∷ [])
    ∷ same_numbers (each (λ a. column_of (0x1fff - a)) one_line)
    (2_046 ∷ 2_045 ∷ 2_043 ∷ 2_039 ∷ 2_031 ∷ 2_015 ∷ 1_983 ∷ 1_919 ∷ 1_791 ∷ 1_535 ∷ 2_047 ∷ 1_023 ∷ 2_047 ∷ [])
    ∷ same_numbers (each (λ a. column_on Bench a) one_line) (1 ∷ 2 ∷ 4 ∷ 8 ∷ 16 ∷ 32 ∷ 64 ∷ 128 ∷ 256 ∷ 512 ∷ 0 ∷ 1_024 ∷ 0 ∷ [])
    -- P7: column 2,046
    ∷ eqb (column_of 3_070) 2_046
    -- 02, K9: "A11, A9 and A8 of a column are ignored"
    ∷ same_numbers (each (λ a. column_on Handheld a) one_line) (1 ∷ 2 ∷ 4 ∷ 8 ∷ 16 ∷ 32 ∷ 64 ∷ 128 ∷ 0 ∷ 0 ∷ 0 ∷ 0 ∷ 0 ∷ [])
    -- "PRECHARGE, one bank": its own and no other, whatever the other address bits are
    ∷ same_numbers (covered 0 0) (1 ∷ 0 ∷ 0 ∷ 0 ∷ [])
    ∷ same_numbers (covered 0 1) (0 ∷ 1 ∷ 0 ∷ 0 ∷ [])
    ∷ same_numbers (covered 0 2) (0 ∷ 0 ∷ 1 ∷ 0 ∷ [])
    ∷ same_numbers (covered 0 3) (0 ∷ 0 ∷ 0 ∷ 1 ∷ [])
    ∷ same_numbers (covered 0x1bff 2) (0 ∷ 0 ∷ 1 ∷ 0 ∷ [])
    -- "or (A10 HIGH) each of the four", whatever BA is
    ∷ same_numbers (covered 0x400 0) (1 ∷ 1 ∷ 1 ∷ 1 ∷ [])
    ∷ same_numbers (covered 0x400 3) (1 ∷ 1 ∷ 1 ∷ 1 ∷ [])
    ∷ same_numbers (covered 0x1fff 1) (1 ∷ 1 ∷ 1 ∷ 1 ∷ [])
    ∷ []

pub addresses_right : T (all_true address_facts)
unfolding column_on
addresses_right = tt

-- ── Header and record by bit position ──

abbrev ones : ℕ
ones = 0xffffffffffffffff

-- what is left of each number
abbrev less : List ℕ → List ℕ → List ℕ
less [] l = []
less (n ∷ ns) [] = n ∷ ns
less (n ∷ ns) (m ∷ ms) = (n - m) ∷ less ns ms

-- these bits of two words are these fields, with every other bit 0 and with every other bit 1: `all` is what 128 bits of 1 read as
abbrev alone : (ℕ → ℕ → List ℕ) → List ℕ → ℕ → ℕ → List ℕ → Bool
alone read all first second fields =
    same_numbers (read first second) fields && same_numbers (read (ones - first) (ones - second)) (less all fields)

abbrev header_fields : Header → List ℕ
header_fields h = h.version ∷ h.period ∷ h.count ∷ h.grade ∷ h.bank ∷ h.row ∷ h.zeros ∷ []

abbrev in_header : ℕ → ℕ → List ℕ → Bool
in_header =
    alone (λ first second. header_fields (header_from first second))
    (255 ∷ 16_777_215 ∷ 65_535 ∷ 255 ∷ 3 ∷ 8_191 ∷ 144_115_188_075_855_871 ∷ [])

-- the first and the last bit of each field of "version 8 bits; clock period 24; record count 16; speed grade 8; watched bank 2;
-- watched row 13; zeros 57": version, period, count, grade, bank, row, zeros
abbrev pub header_bits : List Bool
header_bits =
    -- version
    in_header (2 ^ 63) 0 (128 ∷ 0 ∷ 0 ∷ 0 ∷ 0 ∷ 0 ∷ 0 ∷ [])
    ∷ in_header (2 ^ 56) 0 (1 ∷ 0 ∷ 0 ∷ 0 ∷ 0 ∷ 0 ∷ 0 ∷ [])
    -- period
    ∷ in_header (2 ^ 55) 0 (0 ∷ 8_388_608 ∷ 0 ∷ 0 ∷ 0 ∷ 0 ∷ 0 ∷ [])
    ∷ in_header (2 ^ 32) 0 (0 ∷ 1 ∷ 0 ∷ 0 ∷ 0 ∷ 0 ∷ 0 ∷ [])
    -- count
    ∷ in_header (2 ^ 31) 0 (0 ∷ 0 ∷ 32_768 ∷ 0 ∷ 0 ∷ 0 ∷ 0 ∷ [])
    ∷ in_header (2 ^ 16) 0 (0 ∷ 0 ∷ 1 ∷ 0 ∷ 0 ∷ 0 ∷ 0 ∷ [])
    -- grade
    ∷ in_header (2 ^ 15) 0 (0 ∷ 0 ∷ 0 ∷ 128 ∷ 0 ∷ 0 ∷ 0 ∷ [])
    ∷ in_header (2 ^ 8) 0 (0 ∷ 0 ∷ 0 ∷ 1 ∷ 0 ∷ 0 ∷ 0 ∷ [])
    -- bank
    ∷ in_header (2 ^ 7) 0 (0 ∷ 0 ∷ 0 ∷ 0 ∷ 2 ∷ 0 ∷ 0 ∷ [])
    ∷ in_header (2 ^ 6) 0 (0 ∷ 0 ∷ 0 ∷ 0 ∷ 1 ∷ 0 ∷ 0 ∷ [])
    -- row: its upper six bits end the first word, its lower seven begin the second
    ∷ in_header (2 ^ 5) 0 (0 ∷ 0 ∷ 0 ∷ 0 ∷ 0 ∷ 4_096 ∷ 0 ∷ [])
    ∷ in_header (2 ^ 0) 0 (0 ∷ 0 ∷ 0 ∷ 0 ∷ 0 ∷ 128 ∷ 0 ∷ [])
    ∷ in_header 0 (2 ^ 63) (0 ∷ 0 ∷ 0 ∷ 0 ∷ 0 ∷ 64 ∷ 0 ∷ [])
    ∷ in_header 0 (2 ^ 57) (0 ∷ 0 ∷ 0 ∷ 0 ∷ 0 ∷ 1 ∷ 0 ∷ [])
    -- zeros: both ends, and the ends of bytes between
    ∷ in_header 0 (2 ^ 56) (0 ∷ 0 ∷ 0 ∷ 0 ∷ 0 ∷ 0 ∷ 72_057_594_037_927_936 ∷ [])
    ∷ in_header 0 (2 ^ 55) (0 ∷ 0 ∷ 0 ∷ 0 ∷ 0 ∷ 0 ∷ 36_028_797_018_963_968 ∷ [])
    ∷ in_header 0 (2 ^ 49) (0 ∷ 0 ∷ 0 ∷ 0 ∷ 0 ∷ 0 ∷ 562_949_953_421_312 ∷ [])
    ∷ in_header 0 (2 ^ 48) (0 ∷ 0 ∷ 0 ∷ 0 ∷ 0 ∷ 0 ∷ 281_474_976_710_656 ∷ [])
    ∷ in_header 0 (2 ^ 8) (0 ∷ 0 ∷ 0 ∷ 0 ∷ 0 ∷ 0 ∷ 256 ∷ [])
    ∷ in_header 0 (2 ^ 7) (0 ∷ 0 ∷ 0 ∷ 0 ∷ 0 ∷ 0 ∷ 128 ∷ [])
    ∷ in_header 0 (2 ^ 1) (0 ∷ 0 ∷ 0 ∷ 0 ∷ 0 ∷ 0 ∷ 2 ∷ [])
    ∷ in_header 0 (2 ^ 0) (0 ∷ 0 ∷ 0 ∷ 0 ∷ 0 ∷ 0 ∷ 1 ∷ [])
    -- a header with every field different: 1, 7,500, 8, 2, bank 1, row 7 are the printed case's
    ∷ same_numbers (header_fields (header_from 0x01001d4c_00080240 0x0e00000000000000)) (1 ∷ 7_500 ∷ 8 ∷ 2 ∷ 1 ∷ 7 ∷ 0 ∷ [])
    ∷ []

pub headers_right : T (all_true header_bits)
unfolding header_from
headers_right = tt

abbrev record_fields : Record → List ℕ
record_fields r =
    r.skipped ∷ r.cke ∷ r.code ∷ r.ba ∷ r.addr ∷ r.column ∷ r.masks ∷ r.zeros ∷ r.dq ∷ []

abbrev in_record : ℕ → ℕ → List ℕ → Bool
in_record =
    alone (λ first second. record_fields (record_from Bench first second))
    (16_777_215 ∷ 1 ∷ 15 ∷ 3 ∷ 8_191 ∷ 2_047 ∷ 255 ∷ 4_095 ∷ ones ∷ [])

-- the first and the last bit of each field of "skipped clocks 24; CKE 1; CS#, RAS#, CAS#, WE# 4; BA 2; A12 to A0 13; DQMB7 to DQMB0 8;
-- zeros 12; DQ63 to DQ0 64": skipped, CKE, code, BA, address and its column, masks, zeros, DQ
abbrev pub record_bits : List Bool
record_bits =
    -- skipped
    in_record (2 ^ 63) 0 (8_388_608 ∷ 0 ∷ 0 ∷ 0 ∷ 0 ∷ 0 ∷ 0 ∷ 0 ∷ 0 ∷ [])
    ∷ in_record (2 ^ 40) 0 (1 ∷ 0 ∷ 0 ∷ 0 ∷ 0 ∷ 0 ∷ 0 ∷ 0 ∷ 0 ∷ [])
    -- CKE
    ∷ in_record (2 ^ 39) 0 (0 ∷ 1 ∷ 0 ∷ 0 ∷ 0 ∷ 0 ∷ 0 ∷ 0 ∷ 0 ∷ [])
    -- CS#, RAS#, CAS#, WE#
    ∷ in_record (2 ^ 38) 0 (0 ∷ 0 ∷ 8 ∷ 0 ∷ 0 ∷ 0 ∷ 0 ∷ 0 ∷ 0 ∷ [])
    ∷ in_record (2 ^ 37) 0 (0 ∷ 0 ∷ 4 ∷ 0 ∷ 0 ∷ 0 ∷ 0 ∷ 0 ∷ 0 ∷ [])
    ∷ in_record (2 ^ 36) 0 (0 ∷ 0 ∷ 2 ∷ 0 ∷ 0 ∷ 0 ∷ 0 ∷ 0 ∷ 0 ∷ [])
    ∷ in_record (2 ^ 35) 0 (0 ∷ 0 ∷ 1 ∷ 0 ∷ 0 ∷ 0 ∷ 0 ∷ 0 ∷ 0 ∷ [])
    -- BA
    ∷ in_record (2 ^ 34) 0 (0 ∷ 0 ∷ 0 ∷ 2 ∷ 0 ∷ 0 ∷ 0 ∷ 0 ∷ 0 ∷ [])
    ∷ in_record (2 ^ 33) 0 (0 ∷ 0 ∷ 0 ∷ 1 ∷ 0 ∷ 0 ∷ 0 ∷ 0 ∷ 0 ∷ [])
    -- address: A12, A11, A10, A9, A0
    ∷ in_record (2 ^ 32) 0 (0 ∷ 0 ∷ 0 ∷ 0 ∷ 4_096 ∷ 0 ∷ 0 ∷ 0 ∷ 0 ∷ [])
    ∷ in_record (2 ^ 31) 0 (0 ∷ 0 ∷ 0 ∷ 0 ∷ 2_048 ∷ 1_024 ∷ 0 ∷ 0 ∷ 0 ∷ [])
    ∷ in_record (2 ^ 30) 0 (0 ∷ 0 ∷ 0 ∷ 0 ∷ 1_024 ∷ 0 ∷ 0 ∷ 0 ∷ 0 ∷ [])
    ∷ in_record (2 ^ 29) 0 (0 ∷ 0 ∷ 0 ∷ 0 ∷ 512 ∷ 512 ∷ 0 ∷ 0 ∷ 0 ∷ [])
    ∷ in_record (2 ^ 20) 0 (0 ∷ 0 ∷ 0 ∷ 0 ∷ 1 ∷ 1 ∷ 0 ∷ 0 ∷ 0 ∷ [])
    -- masks: DQMB7, DQMB0
    ∷ in_record (2 ^ 19) 0 (0 ∷ 0 ∷ 0 ∷ 0 ∷ 0 ∷ 0 ∷ 128 ∷ 0 ∷ 0 ∷ [])
    ∷ in_record (2 ^ 12) 0 (0 ∷ 0 ∷ 0 ∷ 0 ∷ 0 ∷ 0 ∷ 1 ∷ 0 ∷ 0 ∷ [])
    -- zeros: each of the twelve
    ∷ in_record (2 ^ 11) 0 (0 ∷ 0 ∷ 0 ∷ 0 ∷ 0 ∷ 0 ∷ 0 ∷ 2_048 ∷ 0 ∷ [])
    ∷ in_record (2 ^ 10) 0 (0 ∷ 0 ∷ 0 ∷ 0 ∷ 0 ∷ 0 ∷ 0 ∷ 1_024 ∷ 0 ∷ [])
    ∷ in_record (2 ^ 9) 0 (0 ∷ 0 ∷ 0 ∷ 0 ∷ 0 ∷ 0 ∷ 0 ∷ 512 ∷ 0 ∷ [])
    ∷ in_record (2 ^ 8) 0 (0 ∷ 0 ∷ 0 ∷ 0 ∷ 0 ∷ 0 ∷ 0 ∷ 256 ∷ 0 ∷ [])
    ∷ in_record (2 ^ 7) 0 (0 ∷ 0 ∷ 0 ∷ 0 ∷ 0 ∷ 0 ∷ 0 ∷ 128 ∷ 0 ∷ [])
    ∷ in_record (2 ^ 6) 0 (0 ∷ 0 ∷ 0 ∷ 0 ∷ 0 ∷ 0 ∷ 0 ∷ 64 ∷ 0 ∷ [])
    ∷ in_record (2 ^ 5) 0 (0 ∷ 0 ∷ 0 ∷ 0 ∷ 0 ∷ 0 ∷ 0 ∷ 32 ∷ 0 ∷ [])
    ∷ in_record (2 ^ 4) 0 (0 ∷ 0 ∷ 0 ∷ 0 ∷ 0 ∷ 0 ∷ 0 ∷ 16 ∷ 0 ∷ [])
    ∷ in_record (2 ^ 3) 0 (0 ∷ 0 ∷ 0 ∷ 0 ∷ 0 ∷ 0 ∷ 0 ∷ 8 ∷ 0 ∷ [])
    ∷ in_record (2 ^ 2) 0 (0 ∷ 0 ∷ 0 ∷ 0 ∷ 0 ∷ 0 ∷ 0 ∷ 4 ∷ 0 ∷ [])
    ∷ in_record (2 ^ 1) 0 (0 ∷ 0 ∷ 0 ∷ 0 ∷ 0 ∷ 0 ∷ 0 ∷ 2 ∷ 0 ∷ [])
    ∷ in_record (2 ^ 0) 0 (0 ∷ 0 ∷ 0 ∷ 0 ∷ 0 ∷ 0 ∷ 0 ∷ 1 ∷ 0 ∷ [])
    -- DQ63, DQ32, DQ31, DQ0
    ∷ in_record 0 (2 ^ 63) (0 ∷ 0 ∷ 0 ∷ 0 ∷ 0 ∷ 0 ∷ 0 ∷ 0 ∷ 9_223_372_036_854_775_808 ∷ [])
    ∷ in_record 0 (2 ^ 32) (0 ∷ 0 ∷ 0 ∷ 0 ∷ 0 ∷ 0 ∷ 0 ∷ 0 ∷ 4_294_967_296 ∷ [])
    ∷ in_record 0 (2 ^ 31) (0 ∷ 0 ∷ 0 ∷ 0 ∷ 0 ∷ 0 ∷ 0 ∷ 0 ∷ 2_147_483_648 ∷ [])
    ∷ in_record 0 (2 ^ 0) (0 ∷ 0 ∷ 0 ∷ 0 ∷ 0 ∷ 0 ∷ 0 ∷ 0 ∷ 1 ∷ [])
    -- the handheld's record has its fields at the same places: A11 and A0, DQMB0
    ∷ same_numbers (record_fields (record_from Handheld (0x123456 * 2 ^ 40 + 1 * 2 ^ 39 + 5 * 2 ^ 35 + 2 * 2 ^ 33 + 0x801 * 2 ^ 20 + 0x01 * 2 ^ 12) 0xabcd))
    (0x123456 ∷ 1 ∷ 5 ∷ 2 ∷ 0x801 ∷ 1 ∷ 0xfd ∷ 0 ∷ 0xabcd ∷ [])
    ∷ []

pub records_right : T (all_true record_bits)
unfolding record_from has_pins lane_masks column_on
records_right = tt

-- ── Bytes ──

-- what bytes read as a header are, and as a record; none where they are too few
abbrev headed : Option Header → List ℕ
headed (Some h) = header_fields h
headed None = []

abbrev recorded : Option Record → List ℕ
recorded (Some r) = record_fields r
recorded None = []

abbrev all_fields : List Record → List ℕ
all_fields [] = []
all_fields (r ∷ rs) = record_fields r ++ all_fields rs

-- so many bytes from n on, each one more
abbrev rising : ℕ → ℕ → List ℕ
rising n zero = []
rising n (suc k) = n ∷ rising (n + 1) k

-- the record of bytes 01 to 10 hex: skipped 0x010203; 0x0405060708 is CKE 0, code 0, BA 2, address 0x050, masks 0x60, zeros 0x708
abbrev first_record : List ℕ
first_record = 0x010203 ∷ 0 ∷ 0 ∷ 2 ∷ 0x050 ∷ 0x050 ∷ 0x60 ∷ 0x708 ∷ 0x090a0b0c0d0e0f10 ∷ []

-- the record of bytes 11 to 20 hex: 0x1415161718 is CKE 0, code 2, BA 2, address 0x151, masks 0x61, zeros 0x718
abbrev second_record : List ℕ
second_record = 0x111213 ∷ 0 ∷ 2 ∷ 2 ∷ 0x151 ∷ 0x151 ∷ 0x61 ∷ 0x718 ∷ 0x191a1b1c1d1e1f20 ∷ []

-- the header of bytes 01 to 10 hex: 0x08 is bank 0 and the row's upper six bits, 8; 0x09 its lower seven, 4, and a zero bit
abbrev first_header : List ℕ
first_header = 0x01 ∷ 0x020304 ∷ 0x0506 ∷ 0x07 ∷ 0 ∷ 1_028 ∷ 0x010a0b0c0d0e0f10 ∷ []

abbrev pub byte_facts : List Bool
byte_facts =
    -- "most significant bit first"
    eqb (number_after 0 (0x12 ∷ 0x34 ∷ 0x56 ∷ [])) 0x123456
    ∷ eqb (number_after 0x12 (0x34 ∷ 0x56 ∷ [])) 0x123456
    ∷ eqb (number_after 0x12 []) 0x12
    -- eight bytes and no more, from the place on
    ∷ eqb (word_at (rising 1 16) 0) 0x0102030405060708
    ∷ eqb (word_at (rising 1 16) 8) 0x090a0b0c0d0e0f10
    ∷ eqb (word_at (rising 1 16) 1) 0x0203040506070809
    -- so many bits above the lowest so many
    ∷ eqb (bits 0xa5 0 4) 0x5
    ∷ eqb (bits 0xa5 4 4) 0xa
    ∷ eqb (bits 0xa5 5 2) 0x1
    -- "under 16 bytes" there is no header; bytes past it are not the header's
    ∷ same_numbers (headed (read_header [])) []
    ∷ same_numbers (headed (read_header (rising 1 15))) []
    ∷ same_numbers (headed (read_header (rising 1 16))) first_header
    ∷ same_numbers (headed (read_header (rising 1 17))) first_header
    ∷ same_numbers (headed (read_header (rising 1 32))) first_header
    -- "a record not 16 bytes long" is none
    ∷ same_numbers (recorded (read_record Bench [])) []
    ∷ same_numbers (recorded (read_record Bench (rising 1 15))) []
    ∷ same_numbers (recorded (read_record Bench (rising 1 16))) first_record
    ∷ same_numbers (recorded (read_record Bench (rising 1 17))) []
    ∷ same_numbers (recorded (read_record Bench (rising 1 32))) []
    ∷ same_numbers (recorded (read_record Handheld (rising 1 15))) []
    ∷ same_numbers (recorded (read_record Handheld (rising 1 17))) []
    -- "Record, 16 bytes": so many of them, in the order of their bytes
    ∷ same_numbers (all_fields (records_of Bench 0 (rising 1 32))) []
    ∷ same_numbers (all_fields (records_of Bench 1 (rising 1 32))) first_record
    ∷ same_numbers (all_fields (records_of Bench 2 (rising 1 32))) (first_record ++ second_record)
    ∷ same_numbers (all_fields (records_of Bench 2 (rising 1 48))) (first_record ++ second_record)
    ∷ []

pub bytes_right : T (all_true byte_facts)
unfolding column_on has_pins lane_masks header_from record_from read_header read_record records_of
bytes_right = tt

-- ── The pins of each module ──

-- a pin for each bit: the bench has A12, DQMB7 and DQ63; of the handheld "A12, DQMB7 to DQMB2 and DQ63 to DQ16 must be zero"
abbrev pub pin_facts : List Bool
pin_facts =
    has_pins Bench 0x1fff 0xff ones
    ∷ has_pins Handheld 0xfff 0x03 0xffff
    ∷ not (has_pins Handheld 0x1000 0 0)
    ∷ not (has_pins Handheld 0 0x04 0)
    ∷ not (has_pins Handheld 0 0x80 0)
    ∷ not (has_pins Handheld 0 0 0x10000)
    ∷ not (has_pins Handheld 0 0 (2 ^ 63))
    -- the masks of the handheld's absent lanes read HIGH, and a bit that is set there does not change that
    ∷ eqb (lane_masks Bench 0x5a) 0x5a
    ∷ eqb (lane_masks Handheld 0x00) 0xfc
    ∷ eqb (lane_masks Handheld 0x03) 0xff
    ∷ eqb (lane_masks Handheld 0x04) 0xfc
    ∷ []

pub pins_right : T (all_true pin_facts)
unfolding has_pins lane_masks
pins_right = tt

-- a record with this address, masks, zero bits and data
abbrev as_read : Module → ℕ → ℕ → ℕ → ℕ → Record
as_read m addr masks zeros dq = record_from m (addr * 2 ^ 20 + masks * 2 ^ 12 + zeros) dq

-- number 10 lets it pass, with this column and these masks
abbrev reads : Module → ℕ → ℕ → ℕ → ℕ → ℕ → Bool
reads m addr masks dq column read =
    let r = as_read m addr masks 0 dq in
    eqb r.zeros 0 && eqb r.column column && eqb r.masks read

-- a bit is set that must be 0, in a record with no other bit of address and data
abbrev set_in : Module → ℕ → ℕ → ℕ → ℕ → Bool
set_in m addr masks zeros dq =
    let r = as_read m addr masks zeros dq in
    not (eqb r.zeros 0) && eqb r.column 0 && eqb r.masks 255

abbrev pub cases : List Bool
cases =
    -- the bench has a pin for each bit; "Column is A11 then A9 to A0; A12 is ignored", and so is A10
    reads Bench 0x1fff 0xff 0xffffffffffffffff 2_047 0xff
    ∷ reads Bench 0 0 0 0 0
    ∷ reads Bench 0x800 0x01 0 1_024 0x01
    ∷ reads Bench 0x3ff 0x80 0 1_023 0x80
    ∷ reads Bench 0x1400 0xff 0 0 0xff
    ∷ set_in Bench 0 0xff 0x001 0
    ∷ set_in Bench 0 0xff 0x800 0
    -- the handheld has A11 to A0, DQMB1 and DQMB0, DQ15 to DQ0; the masks of its absent lanes read HIGH
    ∷ reads Handheld 0xfff 0x03 0xffff 255 0xff
    ∷ reads Handheld 0 0 0 0 0xfc
    ∷ reads Handheld 0 0x01 0 0 0xfd
    ∷ reads Handheld 0 0x02 0 0 0xfe
    -- "A11, A9 and A8 of a column are ignored"
    ∷ reads Handheld 0x0ff 0x03 0 255 0xff
    ∷ reads Handheld 0x100 0x03 0 0 0xff
    ∷ reads Handheld 0x200 0x03 0 0 0xff
    ∷ reads Handheld 0x800 0x03 0 0 0xff
    -- "A12, DQMB7 to DQMB2 and DQ63 to DQ16 must be zero"
    ∷ set_in Handheld 0x1000 0x03 0 0
    ∷ set_in Handheld 0 0x07 0 0
    ∷ set_in Handheld 0 0x0b 0 0
    ∷ set_in Handheld 0 0x13 0 0
    ∷ set_in Handheld 0 0x23 0 0
    ∷ set_in Handheld 0 0x43 0 0
    ∷ set_in Handheld 0 0x83 0 0
    ∷ set_in Handheld 0 0x03 0 0x10000
    ∷ set_in Handheld 0 0x03 0 0x8000000000000000
    ∷ set_in Handheld 0 0x03 0x001 0
    ∷ []

pub cases_right : T (all_true cases)
unfolding record_from has_pins lane_masks column_on
cases_right = tt

-- this paper's number of each answer: "under 16 bytes" and "a record not 16 bytes long" are 1
pub numbers_right :
    (header_number (read_header (replicate 15 0))
    ∷ header_number (read_header (replicate 16 0))
    ∷ record_number (read_record Bench (replicate 15 0))
    ∷ record_number (read_record Bench (replicate 16 0))
    ∷ record_number (read_record Bench (replicate 17 0))
    ∷ [])
    ≡ (1 ∷ 0 ∷ 1 ∷ 0 ∷ 1 ∷ [])
unfolding read_header read_record
numbers_right = refl
