-- Header and record by bit position, most significant bit first (01, Trace layout). Definitions only.
use Rattle.std.specs.Prelude.{ℕ, zero, suc, ◌+◌, ◌-◌, ◌*◌, ◌/◌, ◌%◌, ◌^◌, Bool, ◌&&◌, cond, List, [], ◌∷◌, leb, ltb, eqb, length, take, drop, Option, None, Some}
use Rattle.units.specs.declared.Module.{Module}
use Rattle.units.specs.Module.{rows, lanes}
use Rattle.layout.specs.declared.Header.{Header}
use Rattle.layout.specs.declared.Record.{Record}
use Rattle.layout.specs.Commands.{column_on}

-- bytes as one number after a, most significant first
abbrev pub number_after : ℕ → List ℕ → ℕ
number_after a [] = a
number_after a (x ∷ xs) = number_after (a * 256 + x) xs

-- so many bits of a number, above its lowest `at`
abbrev pub bits : ℕ → ℕ → ℕ → ℕ
bits n at width = n / 2 ^ at % 2 ^ width

-- the 8 bytes from place i as one number of 64 bits
abbrev pub word_at : List ℕ → ℕ → ℕ
word_at bytes i = number_after 0 (take 8 (drop i bytes))

-- "Header, 16 bytes", as two words: version 8, period 24, count 16, grade 8, bank 2, row 13 (6 bits and 7), zeros 57
unfoldable pub header_from : ℕ → ℕ → Header
header_from first second =
    record {
      version = bits first 56 8;
      period = bits first 32 24;
      count = bits first 16 16;
      grade = bits first 8 8;
      bank = bits first 6 2;
      row = bits first 0 6 * 2 ^ 7 + bits second 57 7;
      zeros = bits second 0 57;
    }

abbrev pub header_of : List ℕ → Header
header_of bytes = header_from (word_at bytes 0) (word_at bytes 8)

-- the module has a pin for each bit that is set: of the handheld "A12, DQMB7 to DQMB2 and DQ63 to DQ16 must be zero"
unfoldable pub has_pins : Module → ℕ → ℕ → ℕ → Bool
has_pins m addr masks dq = ltb addr (rows m) && ltb masks (2 ^ lanes m) && ltb dq (256 ^ lanes m)

-- the masks, with those of absent lanes HIGH: a lane that the module does not have is masked on each clock
unfoldable pub lane_masks : Module → ℕ → ℕ
lane_masks m masks = masks % 2 ^ lanes m + (256 - 2 ^ lanes m)

-- "Record, 16 bytes", as two words: skipped 24, CKE 1, CS# RAS# CAS# WE# 4, BA 2, A12 to A0 13, DQMB7 to DQMB0 8, zeros 12; DQ63 to DQ0.
-- A bit that the module has no pin for counts as a zero bit.
unfoldable pub record_from : Module → ℕ → ℕ → Record
record_from m first second =
    record {
      skipped = bits first 40 24;
      cke = bits first 39 1;
      code = bits first 35 4;
      ba = bits first 33 2;
      addr = bits first 20 13;
      column = column_on m (bits first 20 13);
      masks = lane_masks m (bits first 12 8);
      zeros = bits first 0 12 + cond (has_pins m (bits first 20 13) (bits first 12 8) second) 0 1;
      dq = second;
    }

abbrev pub record_of : Module → List ℕ → Record
record_of m bytes = record_from m (word_at bytes 0) (word_at bytes 8)

-- a header's bytes: "under 16 bytes" there is none
unfoldable pub read_header : List ℕ → Option Header
read_header bytes = cond (leb 16 (length bytes)) (Some (header_of bytes)) None

-- this paper's number of what reading a header answers: "under 16 bytes" is 1
abbrev pub header_number : Option Header → ℕ
header_number (Some h) = 0
header_number None = 1

-- a record's bytes: "a record not 16 bytes long" is none
unfoldable pub read_record : Module → List ℕ → Option Record
read_record m bytes = cond (eqb (length bytes) 16) (Some (record_of m bytes)) None

-- this paper's number of what reading a record answers: "a record not 16 bytes long gives 1"
abbrev pub record_number : Option Record → ℕ
record_number (Some r) = 0
record_number None = 1

-- so many records, 16 bytes each
unfoldable pub records_of : Module → ℕ → List ℕ → List Record
records_of m zero bytes = []
records_of m (suc k) bytes = record_of m (take 16 bytes) ∷ records_of m k (drop 16 bytes)
