-- What is printed, text by text: numbers, lanes, lines and the place in a lent buffer (01, The printed case). Assumes nothing.
use Rattle.std.specs.Prelude.{ℕ, ◌+◌, ◌*◌, ◌^◌, ◌≡◌, refl, List, [], ◌∷◌, ◌++◌, length, take, replicate}
use Prim.Native.Char.{code}
use Prim.Native.String.{String, [] as end, ◌∷◌ as ◌then◌}
use Rattle.lines.specs.Text.{
  newline,
  space,
  glyph,
  digits,
  decimal,
  hex,
  field,
  fields,
  beat_line,
  letter_of,
  beat_text,
  beat_lines,
  number_in,
  interval_in,
  record_in,
  ok,
  refused,
  ok_line,
  refused_line,
  last_line,
  report,
  too_long,
}
use Rattle.lines.specs.Printed.{three_lines}
use Rattle.lines.specs.Place.{Laid, laid, put, lay, Holds}

-- a text as bytes
abbrev pub text : String → List ℕ
text end = []
text (letter then more) = code letter ∷ text more

-- a table has in each row what the definition prints, and the text that it must be
abbrev Table : Type 0
Table = List (List ℕ × List ℕ)

abbrev prints : Table → List (List ℕ)
prints [] = []
prints ((bytes, expected) ∷ rows) = bytes ∷ prints rows

abbrev texts : Table → List (List ℕ)
texts [] = []
texts ((bytes, expected) ∷ rows) = expected ∷ texts rows

-- ── Numbers ──

-- "in decimal", with no zeros in front; "lanes as two hex digits, lane 7 the top bit"
abbrev numbers : Table
numbers =
    (glyph 0 ∷ glyph 1 ∷ glyph 2 ∷ glyph 3 ∷ glyph 4 ∷ glyph 5 ∷ glyph 6 ∷ glyph 7 ∷ [], text "01234567")
    ∷ (glyph 8 ∷ glyph 9 ∷ glyph 10 ∷ glyph 11 ∷ glyph 12 ∷ glyph 13 ∷ glyph 14 ∷ glyph 15 ∷ [], text "89abcdef")
    ∷ (decimal 0, text "0")
    ∷ (decimal 9, text "9")
    ∷ (decimal 10, text "10")
    ∷ (decimal 19, text "19")
    ∷ (decimal 20, text "20")
    ∷ (decimal 99, text "99")
    ∷ (decimal 100, text "100")
    ∷ (decimal 101, text "101")
    ∷ (decimal 13_360, text "13360")
    ∷ (decimal 65_535, text "65535")
    ∷ (decimal 1_000_000, text "1000000")
    -- 2^40, the last clock; the largest number of 64 bits, of 20 digits
    ∷ (decimal (2 ^ 40), text "1099511627776")
    ∷ (decimal 18_446_744_073_709_551_615, text "18446744073709551615")
    -- so many digits and no more
    ∷ (digits 0 7, [])
    ∷ (digits 3 1_234, text "234")
    ∷ (digits 4 1_234, text "1234")
    ∷ (hex 0x00, text "00")
    ∷ (hex 0x01, text "01")
    ∷ (hex 0x0f, text "0f")
    ∷ (hex 0x10, text "10")
    ∷ (hex 0x80, text "80")
    ∷ (hex 0x9a, text "9a")
    ∷ (hex 0xa0, text "a0")
    ∷ (hex 0xff, text "ff")
    ∷ (newline ∷ space ∷ [], text "\n ")
    ∷ (field 0, text " 0")
    ∷ (field 345, text " 345")
    ∷ (fields [], [])
    ∷ (fields (1 ∷ 20 ∷ 300 ∷ []), text " 1 20 300")
    ∷ []

pub numbers_right : prints numbers ≡ texts numbers
unfolding glyph digits fields
numbers_right = refl

-- ── A beat ──

-- a beat as the judge packs it: kind 1 a READ's, 2 a WRITE's
abbrev pub packed : ℕ → ℕ → ℕ → ℕ → ℕ → ℕ
packed kind bank row column lanes = kind * 2 ^ 48 + bank * 2 ^ 40 + row * 2 ^ 24 + column * 2 ^ 8 + lanes

-- "W or R, record, clock, bank, row, column in decimal, lanes as two hex digits"
abbrev beats : Table
beats =
    (letter_of 1 ∷ letter_of 2 ∷ [], text "RW")
    ∷ (beat_line 87 (5 ∷ 13_360 ∷ 1 ∷ 7 ∷ 5 ∷ []) 0xff, text "W 5 13360 1 7 5 ff\n")
    -- all numbers different, and each at its largest
    ∷ (beat_text 12 (packed 2 3 678 1_234 0x5e) 345, text "W 12 345 3 678 1234 5e\n")
    ∷ (beat_text 12 (packed 1 3 678 1_234 0x5e) 345, text "R 12 345 3 678 1234 5e\n")
    ∷ (beat_text 65_534 (packed 1 3 8_191 2_047 0xff) (2 ^ 40), text "R 65534 1099511627776 3 8191 2047 ff\n")
    -- "a beat with no lane stored or driven is reported with lanes 00"
    ∷ (beat_text 6 (packed 2 1 7 4 0x00) 13_361, text "W 6 13361 1 7 4 00\n")
    -- each field from its first bit to its last, beside neighbours of 0
    ∷ (beat_text 0 (2 ^ 48) 0, text "R 0 0 0 0 0 00\n")
    ∷ (beat_text 0 (2 ^ 49) 0, text "W 0 0 0 0 0 00\n")
    ∷ (beat_text 0 (2 ^ 48 + 2 ^ 0) 0, text "R 0 0 0 0 0 01\n")
    ∷ (beat_text 0 (2 ^ 48 + 2 ^ 7) 0, text "R 0 0 0 0 0 80\n")
    ∷ (beat_text 0 (2 ^ 48 + 2 ^ 8) 0, text "R 0 0 0 0 1 00\n")
    ∷ (beat_text 0 (2 ^ 48 + 2 ^ 23) 0, text "R 0 0 0 0 32768 00\n")
    ∷ (beat_text 0 (2 ^ 48 + 2 ^ 24) 0, text "R 0 0 0 1 0 00\n")
    ∷ (beat_text 0 (2 ^ 48 + 2 ^ 39) 0, text "R 0 0 0 32768 0 00\n")
    ∷ (beat_text 0 (2 ^ 48 + 2 ^ 40) 0, text "R 0 0 1 0 0 00\n")
    ∷ (beat_text 0 (2 ^ 48 + 2 ^ 47) 0, text "R 0 0 128 0 0 00\n")
    -- the kind has eight bits, and the bits above it are no part of a beat
    ∷ (beat_text 0 (2 ^ 55) 0, text "W 0 0 0 0 0 00\n")
    ∷ (beat_text 0 (2 ^ 48 + 2 ^ 56) 0, text "R 0 0 0 0 0 00\n")
    ∷ (beat_text 0 (2 ^ 48 + 2 ^ 63) 0, text "R 0 0 0 0 0 00\n")
    -- each field of 0 beside neighbours of 1s
    ∷ (beat_text 9 (packed 1 255 65_535 65_535 0) 8, text "R 9 8 255 65535 65535 00\n")
    ∷ (beat_text 9 (packed 1 255 65_535 0 255) 8, text "R 9 8 255 65535 0 ff\n")
    ∷ (beat_text 9 (packed 1 255 0 65_535 255) 8, text "R 9 8 255 0 65535 ff\n")
    ∷ (beat_text 9 (packed 1 0 65_535 65_535 255) 8, text "R 9 8 0 65535 65535 ff\n")
    -- kind 0 is no beat, whatever the other bits are
    ∷ (beat_text 5 0 13_360, [])
    ∷ (beat_text 5 (packed 0 255 65_535 65_535 255) 13_360, [])
    ∷ (beat_text 5 (2 ^ 56) 13_360, [])
    -- "one line per reported beat": a record without one prints nothing and counts all the same
    ∷ (beat_lines 0 [], [])
    ∷ (beat_lines 7 (packed 2 1 7 5 0xff ∷ 20 ∷ []), text "W 7 20 1 7 5 ff\n")
    ∷ (beat_lines 0 (0 ∷ 10 ∷ packed 2 1 7 5 0xff ∷ 11 ∷ 0 ∷ 12 ∷ 0 ∷ 13 ∷ packed 1 2 8 6 0x0f ∷ 14 ∷ 0 ∷ 15 ∷ []), text "W 1 11 1 7 5 ff\nR 4 14 2 8 6 0f\n")
    -- a word without its clock is no record's
    ∷ (beat_lines 0 (packed 2 1 7 5 0xff ∷ 11 ∷ packed 1 2 8 6 0x0f ∷ []), text "W 0 11 1 7 5 ff\n")
    ∷ []

pub beats_right : prints beats ≡ texts beats
unfolding glyph digits fields beat_line beat_text beat_lines
beats_right = refl

-- ── The last line ──

-- an answer as the judge packs it: record, number, interval
abbrev pub answers : ℕ → ℕ → ℕ → ℕ
answers k number interval = k * 2 ^ 16 + interval * 2 ^ 8 + number

-- the three parts of an answer
abbrev parts : ℕ → List ℕ
parts answer = record_in answer ∷ number_in answer ∷ interval_in answer ∷ []

abbrev last_lines : Table
last_lines =
    (ok, text "OK")
    ∷ (refused, text "REFUSED")
    ∷ (ok_line 8, text "OK 8\n")
    ∷ (refused_line (1 ∷ 16 ∷ 4 ∷ []), text "REFUSED 1 16 4\n")
    -- bits 0 to 7 the number, 8 to 15 the interval, 16 to 39 the record: each at its ends
    ∷ (parts (2 ^ 0), 0 ∷ 1 ∷ 0 ∷ [])
    ∷ (parts (2 ^ 7), 0 ∷ 128 ∷ 0 ∷ [])
    ∷ (parts (2 ^ 8), 0 ∷ 0 ∷ 1 ∷ [])
    ∷ (parts (2 ^ 15), 0 ∷ 0 ∷ 128 ∷ [])
    ∷ (parts (2 ^ 16), 1 ∷ 0 ∷ 0 ∷ [])
    ∷ (parts (2 ^ 39), 8_388_608 ∷ 0 ∷ 0 ∷ [])
    ∷ (parts (2 ^ 40), 0 ∷ 0 ∷ 0 ∷ [])
    ∷ (parts (0xffffffffffffffff), 16_777_215 ∷ 255 ∷ 255 ∷ [])
    -- "`OK` with the record count": none, as many as a trace can have
    ∷ (last_line (answers 0 0 0), text "OK 0\n")
    ∷ (last_line (answers 8 0 0), text "OK 8\n")
    ∷ (last_line (answers 4_095 0 0), text "OK 4095\n")
    ∷ (last_line (answers 65_535 0 0), text "OK 65535\n")
    -- "`REFUSED` with record, number, interval", in that order
    ∷ (last_line (answers 12 16 7), text "REFUSED 12 16 7\n")
    ∷ (last_line (answers 0 1 0), text "REFUSED 0 1 0\n")
    ∷ (last_line (answers 65_534 25 0), text "REFUSED 65534 25 0\n")
    ∷ (last_line (answers 0 16 8), text "REFUSED 0 16 8\n")
    -- bits above 39 are no part of it
    ∷ (last_line (answers 12 16 7 + 2 ^ 40), text "REFUSED 12 16 7\n")
    ∷ (last_line (answers 12 16 7 + 2 ^ 63), text "REFUSED 12 16 7\n")
    ∷ (last_line (answers 12 0 0 + 2 ^ 40), text "OK 12\n")
    -- "longer input prints `TOO LONG` alone"
    ∷ (too_long, text "TOO LONG\n")
    ∷ []

pub last_lines_right : prints last_lines ≡ texts last_lines
unfolding glyph digits fields ok_line refused_line last_line
last_lines_right = refl

-- ── A report ──

-- four records: none, a WRITE's beat, none, a READ's
abbrev four : List ℕ
four = 0 ∷ 10 ∷ packed 2 1 7 5 0xff ∷ 11 ∷ 0 ∷ 12 ∷ packed 1 2 8 6 0x0f ∷ 13 ∷ []

abbrev reports : Table
reports =
    -- the printed case in letters
    (three_lines, text "W 5 13360 1 7 5 ff\nW 6 13361 1 7 4 0f\nOK 8\n")
    ∷ (report four (answers 4 0 0), text "W 1 11 1 7 5 ff\nR 3 13 2 8 6 0f\nOK 4\n")
    -- only the beats of accepted records: of a refused record and those after it no word is read
    ∷ (report four (answers 3 16 4), text "W 1 11 1 7 5 ff\nREFUSED 3 16 4\n")
    ∷ (report four (answers 2 12 0), text "W 1 11 1 7 5 ff\nREFUSED 2 12 0\n")
    ∷ (report four (answers 1 11 0), text "REFUSED 1 11 0\n")
    ∷ (report four (answers 0 1 0), text "REFUSED 0 1 0\n")
    ∷ (report four (answers 0 0 0), text "OK 0\n")
    -- words past the count are not printed: 8,190 are lent
    ∷ (report (four ++ replicate 2 (packed 2 1 7 5 0xff)) (answers 4 0 0), text "W 1 11 1 7 5 ff\nR 3 13 2 8 6 0f\nOK 4\n")
    ∷ (report [] (answers 0 0 0), text "OK 0\n")
    ∷ []

pub reports_right : prints reports ≡ texts reports
unfolding glyph digits fields beat_line beat_text beat_lines ok_line refused_line last_line report
reports_right = refl

-- ── The place in a lent buffer ──

-- the place, then the buffer
abbrev whole : Laid → List ℕ
whole l = l.at ∷ l.buf

abbrev places : Table
places =
    -- a byte at the first place, at the last, and past the end, where nothing changes
    (whole (put 65 (laid (1 ∷ 2 ∷ 3 ∷ []) 0)), 1 ∷ 65 ∷ 2 ∷ 3 ∷ [])
    ∷ (whole (put 65 (laid (1 ∷ 2 ∷ 3 ∷ []) 2)), 3 ∷ 1 ∷ 2 ∷ 65 ∷ [])
    ∷ (whole (put 65 (laid (1 ∷ 2 ∷ 3 ∷ []) 3)), 3 ∷ 1 ∷ 2 ∷ 3 ∷ [])
    ∷ (whole (put 65 (laid (1 ∷ 2 ∷ 3 ∷ []) 4)), 4 ∷ 1 ∷ 2 ∷ 3 ∷ [])
    ∷ (whole (put 65 (laid [] 0)), 0 ∷ [])
    -- a text: none, one that fits, one that fits exactly, one that is longer than the buffer
    ∷ (whole (lay [] (laid (1 ∷ 2 ∷ 3 ∷ []) 1)), 1 ∷ 1 ∷ 2 ∷ 3 ∷ [])
    ∷ (whole (lay (65 ∷ 66 ∷ []) (laid (1 ∷ 2 ∷ 3 ∷ 4 ∷ []) 1)), 3 ∷ 1 ∷ 65 ∷ 66 ∷ 4 ∷ [])
    ∷ (whole (lay (65 ∷ 66 ∷ 67 ∷ []) (laid (1 ∷ 2 ∷ 3 ∷ []) 0)), 3 ∷ 65 ∷ 66 ∷ 67 ∷ [])
    ∷ (whole (lay (65 ∷ 66 ∷ 67 ∷ []) (laid (1 ∷ 2 ∷ []) 0)), 2 ∷ 65 ∷ 66 ∷ [])
    ∷ (whole (lay (65 ∷ 66 ∷ 67 ∷ []) (laid (1 ∷ 2 ∷ []) 1)), 2 ∷ 1 ∷ 65 ∷ [])
    ∷ []

pub places_right : prints places ≡ texts places
unfolding put lay
places_right = refl

-- a buffer that holds a text has all of it and nothing else, from the buffer's start
pub holds_all : (wanted buf : List ℕ) (bytes : ℕ) → Holds wanted buf bytes → bytes ≡ length wanted
holds_all wanted buf bytes h = h.all

pub holds_it : (wanted buf : List ℕ) (bytes : ℕ) → Holds wanted buf bytes → take bytes buf ≡ wanted
holds_it wanted buf bytes h = h.held

pub holds_ok : Holds (text "OK") (79 ∷ 75 ∷ 0 ∷ []) 2
holds_ok = record { all = refl; held = refl }
