-- The printed case's three lines (01, The printed case). Assumes nothing.
use Rattle.std.specs.Prelude.{ℕ, ◌+◌, ◌*◌, ◌^◌, ◌≡◌, refl, List, [], ◌∷◌, ◌++◌}
use Rattle.lines.specs.Text.{glyph, digits, fields, beat_line, beat_text, beat_lines, ok_line, last_line, report}

-- `W 5 13360 1 7 5 ff`
abbrev pub first : List ℕ
first =
    87 ∷ 32 ∷ 53 ∷ 32 ∷ 49 ∷ 51 ∷ 51 ∷ 54 ∷ 48 ∷ 32 ∷ 49 ∷ 32 ∷ 55 ∷ 32 ∷ 53 ∷ 32 ∷ 102 ∷ 102 ∷ 10 ∷ []

-- `W 6 13361 1 7 4 0f`
abbrev pub second : List ℕ
second =
    87 ∷ 32 ∷ 54 ∷ 32 ∷ 49 ∷ 51 ∷ 51 ∷ 54 ∷ 49 ∷ 32 ∷ 49 ∷ 32 ∷ 55 ∷ 32 ∷ 52 ∷ 32 ∷ 48 ∷ 102 ∷ 10 ∷ []

-- `OK 8`
abbrev pub third : List ℕ
third = 79 ∷ 75 ∷ 32 ∷ 56 ∷ 10 ∷ []

abbrev pub three_lines : List ℕ
three_lines = first ++ second ++ third

-- a WRITE's beat at bank 1, row 7, as the judge packs it
abbrev pub stores : ℕ → ℕ → ℕ
stores column lanes = 2 * 2 ^ 48 + 1 * 2 ^ 40 + 7 * 2 ^ 24 + column * 2 ^ 8 + lanes

-- two words for each of the eight records: beats on records 5 and 6
abbrev pub words : List ℕ
words =
    0 ∷ 13334 ∷ 0 ∷ 13337 ∷ 0 ∷ 13346 ∷ 0 ∷ 13355 ∷ 0 ∷ 13357
    ∷ stores 5 0xff ∷ 13360 ∷ stores 4 0x0f ∷ 13361 ∷ 0 ∷ 13363 ∷ []

-- THE PRINTED CASE: its two beats and its verdict, clean with 8 records, print as document 01's three lines
pub printed : report words (8 * 2 ^ 16) ≡ three_lines
unfolding glyph digits fields beat_line beat_text beat_lines ok_line last_line report
printed = refl
