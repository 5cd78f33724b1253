-- What the program prints, as bytes (01, The printed case). Definitions only.
use Rattle.std.specs.Prelude.{ℕ, zero, suc, ◌+◌, ◌*◌, ◌/◌, ◌%◌, ◌^◌, cond, List, [], ◌∷◌, ◌++◌, ltb, eqb, take}

abbrev pub newline : ℕ
newline = 10

abbrev pub space : ℕ
space = 32

-- a digit below 16: `0` to `9`, then `a` to `f`
unfoldable pub glyph : ℕ → ℕ
glyph d = cond (ltb d 10) (48 + d) (87 + d)

-- the last k decimal digits of n, with no zeros in front
unfoldable pub digits : ℕ → ℕ → List ℕ
digits zero n = []
digits (suc k) n = cond (ltb n 10) (glyph n ∷ []) (digits k (n / 10) ++ (glyph (n % 10) ∷ []))

-- "in decimal"; a number of 64 bits has at most 20 digits
abbrev pub decimal : ℕ → List ℕ
decimal n = digits 20 n

-- "lanes as two hex digits, lane 7 the top bit"; lane i is bit i
abbrev pub hex : ℕ → List ℕ
hex lanes = glyph (lanes / 16) ∷ glyph (lanes % 16) ∷ []

abbrev pub field : ℕ → List ℕ
field n = space ∷ decimal n

-- numbers, a space before each
unfoldable pub fields : List ℕ → List ℕ
fields [] = []
fields (n ∷ more) = field n ++ fields more

-- "W or R, record, clock, bank, row, column in decimal, lanes"
unfoldable pub beat_line : ℕ → List ℕ → ℕ → List ℕ
beat_line letter numbers lanes = (letter ∷ []) ++ (fields numbers ++ ((space ∷ []) ++ (hex lanes ++ (newline ∷ []))))

-- `R` where a beat's kind is 1, else `W`
abbrev pub letter_of : ℕ → ℕ
letter_of kind = cond (eqb kind 1) 82 87

-- "one line per reported beat", from the two words that the judge writes of an accepted record; none where its kind is 0
unfoldable pub beat_text : ℕ → ℕ → ℕ → List ℕ
beat_text k word clock =
    cond (eqb (word / 2 ^ 48 % 2 ^ 8) 0) []
    (beat_line (letter_of (word / 2 ^ 48 % 2 ^ 8))
    (k ∷ clock ∷ (word / 2 ^ 40 % 2 ^ 8) ∷ (word / 2 ^ 24 % 2 ^ 16) ∷ (word / 2 ^ 8 % 2 ^ 16) ∷ [])
    (word % 2 ^ 8))

-- the lines of records k, k + 1, .., from their words
unfoldable pub beat_lines : ℕ → List ℕ → List ℕ
beat_lines k [] = []
beat_lines k (word ∷ []) = []
beat_lines k (word ∷ clock ∷ more) = beat_text k word clock ++ beat_lines (k + 1) more

abbrev pub number_in : ℕ → ℕ
number_in answer = answer % 2 ^ 8

abbrev pub interval_in : ℕ → ℕ
interval_in answer = answer / 2 ^ 8 % 2 ^ 8

abbrev pub record_in : ℕ → ℕ
record_in answer = answer / 2 ^ 16 % 2 ^ 24

-- `OK`
abbrev pub ok : List ℕ
ok = 79 ∷ 75 ∷ []

-- `REFUSED`
abbrev pub refused : List ℕ
refused = 82 ∷ 69 ∷ 70 ∷ 85 ∷ 83 ∷ 69 ∷ 68 ∷ []

-- "`OK` with the record count"
unfoldable pub ok_line : ℕ → List ℕ
ok_line count = ok ++ (field count ++ (newline ∷ []))

-- "or `REFUSED` with record, number, interval"
unfoldable pub refused_line : List ℕ → List ℕ
refused_line numbers = refused ++ (fields numbers ++ (newline ∷ []))

-- the last line, from the judge's answer
unfoldable pub last_line : ℕ → List ℕ
last_line answer =
    cond (eqb (number_in answer) 0) (ok_line (record_in answer))
    (refused_line (record_in answer ∷ number_in answer ∷ interval_in answer ∷ []))

-- the beat lines of the accepted records, then the last line
unfoldable pub report : List ℕ → ℕ → List ℕ
report words answer = beat_lines 0 (take (2 * record_in answer) words) ++ last_line answer

-- "longer input prints `TOO LONG` alone"
abbrev pub too_long : List ℕ
too_long = 84 ∷ 79 ∷ 79 ∷ 32 ∷ 76 ∷ 79 ∷ 78 ∷ 71 ∷ newline ∷ []
