-- The mode word, A12 to A0 of a LOAD MODE (01, Commands and what each must find). Definitions only.
use Rattle.std.specs.Prelude.{ℕ, ◌/◌, ◌%◌, Bool, not, ◌&&◌, ◌||◌, cond, [], ◌∷◌, ltb, eqb, get_or, Option, None, Some}
use Rattle.units.specs.declared.Module.{Module}
use Rattle.units.specs.Module.{bench_columns, has_full_page}
use Rattle.mode.specs.declared.Mode.{Mode}

-- M2 to M0: "7 means full page"
abbrev pub full_page : ℕ → Bool
full_page w = eqb (w % 8) 7

-- M2 to M0: "0, 1, 2, 3 mean 1, 2, 4, 8"; in full page, the row's columns
unfoldable pub length_of : ℕ → ℕ
length_of w = get_or (1 ∷ 2 ∷ 4 ∷ 8 ∷ []) (w % 8) bench_columns

-- M3
abbrev pub interleaved : ℕ → Bool
interleaved w = eqb (w / 8 % 2) 1

-- M6 to M4: the CAS latency, CL
abbrev pub latency : ℕ → ℕ
latency w = w / 16 % 8

-- "M9 = 1 makes writes single"
abbrev pub single : ℕ → Bool
single w = eqb (w / 512 % 2) 1

-- "full page, M3 = 0 only", and only of a module that has it. "CL 2 or 3. M7, M8, M10 to M12 zero"
abbrev pub well_formed : Module → ℕ → Bool
well_formed m w =
    (ltb (w % 8) 4 || (has_full_page m && full_page w && not (interleaved w)))
    && (eqb (latency w) 2 || eqb (latency w) 3)
    && eqb (w / 128 % 4) 0
    && eqb (w / 1024) 0

abbrev pub mode_of : ℕ → Mode
mode_of w =
    record {
      length = length_of w;
      fullpage = full_page w;
      interleaved = interleaved w;
      latency = latency w;
      single = single w;
    }

-- a mode word as what decoding it answers
abbrev pub decoded : Module → ℕ → Option Mode
decoded m w = cond (well_formed m w) (Some (mode_of w)) None

-- this paper's number of what decoding answers: "All else is 17"
abbrev pub decoded_number : Option Mode → ℕ
decoded_number (Some mode) = 0
decoded_number None = 17

-- a word that is not reserved
abbrev pub legal : Module → ℕ → Bool
legal m w = eqb (decoded_number (decoded m w)) 0

-- how long a WRITE's burst is
abbrev pub write_length : ℕ → ℕ
write_length w = cond (single w) 1 (length_of w)

-- a WRITE's burst that "goes on without end"
abbrev pub write_endless : ℕ → Bool
write_endless w = full_page w && not (single w)
