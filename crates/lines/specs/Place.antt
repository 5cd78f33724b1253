-- Text in a lent buffer: the buffer, and the place where the next byte goes. Definitions only.
use Rattle.std.specs.Prelude.{ℕ, ◌+◌, ◌≡◌, cond, List, [], ◌∷◌, ltb, length, take, set}

pub record Laid : Type 0 where
  pub buf : List ℕ
  pub at : ℕ

abbrev pub laid : List ℕ → ℕ → Laid
laid buf at = record { buf = buf; at = at }

-- a byte at its place, and the place after it; where the place is past the end, nothing changes
unfoldable pub put : ℕ → Laid → Laid
put byte l = cond (ltb l.at (length l.buf)) (laid (set l.buf l.at byte) (l.at + 1)) l

-- each byte of a text in turn
unfoldable pub lay : List ℕ → Laid → Laid
lay [] l = l
lay (byte ∷ text) l = lay text (put byte l)

-- a buffer that holds a text from its start, of so many bytes
pub record Holds (text buf : List ℕ) (bytes : ℕ) : Type 0 where
  pub all : bytes ≡ length text
  pub held : take bytes buf ≡ text
