-- Where a text fits, the buffer holds it and nothing is dropped; how long the texts are. Assumes nothing.
use Prim.Native.Nat.{ℕ, zero, suc, ◌+◌, ◌*◌, ◌/◌, ◌%◌, ◌^◌, ◌≤◌}
use mathlib.Core.Path.{◌≡◌, refl, ap, sym, ◌∙◌}
use mathlib.Core.Bool.{Bool, true, false, cond}
use mathlib.Core.List.{List, [], ◌∷◌, ◌++◌}
use native.Mathlib.Omega.{arith}
use native.Mathlib.Numerals.{add-one}
use borrow.Author.Tests.{lt-ltb}
use lib.Dec.{ltb, eqb}
use lib.ListN.{length, take, drop, set, length-set, length-append, length-take}
use lib.Seq.{sets, sets-eq, take_at}
use Rattle.lines.specs.Text.{glyph, digits, fields, beat_line, beat_text, beat_lines, ok_line, refused_line, record_in, number_in, interval_in, last_line, report}
use Rattle.lines.specs.Place.{Laid, laid, put, lay, Holds}

-- ── A text that fits ──

pub lay_fits : (text buf : List ℕ) (at : ℕ) → at + length text ≤ length buf → lay text (laid buf at) ≡ laid (sets buf at text) (at + length text)
unfolding lay put
lay_fits [] buf at h = let e : at + 0 ≡ at = omega arith in rw e
lay_fits (byte ∷ text) buf at h =
    let e : at + suc (length text) ≡ suc at + length text = omega arith in
    rw (lt-ltb at (length buf) (omega arith), lay_fits text (set buf at byte) (at + 1) (simp length-set (omega arith)), e, add-one)

pub laid_holds : (text buf after : List ℕ) (bytes : ℕ) → length text ≤ length buf → laid after bytes ≡ lay text (laid buf 0) → Holds text after bytes
laid_holds text buf after bytes h e =
    let f = e ∙ lay_fits text buf 0 (omega arith) in
    let n : bytes ≡ length text = ap (λ (l : Laid). l.at) f ∙ omega arith in
    let b : after ≡ sets buf 0 text = ap (λ (l : Laid). l.buf) f in
    record { all = n; held = rw (b, n, sets-eq text buf 0 (omega arith)) (take_at text (drop (0 + length text) buf) (length text) refl) }

module _ {text buf : List ℕ} {bytes : ℕ} (h : Holds text buf bytes) where
  pub held_count : bytes ≡ length (take bytes buf)
  held_count = h.all ∙ ap length (sym h.held)

  pub held_room : bytes ≤ length buf
  held_room = omega (arith, held_count, length-take bytes buf)

-- ── How long the texts are ──

either_length : (b : Bool) (x y : List ℕ) (most : ℕ) → length x ≤ most → length y ≤ most → length (cond b x y) ≤ most
either_length true x y most p q = p
either_length false x y most p q = q

digits_length : (k n : ℕ) → length (digits k n) ≤ k
unfolding digits
digits_length zero n = omega arith
digits_length (suc k) n =
    either_length (ltb n 10) (glyph n ∷ []) (digits k (n / 10) ++ (glyph (n % 10) ∷ [])) (suc k) (omega arith)
    (simp length-append (omega (arith, digits_length k (n / 10))))

fields_length : (numbers : List ℕ) → length (fields numbers) ≤ 21 * length numbers
unfolding fields
fields_length [] = omega arith
fields_length (n ∷ more) = simp length-append (omega (arith, digits_length 20 n, fields_length more))

beat_line_length : (letter : ℕ) (numbers : List ℕ) (lanes : ℕ) → length (beat_line letter numbers lanes) ≤ 21 * length numbers + 5
unfolding beat_line
beat_line_length letter numbers lanes = simp length-append (omega (arith, fields_length numbers))

beat_text_length : (k word clock : ℕ) → length (beat_text k word clock) ≤ 110
unfolding beat_text
beat_text_length k word clock = either_length (eqb (word / 2 ^ 48 % 2 ^ 8) 0) [] _ 110 (omega arith) (beat_line_length _ _ _)

beat_lines_length : (k : ℕ) (words : List ℕ) → length (beat_lines k words) ≤ 55 * length words
unfolding beat_lines
beat_lines_length k [] = omega arith
beat_lines_length k (word ∷ []) = omega arith
beat_lines_length k (word ∷ clock ∷ more) =
    simp length-append (omega (arith, beat_text_length k word clock, beat_lines_length (k + 1) more))

last_line_length : (answer : ℕ) → length (last_line answer) ≤ 71
unfolding last_line ok_line refused_line
last_line_length answer =
    let numbers = record_in answer ∷ number_in answer ∷ interval_in answer ∷ [] in
    either_length (eqb (number_in answer) 0) _ _ 71
    (simp length-append (omega (arith, digits_length 20 (record_in answer))))
    (simp length-append (omega (arith, fields_length numbers)))

pub report_length : (words : List ℕ) (answer : ℕ) → length (report words answer) ≤ 55 * length words + 71
unfolding report
report_length words answer =
    let most : length (take (2 * record_in answer) words) ≤ length words = simp length-take (omega arith) in
    simp length-append
    (omega (arith, beat_lines_length 0 (take (2 * record_in answer) words), last_line_length answer))
