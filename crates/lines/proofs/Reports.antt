-- The last line and the whole report, laid part by part. Assumes nothing.
use Prim.Native.Nat.{ℕ, zero, suc, ◌*◌, min}
use mathlib.Core.Path.{◌≡◌, ap}
use mathlib.Core.List.{List, [], ◌∷◌, ◌++◌}
use native.Mathlib.Nat.{zero-min, min-zero, suc-min-suc}
use lib.ListN.{length, take}
use Rattle.lines.specs.Text.{ok, refused, field, fields, ok_line, refused_line, beat_lines, record_in, last_line, report}
use Rattle.lines.specs.Place.{Laid, put, lay}
use Rattle.lines.proofs.Laying.{lay_append, lay_one}

-- a word, a text and a newline
three_parts : (word text : List ℕ) (l : Laid) → put 10 (lay text (lay word l)) ≡ lay (word ++ (text ++ (10 ∷ []))) l
three_parts word text l = rw (lay_append word (text ++ (10 ∷ [])) l, lay_append text (10 ∷ []) (lay word l), lay_one)

pub ok_parts : (count : ℕ) (l : Laid) → put 10 (lay (field count) (lay ok l)) ≡ lay (ok_line count) l
unfolding ok_line
ok_parts count l = three_parts ok (field count) l

pub refused_parts : (numbers : List ℕ) (l : Laid) → put 10 (lay (fields numbers) (lay refused l)) ≡ lay (refused_line numbers) l
unfolding refused_line
refused_parts numbers l = three_parts refused (fields numbers) l

-- taking more than there is takes all
take_min : (n : ℕ) (l : List ℕ) → take (min n (length l)) l ≡ take n l
take_min zero l = rw zero-min
take_min (suc n) [] = rw min-zero
take_min (suc n) (x ∷ l) = rw suc-min-suc (ap (λ (t : List ℕ). x ∷ t) (take_min n l))

pub report_parts : (words : List ℕ) (answer end : ℕ) (l : Laid) → end ≡ min (2 * record_in answer) (length words)
    → lay (last_line answer) (lay (beat_lines 0 (take end words)) l) ≡ lay (report words answer) l
unfolding report
report_parts words answer end l e =
    rw (e, take_min, lay_append (beat_lines 0 (take (2 * record_in answer) words)) (last_line answer) l)
