-- How a table of facts is read: each row is a test of the definition, with the value that the paper gives. Definitions only.
use Rattle.std.specs.Prelude.{ℕ, Bool, true, false, ◌&&◌, List, [], ◌∷◌, eqb}

-- every row of a table is true
abbrev pub all_true : List Bool → Bool
all_true [] = true
all_true (row ∷ rows) = row && all_true rows

-- two lists are equal, number by number
abbrev pub same_numbers : List ℕ → List ℕ → Bool
same_numbers [] [] = true
same_numbers [] (y ∷ ys) = false
same_numbers (x ∷ xs) [] = false
same_numbers (x ∷ xs) (y ∷ ys) = eqb x y && same_numbers xs ys
