-- 003 table 6, P6 and P7 of document 01 by columns alone; the mode word field by field, and how many words are legal. Assumes nothing.
use Rattle.mode.specs.declared.Mode.{Mode}
use Rattle.std.specs.Prelude.{ℕ, zero, suc, ◌+◌, ◌*◌, ◌≡◌, refl, Bool, not, cond, List, [], ◌∷◌, ◌++◌, eqb, T, Option, None, Some}
use Rattle.units.specs.declared.Module.{Module}
use Rattle.units.specs.declared.Module.TheVariants.{Bench, Handheld}
use Rattle.units.specs.Facts.{all_true, same_numbers}
use Rattle.mode.specs.Word.{
  full_page,
  length_of,
  interleaved,
  latency,
  single,
  legal,
  decoded,
  decoded_number,
  write_length,
  write_endless,
}
use Rattle.mode.specs.Order.{in_block, beat_column}

-- ── The order inside a burst ──

-- the columns of so many beats from beat i on
abbrev columns_from : ℕ → ℕ → ℕ → ℕ → List ℕ
columns_from w c i zero = []
columns_from w c i (suc k) = beat_column w c i ∷ columns_from w c (suc i) k

-- 003 table 6 as printed, with length 1 by its note 7. For each length and starting column: Type = Sequential, Type = Interleaved
abbrev table_6 : List (List ℕ × List ℕ)
table_6 =
    (0 ∷ [], 0 ∷ [])
    ∷ (0 ∷ 1 ∷ [], 0 ∷ 1 ∷ [])
    ∷ (1 ∷ 0 ∷ [], 1 ∷ 0 ∷ [])
    ∷ (0 ∷ 1 ∷ 2 ∷ 3 ∷ [], 0 ∷ 1 ∷ 2 ∷ 3 ∷ [])
    ∷ (1 ∷ 2 ∷ 3 ∷ 0 ∷ [], 1 ∷ 0 ∷ 3 ∷ 2 ∷ [])
    ∷ (2 ∷ 3 ∷ 0 ∷ 1 ∷ [], 2 ∷ 3 ∷ 0 ∷ 1 ∷ [])
    ∷ (3 ∷ 0 ∷ 1 ∷ 2 ∷ [], 3 ∷ 2 ∷ 1 ∷ 0 ∷ [])
    ∷ (0 ∷ 1 ∷ 2 ∷ 3 ∷ 4 ∷ 5 ∷ 6 ∷ 7 ∷ [], 0 ∷ 1 ∷ 2 ∷ 3 ∷ 4 ∷ 5 ∷ 6 ∷ 7 ∷ [])
    ∷ (1 ∷ 2 ∷ 3 ∷ 4 ∷ 5 ∷ 6 ∷ 7 ∷ 0 ∷ [], 1 ∷ 0 ∷ 3 ∷ 2 ∷ 5 ∷ 4 ∷ 7 ∷ 6 ∷ [])
    ∷ (2 ∷ 3 ∷ 4 ∷ 5 ∷ 6 ∷ 7 ∷ 0 ∷ 1 ∷ [], 2 ∷ 3 ∷ 0 ∷ 1 ∷ 6 ∷ 7 ∷ 4 ∷ 5 ∷ [])
    ∷ (3 ∷ 4 ∷ 5 ∷ 6 ∷ 7 ∷ 0 ∷ 1 ∷ 2 ∷ [], 3 ∷ 2 ∷ 1 ∷ 0 ∷ 7 ∷ 6 ∷ 5 ∷ 4 ∷ [])
    ∷ (4 ∷ 5 ∷ 6 ∷ 7 ∷ 0 ∷ 1 ∷ 2 ∷ 3 ∷ [], 4 ∷ 5 ∷ 6 ∷ 7 ∷ 0 ∷ 1 ∷ 2 ∷ 3 ∷ [])
    ∷ (5 ∷ 6 ∷ 7 ∷ 0 ∷ 1 ∷ 2 ∷ 3 ∷ 4 ∷ [], 5 ∷ 4 ∷ 7 ∷ 6 ∷ 1 ∷ 0 ∷ 3 ∷ 2 ∷ [])
    ∷ (6 ∷ 7 ∷ 0 ∷ 1 ∷ 2 ∷ 3 ∷ 4 ∷ 5 ∷ [], 6 ∷ 7 ∷ 4 ∷ 5 ∷ 2 ∷ 3 ∷ 0 ∷ 1 ∷ [])
    ∷ (7 ∷ 0 ∷ 1 ∷ 2 ∷ 3 ∷ 4 ∷ 5 ∷ 6 ∷ [], 7 ∷ 6 ∷ 5 ∷ 4 ∷ 3 ∷ 2 ∷ 1 ∷ 0 ∷ [])
    ∷ []

-- the same orders by the rule, for the length of M2 to M0 = k, from starting column s on
abbrev orders_from : ℕ → ℕ → ℕ → List (List ℕ × List ℕ)
orders_from k s zero = []
orders_from k s (suc n) = (columns_from k s 0 (length_of k), columns_from (8 + k) s 0 (length_of k)) ∷ orders_from k (suc s) n

abbrev orders : ℕ → List (List ℕ × List ℕ)
orders k = orders_from k 0 (length_of k)

pub printed_orders : orders 0 ++ orders 1 ++ orders 2 ++ orders 3 ≡ table_6
unfolding length_of beat_column
printed_orders = refl

-- P6: "Length 8 interleaved from column 13"
pub interleaved_8_from_13 : columns_from 0x3b 13 0 8 ≡ (13 ∷ 12 ∷ 15 ∷ 14 ∷ 9 ∷ 8 ∷ 11 ∷ 10 ∷ [])
unfolding length_of beat_column
interleaved_8_from_13 = refl

-- P6: "Length 4 sequential from 6"
pub sequential_4_from_6 : columns_from 0x32 6 0 4 ≡ (6 ∷ 7 ∷ 4 ∷ 5 ∷ [])
unfolding length_of beat_column
sequential_4_from_6 = refl

-- P7: "Full page from 2,046"
pub full_page_from_2046 : columns_from 0x37 2046 0 3 ≡ (2046 ∷ 2047 ∷ 0 ∷ [])
unfolding length_of beat_column
full_page_from_2046 = refl

-- further columns than these cases have: the last block of a row, and full page past its wrap
abbrev pub column_facts : List Bool
column_facts =
    same_numbers (columns_from 0x33 2_045 0 8) (2_045 ∷ 2_046 ∷ 2_047 ∷ 2_040 ∷ 2_041 ∷ 2_042 ∷ 2_043 ∷ 2_044 ∷ [])
    ∷ same_numbers (columns_from 0x3b 2_045 0 8) (2_045 ∷ 2_044 ∷ 2_047 ∷ 2_046 ∷ 2_041 ∷ 2_040 ∷ 2_043 ∷ 2_042 ∷ [])
    ∷ same_numbers (columns_from 0x31 2_047 0 2) (2_047 ∷ 2_046 ∷ [])
    -- "wraps at 2,048 columns and goes on without end"
    ∷ same_numbers (columns_from 0x37 2_047 0 2) (2_047 ∷ 0 ∷ [])
    ∷ same_numbers (columns_from 0x37 5 2_041 3) (2_046 ∷ 2_047 ∷ 0 ∷ [])
    ∷ same_numbers (columns_from 0x37 5 2_048 2) (5 ∷ 6 ∷ [])
    ∷ same_numbers (columns_from 0x37 5 4_095 2) (4 ∷ 5 ∷ [])
    -- neither latency nor single writes has a say in the order
    ∷ same_numbers (columns_from 0x22a 6 0 4) (6 ∷ 7 ∷ 4 ∷ 5 ∷ [])
    ∷ same_numbers (columns_from 0x229 7 0 2) (7 ∷ 6 ∷ [])
    -- 02, K3: the place inside a block of 4, from place 3, sequential and interleaved
    ∷ eqb (in_block 0x32 3 2) 1
    ∷ eqb (in_block 0x3a 3 2) 1
    ∷ eqb (in_block 0x32 3 1) 0
    ∷ eqb (in_block 0x3a 3 1) 2
    ∷ []

pub columns_right : T (all_true column_facts)
unfolding length_of beat_column
columns_right = tt

-- ── The mode word ──

-- f of each
abbrev each : (ℕ → ℕ) → List ℕ → List ℕ
each f [] = []
each f (w ∷ more) = f w ∷ each f more

-- 1 for each word that f says yes to, else 0
abbrev marks : (ℕ → Bool) → List ℕ → List ℕ
marks f words = each (λ w. cond (f w) 1 0) words

abbrev eight : List ℕ
eight = 0 ∷ 1 ∷ 2 ∷ 3 ∷ 4 ∷ 5 ∷ 6 ∷ 7 ∷ []

-- a word with M0 alone, M1 alone, .., M12 alone
abbrev one_bit : List ℕ
one_bit = 0x1 ∷ 0x2 ∷ 0x4 ∷ 0x8 ∷ 0x10 ∷ 0x20 ∷ 0x40 ∷ 0x80 ∷ 0x100 ∷ 0x200 ∷ 0x400 ∷ 0x800 ∷ 0x1000 ∷ []

-- length, full page, interleaved, CL and single writes of a mode; none where the word is reserved
abbrev fields : Option Mode → List ℕ
fields (Some m) = m.length ∷ cond m.fullpage 1 0 ∷ cond m.interleaved 1 0 ∷ m.latency ∷ cond m.single 1 0 ∷ []
fields None = []

-- the bench reads this word so
abbrev reads : ℕ → List ℕ → Bool
reads w expected = same_numbers (fields (decoded Bench w)) expected

-- 17 of the bench
abbrev reserved : ℕ → Bool
reserved w = reads w []

abbrev pub word_facts : List Bool
word_facts =
    -- "M2 to M0: 0, 1, 2, 3 mean 1, 2, 4, 8; 7 means full page", with M3 to M12 LOW and HIGH. 4 to 6 are reserved: no burst has them
    same_numbers (each (λ k. length_of k) eight) (1 ∷ 2 ∷ 4 ∷ 8 ∷ 2_048 ∷ 2_048 ∷ 2_048 ∷ 2_048 ∷ [])
    ∷ same_numbers (each (λ k. length_of (0x1ff8 + k)) eight) (1 ∷ 2 ∷ 4 ∷ 8 ∷ 2_048 ∷ 2_048 ∷ 2_048 ∷ 2_048 ∷ [])
    ∷ same_numbers (marks full_page eight) (0 ∷ 0 ∷ 0 ∷ 0 ∷ 0 ∷ 0 ∷ 0 ∷ 1 ∷ [])
    ∷ same_numbers (marks (λ k. full_page (0x1ff8 + k)) eight) (0 ∷ 0 ∷ 0 ∷ 0 ∷ 0 ∷ 0 ∷ 0 ∷ 1 ∷ [])
    -- M3, and no other bit
    ∷ same_numbers (marks interleaved one_bit) (0 ∷ 0 ∷ 0 ∷ 1 ∷ 0 ∷ 0 ∷ 0 ∷ 0 ∷ 0 ∷ 0 ∷ 0 ∷ 0 ∷ 0 ∷ [])
    ∷ interleaved 0x1fff
    ∷ not (interleaved 0x1ff7)
    -- M6 to M4, with the other bits LOW and HIGH
    ∷ same_numbers (each (λ k. latency (16 * k)) eight) eight
    ∷ same_numbers (each (λ k. latency (0x1f8f + 16 * k)) eight) eight
    -- "M9 = 1 makes writes single", and no other bit
    ∷ same_numbers (marks single one_bit) (0 ∷ 0 ∷ 0 ∷ 0 ∷ 0 ∷ 0 ∷ 0 ∷ 0 ∷ 0 ∷ 1 ∷ 0 ∷ 0 ∷ 0 ∷ [])
    ∷ single 0x1fff
    ∷ not (single 0x1dff)
    -- each length in each order with CL 3: "7 means full page, M3 = 0 only"
    ∷ same_numbers (marks (λ k. legal Bench (0x30 + k)) eight) (1 ∷ 1 ∷ 1 ∷ 1 ∷ 0 ∷ 0 ∷ 0 ∷ 1 ∷ [])
    ∷ same_numbers (marks (λ k. legal Bench (0x38 + k)) eight) (1 ∷ 1 ∷ 1 ∷ 1 ∷ 0 ∷ 0 ∷ 0 ∷ 0 ∷ [])
    -- 02, K9: the handheld has "no full page"
    ∷ same_numbers (marks (λ k. legal Handheld (0x30 + k)) eight) (1 ∷ 1 ∷ 1 ∷ 1 ∷ 0 ∷ 0 ∷ 0 ∷ 0 ∷ [])
    ∷ same_numbers (marks (λ k. legal Handheld (0x38 + k)) eight) (1 ∷ 1 ∷ 1 ∷ 1 ∷ 0 ∷ 0 ∷ 0 ∷ 0 ∷ [])
    -- "CL 2 or 3"
    ∷ same_numbers (marks (λ k. legal Bench (16 * k + 1)) eight) (0 ∷ 0 ∷ 1 ∷ 1 ∷ 0 ∷ 0 ∷ 0 ∷ 0 ∷ [])
    ∷ same_numbers (marks (λ k. legal Handheld (16 * k + 1)) eight) (0 ∷ 0 ∷ 1 ∷ 1 ∷ 0 ∷ 0 ∷ 0 ∷ 0 ∷ [])
    -- "M7, M8, M10 to M12 zero": 0031 with one bit more, M7 to M12
    ∷ same_numbers (marks (λ bit. legal Bench (0x31 + bit)) (0x80 ∷ 0x100 ∷ 0x200 ∷ 0x400 ∷ 0x800 ∷ 0x1000 ∷ [])) (0 ∷ 0 ∷ 1 ∷ 0 ∷ 0 ∷ 0 ∷ [])
    ∷ same_numbers (marks (λ bit. legal Handheld (0x31 + bit)) (0x80 ∷ 0x100 ∷ 0x200 ∷ 0x400 ∷ 0x800 ∷ 0x1000 ∷ [])) (0 ∷ 0 ∷ 1 ∷ 0 ∷ 0 ∷ 0 ∷ [])
    -- a mode: length, full page, interleaved, CL, single writes
    ∷ reads 0x31 (2 ∷ 0 ∷ 0 ∷ 3 ∷ 0 ∷ [])
    ∷ reads 0x20 (1 ∷ 0 ∷ 0 ∷ 2 ∷ 0 ∷ [])
    ∷ reads 0x28 (1 ∷ 0 ∷ 1 ∷ 2 ∷ 0 ∷ [])
    ∷ reads 0x32 (4 ∷ 0 ∷ 0 ∷ 3 ∷ 0 ∷ [])
    ∷ reads 0x23b (8 ∷ 0 ∷ 1 ∷ 3 ∷ 1 ∷ [])
    ∷ reads 0x37 (2_048 ∷ 1 ∷ 0 ∷ 3 ∷ 0 ∷ [])
    ∷ reads 0x227 (2_048 ∷ 1 ∷ 0 ∷ 2 ∷ 1 ∷ [])
    -- P4: 0034 and 003F; "All else is 17"; a word has no bit above M12
    ∷ reserved 0x34
    ∷ reserved 0x3f
    ∷ reserved 0
    ∷ reserved 0x11
    ∷ reserved 0x41
    ∷ reserved 0xb1
    ∷ reserved 0x131
    ∷ reserved 0x431
    ∷ reserved 0x831
    ∷ reserved 0x1031
    ∷ reserved 0x2031
    ∷ reserved 0x8031
    -- 02, K9: of the handheld
    ∷ same_numbers (fields (decoded Handheld 0x33)) (8 ∷ 0 ∷ 0 ∷ 3 ∷ 0 ∷ [])
    ∷ same_numbers (fields (decoded Handheld 0x37)) []
    -- how long a WRITE's burst is
    ∷ same_numbers (each write_length (0x30 ∷ 0x31 ∷ 0x32 ∷ 0x33 ∷ 0x37 ∷ [])) (1 ∷ 2 ∷ 4 ∷ 8 ∷ 2_048 ∷ [])
    ∷ same_numbers (each write_length (0x230 ∷ 0x231 ∷ 0x232 ∷ 0x233 ∷ 0x237 ∷ [])) (1 ∷ 1 ∷ 1 ∷ 1 ∷ 1 ∷ [])
    -- "goes on without end": full page only, and not where writes are single
    ∷ same_numbers (marks write_endless (0x30 ∷ 0x33 ∷ 0x37 ∷ 0x27 ∷ [])) (0 ∷ 0 ∷ 1 ∷ 1 ∷ [])
    ∷ same_numbers (marks write_endless (0x230 ∷ 0x233 ∷ 0x237 ∷ 0x227 ∷ [])) (0 ∷ 0 ∷ 0 ∷ 0 ∷ [])
    ∷ []

pub words_right : T (all_true word_facts)
unfolding length_of decoded
words_right = tt

-- the legal ones of the words below n
abbrev count_legal : Module → ℕ → ℕ
count_legal m zero = 0
count_legal m (suc n) = cond (legal m n) 1 0 + count_legal m n

-- lengths 1, 2, 4, 8 in two orders and full page in one, CL 2 or 3, writes single or not
pub legal_words : count_legal Bench 8192 ≡ 36
legal_words = refl

-- without full page
pub handheld_words : count_legal Handheld 8192 ≡ 32
handheld_words = refl

-- this paper's number of what decoding answers: "All else is 17"
pub numbers_right : (decoded_number (decoded Bench 0x31) ∷ decoded_number (decoded Bench 0x34) ∷ []) ≡ (0 ∷ 17 ∷ [])
numbers_right = refl
