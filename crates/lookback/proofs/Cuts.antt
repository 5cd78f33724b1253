-- Bursts found by looking back, where later records cut them too; their cuts are those that the state sets. Assumes nothing.
use Rattle.std.specs.Prelude.{Option, None, Some}
use Prim.Native.Nat.{ℕ, suc, ◌<◌, ◌≤◌}
use native.Mathlib.Omega.{arith}
use mathlib.Core.Path.{◌≡◌, refl, ap, ap₂, sym, ◌∙◌}
use mathlib.Core.Bool.{Bool, true, false, ◌&&◌, cond, and-false, true≢false}
use mathlib.Core.List.{List, [], ◌∷◌}
use borrow.Author.Tests.{lt-ltb, le-leb}
use Rattle.units.specs.declared.Clock.{Clock}
use Rattle.layout.specs.declared.Record.{Record}
use Rattle.layout.specs.Commands.{command}
use Rattle.bursts.specs.declared.Burst.{Burst}
use Rattle.bursts.specs.Burst.{cut_on, cut_by}
use Rattle.bursts.specs.Bus.{cut_each}
use Rattle.lookback.specs.Past.{first_free, clock_in}
use Rattle.lookback.specs.Bursts.{reads, writes, cuts_write}
use Rattle.lookback.proofs.Held.{uncut, cuts_from, with_cut, registered, write_back, reads_back}

-- ── Cut by later records too ──

-- the first of two cuts, the earlier one given first
abbrev pub first : Option Clock → Option Clock → Option Clock
first None e = e
first (Some x) e = Some x

-- the burst, where there is one, as later records cut it
abbrev pub cut_later : (ℕ → Option Clock) → Burst → Burst
cut_later c b = with_cut (cond b.live (first b.cut (c b.bank)) b.cut) b

abbrev pub each_later : (ℕ → Option Clock) → List Burst → List Burst
each_later c [] = []
each_later c (b ∷ bs) = cut_later c b ∷ each_later c bs

first_three : (l : Bool) (e d : Option Clock) (x : Bool) (n : Clock)
    → cond l (first e (cond x (Some n) d)) e
    ≡ cond l (first (cond l (first e (cond x (Some n) None)) e) d) (cond l (first e (cond x (Some n) None)) e)
first_three false e d x n = refl
first_three true (Some y) d x n = refl
first_three true None d true n = refl
first_three true None d false n = refl

module _ (c : ℕ → Option Clock) (r : Record) (past : List Record) where
  later_later : (b : Burst) → cut_later (cuts_from r past c) b ≡ cut_later c (cut_later (cuts_from r past uncut) b)
  later_later b =
      ap (λ (e : Option Clock). with_cut e b) (first_three b.live b.cut (c b.bank) (cuts_write b.bank r) (clock_in past r))

  each_later_later : (bs : List Burst)
      → each_later (cuts_from r past c) bs ≡ each_later c (each_later (cuts_from r past uncut) bs)
  each_later_later [] = refl
  each_later_later (b ∷ bs) = ap₂ (λ (x : Burst) (y : List Burst). x ∷ y) (later_later b) (each_later_later bs)

pub write_later : (c : ℕ → Option Clock) (past : List Record) → write_back c past ≡ cut_later c (write_back uncut past)
unfolding write_back
write_later c [] = refl
write_later c (r ∷ past) =
    go (writes r)
    (write_later (cuts_from r past c) past
    ∙ (later_later c r past (write_back uncut past) ∙ ap (cut_later c) (sym (write_later (cuts_from r past uncut) past))))
  where
    go : (x : Bool) → write_back (cuts_from r past c) past ≡ cut_later c (write_back (cuts_from r past uncut) past)
        → cond x (registered c r past) (write_back (cuts_from r past c) past)
        ≡ cut_later c (cond x (registered uncut r past) (write_back (cuts_from r past uncut) past))
    go true rest = refl
    go false rest = rest

pub reads_later : (c : ℕ → Option Clock) (past : List Record) → reads_back c past ≡ each_later c (reads_back uncut past)
unfolding reads_back
reads_later c [] = refl
reads_later c (r ∷ past) =
    go (writes r) (reads r)
    (reads_later (cuts_from r past c) past
    ∙ (each_later_later c r past (reads_back uncut past) ∙ ap (each_later c) (sym (reads_later (cuts_from r past uncut) past))))
  where
    go : (x y : Bool) → reads_back (cuts_from r past c) past ≡ each_later c (reads_back (cuts_from r past uncut) past)
        → cond x [] (cond y (registered c r past ∷ reads_back (cuts_from r past c) past) (reads_back (cuts_from r past c) past))
        ≡ each_later c
        (cond x []
        (cond y (registered uncut r past ∷ reads_back (cuts_from r past uncut) past) (reads_back (cuts_from r past uncut) past)))
    go true y rest = refl
    go false true rest = ap (λ (l : List Burst). registered c r past ∷ l) rest
    go false false rest = rest

-- ── Where bursts and cuts stand ──

-- from clock a on, and before clock b
abbrev pub Inside : ℕ → ℕ → Option Clock → Type 0
Inside a b None = Unit {0}
Inside a b (Some y) = (a ≤ y.0) × (y.0 < b)

-- the burst, where there is one, is registered before clock x, and cut after its registration and before clock x
abbrev pub Placed : ℕ → Burst → Type 0
Placed x b = b.live ≡ true → (b.start.0 < x) × Inside (suc b.start.0) x b.cut

abbrev pub AllPlaced : ℕ → List Burst → Type 0
AllPlaced x [] = Unit {0}
AllPlaced x (b ∷ bs) = Placed x b × AllPlaced x bs

inside_from : (a d b : ℕ) (e : Option Clock) → a ≤ d → Inside d b e → Inside a b e
inside_from a d b None h g = tt
inside_from a d b (Some y) h g = (omega (arith, g.0), g.1)

inside_cond : (a b : ℕ) (x : Bool) (n : Clock) (e : Option Clock) → a ≤ n.0 → n.0 < b → Inside a b e → Inside a b (cond x (Some n) e)
inside_cond a b true n e h k g = (h, k)
inside_cond a b false n e h k g = g

module _ (x : ℕ) (c : ℕ → Option Clock) (r : Record) (past : List Record) (h : first_free (r ∷ past) ≤ x)
    (g : (i : ℕ) → Inside (first_free (r ∷ past)) x (c i)) where
  inside_back : (i : ℕ) → Inside (first_free past) x (cuts_from r past c i)
  inside_back i =
      inside_cond (first_free past) x (cuts_write i r) (clock_in past r) (c i) (omega arith) (omega arith)
      (inside_from (first_free past) (first_free (r ∷ past)) x (c i) (omega arith) (g i))

  registered_placed : Placed x (registered c r past)
  registered_placed live = (omega arith, g r.ba)

pub write_placed : (x : ℕ) (c : ℕ → Option Clock) (past : List Record) → first_free past ≤ x
    → ((i : ℕ) → Inside (first_free past) x (c i))
    → Placed x (write_back c past)
unfolding write_back
write_placed x c [] h g = λ live. absurd (true≢false (sym live))
write_placed x c (r ∷ past) h g =
    go (writes r) (write_placed x (cuts_from r past c) past (omega arith) (inside_back x c r past h g))
  where
    go : (f : Bool) → Placed x (write_back (cuts_from r past c) past)
        → Placed x (cond f (registered c r past) (write_back (cuts_from r past c) past))
    go true rest = registered_placed x c r past h g
    go false rest = rest

pub reads_placed : (x : ℕ) (c : ℕ → Option Clock) (past : List Record) → first_free past ≤ x
    → ((i : ℕ) → Inside (first_free past) x (c i))
    → AllPlaced x (reads_back c past)
unfolding reads_back
reads_placed x c [] h g = tt
reads_placed x c (r ∷ past) h g =
    go (writes r) (reads r) (reads_placed x (cuts_from r past c) past (omega arith) (inside_back x c r past h g))
  where
    go : (f y : Bool) → AllPlaced x (reads_back (cuts_from r past c) past)
        → AllPlaced x
        (cond f [] (cond y (registered c r past ∷ reads_back (cuts_from r past c) past) (reads_back (cuts_from r past c) past)))
    go true y rest = tt
    go false true rest = (registered_placed x c r past h g, rest)
    go false false rest = rest

-- ── The state's cuts are the first ones ──

cut_same : (f l : Bool) (s n : Clock) (e : Option Clock) → (l ≡ true → (s.0 < n.0) × Inside (suc s.0) n.0 e)
    → cond (f && l) (cut_on s n e) e ≡ cond l (first e (cond f (Some n) None)) e
cut_same true false s n e h = refl
cut_same false false s n e h = refl
cut_same false true s n None h = refl
cut_same false true s n (Some y) h = refl
cut_same true true s n None h = rw (lt-ltb s.0 n.0 (h refl).0)
cut_same true true s n (Some y) h =
    rw (lt-ltb s.0 y.0 (h refl).1.0, le-leb y.0 n.0 (omega (arith, (h refl).1.1)), and-false)

placed_later : (x n : ℕ) (b : Burst) → x ≤ n → Placed x b → Placed n b
placed_later x n b h g live = (omega (arith, (g live).0), widen b.cut (g live).1)
  where
    widen : (e : Option Clock) → Inside (suc b.start.0) x e → Inside (suc b.start.0) n e
    widen None k = tt
    widen (Some y) k = (k.0, omega (arith, k.1))

module _ (r : Record) (past : List Record) where
  pub cut_first : (b : Burst) → Placed (first_free past) b
      → cut_by (command r) r.addr r.ba (clock_in past r) b ≡ cut_later (cuts_from r past uncut) b
  cut_first b h =
      ap (λ (e : Option Clock). with_cut e b)
      (cut_same (cuts_write b.bank r) b.live b.start (clock_in past r) b.cut
      (placed_later (first_free past) (clock_in past r).0 b (omega arith) h))

  pub each_first : (bs : List Burst) → AllPlaced (first_free past) bs
      → cut_each (command r) r.addr r.ba (clock_in past r) bs ≡ each_later (cuts_from r past uncut) bs
  each_first [] h = refl
  each_first (b ∷ bs) h = ap₂ (λ (x : Burst) (y : List Burst). x ∷ y) (cut_first b h.0) (each_first bs h.1)
