-- READ BACK: the words of a state are read as that state, and hold it. Assumes nothing.
use Rattle.units.specs.declared.Clock.{Clock}
use Rattle.std.specs.Prelude.{Option, None, Some}
use Prim.Native.Nat.{ℕ, ◌+◌, ◌<◌, ◌/◌, ◌%◌}
use native.Mathlib.Omega.{arith}
use mathlib.Core.Path.{◌≡◌, refl, ap, sym, ◌∙◌}
use mathlib.Core.Bool.{Bool, true, false, ◌&&◌, ◌||◌, not, cond}
use mathlib.Core.List.{List, [], ◌∷◌, ◌++◌}
use lib.Dec.{eqb, ltb}
use lib.ListN.{length, replicate}
use borrow.Author.Tests.{lt-ltb, eq-eqb, eqb-true, ltb-true}
use Rattle.units.specs.declared.Module.{Module}
use Rattle.units.specs.Time.{clock, time}
use Rattle.units.specs.Module.{has_full_page}
use Rattle.units.proofs.Sizes.{rows_fit, columns_fit}
use Rattle.units.proofs.Both.{both, joined}
use Rattle.mode.specs.Word.{well_formed, legal, latency, full_page, interleaved}
use Rattle.mode.proofs.Shown.{legal_is}
use Rattle.bursts.specs.declared.Burst.{Burst}
use Rattle.rules.specs.declared.Refreshes.{Refreshes}
use Rattle.rules.specs.declared.Refreshes.TheVariants.{Zero, One, Two}
use Rattle.rules.specs.declared.Register.{Register}
use Rattle.rules.specs.declared.Status.{Status}
use Rattle.rules.specs.declared.Status.TheVariants.{NotStarted, Open, Closed}
use Rattle.rules.specs.declared.Bank.{Bank}
use Rattle.rules.specs.declared.State.{State}
use Rattle.rules.specs.Parts.{bank_of, state_module, loaded}
use Rattle.rules.specs.Admitted.{Each, StatusOn, RegisterOn, BurstOn, Admitted}
use Rattle.words.specs.Words.{
  state_words,
  number_in,
  small,
  middle,
  flag,
  event_in,
  refreshes_in,
  register_in,
  startup_in,
  burst_in,
  masks_in,
  bus_in,
  core_in,
  status_in,
  bank_in,
  state_in,
  flag_number,
  event_kind,
  event_number,
  refreshes_kind,
  refreshes_number,
  register_kind,
  register_word,
  register_number,
  burst_numbers,
  bank_numbers,
  words_of,
  same,
  holds,
}
use Rattle.words.specs.Narrow.{NarrowBurst, NarrowMasks, NarrowRegister, NarrowStatus, NarrowBank, Narrow}
use Rattle.words.proofs.Equal.{same_is, same_self}
use Rattle.words.proofs.Stores.{words_length}

-- ── One number ──

small_again : {n : ℕ} → n < 256 → small n ≡ n
unfolding small
small_again {n} h = rw (lt-ltb n 256 h)

middle_again : {n : ℕ} → n < 65_536 → middle n ≡ n
unfolding middle
middle_again {n} h = rw (lt-ltb n 65_536 h)

flag_again : (x : Bool) → flag (flag_number x) ≡ x
unfolding flag
flag_again true = refl
flag_again false = refl

event_again : (e : Option Clock) → event_in (event_kind e ∷ event_number e ∷ []) 0 ≡ e
unfolding event_in
event_again None = refl
event_again (Some n) = refl

-- numbers 9 and 10, and 11 to 13, after any others
refreshes_again : (x : Refreshes) → refreshes_in (replicate 9 0 ++ (refreshes_kind x ∷ refreshes_number x ∷ [])) ≡ x
unfolding refreshes_in
refreshes_again Zero = refl
refreshes_again (One n) = refl
refreshes_again (Two n) = refl

register_again : (x : Option Register) → NarrowRegister x
    → register_in (replicate 11 0 ++ (register_kind x ∷ register_word x ∷ register_number x ∷ [])) ≡ x
unfolding register_in
register_again None h = refl
register_again (Some l) h = ap (λ (k : ℕ). loaded k l.clock) (middle_again h)

-- ── One burst, one bank ──

burst_again : (b : Burst) → NarrowBurst b → burst_in (burst_numbers b) 0 ≡ b
unfolding burst_in event_in
burst_again b h j =
    record {
      live = flag_again b.live j;
      auto = flag_again b.auto j;
      bank = small_again h.bank j;
      row = middle_again h.row j;
      column = middle_again h.column j;
      start = b.start;
      cut = event_again b.cut j;
      word = middle_again h.word j;
    }

status_again : (b : Bank) → NarrowBank b → status_in (bank_numbers b) 0 ≡ b.status
unfolding status_in
status_again b h = go b.status h
  where
    go : (x : Status) → NarrowStatus x → status_in (bank_numbers (bank_of x b.active b.stored)) 0 ≡ x
    go NotStarted h = refl
    go (Open row n) h = ap (λ (k : ℕ). Open k n) (middle_again h)
    go (Closed t) h = refl

bank_again : (b : Bank) → NarrowBank b → bank_in (bank_numbers b) 0 ≡ b
unfolding bank_in event_in
bank_again b h j =
    record {
      status = status_again b h j;
      active = event_again b.active j;
      stored = event_again b.stored j;
    }

-- ── A state with its READs and banks written out ──

-- this state with these READs and banks
abbrev with : State → List Burst → List Bank → State
with s rs bs =
    record {
      core =
          record {
            period = s.core.period;
            grade = s.core.grade;
            bank = s.core.bank;
            row = s.core.row;
            number = s.core.number;
            last = s.core.last;
            startup = s.core.startup;
            bus = record { write = s.core.bus.write; reads = rs; masks = s.core.bus.masks };
          };
      banks = bs;
    }

module _ (s : State) (a b c d : Burst) (w x y z : Bank) where
  abbrev four_state : State
  four_state = with s (a ∷ b ∷ c ∷ d ∷ []) (w ∷ x ∷ y ∷ z ∷ [])

  state_again : Narrow four_state → state_in (words_of four_state) ≡ four_state
  unfolding state_in core_in bus_in masks_in startup_in refreshes_in register_in burst_in bank_in status_in event_in words_of
  state_again h j =
      record {
        core =
            record {
              period = s.core.period;
              grade = small_again h.grade j;
              bank = small_again h.bank j;
              row = middle_again h.row j;
              number = s.core.number;
              last = event_again s.core.last j;
              startup =
                  record {
                    allclosed = event_again s.core.startup.allclosed j;
                    refreshes = refreshes_again s.core.startup.refreshes j;
                    register = register_again s.core.startup.register h.register j;
                  };
              bus =
                  record {
                    write = burst_again s.core.bus.write h.bursts.write j;
                    reads =
                        burst_again a h.bursts.reads.0 j
                        ∷ burst_again b h.bursts.reads.1.0 j
                        ∷ burst_again c h.bursts.reads.1.1.0 j
                        ∷ burst_again d h.bursts.reads.1.1.1.0 j
                        ∷ [];
                    masks =
                        record {
                          first = small_again h.masks.first j;
                          second = small_again h.masks.second j;
                          third = small_again h.masks.third j;
                        };
                  };
            };
        banks =
            bank_again w h.banks.0 j
            ∷ bank_again x h.banks.1.0 j
            ∷ bank_again y h.banks.1.1.0 j
            ∷ bank_again z h.banks.1.1.1.0 j
            ∷ [];
      }

-- ── Every state ──

-- what holds of any four holds of a list of four
by_four : {A : Type 0} (P : List A → Type 0) → ((a b c d : A) → P (a ∷ b ∷ c ∷ d ∷ [])) → (l : List A) → length l ≡ 4 → P l
by_four P f [] e = absurd (omega arith)
by_four P f (a ∷ []) e = absurd (omega arith)
by_four P f (a ∷ b ∷ []) e = absurd (omega arith)
by_four P f (a ∷ b ∷ c ∷ []) e = absurd (omega arith)
by_four P f (a ∷ b ∷ c ∷ d ∷ []) e = f a b c d
by_four P f (a ∷ b ∷ c ∷ d ∷ x ∷ l) e = absurd (omega arith)

-- the words of a state are read as that state
pub read_back : (s : State) → Narrow s → state_in (words_of s) ≡ s
read_back s h =
    by_four (λ (rs : List Burst). Back (with s rs s.banks))
    (λ a b c d. by_four (λ (bs : List Bank). Back (with s (a ∷ b ∷ c ∷ d ∷ []) bs))
    (λ w x y z. state_again s a b c d w x y z) s.banks h.four_banks)
    s.core.bus.reads h.four_reads h
  where
    Back : State → Type 0
    Back s = Narrow s → state_in (words_of s) ≡ s

-- and they hold it
pub held : (s : State) → Narrow s → holds (words_of s) ≡ true
unfolding holds
held s h =
    joined (eq-eqb _ _ (words_length s h.four_reads h.four_banks))
    (ap (λ (x : State). same (words_of s) (words_of x)) (read_back s h) ∙ same_self (words_of s))

-- words that hold a state are that state's: there is one way to write it
pub held_is : (l : List ℕ) → holds l ≡ true → l ≡ words_of (state_in l)
unfolding holds
held_is l h = same_is l (words_of (state_in l)) (both (eqb (length l) state_words) (same l (words_of (state_in l))) h).1

-- two lists of words that hold one state are the same words
pub held_once : (l m : List ℕ) → holds l ≡ true → holds m ≡ true → state_in l ≡ state_in m → l ≡ m
held_once l m h g e = held_is l h ∙ ap words_of e ∙ sym (held_is m g)

-- ── A state that was read ──

small_fits : (n : ℕ) → small n < 256
unfolding small
small_fits n = go (ltb n 256) refl
  where
    go : (x : Bool) → ltb n 256 ≡ x → cond x n 255 < 256
    go true e = ltb-true n 256 e
    go false e = omega arith

middle_fits : (n : ℕ) → middle n < 65_536
unfolding middle
middle_fits n = go (ltb n 65_536) refl
  where
    go : (x : Bool) → ltb n 65_536 ≡ x → cond x n 65_535 < 65_536
    go true e = ltb-true n 65_536 e
    go false e = omega arith

burst_fits : (l : List ℕ) (i : ℕ) → NarrowBurst (burst_in l i)
unfolding burst_in
burst_fits l i =
    record {
      bank = small_fits (number_in l (i + 2));
      row = middle_fits (number_in l (i + 3));
      column = middle_fits (number_in l (i + 4));
      word = middle_fits (number_in l (i + 8));
    }

register_fits : (l : List ℕ) → NarrowRegister (register_in l)
unfolding register_in
register_fits l = go (eqb (number_in l 11) 0)
  where
    go : (x : Bool) → NarrowRegister (cond x None (loaded (middle (number_in l 12)) (clock (number_in l 13))))
    go true = tt
    go false = middle_fits (number_in l 12)

bank_fits : (l : List ℕ) (i : ℕ) → NarrowBank (bank_in l i)
unfolding bank_in status_in
bank_fits l i = go (eqb (number_in l i) 0) (eqb (number_in l i) 1)
  where
    go : (x y : Bool)
        → NarrowStatus
        (cond x NotStarted
        (cond y (Open (middle (number_in l (i + 1))) (clock (number_in l (i + 2)))) (Closed (time (number_in l (i + 3))))))
    go true y = tt
    go false true = middle_fits (number_in l (i + 1))
    go false false = tt

-- whatever the words are, the state that they are read as can be read back
pub read_narrow : (l : List ℕ) → Narrow (state_in l)
unfolding state_in core_in bus_in masks_in startup_in
read_narrow l =
    record {
      grade = small_fits (number_in l 1);
      bank = small_fits (number_in l 2);
      row = middle_fits (number_in l 3);
      register = register_fits l;
      bursts =
          record {
            write = burst_fits l 14;
            reads = (burst_fits l 23, (burst_fits l 32, (burst_fits l 41, (burst_fits l 50, tt))));
          };
      masks =
          record {
            first = small_fits (number_in l 59);
            second = small_fits (number_in l 60);
            third = small_fits (number_in l 61);
          };
      banks = (bank_fits l 62, (bank_fits l 70, (bank_fits l 78, (bank_fits l 86, tt))));
      four_reads = refl;
      four_banks = refl;
    }

-- so its own words hold it, and are read as it again
pub read_again : (l : List ℕ) → state_in (words_of (state_in l)) ≡ state_in l
read_again l = read_back (state_in l) (read_narrow l)

pub read_held : (l : List ℕ) → holds (words_of (state_in l)) ≡ true
read_held l = held (state_in l) (read_narrow l)

-- ── A state that number 25 passes ──

-- "M7, M8, M10 to M12 zero": a word that is not reserved has ten bits
legal_narrow : (m : Module) (w : ℕ) → legal m w ≡ true → w < 65_536
legal_narrow m w h =
    let a = ltb (w % 8) 4 || (has_full_page m && full_page w && not (interleaved w)) in
    let b = eqb (latency w) 2 || eqb (latency w) 3 in
    let p : well_formed m w ≡ true = sym (legal_is m w) ∙ h in
    let q : w / 1024 ≡ 0 = eqb-true (w / 1024) 0 (both (a && b && eqb (w / 128 % 4) 0) (eqb (w / 1024) 0) p).1 in
    omega arith

burst_narrow : (m : Module) (b : Burst) → BurstOn m b → NarrowBurst b
burst_narrow m b h =
    record {
      bank = omega (arith, h.bank);
      row = omega (arith, h.row, rows_fit m);
      column = omega (arith, h.column, columns_fit m);
      word = legal_narrow m b.word h.word;
    }

register_narrow : (m : Module) (x : Option Register) → RegisterOn m x → NarrowRegister x
register_narrow m None h = tt
register_narrow m (Some l) h = legal_narrow m l.word h

status_narrow : (m : Module) (x : Status) → StatusOn m x → NarrowStatus x
status_narrow m NotStarted h = tt
status_narrow m (Open row n) h = omega (arith, h, rows_fit m)
status_narrow m (Closed t) h = tt

each_as : {A : Type 0} {P Q : A → Type 0} → ((x : A) → P x → Q x) → (l : List A) → Each P l → Each Q l
each_as f [] h = tt
each_as f (x ∷ l) h = (f x h.0, each_as f l h.1)

-- an admitted state is read back, once grade, masks and lengths are as the code's types have them
pub admitted_narrow : (s : State) → Admitted s → s.core.grade < 256 → NarrowMasks s.core.bus.masks
    → length s.core.bus.reads ≡ 4 → length s.banks ≡ 4 → Narrow s
admitted_narrow s h grade masks e f =
    let m = state_module s in
    let on = h.places.core in
    record {
      grade = grade;
      bank = omega (arith, on.bank);
      row = omega (arith, on.row, rows_fit m);
      register = register_narrow m s.core.startup.register on.register;
      bursts =
          record {
            write = burst_narrow m s.core.bus.write on.bus.write;
            reads = each_as (burst_narrow m) s.core.bus.reads on.bus.reads;
          };
      masks = masks;
      banks = each_as (λ (b : Bank). status_narrow m b.status) s.banks h.places.banks;
      four_reads = e;
      four_banks = f;
    }
