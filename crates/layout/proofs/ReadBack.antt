-- What reading a header or a record from bytes shows of them. Assumes nothing.
use Rattle.std.specs.Prelude.{Option, None, Some}
use Prim.Native.Nat.{ℕ}
use native.Mathlib.Omega.{arith}
use mathlib.Core.Path.{◌≡◌, refl, ap, sym, ◌∙◌}
use borrow.Author.Tests.{eq-eqb}
use mathlib.Core.Bool.{Bool, true, false, cond}
use mathlib.Core.List.{List}
use lib.Dec.{leb, eqb}
use lib.ListN.{length}
use Rattle.units.specs.declared.Module.{Module}
use Rattle.layout.specs.declared.Header.{Header}
use Rattle.layout.specs.declared.Record.{Record}
use Rattle.layout.specs.Bytes.{header_of, record_of, read_header, header_number, read_record, record_number}

pub record ReadWhole (m : Module) (bytes : List ℕ) (r : Record) : Type 0 where
  pub passes : eqb (record_number (read_record m bytes)) 0 ≡ true
  pub read : r ≡ record_of m bytes

pub whole : (m : Module) (bytes : List ℕ) (r : Record) → read_record m bytes ≡ Some r → ReadWhole m bytes r
unfolding read_record
whole m bytes r h = go (eqb (length bytes) 16) refl h
  where
    go : (x : Bool) → eqb (length bytes) 16 ≡ x → cond x (Some (record_of m bytes)) None ≡ Some r → ReadWhole m bytes r
    go true e q = record { passes = ap (λ (x : Option Record). eqb (record_number x) 0) h; read = cc }
    go false e q = let z : ◌≡◌ {A = ℕ} 0 1 = cc in absurd (omega arith)

pub wrong : (m : Module) (bytes : List ℕ) → read_record m bytes ≡ None → eqb (record_number (read_record m bytes)) 0 ≡ false
wrong m bytes h = ap (λ (x : Option Record). eqb (record_number x) 0) h

-- 16 bytes are a record
pub sixteen_pass : (m : Module) (bytes : List ℕ) → length bytes ≡ 16 → eqb (record_number (read_record m bytes)) 0 ≡ true
unfolding read_record
sixteen_pass m bytes e = rw (eq-eqb (length bytes) 16 e)

pub never_wrong : (m : Module) (bytes : List ℕ) → length bytes ≡ 16 → read_record m bytes ≡ None → ⊥
never_wrong m bytes e h =
    let d : ◌≡◌ {A = Bool} true false = sym (sixteen_pass m bytes e) ∙ wrong m bytes h in
    let z : ◌≡◌ {A = ℕ} 0 1 = cc in
    omega arith

pub record ReadHead (bytes : List ℕ) (h : Header) : Type 0 where
  pub passes : eqb (header_number (read_header bytes)) 0 ≡ true
  pub long : leb 16 (length bytes) ≡ true
  pub read : h ≡ header_of bytes

pub headed : (bytes : List ℕ) (h : Header) → read_header bytes ≡ Some h → ReadHead bytes h
unfolding read_header
headed bytes h e = go (leb 16 (length bytes)) refl e
  where
    go : (x : Bool) → leb 16 (length bytes) ≡ x → cond x (Some (header_of bytes)) None ≡ Some h → ReadHead bytes h
    go true l q = record { passes = ap (λ (x : Option Header). eqb (header_number x) 0) e; long = l; read = cc }
    go false l q = let z : ◌≡◌ {A = ℕ} 0 1 = cc in absurd (omega arith)

pub short : (bytes : List ℕ) → read_header bytes ≡ None → eqb (header_number (read_header bytes)) 0 ≡ false
short bytes e = ap (λ (x : Option Header). eqb (header_number x) 0) e
