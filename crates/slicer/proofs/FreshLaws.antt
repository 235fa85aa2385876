-- Reads of one block, and the rows that they are the first to need.
use Rattle.std.proofs.Common.{◌≡◌, ◌==◌, ◌/◌, ◌%◌, ℕ, List, [], ◌∷◌, Bool, true, false, not, ◌||◌, ◌&&◌, refl, sym, ap, ◌∙◌, eq-eqb}
use Rattle.std.specs.Prelude.{String}
use Rattle.std.specs.declared.alloc.Global.{Global}
use Rattle.std.specs.BTreeMap.{BTreeMap}
use Rattle.std.specs.List.{list_all, list_any}
use Rattle.std.proofs.lemmas.Bool.Decides.{Decides-eqb}
use Rattle.ldv_value.proofs.Booleans.{and-parts, and-from, and-false}
use Rattle.ldv_value.proofs.SameBytes.{bytes_eq-true, bytes_eq-itself}
use Rattle.lanes.specs.Sets.{member}
use Rattle.sql_model.specs.Scope.{same_text}
use Rattle.run_model.specs.Types.{Need}
use Rattle.run_model.specs.Slice.{is_read}
use Rattle.slicer.specs.inner.Rows.{asks, is_of_block, are_of_block, is_in, has_row, words_in}
use Rattle.slicer.proofs.RowSetLaws.{place_told, row_told}

-- the known, and of others what isn't known
pub or_rest : (known other : Bool) → (known || (other && not known)) ≡ (other || known)
or_rest true true = refl
or_rest true false = refl
or_rest false true = refl
or_rest false false = refl

-- a read is of its own block
pub of_own_block : (head : Need) (others : List Need) → are_of_block (head ∷ others) ≡ true → list_all (is_of_block head) (head ∷ others) ≡ true
of_own_block head others all =
    and-from (is_of_block head head) (list_all (is_of_block head) others)
    (and-from (same_text head.member.table head.member.table) (head.member.row / 4096 == head.member.row / 4096)
    (bytes_eq-itself head.member.table) (eq-eqb (head.member.row / 4096) (head.member.row / 4096) refl))
    all

spread : (a b c d : Bool) → (a && (b && (c || d))) ≡ ((a && (b && c)) || (a && (b && d)))
spread true true c d = refl
spread true false c d = refl
spread false b c d = refl

-- the place of a row's number in its block is that of a read
abbrev pub is_at_place : ℕ → Need → Bool
is_at_place row need = row % 4096 == need.member.row % 4096

module _ (head : Need) where
  -- a row of the block is at the place of one of the reads exactly where they ask for it
  pub asks_told : (needs : List Need) → list_all (is_of_block head) needs ≡ true → (table : List ℕ) (row : ℕ)
      → (same_text head.member.table table && (head.member.row / 4096 == row / 4096 && list_any (is_at_place row) needs)) ≡ asks table row needs
  asks_told [] all table row =
      ap (λ b. same_text head.member.table table && b) (and-false (head.member.row / 4096 == row / 4096))
      ∙ and-false (same_text head.member.table table)
  asks_told (need ∷ needs) all table row =
      let parts = and-parts (is_of_block head need) (list_all (is_of_block head) needs) all in
      let own = and-parts (same_text head.member.table need.member.table) (head.member.row / 4096 == need.member.row / 4096) parts.0 in
      let same : head.member.table ≡ need.member.table = bytes_eq-true head.member.table need.member.table own.0 in
      let block : head.member.row / 4096 ≡ need.member.row / 4096 = (Decides-eqb (head.member.row / 4096) (need.member.row / 4096)).0 own.1 in
      let first : (same_text head.member.table table && (head.member.row / 4096 == row / 4096 && is_at_place row need)) ≡ is_read table row need =
      (λ j. same_text (same j) table && (block j == row / 4096 && is_at_place row need))
      ∙ ap (λ b. same_text need.member.table table && b) (place_told need.member.row row) in
      spread (same_text head.member.table table) (head.member.row / 4096 == row / 4096) (is_at_place row need) (list_any (is_at_place row) needs)
      ∙ (λ j. first j || asks_told needs parts.1 table row j)

  module _ (needs : List Need) (all : list_all (is_of_block head) needs ≡ true) (words : List ℕ)
      (places : (n : ℕ) → member words n ≡ list_any (λ (need : Need). n == need.member.row % 4096) needs) where
    pub asks_in : (table : List ℕ) (row : ℕ) → (same_text head.member.table table && is_in (head.member.row / 4096) words row) ≡ asks table row needs
    asks_in table row =
        ap (λ b. same_text head.member.table table && (head.member.row / 4096 == row / 4096 && b)) (places (row % 4096))
        ∙ asks_told needs all table row

    -- what is left of the words
    pub fresh_told : (known : BTreeMap (String Global) (BTreeMap ℕ (List ℕ))) (left : List ℕ)
        → ((n : ℕ) → member left n ≡ (member words n && not (member (words_in known head.member.table (head.member.row / 4096)) n)))
        → (table : List ℕ) (row : ℕ) → asks table row needs ≡ true → member left (row % 4096) ≡ not (has_row known table row)
    fresh_told known left taken table row asked =
        let parts = and-parts (same_text head.member.table table) (is_in (head.member.row / 4096) words row) (asks_in table row ∙ asked) in
        let same : head.member.table ≡ table = bytes_eq-true head.member.table table parts.0 in
        let inside = and-parts (head.member.row / 4096 == row / 4096) (member words (row % 4096)) parts.1 in
        let block : head.member.row / 4096 ≡ row / 4096 = (Decides-eqb (head.member.row / 4096) (row / 4096)).0 inside.0 in
        taken (row % 4096)
        ∙ (λ j. inside.1 j && not (member (words_in known (same j) (block j)) (row % 4096)))
        ∙ ap not (sym (row_told known table row))
