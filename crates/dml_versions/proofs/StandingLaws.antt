-- Live rows, by their numbers.
use Rattle.std.proofs.Common.{◌≡◌, ◌==◌, ℕ, ◌<◌, inl, inr, Bool, true, false, List, [], ◌∷◌, length, get_or, refl, ap, sym, ◌∙◌, subst, Option, Some, None, is_some}
use Rattle.std.specs.Prelude.{unwrap_or, ◌-◌, if◌then◌else◌}
use Rattle.std.specs.List.{list_any, AllByRecursion}
use Rattle.ldv_value.proofs.Cases.{cases-bool}
use Rattle.ldv_value.proofs.Lists.{all-weaker}
use Rattle.ldv_value.proofs.SameBytes.{nat_eq-true}
use Rattle.row_version.specs.History.{current_values, version}
use Rattle.table_store.specs.Histories.{RowHistory, no_history, row_of, row_now, rows_now, history_of_row, version_now}
use Rattle.table_store.specs.RowOrder.{AreInOrder}
use Rattle.table_store.proofs.StandingRows.{InSlot, all-in-slots, number-is}
use Rattle.table_store.proofs.TableLaws.{history_here}
use Rattle.dml_versions.specs.inner.Finding.{version_of}
use Rattle.dml_versions.specs.Types.{TableRow, Value}
use Rattle.dml_versions.specs.Versions.{updates, updates_of}

-- the row of a number stands
pub record IsStanding (slots : List RowHistory) (number : ℕ) : Type 0 where
  pub row : RowHistory
  pub is : history_of_row number slots ≡ Some row
  pub now : is_some (current_values row.changes) ≡ true

-- such a row has the version that it had updates
pub version-is : (slots : List RowHistory) (number : ℕ) → IsStanding slots number → version_of slots number ≡ updates_of (history_of_row number slots)
version-is slots number s =
    ap (λ (o : Option RowHistory). unwrap_or (version_now o) 0) s.is
    ∙ same
    ∙ sym (ap updates_of s.is)
  where
    same : unwrap_or (version_now (Some s.row)) 0 ≡ updates s.row.changes
    same = rw s.now refl

-- a row with a version was updated as often
updated_if : (there : Bool) (n m v : ℕ) → (if there then Some n else None) ≡ Some v → (if there then n else m) ≡ v
updated_if true n m v is = cc
updated_if false n m v is = cc

pub updates-are : (row : Option RowHistory) (v : ℕ) → version_now row ≡ Some v → updates_of row ≡ v
updates-are None v is = cc
updates-are (Some row) v is = updated_if (is_some (current_values row.changes)) (version row.changes) (version row.changes - 1) v is

module _ (slots : List RowHistory) (next : ℕ) (order : AreInOrder slots next) where
  stands_by : (h : RowHistory) → history_of_row h.number slots ≡ Some h → (row : TableRow) → row_now h ≡ Some row → IsStanding slots row.number
  stands_by h found row is = by (current_values h.changes) refl
    where
      by : (now : Option (List Value)) → current_values h.changes ≡ now → IsStanding slots row.number
      by None none = let wrong : None ≡ Some row = sym (ap (row_of h.number) none) ∙ is in cc
      by (Some values) some = record {
        row = h;
        is = subst (λ (n : ℕ). history_of_row n slots ≡ Some h) (number-is h row is) found;
        now = ap is_some some;
      }

  stands_at : (k : ℕ) → k < length slots → (row : TableRow) → row_now (get_or slots k no_history) ≡ Some row → IsStanding slots row.number
  stands_at k within row is = stands_by (get_or slots k no_history) (history_here slots next order (get_or slots k no_history).number k within refl) row is

  -- each row that is there now stands
  pub all-stand : AllByRecursion (λ row. IsStanding slots row.number) (rows_now slots)
  all-stand =
      all-weaker (InSlot slots) (λ (row : TableRow). IsStanding slots row.number) (λ row s. stands_at s.slot s.within row s.now)
      (rows_now slots) (all-in-slots slots)

  -- so does the row of a number that some row there has
  pub number-stands : (number : ℕ) → list_any (λ (row : TableRow). row.number == number) (rows_now slots) ≡ true → IsStanding slots number
  number-stands number is = among (rows_now slots) all-stand is
    where
      among : (rows : List TableRow) → AllByRecursion (λ row. IsStanding slots row.number) rows
          → list_any (λ (row : TableRow). row.number == number) rows ≡ true → IsStanding slots number
      among [] all wrong = cc
      among (row ∷ rows) all there = elim (cases-bool (row.number == number)) [
        | inl hit ↦ subst (λ (n : ℕ). IsStanding slots n) (nat_eq-true row.number number hit) all.0
        | inr miss ↦ among rows all.1 (rw miss at there)
      ]
