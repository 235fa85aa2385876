-- Laws of lineage, for the crates above that use its definitions.
use Rattle.std.proofs.Common.{◌≡◌, ◌∙◌, sym, ap, refl, ℕ, ◌<◌, List, length, ◌||◌, Bool, true, false, cond, Option, Some, None, is_some, inl, inr}
use Rattle.std.specs.Option.{option_or}
use Rattle.std.specs.declared.cmp.Ordering.TheVariants.{Less, Equal, Greater}
use Rattle.std.specs.declared.cmp.Ordering.{Ordering}
use Rattle.std.specs.Ordering.{nat_cmp, eq_by_cmp, is_eq}
use Rattle.std.specs.Cmp.{IsTotalOrder, on_total, then_total, nat_cmp_total}
use Rattle.std.specs.FinMap.{empty, get-insert, get-empty, get_tied, same_map}
use Rattle.std.proofs.lemmas.Map.Lookups.{exact_pairs, exact_unsigned}
use Rattle.std.proofs.lemmas.Bool.{cases_Bool, false≢true}
pub use Rattle.ldv_value.proofs.Options.{option_or-none as or_none, option_or-assoc as or_assoc}
use Rattle.ldv_value.proofs.Booleans.{or-cases}
use Rattle.ldv_value.proofs.Orderings.{is_eq-true}
use Rattle.lineage.specs.Lineage.{Row, row_cmp, Lineage, version_at, has_row, with_version, IsUnion, IsNamed}

pub row_total : IsTotalOrder row_cmp
row_total = then_total (on_total (λ (r : Row). r.0) nat_cmp_total) (on_total (λ (r : Row). r.1) nat_cmp_total)

pub row_exact : (x y : Row) → row_cmp x y ≡ Equal → x ≡ y
row_exact = exact_pairs nat_cmp nat_cmp exact_unsigned exact_unsigned

pub same_row : (a b : Row) → eq_by_cmp row_cmp a b ≡ true → a ≡ b
same_row a b is = row_exact a b (is_eq-true (row_cmp a b) is)

-- two sets with the same rows at the same versions are one
pub same_set : (one other : Lineage) → ((row : Row) → version_at one row ≡ version_at other row) → one ≡ other
same_set = same_map row_total row_exact

pub version_at-empty : (row : Row) → version_at empty row ≡ None
version_at-empty = get-empty row_cmp

-- a row alone, at a version
abbrev pub alone : Row → ℕ → Row → Option ℕ
alone row version other = cond (eq_by_cmp row_cmp other row) (Some version) None

-- what is asked twice by tied keys is answered alike
pub at_tied : (set : Lineage) (row other : Row) (r : Ordering) → row_cmp other row ≡ r → (o : Option ℕ) → version_at set row ≡ o
    → cond (is_eq r) o (version_at set other) ≡ version_at set other
at_tied set row other Less tie o is = refl
at_tied set row other Equal tie o is = sym is ∙ get_tied row_total set other row tie
at_tied set row other Greater tie o is = refl

some_kept : (b : Bool) (here there : Option ℕ) (version : ℕ) → is_some here ≡ true → cond b here there ≡ there → there ≡ option_or there (cond b (Some version) None)
some_kept true (Some v) there version is same = rw (sym same) refl
some_kept true None there version is same = cc
some_kept false here there version is same = sym (or_none there)

none_filled : (b : Bool) (here there : Option ℕ) (version : ℕ) → is_some here ≡ false → cond b here there ≡ there → cond b (Some version) there ≡ option_or there (cond b (Some version) None)
none_filled true None there version is same = rw (sym same) refl
none_filled true (Some v) there version is same = cc
none_filled false here there version is same = sym (or_none there)

-- where a row is added, the others stay, and it stays where it is in the set
pub version_at-with_version : (set : Lineage) (row : Row) (version : ℕ) (other : Row) → version_at (with_version set row version) other ≡ option_or (version_at set other) (alone row version other)
version_at-with_version set row version other =
    let same = at_tied set row other (row_cmp other row) refl (version_at set row) refl in
    elim (cases_Bool (has_row set row)) [
      | inl there ↦ rw there (some_kept (eq_by_cmp row_cmp other row) (version_at set row) (version_at set other) version there same)
      | inr absent ↦ rw absent (get-insert row_total set row version other ∙ none_filled (eq_by_cmp row_cmp other row) (version_at set row) (version_at set other) version absent same)
    ]

has_either : (a b : Option ℕ) → is_some (option_or a b) ≡ (is_some a || is_some b)
has_either None b = refl
has_either (Some v) b = refl

pub has_alone : (b : Bool) (version : ℕ) → is_some (cond b (Some version) None) ≡ b
has_alone true version = refl
has_alone false version = refl

-- a row is in the set after an addition where it was before, or is the one added
pub has_row-with_version : (set : Lineage) (row : Row) (version : ℕ) (other : Row) → has_row (with_version set row version) other ≡ (has_row set other || eq_by_cmp row_cmp other row)
has_row-with_version set row version other =
    ap is_some (version_at-with_version set row version other) ∙ has_either (version_at set other) (alone row version other)
    ∙ ap (λ b. has_row set other || b) (has_alone (eq_by_cmp row_cmp other row) version)

-- a row is in a union where it is in one of the sets
pub has_row-union : (one other both : Lineage) → IsUnion one other both → (row : Row) → has_row both row ≡ (has_row one row || has_row other row)
has_row-union one other both is row = ap is_some (is row) ∙ has_either (version_at one row) (version_at other row)

-- ---- tables with names

pub IsNamed-empty : (names : List (List ℕ)) → IsNamed names empty
IsNamed-empty names row there = absurd (false≢true (sym (ap is_some (version_at-empty row)) ∙ there))

pub IsNamed-with_version : (names : List (List ℕ)) (set : Lineage) (row : Row) (version : ℕ) → IsNamed names set → row.0 < length names → IsNamed names (with_version set row version)
IsNamed-with_version names set row version named within other there = elim (or-cases (has_row set other) (eq_by_cmp row_cmp other row) (sym (has_row-with_version set row version other) ∙ there)) [
  | inl old ↦ named other old
  | inr same ↦ rw (same_row other row same) within
]

pub IsNamed-union : (names : List (List ℕ)) (one other both : Lineage) → IsUnion one other both → IsNamed names one → IsNamed names other → IsNamed names both
IsNamed-union names one other both is named also row there = elim (or-cases (has_row one row) (has_row other row) (sym (has_row-union one other both is row) ∙ there)) [
  | inl here ↦ named row here
  | inr beside ↦ also row beside
]
