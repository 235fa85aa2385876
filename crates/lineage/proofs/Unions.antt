-- Unions of sets of rows.
use Rattle.std.proofs.Common.{◌≡◌, ◌∙◌, sym, ap, refl, ℕ, Bool, true, false, cond, List, [], ◌∷◌, ◌++◌, Option, Some}
use Rattle.std.specs.FinMap.{find, empty, entries, from_entries, get-entries, get-from_entries}
use Rattle.std.specs.Option.{option_or}
use Rattle.std.specs.Ordering.{eq_by_cmp}
use Rattle.lineage.specs.Lineage.{Row, row_cmp, Lineage, version_at, IsUnion, with_version, union_of}
use Rattle.lineage.proofs.Laws.{row_total, same_set, version_at-empty, version_at-with_version, or_assoc, or_none}

cond_or : (b : Bool) (v : ℕ) (x y : Option ℕ) → cond b (Some v) (option_or x y) ≡ option_or (cond b (Some v) x) y
cond_or true v x y = refl
cond_or false v x y = refl

pub find_append : (xs ys : List (Row × ℕ)) (q : Row) → find row_cmp q (xs ++ ys) ≡ option_or (find row_cmp q xs) (find row_cmp q ys)
find_append [] ys q = refl
find_append (x ∷ xs) ys q =
    ap (cond (eq_by_cmp row_cmp q x.0) (Some x.1)) (find_append xs ys q)
    ∙ cond_or (eq_by_cmp row_cmp q x.0) x.1 (find row_cmp q xs) (find row_cmp q ys)

-- each row of the two, and no other
pub version_union : (one other : Lineage) → IsUnion one other (union_of one other)
version_union one other q =
    get-from_entries row_total (entries one ++ entries other) q
    ∙ find_append (entries one) (entries other) q
    ∙ (λ j. option_or (sym (get-entries one q) j) (sym (get-entries other q) j))

pub union_is : (one other both : Lineage) → IsUnion one other both → both ≡ union_of one other
union_is one other both is = same_set both (union_of one other) (λ q. is q ∙ sym (version_union one other q))

pub union_none : (other : Lineage) → union_of empty other ≡ other
union_none other = same_set (union_of empty other) other (λ q.
    version_union empty other q ∙ ap (λ (o : Option ℕ). option_or o (version_at other q)) (version_at-empty q))

pub none_union : (one : Lineage) → union_of one empty ≡ one
none_union one = same_set (union_of one empty) one (λ q.
    version_union one empty q ∙ ap (λ (o : Option ℕ). option_or (version_at one q) o) (version_at-empty q) ∙ or_none (version_at one q))

pub union_assoc : (a b c : Lineage) → union_of (union_of a b) c ≡ union_of a (union_of b c)
union_assoc a b c = same_set (union_of (union_of a b) c) (union_of a (union_of b c)) (λ q.
    version_union (union_of a b) c q
    ∙ ap (λ (o : Option ℕ). option_or o (version_at c q)) (version_union a b q)
    ∙ or_assoc (version_at a q) (version_at b q) (version_at c q)
    ∙ sym (version_union a (union_of b c) q ∙ ap (option_or (version_at a q)) (version_union b c q)))

-- a set united with one more, and with those that are left
pub union_step : (old other new rest : Lineage) → IsUnion old other new → union_of new rest ≡ union_of old (union_of other rest)
union_step old other new rest is = ap (λ (s : Lineage). union_of s rest) (union_is old other new is) ∙ union_assoc old other rest

pub ruleset union_steps = (union_step, union_none, none_union)

-- ---- rows in a list

-- a row at the end of a list: the first of a row gives its version
pub row_pushed : (rows : List (Row × ℕ)) (row : Row) (version : ℕ)
    → ◌≡◌ {A = Lineage} (from_entries (rows ++ (row, version) ∷ [])) (with_version (from_entries rows) row version)
row_pushed rows row version = same_set _ _ (λ q.
    get-from_entries row_total (rows ++ (row, version) ∷ []) q
    ∙ find_append rows ((row, version) ∷ []) q
    ∙ ap (λ (o : Option ℕ). option_or o (find row_cmp q ((row, version) ∷ []))) (sym (get-from_entries row_total rows q))
    ∙ sym (version_at-with_version (from_entries rows) row version q))

-- a list after another
pub rows_joined : (rows more : List (Row × ℕ)) → IsUnion (from_entries rows) (from_entries more) (from_entries (rows ++ more))
rows_joined rows more q =
    get-from_entries row_total (rows ++ more) q
    ∙ find_append rows more q
    ∙ (λ j. option_or (sym (get-from_entries row_total rows q) j) (sym (get-from_entries row_total more q) j))

pub row_pushed_to : (rows new : List (Row × ℕ)) (row : Row) (version : ℕ) → new ≡ rows ++ (row, version) ∷ [] → ◌≡◌ {A = Lineage} (from_entries new) (with_version (from_entries rows) row version)
row_pushed_to rows new row version is = ap (λ (es : List (Row × ℕ)). from_entries es) is ∙ row_pushed rows row version

pub rows_joined_to : (rows more new : List (Row × ℕ)) → new ≡ rows ++ more → IsUnion (from_entries rows) (from_entries more) (from_entries new)
rows_joined_to rows more new is q = ap (λ (es : List (Row × ℕ)). version_at (from_entries es) q) is ∙ rows_joined rows more q

-- what is added to no row
pub union_alone : (none other both : Lineage) → none ≡ empty → IsUnion none other both → both ≡ other
union_alone none other both is union = union_is none other both union ∙ ap (λ (s : Lineage). union_of s other) is ∙ union_none other
