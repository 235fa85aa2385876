-- The rows that blocks stand for.
use Rattle.std.proofs.Common.{◌≡◌, ◌≢◌, ◌∙◌, sym, ap, refl, ℕ, zero, suc, ◌+◌, ◌*◌, ◌/◌, ◌%◌, ◌<◌, ◌≤◌, inl, inr, Bool, true, false, cond, List, [], ◌∷◌, Option, Some, None, is_some, arith}
use Rattle.std.specs.BTreeMap as tree
use Rattle.std.specs.BTreeMap.{BTreeMap, is_at}
use Rattle.std.specs.Map.{lookup, keys_of}
use Rattle.std.specs.FinMap.{find, from_entries, get-from_entries}
use Rattle.std.specs.Option.{option_or}
use Rattle.std.specs.Ordering.{eq_by_cmp, is_eq}
use Rattle.std.proofs.lemmas.Bool.{cases_Bool, cases_eq}
use Rattle.std.proofs.lemmas.Cmp.{tied_itself}
use Rattle.lineage.specs.inner.Blocks.{with_row, rows_from, rows_of_block, rows_under, all_rows, row_at}
use Rattle.lineage.specs.inner.Blocks.{found_at, block_of, AreRoomier}
use Rattle.lineage.specs.Lineage.{Row, row_cmp, Lineage, version_at, with_version, IsUnion}
use Rattle.lineage.specs.declared.blocks.Block.{Block}
use Rattle.lineage.proofs.Laws.{row_total, same_row, same_set, alone, version_at-with_version}
use Rattle.lineage.proofs.Unions.{find_append}
use Rattle.ldv_value.proofs.Booleans.{true≢false}

pub tied_row : (a b : Row) → a ≡ b → eq_by_cmp row_cmp a b ≡ true
tied_row a b is = ap (λ (r : Row). eq_by_cmp row_cmp a r) (sym is) ∙ ap is_eq (tied_itself row_total a)

pub apart_row : (a b : Row) → (a ≡ b → ⊥) → eq_by_cmp row_cmp a b ≡ false
apart_row a b apart = elim (cases_Bool (eq_by_cmp row_cmp a b)) [ inl hit ↦ absurd (apart (same_row a b hit)) | inr miss ↦ miss ]

-- ---- rows of one block

past_row : (row q : Row) (o : Option ℕ) (rows : List (Row × ℕ)) → eq_by_cmp row_cmp q row ≡ false → find row_cmp q (with_row row o rows) ≡ find row_cmp q rows
past_row row q None rows miss = refl
past_row row q (Some v) rows miss = ap (λ b. cond b (Some v) (find row_cmp q rows)) miss

at_row : (row q : Row) (o : Option ℕ) (rows : List (Row × ℕ)) → eq_by_cmp row_cmp q row ≡ true → find row_cmp q rows ≡ None → find row_cmp q (with_row row o rows) ≡ o
at_row row q None rows hit none = none
at_row row q (Some v) rows hit none = ap (λ b. cond b (Some v) (find row_cmp q rows)) hit

module _ (found : ℕ → Option ℕ) (table base : ℕ) where
  not_there : (count n : ℕ) (q : Row) → ((i : ℕ) → n ≤ i → i < n + count → q ≡ (table, base + i) → ⊥) → find row_cmp q (rows_from found table base count n) ≡ None
  not_there zero n q none = refl
  not_there (suc count) n q none =
      past_row (table, base + n) q (found n) (rows_from found table base count (suc n)) (apart_row q (table, base + n) (none n (omega arith) (omega arith)))
      ∙ not_there count (suc n) q (λ i on below. none i (omega (arith, on)) (omega (arith, below)))

  found_there : (count n i : ℕ) → n ≤ i → i < n + count → find row_cmp (table, base + i) (rows_from found table base count n) ≡ found i
  found_there zero n i on below = absurd (omega (arith, on, below))
  found_there (suc count) n i on below = elim (cases_eq i n) [
    | inl is ↦
        at_row (table, base + n) (table, base + i) (found n) (rows_from found table base count (suc n))
        (tied_row (table, base + i) (table, base + n) (λ j. (table, base + is j)))
        (not_there count (suc n) (table, base + i) (λ k later within same. omega (arith, later, is, ap (λ (r : Row). r.1) same)))
        ∙ sym (ap found is)
    | inr apart ↦
        past_row (table, base + n) (table, base + i) (found n) (rows_from found table base count (suc n))
        (apart_row (table, base + i) (table, base + n) (λ same. apart (omega (arith, ap (λ (r : Row). r.1) same))))
        ∙ found_there count (suc n) i (omega (arith, on, apart)) (omega (arith, below))
  ]

block_found : (o : Option Block) (q : Row) → find row_cmp q (rows_of_block o (block_of q)) ≡ row_at o (q.1 % 65536)
unfolding rows_of_block
block_found o q =
    let whole : q.1 ≡ 65536 * (q.1 / 65536) + q.1 % 65536 = omega arith in
    ap (λ (k : ℕ). find row_cmp (q.0, k) (rows_from (row_at o) q.0 (65536 * (q.1 / 65536)) 65536 0)) whole
    ∙ found_there (row_at o) q.0 (65536 * (q.1 / 65536)) 65536 0 (q.1 % 65536) (omega arith) (omega arith)

block_missed : (o : Option Block) (place q : Row) → is_at (row_cmp (block_of q)) place ≡ false → find row_cmp q (rows_of_block o place) ≡ None
unfolding rows_of_block
block_missed o place q miss = not_there (row_at o) place.0 (65536 * place.1) 65536 0 q (λ i on below same.
    let table : q.0 ≡ place.0 = ap (λ (r : Row). r.0) same in
    let number : q.1 / 65536 ≡ place.1 = omega (arith, below, ap (λ (r : Row). r.1) same) in
    true≢false (sym (tied_row (block_of q) place (λ j. (table j, number j))) ∙ miss))

-- ---- rows of all blocks

one_only : (o : Option ℕ) (b : Bool) → option_or o (cond b o None) ≡ o
one_only None true = refl
one_only None false = refl
one_only (Some v) b = refl

seen_under : (at : Row → Option Block) (es : List (Row × Block)) (q : Row)
    → find row_cmp q (rows_under at (keys_of es)) ≡ cond (is_some (lookup (is_at (row_cmp (block_of q))) es)) (row_at (at (block_of q)) (q.1 % 65536)) None
seen_under at [] q = refl
seen_under at (e ∷ es) q =
    let n : ℕ = q.1 % 65536 in
    let rest = seen_under at es q in
    find_append (rows_of_block (at e.0) e.0) (rows_under at (keys_of es)) q
    ∙ elim (cases_Bool (is_at (row_cmp (block_of q)) e.0)) [
      | inl hit ↦
          let same : block_of q ≡ e.0 = same_row (block_of q) e.0 hit in
          (λ j. option_or (find row_cmp q (rows_of_block (at (sym same j)) (sym same j))) (rest j))
          ∙ ap (λ (o : Option ℕ). option_or o (cond (is_some (lookup (is_at (row_cmp (block_of q))) es)) (row_at (at (block_of q)) n) None)) (block_found (at (block_of q)) q)
          ∙ one_only (row_at (at (block_of q)) n) (is_some (lookup (is_at (row_cmp (block_of q))) es))
          ∙ sym (ap (λ b. cond (is_some (cond b (Some e.1) (lookup (is_at (row_cmp (block_of q))) es))) (row_at (at (block_of q)) n) None) hit)
      | inr miss ↦
          (λ j. option_or (block_missed (at e.0) e.0 q miss j) (rest j))
          ∙ sym (ap (λ b. cond (is_some (cond b (Some e.1) (lookup (is_at (row_cmp (block_of q))) es))) (row_at (at (block_of q)) n) None) miss)
    ]

none_there : (o : Option Block) (n : ℕ) → cond (is_some o) (row_at o n) None ≡ row_at o n
none_there None n = refl
none_there (Some b) n = refl

-- a row is seen as it is found in its block
pub seen : (m : BTreeMap Row Block) (q : Row) → version_at (from_entries (all_rows m)) q ≡ found_at m q
seen m q =
    get-from_entries row_total (all_rows m) q ∙ seen_under (tree.get row_cmp m) m.entries q
    ∙ none_there (tree.get row_cmp m (block_of q)) (q.1 % 65536)

pub seen_in : (m : BTreeMap Row Block) (set : Lineage) → from_entries (all_rows m) ≡ set → (q : Row) → found_at m q ≡ version_at set q
seen_in m set is q = sym (seen m q) ∙ ap (λ (s : Lineage). version_at s q) is

-- ---- what is done to blocks is done to the set

pub roomier_seen : (m n : BTreeMap Row Block) (set : Lineage) → from_entries (all_rows m) ≡ set → AreRoomier m n → ◌≡◌ {A = Lineage} (from_entries (all_rows n)) set
roomier_seen m n set is roomier = same_set (from_entries (all_rows n)) set (λ q.
    seen n q ∙ roomier.same (block_of q) (q.1 % 65536) ∙ seen_in m set is q)

pub added_seen : (m n : BTreeMap Row Block) (set : Lineage) (row : Row) (v : ℕ) → from_entries (all_rows m) ≡ set
    → ((q : Row) → found_at n q ≡ option_or (found_at m q) (cond (eq_by_cmp row_cmp q row) (Some v) None)) → ◌≡◌ {A = Lineage} (from_entries (all_rows n)) (with_version set row v)
added_seen m n set row v is step = same_set (from_entries (all_rows n)) (with_version set row v) (λ q.
    seen n q ∙ step q ∙ ap (λ (o : Option ℕ). option_or o (alone row v q)) (seen_in m set is q)
    ∙ sym (version_at-with_version set row v q))

pub united_seen : (m n : BTreeMap Row Block) (set other : Lineage) → from_entries (all_rows m) ≡ set
    → ((q : Row) → found_at n q ≡ option_or (found_at m q) (version_at other q)) → IsUnion set other (from_entries (all_rows n))
united_seen m n set other is step q = seen n q ∙ step q ∙ ap (λ (o : Option ℕ). option_or o (version_at other q)) (seen_in m set is q)

pub none_seen : (m : BTreeMap Row Block) → m.entries ≡ [] → ◌≡◌ {A = Lineage} (from_entries (all_rows m)) (from_entries [])
none_seen m none = ap (λ (es : List (Row × Block)). from_entries (rows_under (tree.get row_cmp m) (keys_of es))) none
