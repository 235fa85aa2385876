-- The rows listed for two sets are the needed rows of the lineages that these sets represent.
use Rattle.std.proofs.Common.{◌≡◌, ◌∙◌, sym, ap, refl, ℕ, suc, List, [], ◌∷◌, ◌++◌, map, length, Bool, true, false, Some, None, is_some, ◌&&◌, ◌||◌, inl, inr, T, cond, arith}
use Rattle.std.specs.Prelude.{nat_lt, if◌then◌else◌}
use Rattle.std.specs.List.{list_any, AllByRecursion}
use Rattle.std.specs.List.Sorted.{IsStrictlySortedBy}
use Rattle.std.specs.Cmp.Lexicographic.{slice_cmp}
use Rattle.std.specs.Cmp.{both_ways}
use Rattle.std.specs.FinMap.{entries, get-entries, entries_sorted, is_sorted}
use Rattle.std.specs.FinMap.Entries.{find, below_all, is_some-find}
use Rattle.std.specs.Ordering.{nat_cmp, eq_by_cmp, is_eq, is_lt, ordering_reverse}
use Rattle.std.specs.declared.cmp.Ordering.TheVariants.{Less}
use Rattle.std.proofs.lemmas.Bool.{cases_Bool}
use Rattle.std.proofs.lemmas.Bool.Decides.{nat_tests}
use Rattle.std.proofs.lemmas.Cmp.{tied_itself}
use Rattle.std.proofs.lemmas.List.{append-nil}
use Rattle.lineage.specs.Needing.{need_by, union_of_needs}
use Rattle.lineage.proofs.RowLists.{IsBefore, Rises, sorted_united, read_united}
use Rattle.ldv_value.proofs.Booleans.{or-right, t-first, t-second}
use Rattle.ldv_value.proofs.Orderings.{t-less}
use Rattle.ldv_value.proofs.SameBytes.{bytes_eq-true}
use Rattle.lineage.specs.Lineage.{Row, row_cmp, Lineage, version_at, name_at, member, members_of}
use Rattle.lineage.specs.StandsFor.{origin_at, StandsFor}
use Rattle.lineage.proofs.Laws.{row_total, same_row}
use Rattle.lineage.proofs.Listed.{members-sorted}
use Rattle.lineage.proofs.Origins.{stands-named}
use Rattle.sql_engine.specs.inner.Listing.{needs_of}
use Rattle.sql_engine.specs.Types.{L, H, Rule}
use Rattle.sql_laws.proofs.NeedsLaws.{needs_law}
use Rattle.sql_model.specs.Needs.{NeededRow, Versions, needed_by, sorted_needs, read_of}
use Rattle.sql_model.specs.Origins.{is_origin, has_origin, SameSet, RuleOrigins}
use Rattle.sql_model.proofs.OriginSets.{origin-same, origin-itself}
use Rattle.sql_model.specs.QueryAnswer.{Origin}
use Rattle.sql_model.specs.Scope.{same_text}
use Rattle.sql_model.specs.MemberOrder.{member_cmp}

-- the table of a row has a name
abbrev pub IsNamedIn : List (List ℕ) → Origin → Type 0
IsNamedIn names o = list_any (same_text o.table) names ≡ true

abbrev pub AreNamedIn : List (List ℕ) → List Origin → Type 0
AreNamedIn names origins = AllByRecursion (IsNamedIn names) origins

module _ (names : List (List ℕ)) where
  -- the rows of a set, by the names of their tables
  abbrev origin_of : Row × ℕ → Origin
  origin_of e = origin_at names e.0

  abbrev pub origins_of : Lineage → List Origin
  origins_of set = map origin_of (entries set)

  -- ---- a row is in the set where it is among these

  first_within : (m : ℕ) → nat_lt 0 (suc m) ≡ true
  first_within m = grind (arith, nat_tests)

  next_within : (p m : ℕ) → nat_lt p m ≡ true → nat_lt (suc p) (suc m) ≡ true
  next_within p m is = grind (arith, nat_tests)

  -- the place of a name
  place_at : (name : List ℕ) (ns : List (List ℕ)) → list_any (same_text name) ns ≡ true
      → (place : ℕ) × (nat_lt place (length ns) ≡ true) × (name_at ns place ≡ name)
  place_at name [] any = absurd cc
  place_at name (n ∷ ns) any = elim (cases_Bool (same_text name n)) [
    | inl hit ↦ (0, first_within (length ns), sym (bytes_eq-true name n hit))
    | inr miss ↦
        let more = place_at name ns (rw miss at any) in
        (suc more.0, next_within more.0 (length ns) more.1, more.2)
  ]

  tied_origin : (row : Row) (es : List (Row × ℕ)) → list_any (eq_by_cmp row_cmp row) (map (λ e. e.0) es) ≡ true
      → has_origin (origin_at names row) (map origin_of es) ≡ true
  tied_origin row [] any = absurd cc
  tied_origin row (e ∷ es) any = elim (cases_Bool (eq_by_cmp row_cmp row e.0)) [
    | inl hit ↦
        let here : is_origin (origin_at names row) (origin_at names e.0) ≡ true =
        ap (λ (r : Row). is_origin (origin_at names row) (origin_at names r)) (sym (same_row row e.0 hit)) ∙ origin-itself (origin_at names row) in
        ap (λ (b : Bool). b || has_origin (origin_at names row) (map origin_of es)) here
    | inr miss ↦
        or-right (is_origin (origin_at names row) (origin_at names e.0)) (has_origin (origin_at names row) (map origin_of es))
        (tied_origin row es (rw miss at any))
  ]

  -- what holds of each row that is found holds of each entry
  each_entry : (P : Row → Type 0) (es : List (Row × ℕ)) → ((row : Row) → list_any (eq_by_cmp row_cmp row) (map (λ e. e.0) es) ≡ true → P row)
      → AllByRecursion (λ e. P e.0) es
  each_entry P [] h = tt
  each_entry P (e ∷ es) h = (
    h e.0 (ap (λ (b : Bool). b || list_any (eq_by_cmp row_cmp e.0) (map (λ f. f.0) es)) (itself e.0)),
    each_entry P es (λ row there. h row (or-right (eq_by_cmp row_cmp row e.0) (list_any (eq_by_cmp row_cmp row) (map (λ f. f.0) es)) there)),
  )
    where
      itself : (row : Row) → eq_by_cmp row_cmp row row ≡ true
      itself row = ap is_eq (tied_itself row_total row)

  -- a row of these is in the lineage
  any_origin : (a : List Origin) (o : Origin) (es : List (Row × ℕ)) → AllByRecursion (λ e. has_origin (origin_at names e.0) a ≡ true) es
      → has_origin o (map origin_of es) ≡ true → has_origin o a ≡ true
  any_origin a o [] h any = absurd cc
  any_origin a o (e ∷ es) h any = elim (cases_Bool (is_origin o (origin_at names e.0))) [
    | inl hit ↦ ap (λ (p : Origin). has_origin p a) (origin-same o (origin_at names e.0) hit) ∙ h.0
    | inr miss ↦ any_origin a o es h.1 (rw miss at any)
  ]

  -- a row of a lineage has a table with a name
  named_origin : (o : Origin) (a : List Origin) → AreNamedIn names a → has_origin o a ≡ true → IsNamedIn names o
  named_origin o [] h any = absurd cc
  named_origin o (b ∷ bs) h any = elim (cases_Bool (is_origin o b)) [
    | inl hit ↦ ap (λ (p : Origin). list_any (same_text p.table) names) (origin-same o b hit) ∙ h.0
    | inr miss ↦ named_origin o bs h.1 (rw miss at any)
  ]

  module _ (versions : Versions) where
    abbrev version_of : Row → ℕ
    version_of row = versions (name_at names row.0) row.1

    is_there : (w h : Bool) (v : ℕ) → is_some (if w && h then Some v else None) ≡ true → h ≡ true
    is_there true h v is = by h is
      where
        by : (h : Bool) → is_some (if h then Some v else None) ≡ true → h ≡ true
        by true is = refl
        by false is = cc
    is_there false h v is = cc

    module _ (set : Lineage) (a : List Origin) (named : AreNamedIn names a) (stands : StandsFor names versions set a) where
      found_any : (row : Row) → is_some (version_at set row) ≡ list_any (eq_by_cmp row_cmp row) (map (λ e. e.0) (entries set))
      found_any row = ap is_some (get-entries set row) ∙ is_some-find row_cmp row (entries set)

      listed_stands : AllByRecursion (λ e. has_origin (origin_at names e.0) a ≡ true) (entries set)
      listed_stands = each_entry (λ row. has_origin (origin_at names row) a ≡ true) (entries set)
          (λ row there. is_there (nat_lt row.0 (length names)) (has_origin (origin_at names row) a) (version_of row)
          (sym (ap is_some (stands row)) ∙ found_any row ∙ there))

      stands_listed : (o : Origin) → has_origin o a ≡ true → has_origin o (origins_of set) ≡ true
      stands_listed o there =
          let place = place_at o.table names (named_origin o a named there) in
          let row : Row = (place.0, o.row) in
          let same : origin_at names row ≡ o = λ j. record { table = place.2 j; row = o.row } in
          let has : has_origin (origin_at names row) a ≡ true = ap (λ (p : Origin). has_origin p a) same ∙ there in
          let found : version_at set row ≡ Some (version_of row) =
          stands row ∙ (λ j. if place.1 j && has j then Some (version_of row) else None) in
          ap (λ (p : Origin). has_origin p (origins_of set)) (sym same)
          ∙ tied_origin row (entries set) (sym (found_any row) ∙ ap is_some found)

      pub same_origins : SameSet a (origins_of set)
      same_origins o = both_ways (has_origin o a) (has_origin o (origins_of set)) (stands_listed o)
          (any_origin a o (entries set) listed_stands)

      -- ---- at their versions

      entry_found : (es : List (Row × ℕ)) → T (is_sorted row_cmp es) → AllByRecursion (λ e. find row_cmp e.0 es ≡ Some e.1) es
      entry_found [] h = tt
      entry_found (e ∷ es) h = (
        ap (λ (b : Bool). cond b (Some e.1) (find row_cmp e.0 es)) (ap is_eq (tied_itself row_total e.0)),
        later es (t-first (below_all row_cmp e.0 es) (is_sorted row_cmp es) h) (entry_found es (t-second (below_all row_cmp e.0 es) (is_sorted row_cmp es) h)),
      )
        where
          later : (fs : List (Row × ℕ)) → T (below_all row_cmp e.0 fs) → AllByRecursion (λ f. find row_cmp f.0 es ≡ Some f.1) fs
              → AllByRecursion (λ f. find row_cmp f.0 (e ∷ es) ≡ Some f.1) fs
          later [] below found = tt
          later (f ∷ fs) below found =
              let less : row_cmp e.0 f.0 ≡ Less = t-less (row_cmp e.0 f.0) (t-first (is_lt (row_cmp e.0 f.0)) (below_all row_cmp e.0 fs) below) in
              let apart : eq_by_cmp row_cmp f.0 e.0 ≡ false = ap is_eq (row_total.antisymm f.0 e.0 ∙ ap ordering_reverse less) in (
                ap (λ (b : Bool). cond b (Some e.1) (find row_cmp f.0 es)) apart ∙ found.0,
                later fs (t-second (is_lt (row_cmp e.0 f.0)) (below_all row_cmp e.0 fs) below) found.1,
              )

      some_version : (w h : Bool) (v n : ℕ) → (if w && h then Some v else None) ≡ Some n → v ≡ n
      some_version true true v n is = cc
      some_version true false v n is = cc
      some_version false h v n is = cc

      read_entry : (rule : Rule) (e : Row × ℕ) → version_at set e.0 ≡ Some e.1
          → need_by rule (member names e) ≡ read_of versions (needed_by rule (origin_at names e.0))
      read_entry rule e found =
          let same : version_of e.0 ≡ e.1 = some_version (nat_lt e.0.0 (length names)) (has_origin (origin_at names e.0) a) (version_of e.0) e.1
          (sym (stands e.0) ∙ found) in
          λ j. record { member = record { table = name_at names e.0.0; row = e.0.1; version = sym same j }; rule = rule }

      read_entries : (rule : Rule) (es : List (Row × ℕ)) → AllByRecursion (λ e. version_at set e.0 ≡ Some e.1) es
          → map (need_by rule) (map (member names) es) ≡ map (read_of versions) (map (needed_by rule) (map origin_of es))
      read_entries rule [] h = refl
      read_entries rule (e ∷ es) h = λ j. read_entry rule e h.0 j ∷ read_entries rule es h.1 j

      found_entries : (es : List (Row × ℕ)) → AllByRecursion (λ e. find row_cmp e.0 (entries set) ≡ Some e.1) es
          → AllByRecursion (λ e. version_at set e.0 ≡ Some e.1) es
      found_entries [] h = tt
      found_entries (e ∷ es) h = (get-entries set e.0 ∙ h.0, found_entries es h.1)

      pub read_members : (rule : Rule)
          → map (need_by rule) (members_of names set) ≡ map (read_of versions) (map (needed_by rule) (origins_of set))
      read_members rule = read_entries rule (entries set) (found_entries (entries set) (entry_found (entries set) (entries_sorted set)))

      -- ---- sorted

      module _ (sorted : IsStrictlySortedBy (slice_cmp nat_cmp) names) (rule : Rule) where
        before : (e : Row × ℕ) (es : List (Row × ℕ)) → AllByRecursion (λ m. member_cmp (member names e) m ≡ Less) (map (member names) es)
            → IsBefore (needed_by rule (origin_of e)) (map (needed_by rule) (map origin_of es))
        before e [] h = tt
        before e (f ∷ fs) h = (h.0, before e fs h.1)

        rising : (es : List (Row × ℕ)) → IsStrictlySortedBy member_cmp (map (member names) es) → Rises (map (needed_by rule) (map origin_of es))
        unfolding IsStrictlySortedBy
        rising [] h = tt
        rising (e ∷ es) h = (before e es h.0, rising es h.1)

        pub rows_rise : Rises (map (needed_by rule) (origins_of set))
        rows_rise = rising (entries set) (members-sorted names sorted set (stands-named names versions set a stands))

  -- ---- both sets

  abbrev needing : Rule → List Origin → RuleOrigins
  needing rule origins = record { rule = rule; origins = origins }

  pub needs_are : (versions : Versions) (lineage hidden : Lineage) (a b : List Origin)
      → IsStrictlySortedBy (slice_cmp nat_cmp) names → AreNamedIn names a → AreNamedIn names b
      → StandsFor names versions lineage a → StandsFor names versions hidden b
      → needs_of names lineage hidden ≡ map (read_of versions) (sorted_needs (map (needed_by L) a ++ map (needed_by H) b))
  needs_are versions lineage hidden a b sorted first second stands others =
      (λ j. union_of_needs (read_members versions lineage a first stands L j) (read_members versions hidden b second others H j))
      ∙ read_united versions xs ys
      ∙ ap (map (read_of versions)) (sym (sorted_united xs ys (rows_rise versions lineage a first stands sorted L) (rows_rise versions hidden b second others sorted H)))
      ∙ ap (λ (ns : List NeededRow). map (read_of versions) (sorted_needs (xs ++ ns))) (sym (append-nil ys))
      ∙ ap (map (read_of versions)) (sym (needs_law (needing L a ∷ needing H b ∷ []) (needing L (origins_of lineage) ∷ needing H (origins_of hidden) ∷ [])
      (refl, same_origins versions lineage a first stands, (refl, same_origins versions hidden b second others, tt))))
      ∙ ap (λ (ns : List NeededRow). map (read_of versions) (sorted_needs (map (needed_by L) a ++ ns))) (append-nil (map (needed_by H) b))
    where
      xs : List NeededRow
      xs = map (needed_by L) (origins_of lineage)

      ys : List NeededRow
      ys = map (needed_by H) (origins_of hidden)
