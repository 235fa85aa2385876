-- A level of a join by slots is the level by rows.
use Rattle.std.proofs.Common.{◌≡◌, ◌∙◌, sym, ap, refl, ℕ, ◌<◌, Bool, true, false, List, [], ◌∷◌, ◌++◌, map, length, drop, append_assoc, inl, inr}
use Rattle.std.proofs.lemmas.Bool.{cases_Bool}
use Rattle.std.proofs.lemmas.List.{map-append, length-map}
use Rattle.std.specs.Prelude.{filter, ◌&&◌, Option}
use Rattle.std.specs.BTreeSet.{BTreeSet}
use Rattle.std.specs.List.{AllByRecursion}
use Rattle.predicates.specs.Conditions.{meets}
use Rattle.predicates.specs.Placing.{AreAllPlaced}
use Rattle.predicates.specs.declared.placed.BoundExpr.{BoundExpr}
use Rattle.ldv_value.specs.declared.refs_by.RefsBy.{RefsBy}
use Rattle.lineage.specs.Flat.{HasLength}
use Rattle.lineage.specs.declared.answer.Pick.{Pick}
use Rattle.query_eval.proofs.TieKeys.{found_slots}
use Rattle.query_eval.specs.Picking.{pick_of}
use Rattle.query_eval.specs.Types.{Value}
use Rattle.query_eval.specs.declared.probe.Probe.{Probe}
use Rattle.query_eval.specs.declared.source.Source.{Source}
use Rattle.query_eval.specs.declared.source.SourceRow.{SourceRow}
use Rattle.query_eval.specs.inner.Asked.{AreAsked, IsIndex}
use Rattle.query_eval.specs.inner.Joining.{are_all_equal, extensions_by_ties, extensions_of, tests, TieValues, values_before, values_here, with_values}
use Rattle.query_eval.specs.inner.Slots.{are_met_by, combinations_at, extended_by, extended_by_all, extended_by_index, extended_by_ties, pick_at, row_at, rows_at, slots_meet, slots_with, values_at}
use Rattle.sql_model.proofs.Evaluations.{truth_by_places}
use Rattle.sql_model.specs.Evaluation.{eval_at}
use Rattle.sql_model.specs.Meaning.{is_true, truth}
use Rattle.sql_model.specs.Scope.{InScope, environment}

-- ---- conditions by places are conditions by names

pub met_by : (scope : List InScope) (conds : List BoundExpr) → AreAllPlaced scope conds → (values : List Value) → are_met_by conds values ≡ meets scope conds values
met_by scope [] all values = refl
met_by scope (c ∷ conds) all values =
    let one : (eval_at values c.expr c.places).meaning.truth ≡ truth c.expr (environment scope values) =
    truth_by_places c.expr values c.places (eval_at values c.expr c.places).meaning.truth refl scope all.0 in
    λ j. is_true (one j) && met_by scope conds all.1 values j

-- ---- rows by slots

-- what passes below a function is what passes, below it
kept-mapped : {X Y : Type 0} (f : X → Y) (s : X → Bool) (t : Y → Bool) → ((x : X) → s x ≡ t (f x)) → (xs : List X) → map f (filter s xs) ≡ filter t (map f xs)
kept-mapped f s t same [] = refl
kept-mapped f s t same (x ∷ xs) = elim (cases_Bool (t (f x))) [
  | inl hit ↦
      let is : s x ≡ true = same x ∙ hit in
      rw (is, hit) (ap (λ l. f x ∷ l) (kept-mapped f s t same xs))
  | inr miss ↦
      let is : s x ≡ false = same x ∙ miss in
      rw (is, miss) (kept-mapped f s t same xs)
]

-- the slots of all rows, row by row
seam : (xs : List SourceRow) (y : SourceRow) (ys : List SourceRow) → row_at (xs ++ y ∷ ys) (length xs) ≡ y
seam [] y ys = refl
seam (x ∷ xs) y ys = seam xs y ys

pub slot_pushed : (rows : List SourceRow) (slots new : List ℕ) (slot : ℕ) (row : SourceRow) (others : List SourceRow) → new ≡ slots ++ slot ∷ [] → slot ≡ length slots
    → map (row_at rows) slots ++ row ∷ others ≡ rows → map (row_at rows) new ++ others ≡ rows
slot_pushed rows slots new slot row others pushed is before =
    let made : List SourceRow = map (row_at rows) slots in
    let long : length made ≡ length slots = length-map slots (row_at rows) in
    let at : row_at rows slot ≡ row =
    ap (row_at rows) (is ∙ sym long) ∙ ap (λ (rs : List SourceRow). row_at rs (length made)) (sym before) ∙ seam made row others in
    ap (λ (ss : List ℕ). map (row_at rows) ss ++ others) pushed
    ∙ ap (λ (l : List SourceRow). l ++ others) (map-append (row_at rows) slots (slot ∷ []))
    ∙ append_assoc made (row_at rows slot ∷ []) others
    ∙ ap (λ (r : SourceRow). made ++ r ∷ others) at
    ∙ before

-- the slots of a prefix and one more are its rows and one more
rows-more : (sources : List Source) (source : Source) (others : List Source) (p : List ℕ) (slot : ℕ) → drop (length p) sources ≡ source ∷ others
    → rows_at sources (p ++ slot ∷ []) ≡ rows_at sources p ++ row_at source.rows slot ∷ []
rows-more [] source others [] slot is = cc
rows-more [] source others (s ∷ p) slot is = cc
rows-more (first ∷ sources) source others [] slot is =
    let same : first ≡ source = cc in
    ap (λ (s : Source). row_at s.rows slot ∷ []) same
rows-more (first ∷ sources) source others (s ∷ p) slot is =
    ap (λ (rs : List SourceRow). row_at first.rows s ∷ rs) (rows-more sources source others p slot is)

module _ (scope : List InScope) (conds : List BoundExpr) (all : AreAllPlaced scope conds) (sources : List Source) (source : Source) (others : List Source)
    (slots : List ℕ) (are : map (row_at source.rows) slots ≡ source.rows) where
  mapped : (p found : List ℕ) → drop (length p) sources ≡ source ∷ others
      → map (rows_at sources) (map (λ slot. p ++ slot ∷ []) found) ≡ map (λ row. rows_at sources p ++ row ∷ []) (map (row_at source.rows) found)
  mapped p [] next = refl
  mapped p (slot ∷ found) next = λ j. rows-more sources source others p slot next j ∷ mapped p found next j

  with-same : (ties : List Probe) (vs : List Value) → map (row_at source.rows) (slots_with ties vs source.rows slots) ≡ with_values ties vs source.rows
  with-same ties vs =
      kept-mapped (row_at source.rows) (λ slot. are_all_equal vs (values_here ties (row_at source.rows slot).values)) (λ row. are_all_equal vs (values_here ties row.values)) (λ slot. refl) slots
      ∙ ap (with_values ties vs) are

  one-same : (ties : List Probe) (p : List ℕ) → drop (length p) sources ≡ source ∷ others
      → combinations_at sources (extended_by (slots_meet conds sources) p (slots_with ties (values_before ties (values_at sources p)) source.rows slots))
      ≡ extensions_of scope conds (rows_at sources p) (with_values ties (values_before ties (values_at sources p)) source.rows)
  one-same ties p next =
      let vs : List Value = values_before ties (values_at sources p) in
      let found : List ℕ = slots_with ties vs source.rows slots in
      kept-mapped (rows_at sources) (slots_meet conds sources) (tests scope conds) (λ s. met_by scope conds all (values_at sources s)) (map (λ slot. p ++ slot ∷ []) found)
      ∙ ap (filter (tests scope conds)) (mapped p found next)
      ∙ ap (λ (rows : List SourceRow). filter (tests scope conds) (map (λ row. rows_at sources p ++ row ∷ []) rows)) (with-same ties vs)

  pub level-same : (ties : List Probe) (n : ℕ) → drop n sources ≡ source ∷ others → (ps : List (List ℕ)) → AllByRecursion (HasLength n) ps
      → combinations_at sources (extended_by_ties (slots_meet conds sources) sources ties source.rows slots ps) ≡ extensions_by_ties scope conds ties (combinations_at sources ps) source.rows
  level-same ties n next [] wide = refl
  level-same ties n next (p ∷ ps) wide =
      let here : drop (length p) sources ≡ source ∷ others = ap (λ (m : ℕ). drop m sources) wide.0 ∙ next in
      map-append (rows_at sources) (extended_by (slots_meet conds sources) p (slots_with ties (values_before ties (values_at sources p)) source.rows slots))
      (extended_by_ties (slots_meet conds sources) sources ties source.rows slots ps)
      ∙ (λ j. one-same ties p here j ++ level-same ties n next ps wide.1 j)

-- ---- slots that are looked up

module _ (test : List ℕ → Bool) (sources : List Source) (asked : Option (BTreeSet TieValues)) (index : RefsBy TieValues ℕ) (ties : List Probe) (rows : List SourceRow) (slots : List ℕ)
    (is : IsIndex asked index ties rows slots) (some : 0 < length ties) where
  pub indexed-same : (ps : List (List ℕ)) → AreAsked asked sources ties ps → extended_by_index test sources index ties ps ≡ extended_by_ties test sources ties rows slots ps
  indexed-same [] all = refl
  indexed-same (p ∷ ps) all = λ j. extended_by test p (found_slots asked index ties rows slots (values_at sources p) is some all.0 j) ++ indexed-same ps all.1 j

-- without ties each slot is looked up
untied-slots : (rows : List SourceRow) (slots : List ℕ) → slots ≡ slots_with [] [] rows slots
untied-slots rows [] = refl
untied-slots rows (slot ∷ slots) = ap (λ l. slot ∷ l) (untied-slots rows slots)

pub untied : (test : List ℕ → Bool) (sources : List Source) (ties : List Probe) (rows : List SourceRow) (slots : List ℕ) (ps : List (List ℕ)) → ties ≡ []
    → extended_by_all test ps slots ≡ extended_by_ties test sources ties rows slots ps
untied test sources ties rows slots ps none = by ps ∙ ap (λ (ts : List Probe). extended_by_ties test sources ts rows slots ps) (sym none)
  where
    by : (ps : List (List ℕ)) → extended_by_all test ps slots ≡ extended_by_ties test sources [] rows slots ps
    by [] = refl
    by (p ∷ ps) = λ j. extended_by test p (untied-slots rows slots j) ++ by ps j

-- rows that meet conditions
pub kept-same : (scope : List InScope) (conds : List BoundExpr) → AreAllPlaced scope conds → (sources : List Source) (rows : List (List ℕ))
    → combinations_at sources (filter (slots_meet conds sources) rows) ≡ filter (tests scope conds) (combinations_at sources rows)
kept-same scope conds all sources rows =
    kept-mapped (rows_at sources) (slots_meet conds sources) (tests scope conds) (λ s. met_by scope conds all (values_at sources s)) rows

-- ---- picks

pub picks-same : (keep : Bool) (sources : List Source) (rows : List (List ℕ)) → map (pick_at keep sources) rows ≡ map (pick_of keep sources) (combinations_at sources rows)
picks-same keep sources [] = refl
picks-same keep sources (row ∷ rows) = ap (λ (l : List Pick). pick_at keep sources row ∷ l) (picks-same keep sources rows)
