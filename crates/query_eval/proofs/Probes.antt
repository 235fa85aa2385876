-- Equalities by which rows are looked up.
use Rattle.std.proofs.Common.{◌≡◌, ◌∙◌, sym, ap, subst, refl, ℕ, zero, suc, ◌+◌, ◌<◌, Bool, true, false, ◌&&◌, inl, inr, List, [], ◌∷◌, ◌++◌, length, arith, Option}
use Rattle.std.specs.Prelude.{slice_get, unwrap_or}
use Rattle.std.proofs.lemmas.List.Folds.{list_all-append}
use Rattle.ldv_value.proofs.Booleans.{and-assoc, and-true}
use Rattle.ldv_value.specs.declared.value.Cmp.TheVariants.{Eq}
use Rattle.query_eval.proofs.Agree.{value_first}
use Rattle.query_eval.proofs.Levels.{joined_row_values-one}
use Rattle.predicates.proofs.Equalities.{equals-turned}
use Rattle.predicates.proofs.Places.{placed-more}
use Rattle.predicates.specs.Placing.{AreAllPlaced}
use Rattle.predicates.specs.Equality.{equals}
use Rattle.query_eval.specs.inner.Joining.{tests, are_all_equal, are_tied, values_before, values_here, AreTies, AreTiesWith, IsBetween, IsEquality, IsProbeOf}
use Rattle.query_eval.specs.inner.Sources.{joined_row_values}
use Rattle.query_eval.specs.Types.{ColumnName, Compare, Expr, Null, Value}
use Rattle.predicates.specs.declared.placed.BoundExpr.{BoundExpr}
use Rattle.query_eval.specs.declared.probe.Probe.{Probe}
use Rattle.query_eval.specs.declared.source.SourceRow.{SourceRow}
use Rattle.sql_model.proofs.Folds.{fold-Both, fold-Column}
use Rattle.sql_model.specs.Kinds.{names_in, names_step}
use Rattle.sql_model.specs.Meaning.{Environment, Meaning, eval_step, both, is_true, truth}
use Rattle.ldv_value.specs.Cells.{value_at}
use Rattle.sql_model.specs.Scope.{environment, place_of, places_in}
use Rattle.sql_model.specs.declared.expr.Expr.TheVariants.{Both, Column}

got-next : (first more : List Value) (i j : ℕ) → i ≡ length first + j → slice_get (first ++ more) i ≡ slice_get more j
got-next [] more i j is = let same : i ≡ j = omega (arith, is) in ap (slice_get more) same
got-next (v ∷ first) more zero j is = absurd (omega (arith, is))
got-next (v ∷ first) more (suc i) j is = got-next first more i j (omega (arith, is))

pub value-next : (first more : List Value) (i j : ℕ) → i ≡ length first + j → value_at (first ++ more) i ≡ value_at more j
value-next first more i j is = ap (λ (o : Option Value). unwrap_or o Null) (got-next first more i j is)

column-names : (left right : ColumnName) → names_in (Both (Compare Eq) (Column left) (Column right)) ≡ left ∷ right ∷ []
column-names left right =
    fold-Both names_step (Compare Eq) (Column left) (Column right)
    ∙ (λ j. fold-Column names_step left j ++ fold-Column names_step right j)

column-truth : (left right : ColumnName) (env : Environment) → is_true (truth (Both (Compare Eq) (Column left) (Column right)) env) ≡ equals (env left) (env right)
column-truth left right env =
    ap (λ (f : List Environment → Meaning). is_true (f (env ∷ [])).truth) (fold-Both eval_step (Compare Eq) (Column left) (Column right))
    ∙ (λ j. is_true (both (Compare Eq) (fold-Column eval_step left j (env ∷ [])) (fold-Column eval_step right j (env ∷ []))).truth)

firsts : (x y a b : ℕ) (more : List ℕ) → x ∷ y ∷ [] ≡ a ∷ b ∷ more → (x ≡ a) × (y ≡ b)
firsts x y a b more is = (cc, cc)

-- one column before, and one of the row itself
found-value : (p : List SourceRow) (row : SourceRow) (n a b place : ℕ) → length (joined_row_values p) ≡ n → a < n → n + place ≡ b
    → (value_at (joined_row_values (p ++ row ∷ [])) a ≡ value_at (joined_row_values p) a) × (value_at (joined_row_values (p ++ row ∷ [])) b ≡ value_at row.values place)
found-value p row n a b place long below at = (
  ap (λ (vs : List Value). value_at vs a) (joined_row_values-one p row) ∙ value_first (joined_row_values p) row.values a (omega (arith, below, long)),
  ap (λ (vs : List Value). value_at vs b) (joined_row_values-one p row) ∙ value-next (joined_row_values p) row.values b place (omega (arith, at, long)),
)

pub probe-is : (cond : BoundExpr) (a b width : ℕ) (more : List ℕ) (probe : Probe) → IsEquality cond.expr → cond.places ≡ a ∷ b ∷ more → IsBetween a b width probe → IsProbeOf cond width probe
probe-is cond a b width more probe (left, right, is) places between scope placed p row long =
    let two : (place_of scope left ≡ a) × (place_of scope right ≡ b) =
    firsts (place_of scope left) (place_of scope right) a b more
    (sym (ap (places_in scope) (ap names_in is ∙ column-names left right)) ∙ placed ∙ places) in
    let values : List Value = joined_row_values (p ++ row ∷ []) in
    let equal : equals (value_at values a) (value_at values b) ≡ is_true (truth cond.expr (environment scope values)) =
    (λ j. equals (value_at values (sym two.0 j)) (value_at values (sym two.1 j)))
    ∙ sym (ap (λ (e : Expr). is_true (truth e (environment scope values))) is ∙ column-truth left right (environment scope values)) in
    elim between [
      | inl (from, below, at) ↦
          let seen = found-value p row width a b probe.place long below at in
          ap (λ (i : ℕ). equals (value_at (joined_row_values p) i) (value_at row.values probe.place)) from
          ∙ (λ j. equals (sym seen.0 j) (sym seen.1 j)) ∙ equal
      | inr (from, below, at) ↦
          let seen = found-value p row width b a probe.place long below at in
          ap (λ (i : ℕ). equals (value_at (joined_row_values p) i) (value_at row.values probe.place)) from
          ∙ (λ j. equals (sym seen.0 j) (sym seen.1 j))
          ∙ equals-turned (value_at values b) (value_at values a) ∙ equal
    ]

-- ---- conditions taken apart

regroup : (e o t r : Bool) → (e && (o && (t && r))) ≡ ((e && t) && (o && r))
regroup true true t r = refl
regroup true false true r = refl
regroup true false false r = refl
regroup false o t r = refl

equal_more : (ties : List Probe) (tie : Probe) (a b : List Value)
    → are_all_equal (values_before (ties ++ tie ∷ []) a) (values_here (ties ++ tie ∷ []) b)
    ≡ (are_all_equal (values_before ties a) (values_here ties b) && equals (value_at a tie.from) (value_at b tie.place))
equal_more [] tie a b = and-true (equals (value_at a tie.from) (value_at b tie.place))
equal_more (t ∷ ties) tie a b =
    let here : Bool = equals (value_at a t.from) (value_at b t.place) in
    ap (λ e. here && e) (equal_more ties tie a b)
    ∙ sym (and-assoc here (are_all_equal (values_before ties a) (values_here ties b)) (equals (value_at a tie.from) (value_at b tie.place)))

pub tie_added : (conds : List BoundExpr) (n : ℕ) (ties new : List Probe) (others left : List BoundExpr) (cond : BoundExpr) (probe : Probe)
    → IsProbeOf cond n probe → new ≡ ties ++ probe ∷ [] → AreTiesWith conds n ties others (cond ∷ left) → AreTiesWith conds n new others left
tie_added conds n ties new others left cond probe is added were scope all =
    let before = were scope all in (
      (before.0.0, before.0.1.1),
      λ p row long.
          let rows : List SourceRow = p ++ row ∷ [] in
          let met : Bool = is_true (truth cond.expr (environment scope (joined_row_values rows))) in
          before.1 p row long
          ∙ regroup (are_tied ties p row) (tests scope others rows) met (tests scope left rows)
          ∙ ap (λ t. (are_tied ties p row && t) && (tests scope others rows && tests scope left rows)) (sym (is scope before.0.1.0 p row long))
          ∙ ap (λ e. e && (tests scope others rows && tests scope left rows))
          (sym (equal_more ties probe (joined_row_values p) row.values) ∙ ap (λ (ts : List Probe). are_tied ts p row) (sym added)),
    )

pub other_added : (conds : List BoundExpr) (n : ℕ) (ties : List Probe) (others new left : List BoundExpr) (cond : BoundExpr)
    → new ≡ others ++ cond ∷ [] → AreTiesWith conds n ties others (cond ∷ left) → AreTiesWith conds n ties new left
other_added conds n ties others new left cond added were scope all =
    let before = were scope all in (
      (subst (AreAllPlaced scope) (sym added) (placed-more scope others cond before.0.0 before.0.1.0), before.0.1.1),
      λ p row long.
          let rows : List SourceRow = p ++ row ∷ [] in
          let met : BoundExpr → Bool = λ c. is_true (truth c.expr (environment scope (joined_row_values rows))) in
          let both : tests scope new rows ≡ (tests scope others rows && met cond) =
          ap (λ (cs : List BoundExpr). tests scope cs rows) added ∙ list_all-append met others (cond ∷ [])
          ∙ ap (λ b. tests scope others rows && b) (and-true (met cond)) in
          before.1 p row long
          ∙ ap (λ b. are_tied ties p row && b) (sym (and-assoc (tests scope others rows) (met cond) (tests scope left rows))
          ∙ ap (λ b. b && tests scope left rows) (sym both)),
    )

pub ties_start : (conds : List BoundExpr) (n : ℕ) (ties : List Probe) (others left : List BoundExpr) → ties ≡ [] → others ≡ [] → left ≡ conds
    → AreTiesWith conds n ties others left
ties_start conds n ties others left no_ties no_others all_left scope all = (
  (subst (AreAllPlaced scope) (sym no_others) tt, subst (AreAllPlaced scope) (sym all_left) all),
  λ p row long. λ j.
      are_tied (sym no_ties j) p row && (tests scope (sym no_others j) (p ++ row ∷ []) && tests scope (sym all_left j) (p ++ row ∷ [])),
)

pub ties_end : (conds : List BoundExpr) (n : ℕ) (ties : List Probe) (others left : List BoundExpr) → left ≡ [] → AreTiesWith conds n ties others left
    → AreTies conds n ties others
ties_end conds n ties others left none were scope all =
    let before = were scope all in (
      before.0.0,
      λ p row long.
          let rows : List SourceRow = p ++ row ∷ [] in
          before.1 p row long
          ∙ ap (λ (cs : List BoundExpr). are_tied ties p row && (tests scope others rows && tests scope cs rows)) none
          ∙ ap (λ b. are_tied ties p row && b) (and-true (tests scope others rows)),
    )
