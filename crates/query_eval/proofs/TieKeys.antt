-- Keys of several values, none of which is NULL.
use Rattle.std.proofs.Common.{◌≡◌, ◌∙◌, sym, ap, subst, refl, ℕ, ◌<◌, arith, true, false, ◌&&◌, List, [], ◌∷◌, ◌++◌, length, Option, Some, None}
use Rattle.std.specs.Prelude.{option_and_then, option_map}
use Rattle.std.specs.BTreeSet.{BTreeSet}
use Rattle.std.specs.Option.{option_map_or}
use Rattle.std.specs.Cmp.Lexicographic.{slice_cmp}
use Rattle.std.specs.Ordering.{is_eq, ordering_then}
use Rattle.std.specs.declared.cmp.Ordering.{Ordering}
use Rattle.std.specs.declared.cmp.Ordering.TheVariants.{Less, Equal, Greater}
use Rattle.std.proofs.lemmas.List.{append-nil, append_assoc}
use Rattle.ldv_value.specs.Cells.{value_at}
use Rattle.ldv_value.specs.Order.{order}
use Rattle.ldv_value.proofs.Booleans.{and-false}
use Rattle.predicates.specs.Equality.{equals}
use Rattle.ldv_value.specs.declared.refs_by.RefsBy.{RefsBy}
use Rattle.query_eval.proofs.Tying.{equals_tied, equals_null, null_equals}
use Rattle.query_eval.specs.Types.{Value, Null, Int, Text}
use Rattle.query_eval.specs.inner.Asked.{IsAskedBy, IsIndex}
use Rattle.query_eval.specs.inner.Joining.{non_null, known_values, key_of, TieValues, tie_order, are_all_equal, values_before, values_here}
use Rattle.query_eval.specs.inner.Slots.{row_at, slots_found, slots_listed, slots_with}
use Rattle.query_eval.specs.declared.probe.Probe.{Probe}
use Rattle.query_eval.specs.declared.source.SourceRow.{SourceRow}
use Rattle.sql_model.specs.Meaning.{is_null}

-- ---- gathered one by one

abbrev pub known_onto : List Value → List Value → Option (List Value)
known_onto made [] = Some made
known_onto made (v ∷ vs) = option_and_then (λ w. known_onto (made ++ w ∷ []) vs) (non_null v)

-- what is made stands before the rest
moved_one : (made : List Value) (w : Value) (o : Option (List Value)) → option_map (λ ws. (made ++ w ∷ []) ++ ws) o ≡ option_map (λ ws. made ++ ws) (option_map (λ ws. w ∷ ws) o)
moved_one made w None = refl
moved_one made w (Some ws) = ap Some (append_assoc made (w ∷ []) ws)

onto_first : (vs made : List Value) → ((w : Value) → known_onto (made ++ w ∷ []) vs ≡ option_map (λ ws. (made ++ w ∷ []) ++ ws) (known_values vs)) → (o : Option Value)
    → option_and_then (λ w. known_onto (made ++ w ∷ []) vs) o ≡ option_map (λ ws. made ++ ws) (option_and_then (λ w. option_map (λ ws. w ∷ ws) (known_values vs)) o)
onto_first vs made rest None = refl
onto_first vs made rest (Some w) = rest w ∙ moved_one made w (known_values vs)

onto_made : (vs made : List Value) → known_onto made vs ≡ option_map (λ ws. made ++ ws) (known_values vs)
onto_made [] made = ap Some (sym (append-nil made))
onto_made (v ∷ vs) made = onto_first vs made (λ w. onto_made vs (made ++ w ∷ [])) (non_null v)

pub known_onto_none : (vs : List Value) → known_onto [] vs ≡ known_values vs
known_onto_none vs = onto_made vs [] ∙ same (known_values vs)
  where
    same : (o : Option (List Value)) → option_map (λ ws. [] ++ ws) o ≡ o
    same None = refl
    same (Some ws) = refl

-- there is no value past the end of a row
pub known_missing : (v : Value) → Null ≡ v → None ≡ non_null v
known_missing v is = ap non_null is

-- ---- what is known

known_is : (v w : Value) → non_null v ≡ Some w → (v ≡ w) × (is_null v ≡ false)
known_is Null w is = cc
known_is (Int n) w is = let same : Int n ≡ w = cc in (same, refl)
known_is (Text t) w is = let same : Text t ≡ w = cc in (same, refl)

known_none : (v : Value) → non_null v ≡ None → is_null v ≡ true
known_none Null is = refl
known_none (Int n) is = cc
known_none (Text t) is = cc

-- a first value and others, from the two
record IsMade {A : Type 0} (make : Value → List Value → A) (o : Option Value) (p : Option (List Value)) (all : A) : Type 0 where
  first : Value
  others : List Value
  first_is : o ≡ Some first
  others_are : p ≡ Some others
  made : make first others ≡ all

module _ {A : Type 0} (make : Value → List Value → A) where
  abbrev made_of : Option Value → Option (List Value) → Option A
  made_of o p = option_and_then (λ w. option_map (λ ws. make w ws) p) o

  parts : (o : Option Value) (p : Option (List Value)) (all : A) → made_of o p ≡ Some all → IsMade make o p all
  parts None p all is = cc
  parts (Some w) None all is = cc
  parts (Some w) (Some ws) all is = let same : make w ws ≡ all = cc in
      record { first = w; others = ws; first_is = refl; others_are = refl; made = same }

  -- one of the two is missing
  missing : (C : Type 0) (o : Option Value) (p : Option (List Value)) → made_of o p ≡ None → (o ≡ None → C) → (p ≡ None → C) → C
  missing C None p is first others = first refl
  missing C (Some w) None is first others = others refl
  missing C (Some w) (Some ws) is first others = cc

known_exact : (vs ws : List Value) → known_values vs ≡ Some ws → ws ≡ vs
known_exact [] ws is = cc
known_exact (v ∷ vs) ws is =
    let it = parts (λ w ws. w ∷ ws) (non_null v) (known_values vs) ws is in
    sym it.made ∙ (λ j. sym (known_is v it.first it.first_is).0 j ∷ known_exact vs it.others it.others_are j)

pub key_exact : (vs : List Value) (key : TieValues) → key_of vs ≡ Some key → key.0 ∷ key.1 ≡ vs
key_exact [] key is = cc
key_exact (v ∷ vs) key is =
    let it = parts (λ w ws. (w, ws)) (non_null v) (known_values vs) key is in
    ap (λ (l : TieValues). l.0 ∷ l.1) (sym it.made) ∙ (λ j. sym (known_is v it.first it.first_is).0 j ∷ known_exact vs it.others it.others_are j)

-- ---- equal values are a tie in the order

pub then_eq : (a b : Ordering) → is_eq (ordering_then a b) ≡ (is_eq a && is_eq b)
then_eq Less b = refl
then_eq Equal b = refl
then_eq Greater b = refl

first_tied : (v w k : Value) → non_null w ≡ Some k → equals v w ≡ is_eq (order k v)
first_tied v w k is = let known_so = known_is w k is in equals_tied v w known_so.1 ∙ ap (λ (x : Value). is_eq (order x v)) known_so.0

all_tied : (ws ks : List Value) → known_values ws ≡ Some ks → (vs : List Value) → are_all_equal vs ws ≡ is_eq (slice_cmp order ks vs)
all_tied [] ks is [] = let same : [] ≡ ks = cc in ap (λ (l : List Value). is_eq (slice_cmp order l [])) same
all_tied [] ks is (v ∷ vs) = let same : [] ≡ ks = cc in ap (λ (l : List Value). is_eq (slice_cmp order l (v ∷ vs))) same
all_tied (w ∷ ws) ks is [] =
    let it = parts (λ w ws. w ∷ ws) (non_null w) (known_values ws) ks is in
    ap (λ (l : List Value). is_eq (slice_cmp order l [])) it.made
all_tied (w ∷ ws) ks is (v ∷ vs) =
    let it = parts (λ w ws. w ∷ ws) (non_null w) (known_values ws) ks is in
    (λ j. first_tied v w it.first it.first_is j && all_tied ws it.others it.others_are vs j)
    ∙ sym (then_eq (order it.first v) (slice_cmp order it.others vs))
    ∙ ap (λ (l : List Value). is_eq (slice_cmp order l (v ∷ vs))) it.made

pub key_tied : (ws : List Value) (own : TieValues) → key_of ws ≡ Some own → (key : TieValues)
    → are_all_equal (key.0 ∷ key.1) ws ≡ is_eq (tie_order own key)
key_tied [] own is key = cc
key_tied (w ∷ ws) own is key =
    let it = parts (λ w ws. (w, ws)) (non_null w) (known_values ws) own is in
    (λ j. first_tied key.0 w it.first it.first_is j && all_tied ws it.others it.others_are key.1 j)
    ∙ sym (then_eq (order it.first key.0) (slice_cmp order it.others key.1))
    ∙ ap (λ (l : TieValues). is_eq (tie_order l key)) it.made

-- ---- NULL equals nothing

none_equal : (ws : List Value) → known_values ws ≡ None → (vs : List Value) → are_all_equal vs ws ≡ false
none_equal [] is vs = cc
none_equal (w ∷ ws) is [] = refl
none_equal (w ∷ ws) is (v ∷ vs) = missing (λ w ws. w ∷ ws) (are_all_equal (v ∷ vs) (w ∷ ws) ≡ false) (non_null w) (known_values ws) is
    (λ first. ap (λ b. b && are_all_equal vs ws) (equals_null v w (known_none w first)))
    (λ others. ap (λ b. equals v w && b) (none_equal ws others vs) ∙ and-false (equals v w))

pub no_key : (ws : List Value) → key_of ws ≡ None → (key : TieValues) → are_all_equal (key.0 ∷ key.1) ws ≡ false
no_key [] is key = refl
no_key (w ∷ ws) is key = missing (λ w ws. (w, ws)) (are_all_equal (key.0 ∷ key.1) (w ∷ ws) ≡ false) (non_null w) (known_values ws) is
    (λ first. ap (λ b. b && are_all_equal key.1 ws) (equals_null key.0 w (known_none w first)))
    (λ others. ap (λ b. equals key.0 w && b) (none_equal ws others key.1) ∙ and-false (equals key.0 w))

nothing_equal : (vs : List Value) → known_values vs ≡ None → (ws : List Value) → are_all_equal vs ws ≡ false
nothing_equal [] is ws = cc
nothing_equal (v ∷ vs) is [] = refl
nothing_equal (v ∷ vs) is (w ∷ ws) = missing (λ w ws. w ∷ ws) (are_all_equal (v ∷ vs) (w ∷ ws) ≡ false) (non_null v) (known_values vs) is
    (λ first. ap (λ b. b && are_all_equal vs ws) (null_equals v w (known_none v first)))
    (λ others. ap (λ b. equals v w && b) (nothing_equal vs others ws) ∙ and-false (equals v w))

no_key_equal : (v : Value) (vs : List Value) → key_of (v ∷ vs) ≡ None → (ws : List Value) → are_all_equal (v ∷ vs) ws ≡ false
no_key_equal v vs is [] = refl
no_key_equal v vs is (w ∷ ws) = missing (λ w ws. (w, ws)) (are_all_equal (v ∷ vs) (w ∷ ws) ≡ false) (non_null v) (known_values vs) is
    (λ first. ap (λ b. b && are_all_equal vs ws) (null_equals v w (known_none v first)))
    (λ others. ap (λ b. equals v w && b) (nothing_equal vs others ws) ∙ and-false (equals v w))

none_with : (ties : List Probe) (vs : List Value) → ((ws : List Value) → are_all_equal vs ws ≡ false) → (rows : List SourceRow) (slots : List ℕ) → [] ≡ slots_with ties vs rows slots
none_with ties vs none rows [] = refl
none_with ties vs none rows (slot ∷ slots) = rw (none (values_here ties (row_at rows slot).values)) (none_with ties vs none rows slots)

-- ---- the slots of a joined row

pub found_slots : (asked : Option (BTreeSet TieValues)) (map : RefsBy TieValues ℕ) (ties : List Probe) (rows : List SourceRow) (slots : List ℕ) (values : List Value)
    → IsIndex asked map ties rows slots → 0 < length ties → IsAskedBy asked (key_of (values_before ties values))
    → slots_found map ties values ≡ slots_with ties (values_before ties values) rows slots
found_slots asked map [] rows slots values index some is = absurd (omega (arith, some))
found_slots asked map (tie ∷ ties) rows slots values index some is = by (key_of vs) refl
  where
    vs : List Value
    vs = values_before (tie ∷ ties) values

    by : (o : Option TieValues) → o ≡ key_of vs → option_map_or (slots_listed map) o [] ≡ slots_with (tie ∷ ties) vs rows slots
    by None none = none_with (tie ∷ ties) vs (no_key_equal (value_at values tie.from) (values_before ties values) (sym none)) rows slots
    by (Some k) found = index k (subst (IsAskedBy asked) (sym found) is) ∙ ap (λ (l : List Value). slots_with (tie ∷ ties) l rows slots) (key_exact vs k (sym found))
