-- Sorting needs and keeping the first of each row gives the same list as inserting them one by one.
use Rattle.std.proofs.Common.{◌≡◌, ◌∙◌, sym, ap, refl, ◌+◌, List, [], ◌∷◌, ◌++◌, length, Bool, false, Option, Some, inl, inr, arith, append_assoc}
use Rattle.std.specs.Prelude.{slice_get, ◌-◌, if◌then◌else◌}
use Rattle.std.specs.Option.{option_map_or}
use Rattle.std.specs.Cmp.{IsTotalOrder}
use Rattle.std.specs.Ordering.{is_eq, is_gt, ordering_reverse}
use Rattle.std.specs.declared.cmp.Ordering.{Ordering}
use Rattle.std.specs.declared.cmp.Ordering.TheVariants.{Less, Equal, Greater}
use Rattle.std.proofs.lemmas.Bool.{cases_Bool}
use Rattle.std.proofs.lemmas.Cmp.{on_total, then_total, nat_cmp_total, nat_list_cmp_total}
use Rattle.std.proofs.lemmas.List.{length-append}
use Rattle.lineage.specs.Needing.{need_order, union_of_needs, into, united_by, needs_in_order, is_last_row, others_onto, once_each}
use Rattle.sql_model.specs.declared.need.Member.{Member}
use Rattle.sql_model.specs.declared.need.Need.{Need}
use Rattle.sql_model.specs.Sorting.{put_sorted, sorted_by}
use Rattle.sql_model.specs.MemberOrder.{member_cmp}

pub member_total : IsTotalOrder member_cmp
member_total = then_total (on_total (λ (m : Member). m.table) nat_list_cmp_total) (on_total (λ (m : Member). m.row) nat_cmp_total)

pub need_total : IsTotalOrder need_order
need_total = on_total (λ (n : Need). n.member) member_total

-- ---- of each row the first

-- what follows a need, without those of its row
abbrev after_last : Need → List Need → List Need
after_last last [] = []
after_last last (need ∷ needs) =
    if is_eq (need_order last need) then after_last last needs else need ∷ after_last need needs

abbrev firsts : List Need → List Need
firsts [] = []
firsts (need ∷ needs) = need ∷ after_last need needs

get_end : (xs : List Need) (x : Need) → slice_get (xs ++ x ∷ []) (length xs) ≡ Some x
get_end [] x = refl
get_end (y ∷ xs) x = get_end xs x

end_at : (xs : List Need) (x : Need) → length (xs ++ x ∷ []) - 1 ≡ length xs
end_at xs x = omega (arith, length-append xs (x ∷ []))

last_is : (xs : List Need) (x need : Need) → is_last_row need (xs ++ x ∷ []) ≡ is_eq (need_order x need)
last_is xs x need =
    ap (λ (o : Option Need). option_map_or (λ (last : Need). is_eq (need_order last need)) o false)
    (ap (slice_get (xs ++ x ∷ [])) (end_at xs x) ∙ get_end xs x)

onto : (made : List Need) (last : Need) (xs : List Need)
    → others_onto (made ++ last ∷ []) xs ≡ made ++ last ∷ after_last last xs
onto made last [] = refl
onto made last (x ∷ xs) =
    let one : Bool → List Need = λ b. others_onto (if b then made ++ last ∷ [] else (made ++ last ∷ []) ++ x ∷ []) xs in
    let two : Bool → List Need = λ b. made ++ last ∷ (if b then after_last last xs else x ∷ after_last x xs) in
    elim (cases_Bool (is_eq (need_order last x))) [
      | inl same ↦ ap one (last_is made last x ∙ same) ∙ onto made last xs ∙ sym (ap two same)
      | inr other ↦
          ap one (last_is made last x ∙ other)
          ∙ onto (made ++ last ∷ []) x xs
          ∙ append_assoc made (last ∷ []) (x ∷ after_last x xs)
          ∙ sym (ap two other)
    ]

firsts_are : (xs : List Need) → once_each xs ≡ firsts xs
firsts_are [] = refl
firsts_are (x ∷ xs) = onto [] x xs

-- ---- a need is put

after_tied : (n y : Need) → need_order n y ≡ Equal → (xs : List Need) → after_last n xs ≡ after_last y xs
after_tied n y tie [] = refl
after_tied n y tie (x ∷ xs) =
    λ j. if is_eq (need_total.congr n y x tie j) then after_tied n y tie xs j else x ∷ after_last x xs

module _ (n : Need) where
  abbrev placed : List Need → List Need
  placed needs = into n (union_of_needs []) needs

  placed_by : (x : Need) (xs : List Need) (r : Ordering) → need_order n x ≡ r
      → placed (x ∷ xs) ≡ united_by r n (union_of_needs []) x xs (placed xs)
  placed_by x xs r is = λ j. united_by (is j) n (union_of_needs []) x xs (placed xs)

  after_front : (x : Need) (xs : List Need) → need_order n x ≡ Less → after_last n (x ∷ xs) ≡ x ∷ after_last x xs
  after_front x xs is = λ j. if is_eq (is j) then after_last n xs else x ∷ after_last x xs

  after_same : (x : Need) (xs : List Need) → need_order n x ≡ Equal → after_last n (x ∷ xs) ≡ after_last x xs
  after_same x xs is = (λ j. if is_eq (is j) then after_last n xs else x ∷ after_last x xs) ∙ after_tied n x is xs

  put_after : (y : Need) → need_order y n ≡ Less → (xs : List Need)
      → after_last y (put_sorted need_order n xs) ≡ placed (after_last y xs)
  put_after y less [] = λ j. if is_eq (less j) then after_last y [] else n ∷ after_last n []
  put_after y less (x ∷ xs) = by (need_order n x) refl (λ z before. put_after z before xs)
    where
      put : List Need
      put = put_sorted need_order n xs

      first : (zs : List Need) → after_last y (n ∷ zs) ≡ n ∷ after_last n zs
      first zs = λ j. if is_eq (less j) then after_last y zs else n ∷ after_last n zs

      below : need_order y x ≡ Less → placed (after_last y (x ∷ xs)) ≡ placed (x ∷ after_last x xs)
      below is = λ j. placed (if is_eq (is j) then after_last y xs else x ∷ after_last x xs)

      by : (r : Ordering) → need_order n x ≡ r
          → ((z : Need) → need_order z n ≡ Less → after_last z put ≡ placed (after_last z xs))
          → after_last y (if is_gt r then x ∷ put else n ∷ x ∷ xs) ≡ placed (after_last y (x ∷ xs))
      by Less is again =
          first (x ∷ xs) ∙ ap (λ (l : List Need). n ∷ l) (after_front x xs is)
          ∙ sym (below (need_total.trans y n x less is) ∙ placed_by x (after_last x xs) Less is)
      by Equal is again =
          let before : need_order y x ≡ Less =
          need_total.antisymm y x ∙ ap ordering_reverse (sym (need_total.congr n x y is) ∙ need_total.antisymm n y ∙ ap ordering_reverse less) in
          first (x ∷ xs) ∙ ap (λ (l : List Need). n ∷ l) (after_same x xs is)
          ∙ sym (below before ∙ placed_by x (after_last x xs) Equal is)
      by Greater is again =
          let one : Bool → List Need = λ b. if b then after_last y put else x ∷ after_last x put in
          let two : Bool → List Need = λ b. placed (if b then after_last y xs else x ∷ after_last x xs) in
          elim (cases_Bool (is_eq (need_order y x))) [
            | inl same ↦ ap one same ∙ again y less ∙ sym (ap two same)
            | inr other ↦
                ap one other
                ∙ ap (λ (l : List Need). x ∷ l) (again x (need_total.antisymm x n ∙ ap ordering_reverse is))
                ∙ sym (ap two other ∙ placed_by x (after_last x xs) Greater is)
          ]

  put_firsts : (xs : List Need) → firsts (put_sorted need_order n xs) ≡ placed (firsts xs)
  put_firsts [] = refl
  put_firsts (x ∷ xs) = by (need_order n x) refl
    where
      by : (r : Ordering) → need_order n x ≡ r
          → firsts (if is_gt r then x ∷ put_sorted need_order n xs else n ∷ x ∷ xs) ≡ placed (x ∷ after_last x xs)
      by Less is =
          ap (λ (l : List Need). n ∷ l) (after_front x xs is) ∙ sym (placed_by x (after_last x xs) Less is)
      by Equal is =
          ap (λ (l : List Need). n ∷ l) (after_same x xs is) ∙ sym (placed_by x (after_last x xs) Equal is)
      by Greater is =
          ap (λ (l : List Need). x ∷ l) (put_after x (need_total.antisymm x n ∙ ap ordering_reverse is) xs)
          ∙ sym (placed_by x (after_last x xs) Greater is)

firsts_sorted : (ns : List Need) → firsts (sorted_by need_order ns) ≡ needs_in_order ns
firsts_sorted [] = refl
firsts_sorted (n ∷ ns) = put_firsts n (sorted_by need_order ns) ∙ ap (into n (union_of_needs [])) (firsts_sorted ns)

pub once_sorted : (ns : List Need) → once_each (sorted_by need_order ns) ≡ needs_in_order ns
once_sorted ns = firsts_are (sorted_by need_order ns) ∙ firsts_sorted ns
