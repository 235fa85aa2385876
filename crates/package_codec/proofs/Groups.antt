-- Rows in groups and out of them.
use Rattle.std.proofs.Common.{◌≡◌, ℕ, ◌+◌, ◌<◌, Bool, true, false, not, List, [], ◌∷◌, ◌++◌, length, map, take, get_or, refl, sym, ap, ◌∙◌, append_assoc, arith, ◌&&◌}
use Rattle.std.specs.Prelude.{bytes_eq, ◌==◌}
use Rattle.std.specs.List.{flat_map, list_all, AllByRecursion}
use Rattle.std.specs.Str.{IsUtf8}
use Rattle.std.proofs.lemmas.Bool.{not-true, not_from_false}
use Rattle.std.proofs.lemmas.Slice.Eq.{bytes_eq-Decides}
use Rattle.std.proofs.lemmas.List.{map-append, append-nil, take_more, length-append}
use Rattle.ldv_value.proofs.Booleans.{and-parts, and-from}
use Rattle.ldv_value.proofs.SameBytes.{bytes_eq-true, bytes_eq-sym}
use Rattle.sql_model.specs.SqlNames.{sql_name_test}
use Rattle.package_codec.specs.declared.trace.group.Group.{Group}
use Rattle.package_codec.specs.Groups.{TypedGroup, group_of_one, with_part, after, add, add_all, groups, is_group, neighbours_differ, ungroup}

bytes_eq-self : (a b : List ℕ) → a ≡ b → bytes_eq a b ≡ true
bytes_eq-self a b e = (bytes_eq-Decides a b).1 e

other : (a b : List ℕ) → not (bytes_eq a b) ≡ true → bytes_eq b a ≡ false
other a b h = bytes_eq-sym b a ∙ not-true (bytes_eq a b) h

-- ---- a row at the end, as a loop adds it

module _ {X P : Type 0} (table_of : X → List ℕ) (part_of : X → P) where
  pub add_last : (gs : List (Group P)) (g : Group P) (x : X) → add table_of part_of (gs ++ g ∷ []) x ≡ gs ++ after table_of part_of g x
  add_last [] g x = refl
  add_last (h ∷ []) g x = refl
  add_last (h ∷ k ∷ gs) g x = ap (λ l. h ∷ l) (add_last (k ∷ gs) g x)

  add_all_push : (gs : List (Group P)) (xs : List X) (x : X) → add_all table_of part_of gs (xs ++ x ∷ []) ≡ add table_of part_of (add_all table_of part_of gs xs) x
  add_all_push gs [] x = refl
  add_all_push gs (y ∷ xs) x = add_all_push (add table_of part_of gs y) xs x

  pub groups_more : (xs : List X) (i : ℕ) (d : X) → i < length xs → groups table_of part_of (take (i + 1) xs) ≡ add table_of part_of (groups table_of part_of (take i xs)) (get_or xs i d)
  groups_more xs i d lt = ap (groups table_of part_of) (take_more xs i d lt) ∙ add_all_push [] (take i xs) (get_or xs i d)

-- ---- what holds of the groups of rows

module _ {X P : Type 0} (table_of : X → List ℕ) (part_of : X → P) (place : List ℕ → P → X) (back : (x : X) → place (table_of x) (part_of x) ≡ x) where
  after_ungroup : (g : Group P) (x : X) (b : Bool) → bytes_eq g.table (table_of x) ≡ b → flat_map (ungroup place) (after table_of part_of g x) ≡ ungroup place g ++ x ∷ []
  after_ungroup g x true e =
      let is : g.table ≡ table_of x = bytes_eq-true g.table (table_of x) e in
      let last : place g.table (part_of x) ≡ x = ap (λ (t : List ℕ). place t (part_of x)) is ∙ back x in
      rw e (append-nil (map (place g.table) (g.parts ++ part_of x ∷ [])) ∙ map-append (place g.table) g.parts (part_of x ∷ []) ∙ ap (λ y. map (place g.table) g.parts ++ y ∷ []) last)
  after_ungroup g x false e = rw e (ap (λ y. map (place g.table) g.parts ++ y ∷ []) (back x))

  add_ungroup : (gs : List (Group P)) (x : X) → flat_map (ungroup place) (add table_of part_of gs x) ≡ flat_map (ungroup place) gs ++ x ∷ []
  add_ungroup [] x = ap (λ y. y ∷ []) (back x)
  add_ungroup (g ∷ []) x = after_ungroup g x (bytes_eq g.table (table_of x)) refl ∙ ap (λ l. l ++ x ∷ []) (sym (append-nil (ungroup place g)))
  add_ungroup (g ∷ h ∷ gs) x = ap (λ l. ungroup place g ++ l) (add_ungroup (h ∷ gs) x) ∙ sym (append_assoc (ungroup place g) (flat_map (ungroup place) (h ∷ gs)) (x ∷ []))

  add_all_ungroup : (gs : List (Group P)) (xs : List X) → flat_map (ungroup place) (add_all table_of part_of gs xs) ≡ flat_map (ungroup place) gs ++ xs
  add_all_ungroup gs [] = sym (append-nil (flat_map (ungroup place) gs))
  add_all_ungroup gs (x ∷ xs) = add_all_ungroup (add table_of part_of gs x) xs ∙ ap (λ l. l ++ xs) (add_ungroup gs x) ∙ append_assoc (flat_map (ungroup place) gs) (x ∷ []) xs

  -- the rows of the groups of rows are these rows
  pub groups_ungroup : (xs : List X) → flat_map (ungroup place) (groups table_of part_of xs) ≡ xs
  groups_ungroup xs = add_all_ungroup [] xs

module _ {X P : Type 0} (table_of : X → List ℕ) (part_of : X → P) (good : P → Type 0) where
  part_more : (ps : List P) (p : P) → AllByRecursion good ps → good p → AllByRecursion good (ps ++ p ∷ [])
  part_more [] p h k = (k, tt)
  part_more (q ∷ ps) p h k = (h.0, part_more ps p h.1 k)

  after_typed : (g : Group P) (x : X) (b : Bool) → bytes_eq g.table (table_of x) ≡ b → TypedGroup good g → IsUtf8 (table_of x) → good (part_of x) → AllByRecursion (TypedGroup good) (after table_of part_of g x)
  after_typed g x true e h u k = rw e ((h.0, part_more g.parts (part_of x) h.1 k), tt)
  after_typed g x false e h u k = rw e (h, ((u, (k, tt)), tt))

  add_typed : (gs : List (Group P)) (x : X) → AllByRecursion (TypedGroup good) gs → IsUtf8 (table_of x) → good (part_of x) → AllByRecursion (TypedGroup good) (add table_of part_of gs x)
  add_typed [] x h u k = ((u, (k, tt)), tt)
  add_typed (g ∷ []) x h u k = after_typed g x (bytes_eq g.table (table_of x)) refl h.0 u k
  add_typed (g ∷ i ∷ gs) x h u k = (h.0, add_typed (i ∷ gs) x h.1 u k)

  pub add_all_typed : (gs : List (Group P)) (xs : List X) → AllByRecursion (TypedGroup good) gs → AllByRecursion (λ x. IsUtf8 (table_of x) × good (part_of x)) xs → AllByRecursion (TypedGroup good) (add_all table_of part_of gs xs)
  add_all_typed gs [] h k = h
  add_all_typed gs (x ∷ xs) h k = add_all_typed (add table_of part_of gs x) xs (add_typed gs x h k.0.0 k.0.1) k.1

module _ {X P : Type 0} (table_of : X → List ℕ) (part_of : X → P) where
  abbrev pub fits : Group P → Bool
  fits g = is_group g.table g.parts

  single_fits : (x : X) → sql_name_test (table_of x) ≡ true → fits (group_of_one table_of part_of x) ≡ true
  single_fits x h = rw h refl

  above_zero : (n : ℕ) → 0 < n → not (n == 0) ≡ true
  above_zero n h = grind arith

  not_empty : (ps : List P) (p : P) → not (length (ps ++ p ∷ []) == 0) ≡ true
  not_empty ps p = above_zero (length (ps ++ p ∷ [])) (omega (arith, length-append ps (p ∷ [])))

  after_fits : (g : Group P) (x : X) (b : Bool) → bytes_eq g.table (table_of x) ≡ b → fits g ≡ true → sql_name_test (table_of x) ≡ true → list_all fits (after table_of part_of g x) ≡ true
  after_fits g x true e h k = rw e (and-from (fits (with_part g (part_of x))) true (and-from (sql_name_test g.table) (not (length (g.parts ++ part_of x ∷ []) == 0)) (and-parts (sql_name_test g.table) (not (length g.parts == 0)) h).0 (not_empty g.parts (part_of x))) refl)
  after_fits g x false e h k = rw e (and-from (fits g) (fits (group_of_one table_of part_of x) && true) h (and-from (fits (group_of_one table_of part_of x)) true (single_fits x k) refl))

  add_fits : (gs : List (Group P)) (x : X) → list_all fits gs ≡ true → sql_name_test (table_of x) ≡ true → list_all fits (add table_of part_of gs x) ≡ true
  add_fits [] x h k = and-from (fits (group_of_one table_of part_of x)) true (single_fits x k) refl
  add_fits (g ∷ []) x h k = after_fits g x (bytes_eq g.table (table_of x)) refl (and-parts (fits g) true h).0 k
  add_fits (g ∷ i ∷ gs) x h k = let both = and-parts (fits g) (list_all fits (i ∷ gs)) h in and-from (fits g) (list_all fits (add table_of part_of (i ∷ gs) x)) both.0 (add_fits (i ∷ gs) x both.1 k)

  pub add_all_fits : (gs : List (Group P)) (xs : List X) → list_all fits gs ≡ true → list_all (λ x. sql_name_test (table_of x)) xs ≡ true → list_all fits (add_all table_of part_of gs xs) ≡ true
  add_all_fits gs [] h k = h
  add_all_fits gs (x ∷ xs) h k = let both = and-parts (sql_name_test (table_of x)) (list_all (λ x. sql_name_test (table_of x)) xs) k in add_all_fits (add table_of part_of gs x) xs (add_fits gs x h both.0) both.1

  after_apart : (before : List ℕ) (g : Group P) (x : X) (b : Bool) → bytes_eq g.table (table_of x) ≡ b → not (bytes_eq g.table before) ≡ true → neighbours_differ before (after table_of part_of g x) ≡ true
  after_apart before g x true e h = rw e (and-from (not (bytes_eq g.table before)) true h refl)
  after_apart before g x false e h = rw e (and-from (not (bytes_eq g.table before)) (not (bytes_eq (table_of x) g.table) && true) h (and-from (not (bytes_eq (table_of x) g.table)) true (not_from_false (bytes_eq (table_of x) g.table) (bytes_eq-sym (table_of x) g.table ∙ e)) refl))

  add_apart : (before : List ℕ) (g : Group P) (gs : List (Group P)) (x : X) → neighbours_differ before (g ∷ gs) ≡ true → neighbours_differ before (add table_of part_of (g ∷ gs) x) ≡ true
  add_apart before g [] x h = after_apart before g x (bytes_eq g.table (table_of x)) refl (and-parts (not (bytes_eq g.table before)) true h).0
  add_apart before g (i ∷ gs) x h = let both = and-parts (not (bytes_eq g.table before)) (neighbours_differ g.table (i ∷ gs)) h in and-from (not (bytes_eq g.table before)) (neighbours_differ g.table (add table_of part_of (i ∷ gs) x)) both.0 (add_apart g.table i gs x both.1)

  named : (name : List ℕ) → sql_name_test name ≡ true → not (bytes_eq name []) ≡ true
  named [] h = absurd cc
  named (b ∷ name) h = refl

  first_apart : (gs : List (Group P)) (x : X) → neighbours_differ [] gs ≡ true → sql_name_test (table_of x) ≡ true → neighbours_differ [] (add table_of part_of gs x) ≡ true
  first_apart [] x h k = and-from (not (bytes_eq (table_of x) [])) true (named (table_of x) k) refl
  first_apart (g ∷ gs) x h k = add_apart [] g gs x h

  pub add_all_apart : (gs : List (Group P)) (xs : List X) → neighbours_differ [] gs ≡ true → list_all (λ x. sql_name_test (table_of x)) xs ≡ true → neighbours_differ [] (add_all table_of part_of gs xs) ≡ true
  add_all_apart gs [] h k = h
  add_all_apart gs (x ∷ xs) h k = let both = and-parts (sql_name_test (table_of x)) (list_all (λ x. sql_name_test (table_of x)) xs) k in add_all_apart (add table_of part_of gs x) xs (first_apart gs x h both.0) both.1

-- ---- the groups of the rows of groups are these groups

module _ {X P : Type 0} (table_of : X → List ℕ) (part_of : X → P) (place : List ℕ → P → X) (table_is : (t : List ℕ) (p : P) → table_of (place t p) ≡ t) (part_is : (t : List ℕ) (p : P) → part_of (place t p) ≡ p) where
  last_table : List (Group P) → List ℕ
  last_table [] = []
  last_table (g ∷ []) = g.table
  last_table (g ∷ h ∷ gs) = last_table (h ∷ gs)

  last_is : (gs : List (Group P)) (g : Group P) → last_table (gs ++ g ∷ []) ≡ g.table
  unfolding last_table
  last_is [] g = refl
  last_is (h ∷ []) g = refl
  last_is (h ∷ k ∷ gs) g = last_is (k ∷ gs) g

  -- a row of another table begins a group
  add_other : (gs : List (Group P)) (x : X) → bytes_eq (last_table gs) (table_of x) ≡ false → add table_of part_of gs x ≡ gs ++ group_of_one table_of part_of x ∷ []
  unfolding last_table
  add_other [] x e = refl
  add_other (g ∷ []) x e = rw e refl
  add_other (g ∷ h ∷ gs) x e = ap (λ l. g ∷ l) (add_other (h ∷ gs) x e)

  abbrev part_group : List ℕ → List P → Group P
  part_group t ps = record { table = t; parts = ps }

  -- a row of the last group's table goes into it
  add_same : (gs : List (Group P)) (t : List ℕ) (ps : List P) (p : P) → add table_of part_of (gs ++ part_group t ps ∷ []) (place t p) ≡ gs ++ part_group t (ps ++ p ∷ []) ∷ []
  add_same gs t ps p =
      let e : bytes_eq t (table_of (place t p)) ≡ true = bytes_eq-self t (table_of (place t p)) (sym (table_is t p)) in
      let one : after table_of part_of (part_group t ps) (place t p) ≡ part_group t (ps ++ p ∷ []) ∷ [] = rw e (ap (λ q. part_group t (ps ++ q ∷ []) ∷ []) (part_is t p)) in
      add_last table_of part_of gs (part_group t ps) (place t p) ∙ ap (λ l. gs ++ l) one

  add_parts : (gs : List (Group P)) (t : List ℕ) (ps qs : List P) (xs : List X) → add_all table_of part_of (gs ++ part_group t ps ∷ []) (map (place t) qs ++ xs) ≡ add_all table_of part_of (gs ++ part_group t (ps ++ qs) ∷ []) xs
  add_parts gs t ps [] xs = ap (λ (l : List P). add_all table_of part_of (gs ++ part_group t l ∷ []) xs) (sym (append-nil ps))
  add_parts gs t ps (q ∷ qs) xs =
      ap (λ l. add_all table_of part_of l (map (place t) qs ++ xs)) (add_same gs t ps q)
      ∙ add_parts gs t (ps ++ q ∷ []) qs xs
      ∙ ap (λ (l : List P). add_all table_of part_of (gs ++ part_group t l ∷ []) xs) (append_assoc ps (q ∷ []) qs)

  add_group : (gs : List (Group P)) (t : List ℕ) (ps : List P) (xs : List X) → not (bytes_eq t (last_table gs)) ≡ true → is_group t ps ≡ true → add_all table_of part_of gs (map (place t) ps ++ xs) ≡ add_all table_of part_of (gs ++ part_group t ps ∷ []) xs
  add_group gs t [] xs h k = let no : (sql_name_test t && false) ≡ true = k in absurd (let both = and-parts (sql_name_test t) false no in cc)
  add_group gs t (p ∷ ps) xs h k =
      let e : bytes_eq (last_table gs) (table_of (place t p)) ≡ false = rw (table_is t p) (other t (last_table gs) h) in
      let one : group_of_one table_of part_of (place t p) ≡ part_group t (p ∷ []) = rw (table_is t p, part_is t p) refl in
      ap (λ l. add_all table_of part_of l (map (place t) ps ++ xs)) (add_other gs (place t p) e ∙ ap (λ g. gs ++ g ∷ []) one)
      ∙ add_parts gs t (p ∷ []) ps xs

  add_groups : (gs hs : List (Group P)) → neighbours_differ (last_table gs) hs ≡ true → list_all (fits table_of part_of) hs ≡ true → add_all table_of part_of gs (flat_map (ungroup place) hs) ≡ gs ++ hs
  add_groups gs [] h k = sym (append-nil gs)
  add_groups gs (g ∷ hs) h k =
      let apart = and-parts (not (bytes_eq g.table (last_table gs))) (neighbours_differ g.table hs) h in
      let good = and-parts (fits table_of part_of g) (list_all (fits table_of part_of) hs) k in
      let more : neighbours_differ (last_table (gs ++ g ∷ [])) hs ≡ true = rw (last_is gs g) apart.1 in
      add_group gs g.table g.parts (flat_map (ungroup place) hs) apart.0 good.0
      ∙ add_groups (gs ++ g ∷ []) hs more good.1
      ∙ append_assoc gs (g ∷ []) hs

  pub ungroup_groups : (hs : List (Group P)) → neighbours_differ [] hs ≡ true → list_all (fits table_of part_of) hs ≡ true → groups table_of part_of (flat_map (ungroup place) hs) ≡ hs
  unfolding last_table
  ungroup_groups hs h k = add_groups [] hs h k
