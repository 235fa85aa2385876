-- Grouped rows: what is spelled is read, and what is read was spelled so.
use Rattle.std.proofs.Common.{◌≡◌, ℕ, ◌<◌, Bool, true, false, cond, not, List, [], ◌∷◌, ◌++◌, length, map, Some, None, refl, sym, ap, subst, ◌∙◌, ◌&&◌}
use Rattle.std.specs.Prelude.{◌==◌}
use Rattle.std.specs.List.{flat_map, list_all, AllByRecursion}
use Rattle.std.specs.Str.{IsUtf8}
use Rattle.std.specs.Int.{w16, w32}
use Rattle.ldv_value.proofs.Booleans.{and-parts, and-from}
use Rattle.ldv_value.proofs.ItemLists.{all_append}
use Rattle.ldv_value.proofs.Options.{same-some}
use Rattle.sql_model.specs.SqlNames.{sql_name_test}
use Rattle.package_codec.specs.declared.trace.group.Group.{Group}
use Rattle.package_codec.specs.Fields.{DecodeResult, both_at, list_at, text_at, text_spelling, list_spelling}
use Rattle.package_codec.specs.Room.{fits_u16_count}
use Rattle.package_codec.specs.Counts.{IsCountable, CountedGroup}
use Rattle.package_codec.specs.Groups.{TypedGroup, groups, is_group, group_of, group_at, group_spelling, neighbours_differ, ungroup, items_of_groups, grouped_at}
use Rattle.package_codec.proofs.Laws.{IsField, just, always, list_all-always, Uncounted, all_uncounted, restate, recount, made_law, then_law}
use Rattle.package_codec.proofs.Numbers.{text_law, short_list_law, long_law}
use Rattle.package_codec.proofs.Groups.{groups_ungroup, add_all_typed, add_all_fits, add_all_apart, ungroup_groups, fits}

-- ---- one group

module _ {P : Type 0} (spell : P → List ℕ) (good : P → Type 0) (read : List ℕ → DecodeResult P) (part : IsField spell good always Uncounted read) (filled : (p : P) → 0 < length (spell p)) where
  abbrev Parts : Type 0
  Parts = List ℕ × List P

  abbrev is_good : Group P → Bool
  is_good g = is_group g.table g.parts

  parts_law : IsField (list_spelling w32 spell) (AllByRecursion good) always IsCountable (list_at w32 read)
  parts_law = recount IsCountable (restate (list_spelling w32 spell) (AllByRecursion good) (AllByRecursion good) (list_all always) always (list_at w32 read) (long_law spell good always read part filled)
      (λ ps t h. (t, list_all-always ps)) (λ ps t h. (t, refl)))
      (λ ps n. (n, all_uncounted ps)) (λ ps n. n.0)

  both_law : IsField (λ (p : Parts). text_spelling p.0 ++ list_spelling w32 spell p.1) (λ (p : Parts). IsUtf8 p.0 × AllByRecursion good p.1) always (λ (p : Parts). IsCountable p.0 × IsCountable p.1) (both_at text_at (list_at w32 read))
  both_law = then_law text_spelling IsUtf8 always text_at (list_spelling w32 spell) (AllByRecursion good) (λ a. always) (λ a. list_at w32 read) text_law (λ a. parts_law)

  abbrev made_of : Parts → Group P
  made_of p = record { table = p.0; parts = p.1 }

  group_from : (p : Parts) (g : Group P) (b : Bool) → is_group p.0 p.1 ≡ b → cond b (Some (made_of p)) None ≡ Some g → (p ≡ (g.table, g.parts)) × (is_good g ≡ true)
  group_from p g true e h = subst (λ (z : Group P). (p ≡ (z.table, z.parts)) × (is_good z ≡ true)) (same-some (made_of p) g h) (refl, e)
  group_from p g false e h = absurd cc

  pub group_law : IsField (group_spelling spell) (TypedGroup good) is_good CountedGroup (group_at read)
  group_law = made_law (λ (p : Parts). text_spelling p.0 ++ list_spelling w32 spell p.1) (λ (p : Parts). IsUtf8 p.0 × AllByRecursion good p.1) always (both_at text_at (list_at w32 read)) (TypedGroup good) is_good group_of (λ g. (g.table, g.parts)) both_law
      (λ g t h. (t, refl, rw h refl))
      (λ p g t f e. let k = group_from p g (is_group p.0 p.1) refl e in (k.0, subst (λ (q : Parts). IsUtf8 q.0 × AllByRecursion good q.1) k.0 t, k.1))

-- ---- the rows of the groups

module _ {X P : Type 0} (table_of : X → List ℕ) (part_of : X → P) (place : List ℕ → P → X) (good : P → Type 0)
    (table_is : (t : List ℕ) (p : P) → table_of (place t p) ≡ t) (part_is : (t : List ℕ) (p : P) → part_of (place t p) ≡ p) where
  abbrev pub TypedItem : X → Type 0
  TypedItem x = IsUtf8 (table_of x) × good (part_of x)

  parts_typed : (t : List ℕ) (ps : List P) → IsUtf8 t → AllByRecursion good ps → AllByRecursion TypedItem (map (place t) ps)
  parts_typed t [] u h = tt
  parts_typed t (p ∷ ps) u h = ((subst IsUtf8 (sym (table_is t p)) u, subst good (sym (part_is t p)) h.0), parts_typed t ps u h.1)

  pub ungroup_typed : (gs : List (Group P)) → AllByRecursion (TypedGroup good) gs → AllByRecursion TypedItem (flat_map (ungroup place) gs)
  ungroup_typed [] h = tt
  ungroup_typed (g ∷ gs) h = all_append TypedItem (ungroup place g) (flat_map (ungroup place) gs) (parts_typed g.table g.parts h.0.0 h.0.1) (ungroup_typed gs h.1)

  parts_named : (t : List ℕ) (ps : List P) → sql_name_test t ≡ true → list_all (λ x. sql_name_test (table_of x)) (map (place t) ps) ≡ true
  parts_named t [] h = refl
  parts_named t (p ∷ ps) h = and-from (sql_name_test (table_of (place t p))) (list_all (λ x. sql_name_test (table_of x)) (map (place t) ps)) (ap sql_name_test (table_is t p) ∙ h) (parts_named t ps h)

  all_true_append : (q : X → Bool) (xs ys : List X) → list_all q xs ≡ true → list_all q ys ≡ true → list_all q (xs ++ ys) ≡ true
  all_true_append q [] ys h k = k
  all_true_append q (x ∷ xs) ys h k = let both = and-parts (q x) (list_all q xs) h in and-from (q x) (list_all q (xs ++ ys)) both.0 (all_true_append q xs ys both.1 k)

  pub ungroup_named : (gs : List (Group P)) → list_all (fits table_of part_of) gs ≡ true → list_all (λ x. sql_name_test (table_of x)) (flat_map (ungroup place) gs) ≡ true
  ungroup_named [] h = refl
  ungroup_named (g ∷ gs) h =
      let both = and-parts (is_group g.table g.parts) (list_all (fits table_of part_of) gs) h in
      all_true_append (λ x. sql_name_test (table_of x)) (ungroup place g) (flat_map (ungroup place) gs) (parts_named g.table g.parts (and-parts (sql_name_test g.table) (not (length g.parts == 0)) both.0).0) (ungroup_named gs both.1)

module _ {X P : Type 0} (table_of : X → List ℕ) (part_of : X → P) (place : List ℕ → P → X) (spell : P → List ℕ) (good : P → Type 0) (read : List ℕ → DecodeResult P)
    (back : (x : X) → place (table_of x) (part_of x) ≡ x) (table_is : (t : List ℕ) (p : P) → table_of (place t p) ≡ t) (part_is : (t : List ℕ) (p : P) → part_of (place t p) ≡ p)
    (part : IsField spell good always Uncounted read) (filled : (p : P) → 0 < length (spell p)) where
  abbrev Typed : X → Type 0
  Typed = TypedItem table_of part_of place good table_is part_is

  abbrev is_named : List X → Bool
  is_named xs = list_all (λ x. sql_name_test (table_of x)) xs

  abbrev ok : Group P → Bool
  ok = fits table_of part_of

  abbrev room : List X → Bool
  room xs = fits_u16_count (groups table_of part_of xs) && is_named xs

  forth : (xs : List X) → AllByRecursion Typed xs → room xs ≡ true
      → AllByRecursion (TypedGroup good) (groups table_of part_of xs) × ((fits_u16_count (groups table_of part_of xs) && list_all ok (groups table_of part_of xs)) ≡ true) × (items_of_groups place (groups table_of part_of xs) ≡ Some xs)
  forth xs t h =
      let both = and-parts (fits_u16_count (groups table_of part_of xs)) (is_named xs) h in
      let apart : neighbours_differ [] (groups table_of part_of xs) ≡ true = add_all_apart table_of part_of [] xs refl both.1 in (
        add_all_typed table_of part_of good [] xs tt t,
        and-from (fits_u16_count (groups table_of part_of xs)) (list_all ok (groups table_of part_of xs)) both.0 (add_all_fits table_of part_of [] xs refl both.1),
        rw apart (ap just (groups_ungroup table_of part_of place back xs)),
      )

  from_apart : (gs : List (Group P)) (xs : List X) (b : Bool) → neighbours_differ [] gs ≡ b → AllByRecursion (TypedGroup good) gs → (fits_u16_count gs && list_all ok gs) ≡ true → cond b (Some (flat_map (ungroup place) gs)) None ≡ Some xs
      → (gs ≡ groups table_of part_of xs) × AllByRecursion Typed xs × (room xs ≡ true)
  from_apart gs xs true e t h k =
      let both = and-parts (fits_u16_count gs) (list_all ok gs) h in
      let same : groups table_of part_of (flat_map (ungroup place) gs) ≡ gs = ungroup_groups table_of part_of place table_is part_is gs e both.1 in
      let few : fits_u16_count (groups table_of part_of (flat_map (ungroup place) gs)) ≡ true = ap (λ (l : List (Group P)). fits_u16_count l) same ∙ both.0 in
      subst (λ (l : List X). (gs ≡ groups table_of part_of l) × AllByRecursion Typed l × (room l ≡ true)) (same-some (flat_map (ungroup place) gs) xs k) (
        sym same,
        ungroup_typed table_of part_of place good table_is part_is gs t,
        and-from (fits_u16_count (groups table_of part_of (flat_map (ungroup place) gs))) (is_named (flat_map (ungroup place) gs)) few (ungroup_named table_of part_of place good table_is part_is gs both.1),
      )
  from_apart gs xs false e t h k = absurd cc

  pub grouped_law : IsField (λ xs. list_spelling w16 (group_spelling spell) (groups table_of part_of xs)) (AllByRecursion Typed) room (λ xs. AllByRecursion CountedGroup (groups table_of part_of xs)) (grouped_at place read)
  grouped_law = made_law (list_spelling w16 (group_spelling spell)) (AllByRecursion (TypedGroup good)) (λ gs. fits_u16_count gs && list_all ok gs) (list_at w16 (group_at read)) (AllByRecursion Typed) room (items_of_groups place) (groups table_of part_of)
      (short_list_law (group_spelling spell) (TypedGroup good) ok (group_at read) (group_law spell good read part filled))
      forth (λ gs xs t h k. from_apart gs xs (neighbours_differ [] gs) refl t h k)

  -- what was written in groups was typed
  pub grouped_typed : (xs : List X) → AllByRecursion (TypedGroup good) (groups table_of part_of xs) → AllByRecursion Typed xs
  grouped_typed xs h = subst (AllByRecursion Typed) (groups_ungroup table_of part_of place back xs) (ungroup_typed table_of part_of place good table_is part_is (groups table_of part_of xs) h)
