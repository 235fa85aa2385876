-- Names by their places, in a map that grows.
use Rattle.std.proofs.Common.{◌≡◌, ◌∙◌, sym, ap, refl, ℕ, List, [], Bool, true, false, cond, Bor}
use Rattle.std.specs.Prelude.{Option, Some, None, option_map, ◌==◌, codes}
use Rattle.std.specs.Option.{option_or}
use Rattle.std.specs.BTreeMap.{BTreeMap, Updates, get, is_at}
use Rattle.std.specs.Map.{lookup}
use Rattle.std.specs.Cmp.{unsigned_tied}
use Rattle.std.specs.Ordering.{nat_cmp, is_eq}
use Rattle.std.proofs.lemmas.Bool.{eqb-true, eq-eqb}
use Rattle.serde_json.specs.Data.{Data, Members, member}
use Rattle.prov_export.specs.inner.Names.{names_of}
use Rattle.prov_export.specs.Reading.{is_number, name_if, named_at, number_at}

mapped : (b : Bool) (v : Bor (List ℕ)) (o : Option (Bor (List ℕ)))
    → option_map (λ name. name.now) (cond b (Some v) o) ≡ cond b (Some v.now) (option_map (λ name. name.now) o)
mapped true v o = refl
mapped false v o = refl

-- a name that is put at a place
pub put_there : (m n : BTreeMap ℕ (Bor (List ℕ))) (k : ℕ) (v : Bor (List ℕ)) → Updates nat_cmp m n k (Some v) → (q : ℕ)
    → names_of n q ≡ cond (k == q) (Some v.now) (names_of m q)
put_there m n k v updates q =
    ap (option_map (λ name. name.now)) (updates.0 q)
    ∙ mapped (is_eq (nat_cmp k q)) v (get nat_cmp m q)
    ∙ ap (λ (b : Bool). cond b (Some v.now) (names_of m q)) (unsigned_tied k q)

-- a map with no name
pub none_at : (m : BTreeMap ℕ (Bor (List ℕ))) → m.entries ≡ [] → (q : ℕ) → names_of m q ≡ None
none_at m empty q =
    ap (λ (es : List (ℕ × Bor (List ℕ))). option_map (λ name. name.now) (lookup (is_at (nat_cmp q)) es)) empty

or_none : (o : Option (List ℕ)) → o ≡ option_or o None
or_none None = refl
or_none (Some x) = refl

or_assoc : (a b c : Option (List ℕ)) → option_or (option_or a b) c ≡ option_or a (option_or b c)
or_assoc None b c = refl
or_assoc (Some x) b c = refl

module _ (names : ℕ → Option (List ℕ)) (place : ℕ) (name : List ℕ) where
  abbrev noted : ℕ → Option (List ℕ)
  noted q = option_or (names q) (cond (q == place) (Some name) None)

  -- the first name stays
  pub first_stays : (first : List ℕ) → names place ≡ Some first → (q : ℕ) → names q ≡ noted q
  first_stays first is q = by (q == place) refl
    where
      by : (b : Bool) → (q == place) ≡ b → names q ≡ option_or (names q) (cond b (Some name) None)
      by true same =
          let here : names q ≡ Some first = ap names (eqb-true q place same) ∙ is in
          here ∙ sym (ap (λ (o : Option (List ℕ)). option_or o (Some name)) here)
      by false other = or_none (names q)

  pub new_noted : names place ≡ None → (q : ℕ) → cond (place == q) (Some name) (names q) ≡ noted q
  new_noted none q = by (place == q) refl (q == place) refl
    where
      by : (b : Bool) → (place == q) ≡ b → (c : Bool) → (q == place) ≡ c → cond b (Some name) (names q) ≡ option_or (names q) (cond c (Some name) None)
      by true there true back =
          let here : names q ≡ None = ap names (eqb-true q place back) ∙ none in
          sym (ap (λ (o : Option (List ℕ)). option_or o (Some name)) here)
      by true there false back = let same : (q == place) ≡ true = eq-eqb q place (sym (eqb-true place q there)) in let never : true ≡ false = sym same ∙ back in cc
      by false there true back = let same : (place == q) ≡ true = eq-eqb place q (sym (eqb-true q place back)) in let never : true ≡ false = sym same ∙ there in cc
      by false there false back = or_none (names q)

-- a member with a place, and one without
pub member_noted : (names : ℕ → Option (List ℕ)) (name : List ℕ) (d : Data) (place : ℕ) → number_at (codes "ldv:place") d ≡ Some place → (q : ℕ)
    → option_or (names q) (cond (q == place) (Some name) None) ≡ option_or (names q) (name_if q name d)
member_noted names name d place is q = ap (λ (o : Option ℕ). option_or (names q) (cond (is_number q o) (Some name) None)) (sym is)

pub member_passed : (names : ℕ → Option (List ℕ)) (name : List ℕ) (d : Data) → number_at (codes "ldv:place") d ≡ None → (q : ℕ)
    → names q ≡ option_or (names q) (name_if q name d)
member_passed names name d none q =
    or_none (names q) ∙ ap (λ (o : Option ℕ). option_or (names q) (cond (is_number q o) (Some name) None)) (sym none)

-- a member more of those that are left
pub left_noted : (old now next : ℕ → Option (List ℕ)) (name : List ℕ) (d : Data) (rest all : Members)
    → ((q : ℕ) → option_or (now q) (named_at q (member name d rest)) ≡ option_or (old q) (named_at q all))
    → ((q : ℕ) → next q ≡ option_or (now q) (name_if q name d))
    → (q : ℕ) → option_or (next q) (named_at q rest) ≡ option_or (old q) (named_at q all)
left_noted old now next name d rest all so_far step q =
    ap (λ (o : Option (List ℕ)). option_or o (named_at q rest)) (step q)
    ∙ or_assoc (now q) (name_if q name d) (named_at q rest) ∙ so_far q

pub option_or-None : (now : Option (List ℕ)) (due : Option (List ℕ)) → option_or now None ≡ due → now ≡ due
option_or-None now due is = or_none now ∙ is

pub both_noted : (none first second : ℕ → Option (List ℕ)) (a b : Members) → ((q : ℕ) → none q ≡ None)
    → ((q : ℕ) → first q ≡ option_or (none q) (named_at q a)) → ((q : ℕ) → second q ≡ option_or (first q) (named_at q b))
    → (q : ℕ) → second q ≡ option_or (named_at q a) (named_at q b)
both_noted none first second a b empty one two q =
    two q ∙ ap (λ (o : Option (List ℕ)). option_or o (named_at q b)) (one q ∙ ap (λ (o : Option (List ℕ)). option_or o (named_at q a)) (empty q))
