-- What is kept of members that are put in one after another.
use Rattle.std.proofs.Common.{◌≡◌, ℕ, List, [], ◌∷◌, map, true, false, Option, Some, None, IfSome, String, Global, Ordering, Less, Equal, Greater, string_bytes, string_cmp, bytes_eq, nat_cmp, is_eq, true≢false, refl, sym, ap, ◌∙◌, subst}
use Rattle.std.proofs.lemmas.Map.Text.{is_eq-slice_cmp}
use Rattle.std.proofs.lemmas.Slice.Eq.{bytes_eq-Decides}
use Rattle.std.specs.BTreeMap.{insert_entry}
use Rattle.std.specs.Cmp.Lexicographic.{slice_cmp}
use Rattle.std.specs.List.{AllByRecursion, list_any}
use Rattle.std.specs.Ordering.{match_ordering}
use Rattle.serde_json.specs.Data.{Data, Members, no_members, member, put}
use Rattle.serde_json.specs.Find.{get_member}
use Rattle.serde_json.proofs.Views.{get_member-put, get_member-put_other}
use Rattle.ldv_value.proofs.Booleans.{and-parts, and-from}
use Rattle.world_json.specs.Shape.{each_member, only, required_member, optional_member}
use Rattle.world_json.specs.inner.Taking.{IsPart, AreNamed, part_or}

-- ---- parts

pub same_name : (xs ys : List ℕ) → bytes_eq xs ys ≡ true → xs ≡ ys
same_name xs ys e = (bytes_eq-Decides xs ys).0 e

other_name : (xs ys : List ℕ) → bytes_eq xs ys ≡ false → xs ≡ ys → ⊥
other_name xs ys e same = true≢false (sym ((bytes_eq-Decides xs ys).1 same) ∙ e)

-- the part of the name that was read, and the parts of other names
pub this_part : {X : Type 0} (f : Data → Option X) (k : List ℕ) (d : Data) (ms : Members) (x : X) → f d ≡ Some x → IsPart f (get_member k (put k d ms)) (Some x)
this_part f k d ms x is = ap (required_member f) (get_member-put k d ms) ∙ is

pub other_part : {X : Type 0} (f : Data → Option X) (q k : List ℕ) (d : Data) (ms : Members) (part : Option X) → bytes_eq q k ≡ false → IsPart f (get_member q ms) part → IsPart f (get_member q (put k d ms)) part
other_part f q k d ms part other is = subst (λ o. IsPart f o part) (sym (get_member-put_other q k d ms (other_name q k other))) is

only_put_at : (o : Ordering) (names : List (List ℕ)) (k l : List ℕ) (d e : Data) (ms : Members) → list_any (bytes_eq k) names ≡ true → only names (member l e ms) ≡ true → only names (put k d ms) ≡ true
    → only names (match_ordering o (member k d (member l e ms)) (member l d ms) (member l e (put k d ms))) ≡ true
only_put_at Less names k l d e ms one all later = and-from _ _ one all
only_put_at Equal names k l d e ms one all later = all
only_put_at Greater names k l d e ms one all later = and-from _ _ (and-parts (list_any (bytes_eq l) names) (only names ms) all).0 later

pub only_put : (names : List (List ℕ)) (k : List ℕ) (d : Data) (ms : Members) → list_any (bytes_eq k) names ≡ true → only names ms ≡ true → only names (put k d ms) ≡ true
only_put names k d no_members one all = and-from _ _ one refl
only_put names k d (member l e ms) one all =
    only_put_at (slice_cmp nat_cmp k l) names k l d e ms one all (only_put names k d ms one (and-parts (list_any (bytes_eq l) names) (only names ms) all).1)

-- what a member gives by the part that was read
pub part_required : {X : Type 0} (f : Data → Option X) (found : Option Data) (x : X) → IsPart f found (Some x) → required_member f found ≡ Some x
part_required f found x is = is

pub part_optional : {X : Type 0} (f : Data → Option X) (found : Option Data) (part : Option X) (x : X) → IsPart f found part → optional_member f x found ≡ Some (part_or x part)
part_optional f found None x is = ap (optional_member f x) is
part_optional f None (Some y) x is = absurd (cc)
part_optional f (Some d) (Some y) x is = is

pub all_or_none : {X : Type 0} (P : X → Type 0) (part : Option (List X)) → IfSome part (AllByRecursion P) → AllByRecursion P (part_or [] part)
all_or_none P None h = tt
all_or_none P (Some xs) h = h

-- ---- members under any name

named_put_at : {X : Type 0} (o : Ordering) (f : List ℕ → Data → Option X) (P : X → Type 0) (key old : String Global) (d e : Data) (x y : X) (ms : Members) (es : List (String Global × X))
    → slice_cmp nat_cmp (string_bytes key) (string_bytes old) ≡ o → f (string_bytes key) d ≡ Some x → P x → f (string_bytes old) e ≡ Some y → P y → AreNamed f P ms es
    → AreNamed f P (put (string_bytes key) d ms) (insert_entry string_cmp es key x)
    → AreNamed f P (match_ordering o (member (string_bytes key) d (member (string_bytes old) e ms)) (member (string_bytes old) d ms) (member (string_bytes old) e (put (string_bytes key) d ms)))
    (match_ordering o ((key, x) ∷ (old, y) ∷ es) ((old, x) ∷ es) ((old, y) ∷ insert_entry string_cmp es key x))
named_put_at Less f P key old d e x y ms es is one good before fine rest later = (refl, one, good, (refl, before, fine, rest))
named_put_at Equal f P key old d e x y ms es is one good before fine rest later =
    let same : string_bytes key ≡ string_bytes old = same_name _ _ (sym (is_eq-slice_cmp (string_bytes key) (string_bytes old)) ∙ ap is_eq is) in
    (refl, subst (λ k. f k d ≡ Some x) same one, good, rest)
named_put_at Greater f P key old d e x y ms es is one good before fine rest later = (refl, before, fine, later)

pub named_put : {X : Type 0} (f : List ℕ → Data → Option X) (P : X → Type 0) (key : String Global) (d : Data) (x : X) (ms : Members) (es : List (String Global × X)) → f (string_bytes key) d ≡ Some x → P x
    → AreNamed f P ms es → AreNamed f P (put (string_bytes key) d ms) (insert_entry string_cmp es key x)
named_put f P key d x no_members [] one good named = (refl, one, good, tt)
named_put f P key d x no_members (e ∷ es) one good named = absurd named
named_put f P key d x (member l g ms) [] one good named = absurd named
named_put f P key d x (member l g ms) (e ∷ es) one good named =
    subst (λ k. AreNamed f P (put (string_bytes key) d (member k g ms)) (insert_entry string_cmp (e ∷ es) key x)) named.0
    (named_put_at (slice_cmp nat_cmp (string_bytes key) (string_bytes e.0)) f P key e.0 d g x e.1 ms es refl one good (subst (λ k. f k g ≡ Some e.1) (sym named.0) named.1) named.2 named.3
    (named_put f P key d x ms es one good named.3))

-- what each member gives, in the order of the names
pub named_each : {X : Type 0} (f : List ℕ → Data → Option X) (P : X → Type 0) (ms : Members) (es : List (String Global × X)) → AreNamed f P ms es → each_member f ms ≡ Some (map (λ e. e.1) es)
named_each f P no_members [] named = refl
named_each f P no_members (e ∷ es) named = absurd named
named_each f P (member k d ms) [] named = absurd named
named_each f P (member k d ms) (e ∷ es) named = rw (named.1, named_each f P ms es named.3)

pub named_all : {X : Type 0} (f : List ℕ → Data → Option X) (P : X → Type 0) (ms : Members) (es : List (String Global × X)) → AreNamed f P ms es → AllByRecursion P (map (λ e. e.1) es)
named_all f P no_members [] named = tt
named_all f P no_members (e ∷ es) named = absurd named
named_all f P (member k d ms) [] named = absurd named
named_all f P (member k d ms) (e ∷ es) named = (named.2, named_all f P ms es named.3)
