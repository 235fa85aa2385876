-- The effect of calls of std's maps and sets on the finite maps that they mean.
use Rattle.std.proofs.Common.{◌≡◌, ◌∙◌, sym, ap, subst, refl, ℕ, Bool, true, false, cond, ◌||◌, List, [], ◌∷◌, map, Option, Some, None, String, string_bytes, is_some, T}
use Rattle.std.specs.declared.alloc.Global.{Global}
use Rattle.std.specs.declared.cmp.Ordering.{Ordering}
use Rattle.std.specs.declared.cmp.Ordering.TheVariants.{Less, Equal, Greater}
use Rattle.std.specs.Ordering.{nat_cmp, is_eq, is_lt, eq_by_cmp}
use Rattle.std.specs.Cmp.{eq_by_cmp_equiv}
use Rattle.std.specs.Cmp.Lexicographic.{slice_cmp, nat_list_cmp_total}
use Rattle.std.specs.Str.{bytes_eq}
use Rattle.std.specs.BTreeMap.{BTreeMap, get_by_text, is_at}
use Rattle.std.specs.BTreeSet.{BTreeSet, contains_text}
use Rattle.std.specs.List.Sorted.{IsStrictlySortedBy}
use Rattle.std.specs.String.{string_cmp}
use Rattle.std.specs.Map.{lookup, update}
use Rattle.std.specs.List.{list_any, AllByRecursion}
use denote.Ref.{Bor}
use Rattle.std.specs.FinMap.Entries.{below_all}
use Rattle.std.specs.FinMap.{FinMap, get, insert, remove, contains_key, find, entries, keys, is_sorted, get-insert, get-remove, get-from_entries, same_map, get_tied, slice_cmp-IsAntisymmetric, nat_cmp-IsAntisymmetric}
use Rattle.std.proofs.lemmas.Map.Text.{is_eq-slice_cmp}
use Rattle.ldv_value.proofs.Booleans.{t-both}
use Rattle.file_tree.specs.inner.Views.{texts, map_by_bytes, marks, set_by_bytes}
use Rattle.ldv_value.proofs.SortedMaps.{entries-sorted}

-- the two tests by which a path is found
tests : (bs q : List ℕ) → bytes_eq bs q ≡ eq_by_cmp (slice_cmp nat_cmp) q bs
tests bs q = sym (is_eq-slice_cmp bs q) ∙ (eq_by_cmp_equiv nat_list_cmp_total).symm bs q

pub same : {X : Type 0} (m n : FinMap (slice_cmp nat_cmp) X) → ((q : List ℕ) → get m q ≡ get n q) → m ≡ n
same m n is = same_map nat_list_cmp_total (slice_cmp-IsAntisymmetric nat_cmp-IsAntisymmetric) m n is

-- ---- maps

find_text : (es : List (String Global × List ℕ)) (q : List ℕ) → find (slice_cmp nat_cmp) q (texts es) ≡ lookup (is_at (λ k. slice_cmp nat_cmp q (string_bytes k))) es
find_text [] q = refl
find_text (e ∷ es) q = ap (cond (is_at (λ k. slice_cmp nat_cmp q (string_bytes k)) e.0) (Some e.1)) (find_text es q)

pub get_text : (m : BTreeMap (String Global) (List ℕ)) (q : List ℕ) → get (map_by_bytes m.entries) q ≡ get_by_text m q
get_text m q = get-from_entries nat_list_cmp_total (texts m.entries) q ∙ find_text m.entries q

pub put_text : (m n : BTreeMap (String Global) (List ℕ)) (bs v : List ℕ) → ((q : List ℕ) → get_by_text n q ≡ update bytes_eq (get_by_text m) bs (Some v) q)
    → map_by_bytes n.entries ≡ insert (map_by_bytes m.entries) bs v
put_text m n bs v h = same _ _ (λ q.
    get_text n q ∙ h q ∙ ap (λ b. cond b (Some v) (get_by_text m q)) (tests bs q)
    ∙ sym (get-insert nat_list_cmp_total (map_by_bytes m.entries) bs v q ∙ ap (cond (eq_by_cmp (slice_cmp nat_cmp) q bs) (Some v)) (get_text m q)))

pub remove_text : (m n : BTreeMap (String Global) (List ℕ)) (bs : List ℕ) → ((q : List ℕ) → get_by_text n q ≡ update bytes_eq (get_by_text m) bs None q)
    → map_by_bytes n.entries ≡ remove (map_by_bytes m.entries) bs
remove_text m n bs h = same _ _ (λ q.
    get_text n q ∙ h q ∙ ap (λ b. cond b None (get_by_text m q)) (tests bs q)
    ∙ sym (get-remove nat_list_cmp_total (map_by_bytes m.entries) bs q ∙ ap (cond (eq_by_cmp (slice_cmp nat_cmp) q bs) None) (get_text m q)))

-- ---- sets

abbrev mark_of : Bool → Option (Unit {0})
mark_of b = cond b (Some tt) None

is_mark_of : (b : Bool) → is_some (mark_of b) ≡ b
is_mark_of true = refl
is_mark_of false = refl

mark_or : (a b : Bool) → cond a (Some tt) (mark_of b) ≡ mark_of (cond a true b)
mark_or true b = refl
mark_or false b = refl

mark_not : (a b : Bool) → cond a None (mark_of b) ≡ mark_of (cond a false b)
mark_not true b = refl
mark_not false b = refl

any_mark : (a b : Bool) (x : Option (Unit {0})) → x ≡ mark_of b → cond a (Some tt) x ≡ mark_of (a || b)
any_mark true b x is = refl
any_mark false b x is = is

find_mark : (keys : List (String Global)) (q : List ℕ) → find (slice_cmp nat_cmp) q (marks keys) ≡ mark_of (list_any (is_at (λ k. slice_cmp nat_cmp q (string_bytes k))) keys)
find_mark [] q = refl
find_mark (k ∷ keys) q = any_mark _ _ _ (find_mark keys q)

get_mark : (s : BTreeSet (String Global)) (q : List ℕ) → get (set_by_bytes s.keys) q ≡ mark_of (contains_text s q)
get_mark s q = get-from_entries nat_list_cmp_total (marks s.keys) q ∙ find_mark s.keys q

pub has_mark : (s : BTreeSet (String Global)) (q : List ℕ) → contains_key (set_by_bytes s.keys) q ≡ contains_text s q
has_mark s q = ap is_some (get_mark s q) ∙ is_mark_of (contains_text s q)

pub add_mark : (s n : BTreeSet (String Global)) (bs : List ℕ) → ((q : List ℕ) → contains_text n q ≡ cond (bytes_eq bs q) true (contains_text s q))
    → set_by_bytes n.keys ≡ insert (set_by_bytes s.keys) bs tt
add_mark s n bs h = same _ _ (λ q.
    get_mark n q ∙ ap mark_of (h q ∙ ap (λ b. cond b true (contains_text s q)) (tests bs q)) ∙ sym (mark_or _ _)
    ∙ sym (get-insert nat_list_cmp_total (set_by_bytes s.keys) bs tt q ∙ ap (cond (eq_by_cmp (slice_cmp nat_cmp) q bs) (Some tt)) (get_mark s q)))

pub remove_mark : (s n : BTreeSet (String Global)) (bs : List ℕ) → ((q : List ℕ) → contains_text n q ≡ cond (bytes_eq bs q) false (contains_text s q))
    → set_by_bytes n.keys ≡ remove (set_by_bytes s.keys) bs
remove_mark s n bs h = same _ _ (λ q.
    get_mark n q ∙ ap mark_of (h q ∙ ap (λ b. cond b false (contains_text s q)) (tests bs q)) ∙ sym (mark_not _ _)
    ∙ sym (get-remove nat_list_cmp_total (set_by_bytes s.keys) bs q ∙ ap (cond (eq_by_cmp (slice_cmp nat_cmp) q bs) None) (get_mark s q)))

-- to put back what is there changes nothing
kept : {X : Type 0} (m : FinMap (slice_cmp nat_cmp) X) (k q : List ℕ) (v : X) (r : Ordering) → slice_cmp nat_cmp q k ≡ r → get m k ≡ Some v → cond (is_eq r) (Some v) (get m q) ≡ get m q
kept m k q v Less tie is = refl
kept m k q v Equal tie is = sym is ∙ get_tied nat_list_cmp_total m q k tie
kept m k q v Greater tie is = refl

pub put_back : {X : Type 0} (m : FinMap (slice_cmp nat_cmp) X) (k : List ℕ) (v : X) → get m k ≡ Some v → insert m k v ≡ m
put_back m k v is = same _ _ (λ q. get-insert nat_list_cmp_total m k v q ∙ kept m k q v (slice_cmp nat_cmp q k) refl is)

-- ---- the paths of a set

marks_keys : (ks : List (String Global)) → map (λ e. e.0) (marks ks) ≡ map string_bytes ks
marks_keys [] = refl
marks_keys (k ∷ ks) = ap (λ l. string_bytes k ∷ l) (marks_keys ks)

marks_below : (x : String Global) (ks : List (String Global)) → AllByRecursion (λ y. string_cmp x y ≡ Less) ks → T (below_all (slice_cmp nat_cmp) (string_bytes x) (marks ks))
marks_below x [] h = tt
marks_below x (k ∷ ks) h = t-both _ _ (subst (λ r. T (is_lt r)) (sym h.0) tt) (marks_below x ks h.1)

marks_sorted : (ks : List (String Global)) → IsStrictlySortedBy string_cmp ks → T (is_sorted (slice_cmp nat_cmp) (marks ks))
unfolding IsStrictlySortedBy
marks_sorted [] h = tt
marks_sorted (k ∷ ks) h = t-both _ _ (marks_below k ks h.0) (marks_sorted ks h.1)

pub listed_keys : (ks : List (String Global)) → IsStrictlySortedBy string_cmp ks → keys (set_by_bytes ks) ≡ map string_bytes ks
listed_keys ks h = ap (map (λ e. e.0)) (entries-sorted nat_list_cmp_total (marks ks) (marks_sorted ks h)) ∙ marks_keys ks

pub map_shown : (xs : List (Bor (String Global))) → map (λ p. string_bytes p.now) xs ≡ map string_bytes (map (λ p. p.now) xs)
map_shown [] = refl
map_shown (x ∷ xs) = ap (λ l. string_bytes x.now ∷ l) (map_shown xs)
