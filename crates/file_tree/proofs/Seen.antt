-- The effect of calls of std's maps and sets on their views as sorted lists.
use Rattle.std.proofs.Common.{◌≡◌, ◌∙◌, sym, ap, subst, refl, ℕ, suc, ◌≤◌, Bool, true, false, cond, not, ◌||◌, List, [], ◌∷◌, map, length, Option, Some, None, String, string_bytes, is_some, IfSome, All, T, arith}
use Rattle.std.specs.Prelude.{bytes_eq}
use Rattle.std.specs.declared.alloc.Global.{Global}
use denote.Ref.{Bor}
use Rattle.std.specs.declared.cmp.Ordering.{Ordering}
use Rattle.std.specs.declared.cmp.Ordering.TheVariants.{Less, Equal, Greater}
use Rattle.std.specs.Ordering.{match_ordering, eq_by_cmp}
use Rattle.std.specs.Cmp.Lexicographic.{nat_list_cmp_total}
use Rattle.std.specs.Str.{bytes_eq as same_text}
use Rattle.std.specs.BTreeMap.{BTreeMap, get_by_text}
use Rattle.std.specs.BTreeSet.{BTreeSet, contains_text}
use Rattle.std.specs.List.{list_any, filter}
use Rattle.std.specs.List.Sorted.{IsStrictlySortedBy}
use Rattle.std.specs.Map.{update}
use Rattle.std.specs.Option.{option_map}
use Rattle.std.specs.String.{string_cmp}
use Rattle.std.specs.FinMap.{get, insert, remove, contains_key, entries, entries_sorted, is_sorted, get-entries, get-remove, entries-insert, contains_key-keys}
use Rattle.std.specs.FinMap as finmap
use Rattle.std.specs.FinMap.Entries.{where_key, is_sorted-where_key, is_some-find, same_entries}
use Rattle.ldv_value.specs.declared.file.File.{File}
use Rattle.ldv_value.specs.Limits.{file_limit}
use Rattle.ldv_value.specs.Names.{path_test}
use Rattle.ldv_value.specs.Sorted.{is_strictly_sorted, precedes_first}
use Rattle.ldv_value.specs.FileState.{path_cmp, IsFile, files_test, file_precedes, file_of, file_at, content_in, put_file, remove_file, add_path, FileState, content_at, is_there, IsFileState}
use Rattle.ldv_value.proofs.Booleans.{and-first, and-second, or-parts, not-true, not-false, false≢true}
use Rattle.ldv_value.proofs.Lists.{found-passes}
use Rattle.ldv_value.proofs.SameBytes.{bytes_eq-true, bytes_eq-itself}
use Rattle.ldv_value.proofs.FileLists.{content-put, touched-add, sorted-add, marks-sorted, eq_by_cmp-path, path-same, entries_of, content-find, entries-put, mark_of, marks_of, marks-add, files-from_entries, paths-from_marks, content-remove, files-sorted, paths-sorted, sorted-put, sorted-remove, same-files, marks-back, PathsSorted}
use Rattle.ldv_value.proofs.FileLaws.{files-put, file-there}
use Rattle.file_tree.specs.inner.Views.{FileMap, PathSet, map_by_bytes, set_by_bytes, file_from, files_in}
use Rattle.file_tree.specs.inner.Views.{paths_in}
use Rattle.file_tree.specs.Files.{files_from}
use Rattle.file_tree.proofs.Views.{get_text, put_text, remove_text, has_mark, add_mark, remove_mark, listed_keys}
use Rattle.ldv_value.proofs.SortedMaps.{entries-empty}
use Rattle.ldv_value.proofs.Orderings.{is_lt-true}

-- ---- the files of a map

entries_back : (es : List (List ℕ × List ℕ)) → entries_of (map file_from es) ≡ es
entries_back [] = refl
entries_back (e ∷ es) = ap (λ l. e ∷ l) (entries_back es)

pub files_in-empty : files_in finmap.empty ≡ []
files_in-empty = ap (map file_from) (entries-empty path_cmp)

content-in : (m : FileMap) (q : List ℕ) → content_in (files_in m) q ≡ get m q
content-in m q = content-find (files_in m) q ∙ ap (finmap.find path_cmp q) (entries_back (entries m)) ∙ sym (get-entries m q)

in-sorted : (m : FileMap) → is_strictly_sorted file_precedes (files_in m) ≡ true
in-sorted m = files-sorted (files_in m) (subst (λ es. T (is_sorted path_cmp es)) (sym (entries_back (entries m))) (entries_sorted m))

files_in-insert : (m : FileMap) (p bytes : List ℕ) → files_in (insert m p bytes) ≡ put_file p bytes (files_in m)
files_in-insert m p bytes =
    files-from_entries (files_in (insert m p bytes)) (put_file p bytes (files_in m))
    (entries_back (entries (insert m p bytes)) ∙ entries-insert nat_list_cmp_total m p bytes
    ∙ ap (finmap.put path_cmp p bytes) (sym (entries_back (entries m))) ∙ sym (entries-put p bytes (files_in m)))

files_in-remove : (m : FileMap) (p : List ℕ) → files_in (remove m p) ≡ remove_file p (files_in m)
files_in-remove m p =
    same-files (files_in (remove m p)) (remove_file p (files_in m)) (in-sorted (remove m p)) (sorted-remove p (files_in m) (in-sorted m))
    (λ q. content-in (remove m p) q ∙ get-remove nat_list_cmp_total m p q
    ∙ (λ i. cond (eq_by_cmp-path q p i) None (sym (content-in m q) i)) ∙ sym (content-remove p (files_in m) q))

pub seen_get : (m : BTreeMap (String Global) (List ℕ)) (q : List ℕ) → content_in (files_in (map_by_bytes m.entries)) q ≡ get_by_text m q
seen_get m q = content-in (map_by_bytes m.entries) q ∙ get_text m q

pub seen_put : (m n : BTreeMap (String Global) (List ℕ)) (bs v : List ℕ) → ((q : List ℕ) → get_by_text n q ≡ update same_text (get_by_text m) bs (Some v) q)
    → files_in (map_by_bytes n.entries) ≡ put_file bs v (files_in (map_by_bytes m.entries))
seen_put m n bs v h = ap files_in (put_text m n bs v h) ∙ files_in-insert (map_by_bytes m.entries) bs v

pub seen_remove : (m n : BTreeMap (String Global) (List ℕ)) (bs : List ℕ) → ((q : List ℕ) → get_by_text n q ≡ update same_text (get_by_text m) bs None q)
    → files_in (map_by_bytes n.entries) ≡ remove_file bs (files_in (map_by_bytes m.entries))
seen_remove m n bs h = ap files_in (remove_text m n bs h) ∙ files_in-remove (map_by_bytes m.entries) bs

-- to put back what is there changes nothing
pub put_back : (m : BTreeMap (String Global) (List ℕ)) (p v : List ℕ) → content_in (files_in (map_by_bytes m.entries)) p ≡ Some v
    → put_file p v (files_in (map_by_bytes m.entries)) ≡ files_in (map_by_bytes m.entries)
put_back m p v is =
    let files = files_in (map_by_bytes m.entries) in
    let sorted = in-sorted (map_by_bytes m.entries) in
    same-files (put_file p v files) files (sorted-put p v files sorted) sorted (λ q. content-put p v files q ∙ at q (bytes_eq q p) refl)
  where
    at : (q : List ℕ) (b : Bool) → bytes_eq q p ≡ b → cond b (Some v) (content_in (files_in (map_by_bytes m.entries)) q) ≡ content_in (files_in (map_by_bytes m.entries)) q
    at q true tie = sym is ∙ ap (content_in (files_in (map_by_bytes m.entries))) (sym (bytes_eq-true q p tie))
    at q false apart = refl

-- ---- the paths of a set

marks_back : (es : List (List ℕ × Unit {0})) → marks_of (map (λ e. e.0) es) ≡ es
marks_back [] = refl
marks_back (e ∷ es) = ap (λ l. e ∷ l) (marks_back es)

paths_in-insert : (s : PathSet) (p : List ℕ) → paths_in (insert s p tt) ≡ add_path p (paths_in s)
paths_in-insert s p =
    paths-from_marks (paths_in (insert s p tt)) (add_path p (paths_in s))
    (marks_back (entries (insert s p tt)) ∙ entries-insert nat_list_cmp_total s p tt
    ∙ ap (finmap.put path_cmp p tt) (sym (marks_back (entries s))) ∙ sym (marks-add p (paths_in s)))

any_same : (q : List ℕ) (ps : List (List ℕ)) → list_any (eq_by_cmp path_cmp q) ps ≡ list_any (bytes_eq q) ps
any_same q [] = refl
any_same q (p ∷ ps) = λ i. eq_by_cmp-path q p i || any_same q ps i

pub seen_has : (s : BTreeSet (String Global)) (q : List ℕ) → list_any (bytes_eq q) (paths_in (set_by_bytes s.keys)) ≡ contains_text s q
seen_has s q = sym (any_same q (paths_in (set_by_bytes s.keys))) ∙ sym (contains_key-keys (set_by_bytes s.keys) q) ∙ has_mark s q

pub seen_add : (s n : BTreeSet (String Global)) (bs : List ℕ) → ((q : List ℕ) → contains_text n q ≡ cond (same_text bs q) true (contains_text s q))
    → paths_in (set_by_bytes n.keys) ≡ add_path bs (paths_in (set_by_bytes s.keys))
seen_add s n bs h = ap paths_in (add_mark s n bs h) ∙ paths_in-insert (set_by_bytes s.keys) bs

pub seen_list : (ks : List (String Global)) → IsStrictlySortedBy string_cmp ks → paths_in (set_by_bytes ks) ≡ map string_bytes ks
seen_list ks h = listed_keys ks h

pub paths_in-empty : paths_in finmap.empty ≡ []
paths_in-empty = ap (map (λ e. e.0)) (entries-empty path_cmp)

-- ---- sorted paths as wholes

same_mark : (x y : Option (Unit {0})) → is_some x ≡ is_some y → x ≡ y
same_mark None None is = refl
same_mark None (Some u) is = cc
same_mark (Some u) None is = cc
same_mark (Some u) (Some v) is = refl

find_any : (q : List ℕ) (ps : List (List ℕ)) → is_some (finmap.find path_cmp q (marks_of ps)) ≡ list_any (bytes_eq q) ps
find_any q ps = is_some-find path_cmp q (marks_of ps) ∙ ap (list_any (eq_by_cmp path_cmp q)) (marks-back ps) ∙ any_same q ps

-- sorted lists with the same paths are the same
same_paths : (ps qs : List (List ℕ)) → PathsSorted ps → PathsSorted qs → ((q : List ℕ) → list_any (bytes_eq q) ps ≡ list_any (bytes_eq q) qs) → ps ≡ qs
same_paths ps qs f g is =
    paths-from_marks ps qs (same_entries path_cmp nat_list_cmp_total path-same (marks_of ps) (marks_of qs) (marks-sorted ps f) (marks-sorted qs g)
    (λ q. same_mark _ _ (find_any q ps ∙ is q ∙ sym (find_any q qs))))

abbrev without : List ℕ → List (List ℕ) → List (List ℕ)
without p ps = filter (λ q. not (bytes_eq p q)) ps

any_without : (p q : List ℕ) (ps : List (List ℕ)) → list_any (bytes_eq q) (without p ps) ≡ cond (bytes_eq q p) false (list_any (bytes_eq q) ps)
any_without p q [] = by (bytes_eq q p)
  where
    by : (b : Bool) → false ≡ cond b false false
    by true = refl
    by false = refl
any_without p q (r ∷ rs) = by (bytes_eq p r) (bytes_eq q r) (bytes_eq q p) refl refl refl (any_without p q rs)
  where
    apart : (a b : List ℕ) → bytes_eq a b ≡ false → a ≡ b → ⊥
    apart a b other same = false≢true (sym other ∙ ap (bytes_eq a) (sym same) ∙ bytes_eq-itself a)

    by : (pr qr qp : Bool) → bytes_eq p r ≡ pr → bytes_eq q r ≡ qr → bytes_eq q p ≡ qp
        → list_any (bytes_eq q) (without p rs) ≡ cond qp false (list_any (bytes_eq q) rs)
        → list_any (bytes_eq q) (cond (not pr) (r ∷ without p rs) (without p rs)) ≡ cond qp false (qr || list_any (bytes_eq q) rs)
    by true true true a b c rest = rest
    by true false true a b c rest = rest
    by true true false a b c rest = absurd (apart q p c (bytes_eq-true q r b ∙ sym (bytes_eq-true p r a)))
    by true false false a b c rest = rest
    by false true true a b c rest = absurd (apart p r a (sym (bytes_eq-true q p c) ∙ bytes_eq-true q r b))
    by false true false a b c rest = ap (λ t. t || list_any (bytes_eq q) (without p rs)) b
    by false false true a b c rest = ap (λ t. t || list_any (bytes_eq q) (without p rs)) b ∙ rest
    by false false false a b c rest = ap (λ t. t || list_any (bytes_eq q) (without p rs)) b ∙ rest

marks_without : (p : List ℕ) (ps : List (List ℕ)) → marks_of (without p ps) ≡ where_key path_cmp (λ q. not (bytes_eq p q)) (marks_of ps)
marks_without p [] = refl
marks_without p (q ∷ qs) = by (not (bytes_eq p q)) (marks_without p qs)
  where
    by : (b : Bool) → marks_of (without p qs) ≡ where_key path_cmp (λ r. not (bytes_eq p r)) (marks_of qs)
        → marks_of (cond b (q ∷ without p qs) (without p qs)) ≡ cond b (mark_of q ∷ where_key path_cmp (λ r. not (bytes_eq p r)) (marks_of qs)) (where_key path_cmp (λ r. not (bytes_eq p r)) (marks_of qs))
    by true rest = ap (λ l. mark_of q ∷ l) rest
    by false rest = rest

sorted_without : (p : List ℕ) (ps : List (List ℕ)) → PathsSorted ps → PathsSorted (without p ps)
sorted_without p ps h =
    paths-sorted (without p ps)
    (subst (λ es. T (is_sorted path_cmp es)) (sym (marks_without p ps)) (is_sorted-where_key path_cmp (λ q. not (bytes_eq p q)) (marks_of ps) (marks-sorted ps h)))

set_sorted : (s : PathSet) → PathsSorted (paths_in s)
set_sorted s = paths-sorted (paths_in s) (subst (λ es. T (is_sorted path_cmp es)) (sym (marks_back (entries s))) (entries_sorted s))

set_any : (s : PathSet) (q : List ℕ) → list_any (bytes_eq q) (paths_in s) ≡ contains_key s q
set_any s q = sym (any_same q (paths_in s)) ∙ sym (contains_key-keys s q)

paths_in-remove : (s : PathSet) (p : List ℕ) → paths_in (remove s p) ≡ without p (paths_in s)
paths_in-remove s p =
    same_paths (paths_in (remove s p)) (without p (paths_in s)) (set_sorted (remove s p)) (sorted_without p (paths_in s) (set_sorted s))
    (λ q. set_any (remove s p) q ∙ ap is_some (get-remove nat_list_cmp_total s p q) ∙ some_of (eq_by_cmp path_cmp q p) (get s q)
    ∙ (λ i. cond (eq_by_cmp-path q p i) false (sym (set_any s q) i)) ∙ sym (any_without p q (paths_in s)))
  where
    some_of : (b : Bool) (x : Option (Unit {0})) → is_some (cond b None x) ≡ cond b false (is_some x)
    some_of true x = refl
    some_of false x = refl

pub seen_take : (s n : BTreeSet (String Global)) (bs : List ℕ) → ((q : List ℕ) → contains_text n q ≡ cond (same_text bs q) false (contains_text s q))
    → paths_in (set_by_bytes n.keys) ≡ without bs (paths_in (set_by_bytes s.keys))
seen_take s n bs h = ap paths_in (remove_mark s n bs h) ∙ paths_in-remove (set_by_bytes s.keys) bs

-- ---- to undo an addition

kept_apart : (p : List ℕ) (ps : List (List ℕ)) → list_any (bytes_eq p) ps ≡ false → without p ps ≡ ps
kept_apart p [] none = refl
kept_apart p (q ∷ qs) none =
    let parts = or-parts (bytes_eq p q) (list_any (bytes_eq p) qs) none in
    ap (λ b. cond (not b) (q ∷ without p qs) (without p qs)) parts.0 ∙ ap (λ (l : List (List ℕ)). q ∷ l) (kept_apart p qs parts.1)

added_without : (p : List ℕ) (ps : List (List ℕ)) → list_any (bytes_eq p) ps ≡ false → without p (add_path p ps) ≡ ps
added_without p [] none = ap (λ b. cond (not b) (p ∷ []) []) (bytes_eq-itself p)
added_without p (q ∷ qs) none =
    by (path_cmp p q) (or-parts (bytes_eq p q) (list_any (bytes_eq p) qs) none).0 (added_without p qs (or-parts (bytes_eq p q) (list_any (bytes_eq p) qs) none).1)
  where
    by : (r : Ordering) → bytes_eq p q ≡ false → without p (add_path p qs) ≡ qs → without p (match_ordering r (p ∷ q ∷ qs) (q ∷ qs) (q ∷ add_path p qs)) ≡ q ∷ qs
    by Less apart rest = ap (λ b. cond (not b) (p ∷ without p (q ∷ qs)) (without p (q ∷ qs))) (bytes_eq-itself p) ∙ kept_apart p (q ∷ qs) none
    by Equal apart rest = kept_apart p (q ∷ qs) none
    by Greater apart rest = ap (λ b. cond (not b) (q ∷ without p (add_path p qs)) (without p (add_path p qs))) apart ∙ ap (λ (l : List (List ℕ)). q ∷ l) rest

pub undone_new : (ps before : List (List ℕ)) (p : List ℕ) → ps ≡ add_path p before → true ≡ not (list_any (bytes_eq p) before) → without p ps ≡ before
undone_new ps before p is added = ap (without p) is ∙ added_without p before (not-true (list_any (bytes_eq p) before) (sym added))

pub undone_old : (ps before : List (List ℕ)) (p : List ℕ) → PathsSorted before → ps ≡ add_path p before → false ≡ not (list_any (bytes_eq p) before) → ps ≡ before
undone_old ps before p sorted is added =
    is ∙ same_paths (add_path p before) before (sorted-add p before sorted) sorted (λ q. touched-add p before q ∙ at q (bytes_eq q p) refl)
  where
    there : list_any (bytes_eq p) before ≡ true
    there = not-false (list_any (bytes_eq p) before) (sym added)

    at : (q : List ℕ) (b : Bool) → bytes_eq q p ≡ b → (b || list_any (bytes_eq q) before) ≡ list_any (bytes_eq q) before
    at q true tie = sym (ap (λ (r : List ℕ). list_any (bytes_eq r) before) (bytes_eq-true q p tie) ∙ there)
    at q false apart = refl

-- ---- trees of files

pub valid_from : (files : List File) → All (λ f. IsFile f.path f.content) files → files_test (files_from files) ≡ true
valid_from [] all = refl
valid_from (f ∷ fs) all = files-put f.path f.content (files_from fs) (all 0 f (omega arith)) (valid_from fs (λ k d h. all (suc k) d (omega arith)))

-- sorted files are put in as they are
pub files_as_given : (files : List File) → is_strictly_sorted file_precedes files ≡ true → files_from files ≡ files
files_as_given [] sorted = refl
files_as_given (f ∷ fs) sorted =
    ap (put_file f.path f.content) (files_as_given fs (and-second (precedes_first file_precedes f fs) (is_strictly_sorted file_precedes fs) sorted))
    ∙ first fs (and-first (precedes_first file_precedes f fs) (is_strictly_sorted file_precedes fs) sorted)
  where
    first : (fs : List File) → precedes_first file_precedes f fs ≡ true → put_file f.path f.content fs ≡ f ∷ fs
    first [] h = refl
    first (g ∷ gs) h = ap (λ r. match_ordering r (f ∷ g ∷ gs) (file_of g.path f.content ∷ gs) (g ∷ put_file f.path f.content gs)) (is_lt-true (path_cmp f.path g.path) h)

within : (o : Option File) → ((f : File) → o ≡ Some f → length f.content ≤ file_limit) → IfSome (option_map (λ (file : File). file.content) o) (λ bytes. length bytes ≤ file_limit)
within None h = tt
within (Some f) h = h f refl

pub content_within : (s : FileState) (path : List ℕ) → IsFileState s → IfSome (content_at s path) (λ bytes. length bytes ≤ file_limit)
content_within s path h = within (file_at path s.files) (λ f found. (file-there s path f h found).1)

pub shown_within : (r : Option (Bor (List ℕ))) (o : Option (List ℕ)) → option_map (λ bytes. bytes.now) r ≡ o → IfSome o (λ bytes. length bytes ≤ file_limit)
    → IfSome r (λ bytes. length bytes.now ≤ file_limit)
shown_within None o is h = tt
shown_within (Some r) o is h = subst (λ (o : Option (List ℕ)). IfSome o (λ bytes. length bytes ≤ file_limit)) (sym is) h

-- the path of a file is valid
valid_path : (path : List ℕ) (o : Option File) → ((f : File) → o ≡ Some f → path_test path ≡ true) → is_some (option_map (λ (file : File). file.content) o) ≡ true → path_test path ≡ true
valid_path path None h there = cc
valid_path path (Some f) h there = h f refl

pub path_there : (s : FileState) (path : List ℕ) → IsFileState s → is_there s path ≡ true → path_test path ≡ true
path_there s path h there =
    valid_path path (file_at path s.files)
    (λ f found. subst (λ (p : List ℕ). path_test p ≡ true) (sym (bytes_eq-true path f.path (found-passes (λ file. bytes_eq path file.path) s.files f found))) (file-there s path f h found).0)
    there

-- parts that are those of a state
pub tree_is : (s : FileState) (files : List File) (touched : List (List ℕ)) → files ≡ s.files → touched ≡ s.touched → IsFileState s → IsFileState (record { files = files; touched = touched })
tree_is s files touched f t h = subst IsFileState (λ i. record { files = sym f i; touched = sym t i }) h
