-- Lists of files and of paths after each change: which items are found in them, and that they stay sorted and
-- valid.
--
-- They are std's sorted lists of entries, so std's lemmas apply.
use Rattle.std.proofs.Common.{◌≡◌, ◌∙◌, sym, ap, subst, refl, ℕ, Bool, true, false, cond, not, ◌||◌, List, [], ◌∷◌, map, Option, Some, None, T}
use Rattle.std.specs.Prelude.{option_map, bytes_eq}
use Rattle.std.specs.declared.cmp.Ordering.{Ordering}
use Rattle.std.specs.declared.cmp.Ordering.TheVariants.{Less, Equal, Greater}
use Rattle.std.specs.Ordering.{is_lt, eq_by_cmp, match_ordering}
use Rattle.std.specs.Cmp.{eq_by_cmp_equiv}
use Rattle.std.specs.Cmp.Lexicographic.{nat_list_cmp_total}
use Rattle.std.specs.List.{list_any}
use Rattle.std.specs.FinMap.Entries.{put, where_key, is_sorted, below_all, is_sorted-put, is_sorted-where_key, find-put, find-where_key, same_entries}
use Rattle.std.specs.FinMap.Entries as entries
use Rattle.std.specs.FinMap.{slice_cmp-IsAntisymmetric, nat_cmp-IsAntisymmetric}
use Rattle.std.proofs.lemmas.Map.Text.{is_eq-slice_cmp}
use Rattle.ldv_value.specs.declared.file.File.{File}
use Rattle.ldv_value.specs.Sorted.{is_strictly_sorted, precedes_first, text_precedes}
use Rattle.ldv_value.specs.FileState.{path_cmp, file_precedes, file_of, file_at, content_in, put_file, remove_file, add_path}
use Rattle.ldv_value.proofs.Booleans.{t-first, t-second, t-both, t-from, t-to, and-first, and-second, and-from}
use Rattle.ldv_value.proofs.Orderings.{is_lt-true}

-- whether two paths are the same, by their order
pub eq_by_cmp-path : (q p : List ℕ) → eq_by_cmp path_cmp q p ≡ bytes_eq q p
eq_by_cmp-path q p = is_eq-slice_cmp q p

pub path-same : (q p : List ℕ) → path_cmp q p ≡ Equal → q ≡ p
path-same q p tie = slice_cmp-IsAntisymmetric nat_cmp-IsAntisymmetric q p tie

-- ---- as entries

abbrev pub entry_of : File → List ℕ × List ℕ
entry_of f = (f.path, f.content)

abbrev pub entries_of : List File → List (List ℕ × List ℕ)
entries_of = map entry_of

pub content-find : (files : List File) (q : List ℕ) → content_in files q ≡ entries.find path_cmp q (entries_of files)
content-find [] q = refl
content-find (f ∷ fs) q =
    found (bytes_eq q f.path) f (file_at q fs) ∙ (λ i. cond (sym (eq_by_cmp-path q f.path) i) (Some f.content) (content-find fs q i))
  where
    found : (b : Bool) (f : File) (o : Option File) → option_map (λ (file : File). file.content) (cond b (Some f) o) ≡ cond b (Some f.content) (option_map (λ (file : File). file.content) o)
    found true f o = refl
    found false f o = refl

pub entries-put : (p bytes : List ℕ) (files : List File) → entries_of (put_file p bytes files) ≡ put path_cmp p bytes (entries_of files)
entries-put p bytes [] = refl
entries-put p bytes (f ∷ fs) = by (path_cmp p f.path) (entries-put p bytes fs)
  where
    by : (r : Ordering) → entries_of (put_file p bytes fs) ≡ put path_cmp p bytes (entries_of fs)
        → entries_of (match_ordering r (file_of p bytes ∷ f ∷ fs) (file_of f.path bytes ∷ fs) (f ∷ put_file p bytes fs))
        ≡ entries.by_order r ((p, bytes) ∷ entry_of f ∷ entries_of fs) ((f.path, bytes) ∷ entries_of fs) (entry_of f ∷ put path_cmp p bytes (entries_of fs))
    by Less rest = refl
    by Equal rest = refl
    by Greater rest = ap (λ l. entry_of f ∷ l) rest

pub entries-remove : (p : List ℕ) (files : List File) → entries_of (remove_file p files) ≡ where_key path_cmp (λ q. not (eq_by_cmp path_cmp p q)) (entries_of files)
entries-remove p [] = refl
entries-remove p (f ∷ fs) =
    ap (λ b. entries_of (cond (not b) (f ∷ remove_file p fs) (remove_file p fs))) (sym (eq_by_cmp-path p f.path))
    ∙ by (not (eq_by_cmp path_cmp p f.path)) (entries-remove p fs)
  where
    by : (b : Bool) → entries_of (remove_file p fs) ≡ where_key path_cmp (λ q. not (eq_by_cmp path_cmp p q)) (entries_of fs)
        → entries_of (cond b (f ∷ remove_file p fs) (remove_file p fs))
        ≡ cond b (entry_of f ∷ where_key path_cmp (λ q. not (eq_by_cmp path_cmp p q)) (entries_of fs)) (where_key path_cmp (λ q. not (eq_by_cmp path_cmp p q)) (entries_of fs))
    by true rest = ap (λ l. entry_of f ∷ l) rest
    by false rest = rest

abbrev pub mark_of : List ℕ → List ℕ × Unit {0}
mark_of p = (p, tt)

abbrev pub marks_of : List (List ℕ) → List (List ℕ × Unit {0})
marks_of = map mark_of

pub marks-add : (p : List ℕ) (ps : List (List ℕ)) → marks_of (add_path p ps) ≡ put path_cmp p tt (marks_of ps)
marks-add p [] = refl
marks-add p (q ∷ qs) = by (path_cmp p q) (marks-add p qs)
  where
    by : (r : Ordering) → marks_of (add_path p qs) ≡ put path_cmp p tt (marks_of qs)
        → marks_of (match_ordering r (p ∷ q ∷ qs) (q ∷ qs) (q ∷ add_path p qs))
        ≡ entries.by_order r (mark_of p ∷ mark_of q ∷ marks_of qs) (mark_of q ∷ marks_of qs) (mark_of q ∷ put path_cmp p tt (marks_of qs))
    by Less rest = refl
    by Equal rest = refl
    by Greater rest = ap (λ l. mark_of q ∷ l) rest

-- entries and marks tell their lists
pub files-from_entries : (fs gs : List File) → entries_of fs ≡ entries_of gs → fs ≡ gs
files-from_entries fs gs is = sym (back fs) ∙ ap (map (λ e. file_of e.0 e.1)) is ∙ back gs
  where
    back : (fs : List File) → map (λ e. file_of e.0 e.1) (entries_of fs) ≡ fs
    back [] = refl
    back (f ∷ fs) = ap (λ (l : List File). f ∷ l) (back fs)

pub marks-back : (ps : List (List ℕ)) → map (λ e. e.0) (marks_of ps) ≡ ps
marks-back [] = refl
marks-back (p ∷ ps) = ap (λ (l : List (List ℕ)). p ∷ l) (marks-back ps)

pub paths-from_marks : (ps qs : List (List ℕ)) → marks_of ps ≡ marks_of qs → ps ≡ qs
paths-from_marks ps qs is = sym (marks-back ps) ∙ ap (map (λ e. e.0)) is ∙ marks-back qs

-- ---- what is found after a change

pub content-put : (p bytes : List ℕ) (files : List File) (q : List ℕ) → content_in (put_file p bytes files) q ≡ cond (bytes_eq q p) (Some bytes) (content_in files q)
content-put p bytes files q =
    content-find (put_file p bytes files) q ∙ ap (entries.find path_cmp q) (entries-put p bytes files)
    ∙ find-put path_cmp nat_list_cmp_total q p bytes (entries_of files)
    ∙ (λ i. cond (eq_by_cmp-path q p i) (Some bytes) (sym (content-find files q) i))

turned : {A : Type 0} (b : Bool) (x y : A) → cond (not b) x y ≡ cond b y x
turned true x y = refl
turned false x y = refl

pub content-remove : (p : List ℕ) (files : List File) (q : List ℕ) → content_in (remove_file p files) q ≡ cond (bytes_eq q p) None (content_in files q)
content-remove p files q =
    content-find (remove_file p files) q ∙ ap (entries.find path_cmp q) (entries-remove p files)
    ∙ find-where_key path_cmp (λ x. not (eq_by_cmp path_cmp p x)) q (λ x tie. ap (λ y. not (eq_by_cmp path_cmp p y)) (sym (path-same q x tie))) (entries_of files)
    ∙ turned (eq_by_cmp path_cmp p q) (entries.find path_cmp q (entries_of files)) None
    ∙ (λ i. cond (((eq_by_cmp_equiv nat_list_cmp_total).symm p q ∙ eq_by_cmp-path q p) i) None (sym (content-find files q) i))

pub touched-add : (p : List ℕ) (ps : List (List ℕ)) (q : List ℕ) → list_any (bytes_eq q) (add_path p ps) ≡ (bytes_eq q p || list_any (bytes_eq q) ps)
touched-add p [] q = refl
touched-add p (r ∷ rs) q = by (path_cmp p r) refl (touched-add p rs q)
  where
    twice : (a b : Bool) → (a || b) ≡ (a || (a || b))
    twice true b = refl
    twice false b = refl

    swapped : (a b c : Bool) → (a || (b || c)) ≡ (b || (a || c))
    swapped true true c = refl
    swapped true false c = refl
    swapped false b c = refl

    by : (o : Ordering) → path_cmp p r ≡ o → list_any (bytes_eq q) (add_path p rs) ≡ (bytes_eq q p || list_any (bytes_eq q) rs)
        → list_any (bytes_eq q) (match_ordering o (p ∷ r ∷ rs) (r ∷ rs) (r ∷ add_path p rs)) ≡ (bytes_eq q p || (bytes_eq q r || list_any (bytes_eq q) rs))
    by Less tie rest = refl
    by Equal tie rest =
        twice (bytes_eq q r) (list_any (bytes_eq q) rs) ∙ ap (λ (x : List ℕ). bytes_eq q x || (bytes_eq q r || list_any (bytes_eq q) rs)) (sym (path-same p r tie))
    by Greater tie rest = ap (λ b. bytes_eq q r || b) rest ∙ swapped (bytes_eq q r) (bytes_eq q p) (list_any (bytes_eq q) rs)

-- ---- sorted lists

module _ {X V : Type 0} (key : X → List ℕ) (value : X → V) where
  abbrev keyed : List X → List (List ℕ × V)
  keyed = map (λ x. (key x, value x))

  abbrev by_key : X → X → Bool
  by_key a b = text_precedes (key a) (key b)

  below-weaker : (k l : List ℕ) (es : List (List ℕ × V)) → path_cmp k l ≡ Less → T (below_all path_cmp l es) → T (below_all path_cmp k es)
  below-weaker k l [] first h = tt
  below-weaker k l (e ∷ es) first h =
      let second : path_cmp l e.0 ≡ Less = is_lt-true _ (t-to _ (t-first _ _ h)) in
      let both : path_cmp k e.0 ≡ Less = nat_list_cmp_total.trans k l e.0 first second in
      t-both _ _ (subst (λ r. T (is_lt r)) (sym both) tt) (below-weaker k l es first (t-second _ _ h))

  below-next : (x : X) (xs : List X) → precedes_first by_key x xs ≡ true → T (is_sorted path_cmp (keyed xs)) → T (below_all path_cmp (key x) (keyed xs))
  below-next x [] first h = tt
  below-next x (y ∷ ys) first h = t-both _ _ (t-from _ first) (below-weaker (key x) (key y) (keyed ys) (is_lt-true _ first) (t-first _ _ h))

  -- each item precedes the next, so all after it
  pub sorted-to : (xs : List X) → is_strictly_sorted by_key xs ≡ true → T (is_sorted path_cmp (keyed xs))
  sorted-to [] h = tt
  sorted-to (x ∷ xs) h =
      let rest = sorted-to xs (and-second (precedes_first by_key x xs) (is_strictly_sorted by_key xs) h) in
      t-both _ _ (below-next x xs (and-first (precedes_first by_key x xs) (is_strictly_sorted by_key xs) h) rest) rest

  first-of : (x : X) (xs : List X) → T (below_all path_cmp (key x) (keyed xs)) → precedes_first by_key x xs ≡ true
  first-of x [] h = refl
  first-of x (y ∷ ys) h = t-to _ (t-first _ _ h)

  pub sorted-from : (xs : List X) → T (is_sorted path_cmp (keyed xs)) → is_strictly_sorted by_key xs ≡ true
  sorted-from [] h = refl
  sorted-from (x ∷ xs) h =
      and-from (precedes_first by_key x xs) (is_strictly_sorted by_key xs) (first-of x xs (t-first _ _ h)) (sorted-from xs (t-second _ _ h))

abbrev FilesSorted : List File → Type 0
FilesSorted files = is_strictly_sorted file_precedes files ≡ true

abbrev pub PathsSorted : List (List ℕ) → Type 0
PathsSorted paths = is_strictly_sorted text_precedes paths ≡ true

pub entries-sorted : (files : List File) → FilesSorted files → T (is_sorted path_cmp (entries_of files))
entries-sorted files h = sorted-to (λ (f : File). f.path) (λ (f : File). f.content) files h

pub files-sorted : (files : List File) → T (is_sorted path_cmp (entries_of files)) → FilesSorted files
files-sorted files h = sorted-from (λ (f : File). f.path) (λ (f : File). f.content) files h

pub marks-sorted : (paths : List (List ℕ)) → PathsSorted paths → T (is_sorted path_cmp (marks_of paths))
marks-sorted paths h = sorted-to (λ (p : List ℕ). p) (λ (p : List ℕ). tt) paths h

pub paths-sorted : (paths : List (List ℕ)) → T (is_sorted path_cmp (marks_of paths)) → PathsSorted paths
paths-sorted paths h = sorted-from (λ (p : List ℕ). p) (λ (p : List ℕ). tt) paths h

pub sorted-put : (p bytes : List ℕ) (files : List File) → FilesSorted files → FilesSorted (put_file p bytes files)
sorted-put p bytes files h =
    files-sorted (put_file p bytes files)
    (subst (λ es. T (is_sorted path_cmp es)) (sym (entries-put p bytes files)) (is_sorted-put path_cmp nat_list_cmp_total p bytes (entries_of files) (entries-sorted files h)))

pub sorted-remove : (p : List ℕ) (files : List File) → FilesSorted files → FilesSorted (remove_file p files)
sorted-remove p files h =
    files-sorted (remove_file p files)
    (subst (λ es. T (is_sorted path_cmp es)) (sym (entries-remove p files)) (is_sorted-where_key path_cmp (λ q. not (eq_by_cmp path_cmp p q)) (entries_of files) (entries-sorted files h)))

pub sorted-add : (p : List ℕ) (ps : List (List ℕ)) → PathsSorted ps → PathsSorted (add_path p ps)
sorted-add p ps h =
    paths-sorted (add_path p ps)
    (subst (λ es. T (is_sorted path_cmp es)) (sym (marks-add p ps)) (is_sorted-put path_cmp nat_list_cmp_total p tt (marks_of ps) (marks-sorted ps h)))

-- sorted files with the same bytes at each path are the same
pub same-files : (fs gs : List File) → FilesSorted fs → FilesSorted gs → ((q : List ℕ) → content_in fs q ≡ content_in gs q) → fs ≡ gs
same-files fs gs f g is =
    files-from_entries fs gs (same_entries path_cmp nat_list_cmp_total (slice_cmp-IsAntisymmetric nat_cmp-IsAntisymmetric) (entries_of fs) (entries_of gs) (entries-sorted fs f) (entries-sorted gs g)
    (λ q. sym (content-find fs q) ∙ is q ∙ content-find gs q))
