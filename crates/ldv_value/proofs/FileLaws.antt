-- Laws of the states of files: which file is at a path after each call, which paths are touched, and that
-- each call keeps a valid state valid.
use Rattle.std.proofs.Common.{◌≡◌, ◌≢◌, ◌∙◌, sym, ap, refl, ℕ, ◌≤◌, Bool, true, false, cond, ◌||◌, List, [], ◌∷◌, ◌++◌, length, Option, Some, None, is_some, unwrap_or, append_assoc, arith}
use Rattle.std.specs.Prelude.{bytes_eq, nat_le, option_map}
use Rattle.std.specs.declared.cmp.Ordering.{Ordering}
use Rattle.std.specs.declared.cmp.Ordering.TheVariants.{Less, Equal, Greater}
use Rattle.std.specs.Ordering.{match_ordering}
use Rattle.std.specs.List.{list_all}
use Rattle.std.proofs.lemmas.Bool.{le-leb}
use Rattle.ldv_value.specs.declared.file.File.{File}
use Rattle.ldv_value.specs.declared.file.OpenMode.{OpenMode}
use Rattle.ldv_value.specs.declared.file.OpenMode.TheVariants.{Read, Write, Append, New}
use Rattle.ldv_value.specs.Limits.{file_limit}
use Rattle.ldv_value.specs.Names.{path_test}
use Rattle.ldv_value.specs.Sorted.{is_strictly_sorted}
use Rattle.ldv_value.specs.FileState.{path_cmp, IsFile, file_test, files_test, file_precedes, file_of, file_at, put_file, remove_file, add_path, FileState, content_at, is_there, bytes_at, is_touched, IsFileState, initial_files, put, touch, open_refusal, after_open, after_remove, after_append}
use Rattle.ldv_value.proofs.Booleans.{and-first, and-second, and-from, or-true}
use Rattle.ldv_value.proofs.Lists.{found-all, list_all-filter}
use Rattle.ldv_value.proofs.SameBytes.{bytes_eq-true, bytes_eq-itself, bytes_eq-other}
use Rattle.ldv_value.proofs.FileLists.{content-put, content-remove, touched-add, sorted-put, sorted-remove, sorted-add, same-files}
use Rattle.ldv_value.proofs.ValidFiles.{files_sorted, file_is}

-- ---- the content at a path after each call

pub content-put_same : (s : FileState) (p bytes : List ℕ) → content_at (put s p bytes) p ≡ Some bytes
content-put_same s p bytes = content-put p bytes s.files p ∙ ap (λ b. cond b (Some bytes) (content_at s p)) (bytes_eq-itself p)

pub content-put_other : (s : FileState) (p bytes q : List ℕ) → q ≢ p → content_at (put s p bytes) q ≡ content_at s q
content-put_other s p bytes q apart = content-put p bytes s.files q ∙ ap (λ b. cond b (Some bytes) (content_at s q)) (bytes_eq-other q p apart)

pub content-removed_same : (s : FileState) (p : List ℕ) → content_at (after_remove s p) p ≡ None
content-removed_same s p = content-remove p s.files p ∙ ap (λ b. cond b None (content_at s p)) (bytes_eq-itself p)

pub content-removed_other : (s : FileState) (p q : List ℕ) → q ≢ p → content_at (after_remove s p) q ≡ content_at s q
content-removed_other s p q apart = content-remove p s.files q ∙ ap (λ b. cond b None (content_at s q)) (bytes_eq-other q p apart)

pub content-appended_same : (s : FileState) (p more : List ℕ) → content_at (after_append s p more) p ≡ Some (bytes_at s p ++ more)
content-appended_same s p more = content-put_same s p (bytes_at s p ++ more)

pub content-appended_other : (s : FileState) (p more q : List ℕ) → q ≢ p → content_at (after_append s p more) q ≡ content_at s q
content-appended_other s p more q apart = content-put_other s p (bytes_at s p ++ more) q apart

pub bytes-appended_same : (s : FileState) (p more : List ℕ) → bytes_at (after_append s p more) p ≡ bytes_at s p ++ more
bytes-appended_same s p more = ap (λ o. unwrap_or o []) (content-appended_same s p more)

pub content-opened_other : (mode : OpenMode) (s : FileState) (p q : List ℕ) → q ≢ p → content_at (after_open mode s p) q ≡ content_at s q
content-opened_other Read s p q apart = refl
content-opened_other Write s p q apart = content-put_other s p [] q apart
content-opened_other Append s p q apart = content-put_other s p (bytes_at s p) q apart
content-opened_other New s p q apart = content-put_other s p [] q apart

pub content-opened_empty : (s : FileState) (p : List ℕ) → content_at (after_open Write s p) p ≡ Some []
content-opened_empty s p = content-put_same s p []

pub content-opened_new : (s : FileState) (p : List ℕ) → content_at (after_open New s p) p ≡ Some []
content-opened_new s p = content-put_same s p []

pub content-opened_kept : (s : FileState) (p : List ℕ) → content_at (after_open Append s p) p ≡ Some (bytes_at s p)
content-opened_kept s p = content-put_same s p (bytes_at s p)

found_to_read : (found : Bool) → open_refusal Read found ≡ None → found ≡ true
found_to_read true allowed = refl
found_to_read false allowed = cc

-- after an open there is a file
pub there-after_open : (mode : OpenMode) (s : FileState) (p : List ℕ) → open_refusal mode (is_there s p) ≡ None → is_there (after_open mode s p) p ≡ true
there-after_open Read s p allowed = found_to_read (is_there s p) allowed
there-after_open Write s p allowed = ap is_some (content-opened_empty s p)
there-after_open Append s p allowed = ap is_some (content-opened_kept s p)
there-after_open New s p allowed = ap is_some (content-opened_new s p)

-- ---- the touched paths after each call. A put and an append leave them by definition

pub touched-touch_same : (s : FileState) (p : List ℕ) → is_touched (touch s p) p ≡ true
touched-touch_same s p = touched-add p s.touched p ∙ ap (λ b. b || is_touched s p) (bytes_eq-itself p)

pub touched-touch_other : (s : FileState) (p q : List ℕ) → q ≢ p → is_touched (touch s p) q ≡ is_touched s q
touched-touch_other s p q apart = touched-add p s.touched q ∙ ap (λ b. b || is_touched s q) (bytes_eq-other q p apart)

-- what is touched stays so
pub touched-touch_kept : (s : FileState) (p q : List ℕ) → is_touched s q ≡ true → is_touched (touch s p) q ≡ true
touched-touch_kept s p q was = touched-add p s.touched q ∙ ap (λ b. bytes_eq q p || b) was ∙ or-true (bytes_eq q p)

pub touched-opened_same : (mode : OpenMode) (s : FileState) (p : List ℕ) → mode ≢ Read → is_touched (after_open mode s p) p ≡ true
touched-opened_same Read s p writes = absurd (writes refl)
touched-opened_same Write s p writes = touched-touch_same (put s p []) p
touched-opened_same Append s p writes = touched-touch_same (put s p (bytes_at s p)) p
touched-opened_same New s p writes = touched-touch_same (put s p []) p

pub touched-opened_other : (mode : OpenMode) (s : FileState) (p q : List ℕ) → q ≢ p → is_touched (after_open mode s p) q ≡ is_touched s q
touched-opened_other Read s p q apart = refl
touched-opened_other Write s p q apart = touched-touch_other (put s p []) p q apart
touched-opened_other Append s p q apart = touched-touch_other (put s p (bytes_at s p)) p q apart
touched-opened_other New s p q apart = touched-touch_other (put s p []) p q apart

pub touched-removed_same : (s : FileState) (p : List ℕ) → is_touched (after_remove s p) p ≡ true
touched-removed_same s p = touched-touch_same s p

pub touched-removed_other : (s : FileState) (p q : List ℕ) → q ≢ p → is_touched (after_remove s p) q ≡ is_touched s q
touched-removed_other s p q apart = touched-touch_other s p q apart

-- ---- a state stays one

file-from : (path bytes : List ℕ) → IsFile path bytes → file_test (file_of path bytes) ≡ true
file-from path bytes is = and-from (path_test path) (nat_le (length bytes) file_limit) is.0 (le-leb (length bytes) file_limit is.1)

valid-put : (p bytes : List ℕ) (files : List File) → IsFile p bytes → list_all file_test files ≡ true → list_all file_test (put_file p bytes files) ≡ true
valid-put p bytes [] is all = and-from _ _ (file-from p bytes is) refl
valid-put p bytes (f ∷ fs) is all =
    by (path_cmp p f.path) (and-first (file_test f) (list_all file_test fs) all) (and-second (file_test f) (list_all file_test fs) all)
    (valid-put p bytes fs is (and-second (file_test f) (list_all file_test fs) all))
  where
    by : (r : Ordering) → file_test f ≡ true → list_all file_test fs ≡ true → list_all file_test (put_file p bytes fs) ≡ true
        → list_all file_test (match_ordering r (file_of p bytes ∷ f ∷ fs) (file_of f.path bytes ∷ fs) (f ∷ put_file p bytes fs)) ≡ true
    by Less first rest more = and-from _ _ (file-from p bytes is) (and-from _ _ first rest)
    by Equal first rest more = and-from _ _ (file-from f.path bytes ((file_is f first).0, is.1)) rest
    by Greater first rest more = and-from _ _ first more

valid-add : (p : List ℕ) (ps : List (List ℕ)) → path_test p ≡ true → list_all path_test ps ≡ true → list_all path_test (add_path p ps) ≡ true
valid-add p [] is all = and-from _ _ is refl
valid-add p (q ∷ qs) is all =
    by (path_cmp p q) (and-first (path_test q) (list_all path_test qs) all) (and-second (path_test q) (list_all path_test qs) all)
    (valid-add p qs is (and-second (path_test q) (list_all path_test qs) all))
  where
    by : (r : Ordering) → path_test q ≡ true → list_all path_test qs ≡ true → list_all path_test (add_path p qs) ≡ true
        → list_all path_test (match_ordering r (p ∷ q ∷ qs) (q ∷ qs) (q ∷ add_path p qs)) ≡ true
    by Less first rest more = and-from _ _ is (and-from _ _ first rest)
    by Equal first rest more = and-from _ _ first rest
    by Greater first rest more = and-from _ _ first more

all-valid : (files : List File) → files_test files ≡ true → list_all file_test files ≡ true
all-valid files is = and-first (list_all file_test files) (is_strictly_sorted file_precedes files) is

pub files-put : (p bytes : List ℕ) (files : List File) → IsFile p bytes → files_test files ≡ true → files_test (put_file p bytes files) ≡ true
files-put p bytes files file is =
    and-from _ _ (valid-put p bytes files file (all-valid files is)) (sorted-put p bytes files (files_sorted files is))

pub files-remove : (p : List ℕ) (files : List File) → files_test files ≡ true → files_test (remove_file p files) ≡ true
files-remove p files is = and-from _ _ (list_all-filter file_test _ files (all-valid files is)) (sorted-remove p files (files_sorted files is))

pub state-initial_files : (files : List File) → files_test files ≡ true → IsFileState (initial_files files)
state-initial_files files is = record { files = is; paths = refl; sorted = refl }

pub state-put : (s : FileState) (p bytes : List ℕ) → IsFileState s → IsFile p bytes → IsFileState (put s p bytes)
state-put s p bytes h file = record { files = files-put p bytes s.files file h.files; paths = h.paths; sorted = h.sorted }

pub state-touch : (s : FileState) (p : List ℕ) → IsFileState s → path_test p ≡ true → IsFileState (touch s p)
state-touch s p h is = record { files = h.files; paths = valid-add p s.touched is h.paths; sorted = sorted-add p s.touched h.sorted }

pub state-after_remove : (s : FileState) (p : List ℕ) → IsFileState s → path_test p ≡ true → IsFileState (after_remove s p)
state-after_remove s p h is = record { files = files-remove p s.files h.files; paths = valid-add p s.touched is h.paths; sorted = sorted-add p s.touched h.sorted }

-- the file at a path is valid
pub file-there : (s : FileState) (p : List ℕ) (f : File) → IsFileState s → file_at p s.files ≡ Some f → IsFile f.path f.content
file-there s p f h found = file_is f (found-all (λ file. bytes_eq p file.path) file_test s.files f (all-valid s.files h.files) found)

bytes-within : (o : Option File) → ((f : File) → o ≡ Some f → length f.content ≤ file_limit) → length (unwrap_or (option_map (λ (file : File). file.content) o) []) ≤ file_limit
bytes-within None h = omega arith
bytes-within (Some f) h = h f refl

pub bytes-short : (s : FileState) (p : List ℕ) → IsFileState s → length (bytes_at s p) ≤ file_limit
bytes-short s p h = bytes-within (file_at p s.files) (λ f found. (file-there s p f h found).1)

pub state-after_open : (mode : OpenMode) (s : FileState) (p : List ℕ) → IsFileState s → path_test p ≡ true → IsFileState (after_open mode s p)
state-after_open Read s p h is = h
state-after_open Write s p h is = state-touch (put s p []) p (state-put s p [] h (is, omega arith)) is
state-after_open Append s p h is = state-touch (put s p (bytes_at s p)) p (state-put s p (bytes_at s p) h (is, bytes-short s p h)) is
state-after_open New s p h is = state-touch (put s p []) p (state-put s p [] h (is, omega arith)) is

pub state-after_append : (s : FileState) (p more : List ℕ) → IsFileState s → path_test p ≡ true → length (bytes_at s p ++ more) ≤ file_limit → IsFileState (after_append s p more)
state-after_append s p more h is fits = state-put s p (bytes_at s p ++ more) h (is, fits)

-- ---- states as wholes

-- to put back the bytes of a file changes nothing
there_some : (o : Option (List ℕ)) → is_some o ≡ true → o ≡ Some (unwrap_or o [])
there_some None is = cc
there_some (Some bytes) is = refl

pub put-same : (s : FileState) (p : List ℕ) → IsFileState s → is_there s p ≡ true → put s p (bytes_at s p) ≡ s
put-same s p h there = λ i. record { files = same i; touched = s.touched }
  where
    at : (q : List ℕ) (b : Bool) → bytes_eq q p ≡ b → cond b (Some (bytes_at s p)) (content_at s q) ≡ content_at s q
    at q true tie = sym (there_some (content_at s p) there) ∙ ap (content_at s) (sym (bytes_eq-true q p tie))
    at q false apart = refl

    same : put_file p (bytes_at s p) s.files ≡ s.files
    same = same-files (put_file p (bytes_at s p) s.files) s.files (sorted-put p (bytes_at s p) s.files (files_sorted s.files h.files)) (files_sorted s.files h.files)
        (λ q. content-put p (bytes_at s p) s.files q ∙ at q (bytes_eq q p) refl)

-- the second of two puts at a path stands
pub put-put : (s : FileState) (p v w : List ℕ) → IsFileState s → put (put s p v) p w ≡ put s p w
put-put s p v w h = λ i. record { files = same i; touched = s.touched }
  where
    twice : (b : Bool) (o : Option (List ℕ)) → cond b (Some w) (cond b (Some v) o) ≡ cond b (Some w) o
    twice true o = refl
    twice false o = refl

    same : put_file p w (put_file p v s.files) ≡ put_file p w s.files
    same =
        let sorted = files_sorted s.files h.files in
        same-files (put_file p w (put_file p v s.files)) (put_file p w s.files) (sorted-put p w (put_file p v s.files) (sorted-put p v s.files sorted)) (sorted-put p w s.files sorted)
        (λ q. content-put p w (put_file p v s.files) q ∙ ap (cond (bytes_eq q p) (Some w)) (content-put p v s.files q) ∙ twice (bytes_eq q p) (content_at s q) ∙ sym (content-put p w s.files q))

-- to append twice is to append both
pub after_append-after_append : (s : FileState) (p more next : List ℕ) → IsFileState s → after_append (after_append s p more) p next ≡ after_append s p (more ++ next)
after_append-after_append s p more next h =
    ap (λ l. put (after_append s p more) p (l ++ next)) (bytes-appended_same s p more) ∙ put-put s p (bytes_at s p ++ more) ((bytes_at s p ++ more) ++ next) h
    ∙ ap (put s p) (append_assoc (bytes_at s p) more next)
