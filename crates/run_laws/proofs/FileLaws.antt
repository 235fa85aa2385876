-- Look-ups among files, some of which are cut.
use Rattle.std.proofs.Common.{◌≡◌, ℕ, List, [], ◌∷◌, refl, sym, ap, ◌∙◌, Bool, false, inl, inr}
use Rattle.std.specs.Prelude.{Option, Some, None, option_map, is_some, find, bytes_eq}
use Rattle.std.specs.List.{cons_option}
use Rattle.std.proofs.lemmas.Bool.{cases_Bool}
use Rattle.std.proofs.lemmas.Slice.Eq.{bytes_eq-Decides}
use Rattle.run_laws.specs.Types.{File, Event}
use Rattle.run_model.specs.Between.{Cut, FileCut, Gone, Same, Other, kept_file, cut_files, KeepsFile}
use Rattle.run_model.specs.Slice.{FileNeed, Whole, Present, file_need}
use Rattle.ldv_value.specs.FileState.{file_at, content_in, initial_files}
use Rattle.run_laws.proofs.FilesAgree.{ContentAgrees, Agrees}

abbrev at_path : (List ℕ → Bool) → List File → Option File
at_path p files = find (λ file. p file.path) files

-- a file of another path is passed over, whatever becomes of it
passed_over : (p : List ℕ → Bool) (f : File) → p f.path ≡ false → (k : FileCut) (rest files : List File) → at_path p rest ≡ at_path p files → at_path p (cons_option (kept_file k f) rest) ≡ at_path p files
passed_over p f miss Gone rest files same = same
passed_over p f miss Same rest files same = rw miss same
passed_over p f miss (Other bytes) rest files same = rw miss same

module _ (cut : Cut) where
  -- a file that stays as it is is found
  pub file_same : (path : List ℕ) → cut.file path ≡ Same → (files : List File) → file_at path (cut_files cut files) ≡ file_at path files
  file_same path stays [] = refl
  file_same path stays (f ∷ fs) = elim (cases_Bool (bytes_eq path f.path)) [
    | inl hit ↦
        let here : path ≡ f.path = (bytes_eq-Decides path f.path).0 hit in
        let same : cut.file f.path ≡ Same = ap cut.file (sym here) ∙ stays in
        rw (same, hit) refl
    | inr miss ↦ rw miss (passed_over (bytes_eq path) f miss (cut.file f.path) (cut_files cut fs) fs (file_same path stays fs))
  ]

  -- what isn't there is not there either
  pub file_absent : (path : List ℕ) (files : List File) → file_at path files ≡ None → file_at path (cut_files cut files) ≡ None
  file_absent path [] none = refl
  file_absent path (f ∷ fs) none = elim (cases_Bool (bytes_eq path f.path)) [
    | inl hit ↦ let never : Some f ≡ None = rw hit at none in absurd cc
    | inr miss ↦
        let rest : file_at path fs ≡ None = rw miss at none in
        passed_over (bytes_eq path) f miss (cut.file f.path) (cut_files cut fs) [] (file_absent path fs rest)
  ]

  -- a file that stays with other bytes is found where it was
  pub file_there : (path bytes : List ℕ) → cut.file path ≡ Other bytes → (files : List File)
      → is_some (file_at path (cut_files cut files)) ≡ is_some (file_at path files)
  file_there path bytes stays [] = refl
  file_there path bytes stays (f ∷ fs) = elim (cases_Bool (bytes_eq path f.path)) [
    | inl hit ↦
        let here : path ≡ f.path = (bytes_eq-Decides path f.path).0 hit in
        let same : cut.file f.path ≡ Other bytes = ap cut.file (sym here) ∙ stays in
        rw (same, hit) refl
    | inr miss ↦
        let over : file_at path (cut_files cut (f ∷ fs)) ≡ file_at path (cut_files cut fs) =
        passed_over (bytes_eq path) f miss (cut.file f.path) (cut_files cut fs) (cut_files cut fs) refl in
        let old : file_at path (f ∷ fs) ≡ file_at path fs = rw miss refl in
        ap is_some over ∙ file_there path bytes stays fs ∙ sym (ap is_some old)
  ]

  -- ---- the files of a world from which nothing was cut that the events need

  content_some : (o : Option File) → is_some (option_map (λ (file : File). file.content) o) ≡ is_some o
  content_some None = refl
  content_some (Some f) = refl

  content_agrees : (path : List ℕ) (need : Option FileNeed) (k : FileCut) (files : List File) → cut.file path ≡ k → KeepsFile need k
      → (o : Option File) → file_at path files ≡ o
      → ContentAgrees (option_map (λ (file : File). file.content) o) need (content_in (cut_files cut files) path)
  content_agrees path need k files is keeps None none =
      ap (option_map (λ (file : File). file.content)) (file_absent path files none)
  content_agrees path (Some Whole) Gone files is keeps (Some f) found = absurd keeps
  content_agrees path (Some Whole) Same files is keeps (Some f) found =
      ap (option_map (λ (file : File). file.content)) (file_same path is files ∙ found)
  content_agrees path (Some Whole) (Other bytes) files is keeps (Some f) found = absurd keeps
  content_agrees path (Some Present) Gone files is keeps (Some f) found = absurd keeps
  content_agrees path (Some Present) Same files is keeps (Some f) found =
      content_some (file_at path (cut_files cut files)) ∙ ap is_some (file_same path is files ∙ found)
  content_agrees path (Some Present) (Other bytes) files is keeps (Some f) found =
      content_some (file_at path (cut_files cut files)) ∙ file_there path bytes is files ∙ ap is_some found
  content_agrees path None k files is keeps (Some f) found = tt

  pub files_agree : (es : List Event) (files : List File) → ((path : List ℕ) → KeepsFile (file_need path es) (cut.file path))
      → Agrees es (initial_files (cut_files cut files)) (initial_files files)
  files_agree es files keeps = record {
    touched = refl;
    paths = λ path. content_agrees path (file_need path es) (cut.file path) files refl (keeps path) (file_at path files) refl;
  }
