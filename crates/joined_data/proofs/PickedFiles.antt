-- The files of a package are picked again out of its joined package.
use Rattle.std.proofs.Common.{◌≡◌, ℕ, List, [], ◌∷◌, refl, sym, ap, ◌∙◌, true, false, inl, inr}
use Rattle.std.specs.Prelude.{Some, None, bytes_eq, map, option_map}
use Rattle.std.specs.List.{filter_map}
use Rattle.std.specs.Ordering.{nat_cmp}
use Rattle.std.specs.Cmp.{IsTotalOrder}
use Rattle.std.specs.Cmp.Lexicographic.{slice_cmp}
use Rattle.std.specs.declared.cmp.Ordering.{Ordering}
use Rattle.std.specs.declared.cmp.Ordering.TheVariants.{Less, Equal}
use Rattle.std.proofs.lemmas.Bool.{cases_Bool}
use Rattle.std.proofs.lemmas.Cmp.{nat_list_cmp_total, tied_itself}
use Rattle.std.proofs.lemmas.Map.Lookups.{exact_bytes}
use Rattle.ldv_value.proofs.Cases.{cases-option}
use Rattle.ldv_value.proofs.SameBytes.{bytes_eq-true, bytes_eq-itself}
use Rattle.run_model.specs.Between.{IsIn}
use Rattle.run_laws.proofs.ListMembers.{any_in, in_any, in_filter_map, filter_map_in}
use Rattle.joined_data.specs.Types.{Package, PackedFile}
use Rattle.joined_data.specs.Joined.{whole_path, path_unless, present_path, wholes_of, presents_of, run_in, is_among, picked_file, file_cmp}
use Rattle.joined_data.proofs.Cuts.{Rising}
use Rattle.joined_data.proofs.Picking.{first_picked}
use Rattle.joined_data.specs.Merging.{merged}

-- two items of one key are one
pub rising_same : {S K : Type 0} (key : S → K) (key_cmp : K → K → Ordering) (total : IsTotalOrder key_cmp) (xs : List S) → Rising key key_cmp xs
    → (x y : S) → IsIn x xs → IsIn y xs → key x ≡ key y → x ≡ y
rising_same key key_cmp total [] sorted x y in_x in_y same = absurd in_x
rising_same key key_cmp total (z ∷ zs) sorted x y (inl x_is) (inl y_is) same = x_is ∙ sym y_is
rising_same key key_cmp total (z ∷ zs) sorted x y (inl x_is) (inr y_in) same =
    let never : Equal ≡ Less = sym (tied_itself total (key z)) ∙ ap (key_cmp (key z)) (sym (ap key x_is) ∙ same) ∙ sorted.0 y y_in in cc
rising_same key key_cmp total (z ∷ zs) sorted x y (inr x_in) (inl y_is) same =
    let never : Equal ≡ Less = sym (tied_itself total (key z)) ∙ ap (key_cmp (key z)) (sym (ap key y_is) ∙ sym same) ∙ sorted.0 x x_in in cc
rising_same key key_cmp total (z ∷ zs) sorted x y (inr x_in) (inr y_in) same = rising_same key key_cmp total zs sorted.1 x y x_in y_in same

abbrev pub path_of : PackedFile → List ℕ
path_of f = f.path

whole_is : (f : PackedFile) (bytes : List ℕ) → f.content ≡ Some bytes → whole_path f ≡ Some f.path
whole_is f bytes is = ap (option_map (λ (b : List ℕ). f.path)) is

present_is : (f : PackedFile) → f.content ≡ None → present_path f ≡ Some f.path
present_is f is = ap (path_unless f.path) is

-- what a path of either list says of its file
whole_back : (f : PackedFile) (path : List ℕ) → whole_path f ≡ Some path → (f.path ≡ path) × ((bytes : List ℕ) × (f.content ≡ Some bytes))
whole_back f path is = elim (cases-option f.content) [
  | inl none ↦ let never : None ≡ Some path = ap (option_map (λ (b : List ℕ). f.path)) (sym none) ∙ is in cc
  | inr some ↦ let one : Some f.path ≡ Some path = sym (whole_is f some.0 some.1) ∙ is in let same : f.path ≡ path = cc in (same, some)
]

present_back : (f : PackedFile) (path : List ℕ) → present_path f ≡ Some path → f.path ≡ path
present_back f path is = elim (cases-option f.content) [
  | inl none ↦ let one : Some f.path ≡ Some path = sym (present_is f none) ∙ is in let same : f.path ≡ path = cc in same
  | inr some ↦ let never : None ≡ Some path = ap (path_unless f.path) (sym some.1) ∙ is in cc
]

module _ (p : Package) (sorted : Rising path_of (slice_cmp nat_cmp) p.files) where
  whole_among : (f : PackedFile) → IsIn f p.files → (bytes : List ℕ) → f.content ≡ Some bytes → is_among f.path (wholes_of p.files) ≡ true
  whole_among f is bytes whole =
      in_any (bytes_eq f.path) (wholes_of p.files) f.path (in_filter_map whole_path p.files f f.path is (whole_is f bytes whole)) (bytes_eq-itself f.path)

  present_among : (f : PackedFile) → IsIn f p.files → f.content ≡ None → is_among f.path (presents_of p.files) ≡ true
  present_among f is none =
      in_any (bytes_eq f.path) (presents_of p.files) f.path (in_filter_map present_path p.files f f.path is (present_is f none)) (bytes_eq-itself f.path)

  abbrev IsFileAt : List ℕ → Type 0
  IsFileAt path = (f : PackedFile) × (IsIn f p.files × (f.path ≡ path))

  among_whole : (path : List ℕ) → is_among path (wholes_of p.files) ≡ true
      → (f : PackedFile) × (IsIn f p.files × ((f.path ≡ path) × ((bytes : List ℕ) × (f.content ≡ Some bytes))))
  among_whole path among =
      let some = any_in (bytes_eq path) (wholes_of p.files) among in
      let file = filter_map_in whole_path p.files some.0 some.1.0 in
      let back = whole_back file.0 some.0 file.1.1 in
      (file.0, (file.1.0, (back.0 ∙ sym (bytes_eq-true path some.0 some.1.1), back.1)))

  among_present : (path : List ℕ) → is_among path (presents_of p.files) ≡ true → IsFileAt path
  among_present path among =
      let some = any_in (bytes_eq path) (presents_of p.files) among in
      let file = filter_map_in present_path p.files some.0 some.1.0 in
      (file.0, (file.1.0, present_back file.0 some.0 file.1.1 ∙ sym (bytes_eq-true path some.0 some.1.1)))

  -- a present file isn't among the whole ones
  not_whole : (f : PackedFile) → IsIn f p.files → f.content ≡ None → is_among f.path (wholes_of p.files) ≡ false
  not_whole f is none = elim (cases_Bool (is_among f.path (wholes_of p.files))) [
    | inr not_among ↦ not_among
    | inl among ↦
        let other = among_whole f.path among in
        let same : other.0 ≡ f = rising_same path_of (slice_cmp nat_cmp) nat_list_cmp_total p.files sorted other.0 f other.1.0 is other.1.1.0 in
        let never : Some other.1.1.1.0 ≡ None = sym other.1.1.1.1 ∙ ap (λ (g : PackedFile). g.content) same ∙ none in cc
  ]

  -- of a file, and of one of its path that is whole where it is
  picked_whole : (f g : PackedFile) → IsIn f p.files → g.path ≡ f.path → (bytes : List ℕ) → f.content ≡ Some bytes → g.content ≡ Some bytes
      → picked_file (run_in p) g ≡ Some f
  picked_whole f g is path bytes whole same =
      let among : is_among g.path (wholes_of p.files) ≡ true = ap (λ (q : List ℕ). is_among q (wholes_of p.files)) path ∙ whole_among f is bytes whole in
      rw among (λ j. Some (record { path = path j; content = (same ∙ sym whole) j }))

  picked_present : (f g : PackedFile) → IsIn f p.files → g.path ≡ f.path → f.content ≡ None → picked_file (run_in p) g ≡ Some f
  picked_present f g is path none =
      let first : is_among g.path (wholes_of p.files) ≡ false = ap (λ (q : List ℕ). is_among q (wholes_of p.files)) path ∙ not_whole f is none in
      let second : is_among g.path (presents_of p.files) ≡ true = ap (λ (q : List ℕ). is_among q (presents_of p.files)) path ∙ present_among f is none in
      rw (first, second) (λ j. Some (record { path = path j; content = sym none j }))

  pub picked_either : (f g : PackedFile) → IsIn f p.files → g.path ≡ f.path → ((bytes : List ℕ) → f.content ≡ Some bytes → g.content ≡ Some bytes)
      → picked_file (run_in p) g ≡ Some f
  picked_either f g is path content = elim (cases-option f.content) [
    | inl none ↦ picked_present f g is path none
    | inr some ↦ picked_whole f g is path some.0 some.1 (content some.0 some.1)
  ]

  not_picked : (g : PackedFile) → (IsFileAt g.path → ⊥) → picked_file (run_in p) g ≡ None
  not_picked g none = elim (cases_Bool (is_among g.path (wholes_of p.files))) [
    | inl among ↦ let other = among_whole g.path among in absurd (none (other.0, (other.1.0, other.1.1.0)))
    | inr first ↦ elim (cases_Bool (is_among g.path (presents_of p.files))) [
      | inl among ↦ absurd (none (among_present g.path among))
      | inr second ↦ rw (first, second) refl
    ]
  ]

  abbrev itself : PackedFile → PackedFile
  itself f = f

  map_itself : (fs : List PackedFile) → map itself fs ≡ fs
  map_itself [] = refl
  map_itself (f ∷ fs) = ap (λ (l : List PackedFile). f ∷ l) (map_itself fs)

  -- of files that are made of its own and of others, the run picks its own
  pub files_picked : (both : PackedFile → PackedFile → PackedFile) (others : List PackedFile) → Rising path_of (slice_cmp nat_cmp) others
      → ((f g : PackedFile) → IsIn f p.files → IsIn g others → f.path ≡ g.path → picked_file (run_in p) (both f g) ≡ Some f)
      → filter_map (picked_file (run_in p)) (merged file_cmp both p.files others) ≡ p.files
  files_picked both others rises made =
      ap (λ (l : List PackedFile). filter_map (picked_file (run_in p)) (merged file_cmp both l others)) (sym (map_itself p.files))
      ∙ first_picked path_of (slice_cmp nat_cmp) nat_list_cmp_total both itself (picked_file (run_in p)) p.files others sorted rises (record {
        alone = λ f is. picked_either f f is refl (λ bytes whole. whole);
        shared = λ f g is there equal. made f g is there (exact_bytes f.path g.path equal);
        others = λ g there apart. not_picked g (λ at. apart at.0 at.1.0 (ap (slice_cmp nat_cmp at.0.path) (sym at.1.1) ∙ tied_itself nat_list_cmp_total at.0.path));
      })
