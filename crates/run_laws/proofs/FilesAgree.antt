-- Two states of files that agree: on the touched paths and their bytes, on the bytes of files that later
-- events need whole, and on the presence of files that they need present. A file that the larger state lacks
-- is absent from the smaller one too.
use Rattle.std.proofs.Common.{◌≡◌, ℕ, List, [], ◌∷◌, refl, sym, ap, ◌∙◌, subst, Bool, true, false, inl, inr}
use Rattle.std.specs.Prelude.{Option, Some, None, is_some, not, ◌&&◌, ◌≢◌, map, bytes_eq, if◌then◌else◌}
use Rattle.std.specs.List.{list_any}
use Rattle.std.proofs.lemmas.Bool.{cases_Bool, and_from}
use Rattle.std.proofs.lemmas.Slice.Eq.{bytes_eq-Decides}
use Rattle.ldv_value.specs.FileState.{FileState, content_at, is_there, is_touched, put, touch, after_remove, add_path}
use Rattle.ldv_value.proofs.FileLaws.{content-put_same, content-put_other, content-removed_same, content-removed_other, touched-touch_other, touched-removed_other}
use Rattle.ldv_value.proofs.Booleans.{or-left, or-right}
use Rattle.ldv_value.proofs.SameBytes.{bytes_eq-true}
use Rattle.sql_model.specs.Scope.{same_text}
use Rattle.run_laws.specs.Types.{Act, Event}
use Rattle.run_model.specs.Outcome.{outcome_of_path, outcomes_of_paths}
use Rattle.run_model.specs.Slice.{whole_path, present_path, changed_path, is_path, names_initial, FileNeed, Whole, Present, file_need}

-- of the bytes at a path in the larger state, what is needed of it, and the bytes in the smaller
abbrev pub ContentAgrees : Option (List ℕ) → Option FileNeed → Option (List ℕ) → Type 0
ContentAgrees None need small = small ≡ None
ContentAgrees (Some bytes) (Some Whole) small = small ≡ Some bytes
ContentAgrees (Some bytes) (Some Present) small = is_some small ≡ true
ContentAgrees (Some bytes) None small = Unit {0}

-- a touched path has the same bytes
abbrev pub PathAgrees : Bool → Option FileNeed → Option (List ℕ) → Option (List ℕ) → Type 0
PathAgrees true need small whole = small ≡ whole
PathAgrees false need small whole = ContentAgrees whole need small

pub record Agrees (es : List Event) (a b : FileState) : Type 0 where
  pub touched : a.touched ≡ b.touched
  pub paths : (path : List ℕ) → PathAgrees (is_touched b path) (file_need path es) (content_at a path) (content_at b path)

-- the same bytes at a path, or none
abbrev pub SameAt : FileState → FileState → List ℕ → Type 0
SameAt a b path = content_at a path ≡ content_at b path

-- ---- what agrees at a path

pub same_content : (whole : Option (List ℕ)) (need : Option FileNeed) → ContentAgrees whole need whole
same_content None need = refl
same_content (Some bytes) (Some Whole) = refl
same_content (Some bytes) (Some Present) = refl
same_content (Some bytes) None = tt

same_agrees : (touched : Bool) (need : Option FileNeed) (small whole : Option (List ℕ)) → small ≡ whole
    → PathAgrees touched need small whole
same_agrees true need small whole same = same
same_agrees false need small whole same = subst (ContentAgrees whole need) (sym same) (same_content whole need)

absent_same : (touched : Bool) (need : Option FileNeed) (small whole : Option (List ℕ)) → PathAgrees touched need small whole
    → is_some whole ≡ false → small ≡ whole
absent_same true need small whole agrees none = agrees
absent_same false need small None agrees none = agrees
absent_same false need small (Some bytes) agrees none = absurd cc

whole_same : (touched : Bool) (small whole : Option (List ℕ)) → PathAgrees touched (Some Whole) small whole → small ≡ whole
whole_same true small whole agrees = agrees
whole_same false small None agrees = agrees
whole_same false small (Some bytes) agrees = agrees

abbrev IsNeeded : Option FileNeed → Type 0
IsNeeded None = ⊥
IsNeeded (Some need) = Unit {0}

there_same : (touched : Bool) (need : Option FileNeed) (small whole : Option (List ℕ)) → IsNeeded need
    → PathAgrees touched need small whole → is_some whole ≡ true → is_some small ≡ true
there_same true need small whole needed agrees there = ap is_some agrees ∙ there
there_same false need small None needed agrees there = absurd cc
there_same false (Some Whole) small (Some bytes) needed agrees there = ap is_some agrees
there_same false (Some Present) small (Some bytes) needed agrees there = agrees
there_same false None small (Some bytes) needed agrees there = absurd needed

-- ---- what is needed later is needed now

abbrev need_by : Bool → Bool → Option FileNeed
need_by w p = if w then Some Whole else if p then Some Present else None

weaker_content : (w v p q : Bool) (whole small : Option (List ℕ)) → (w ≡ true → v ≡ true) → (p ≡ true → q ≡ true)
    → ContentAgrees whole (need_by v q) small → ContentAgrees whole (need_by w p) small
weaker_content w v p q None small wider more agrees = agrees
weaker_content true v p q (Some bytes) small wider more agrees =
    subst (λ (x : Bool). ContentAgrees (Some bytes) (need_by x q) small) (wider refl) agrees
weaker_content false true true q (Some bytes) small wider more agrees = ap is_some agrees
weaker_content false false true q (Some bytes) small wider more agrees =
    subst (λ (x : Bool). ContentAgrees (Some bytes) (need_by false x) small) (more refl) agrees
weaker_content false v false q (Some bytes) small wider more agrees = tt

weaker : (t w v p q : Bool) (small whole : Option (List ℕ)) → (w ≡ true → v ≡ true) → (p ≡ true → q ≡ true)
    → PathAgrees t (need_by v q) small whole → PathAgrees t (need_by w p) small whole
weaker true w v p q small whole wider more agrees = agrees
weaker false w v p q small whole wider more agrees = weaker_content w v p q whole small wider more agrees

names_later : (path_in : Act → Option (List ℕ)) (path : List ℕ) (e : Event) (es : List Event)
    → is_path path (changed_path e.act) ≡ false → names_initial path_in path es ≡ true → names_initial path_in path (e ∷ es) ≡ true
names_later path_in path e es still named =
    or-right (is_path path (path_in e.act)) (not (is_path path (changed_path e.act)) && names_initial path_in path es)
    (and_from (not (is_path path (changed_path e.act))) (names_initial path_in path es) (ap not still) named)

later_path : (path : List ℕ) (e : Event) (es : List Event) (t : Bool) (small whole : Option (List ℕ))
    → is_path path (changed_path e.act) ≡ false → PathAgrees t (file_need path (e ∷ es)) small whole
    → PathAgrees t (file_need path es) small whole
later_path path e es t small whole still agrees =
    weaker t (names_initial whole_path path es) (names_initial whole_path path (e ∷ es))
    (names_initial present_path path es) (names_initial present_path path (e ∷ es)) small whole
    (λ named. names_later whole_path path e es still named) (λ named. names_later present_path path e es still named) agrees

-- after an act that changes no file
pub later_agrees : (e : Event) (es : List Event) (a b : FileState) → changed_path e.act ≡ None → Agrees (e ∷ es) a b → Agrees es a b
later_agrees e es a b still agrees = record {
  touched = agrees.touched;
  paths = λ path. later_path path e es (is_touched b path) (content_at a path) (content_at b path) (ap (is_path path) still) (agrees.paths path);
}

-- ---- what the next act needs

first_whole : (path : List ℕ) (e : Event) (es : List Event) → is_path path (whole_path e.act) ≡ true → file_need path (e ∷ es) ≡ Some Whole
first_whole path e es here =
    let named : names_initial whole_path path (e ∷ es) ≡ true =
    or-left (is_path path (whole_path e.act)) (not (is_path path (changed_path e.act)) && names_initial whole_path path es) here in
    ap (λ (w : Bool). need_by w (names_initial present_path path (e ∷ es))) named

needed_by : (w p : Bool) → p ≡ true → IsNeeded (need_by w p)
needed_by true p named = tt
needed_by false true named = tt
needed_by false false named = absurd cc

first_present : (path : List ℕ) (e : Event) (es : List Event) → is_path path (present_path e.act) ≡ true → IsNeeded (file_need path (e ∷ es))
first_present path e es here =
    needed_by (names_initial whole_path path (e ∷ es)) (names_initial present_path path (e ∷ es))
    (or-left (is_path path (present_path e.act)) (not (is_path path (changed_path e.act)) && names_initial present_path path es) here)

pub whole_at : (path : List ℕ) (e : Event) (es : List Event) (a b : FileState) → is_path path (whole_path e.act) ≡ true
    → Agrees (e ∷ es) a b → SameAt a b path
whole_at path e es a b here agrees =
    whole_same (is_touched b path) (content_at a path) (content_at b path)
    (subst (λ (need : Option FileNeed). PathAgrees (is_touched b path) need (content_at a path) (content_at b path))
    (first_whole path e es here) (agrees.paths path))

pub there_at : (path : List ℕ) (e : Event) (es : List Event) (a b : FileState) → is_path path (present_path e.act) ≡ true
    → Agrees (e ∷ es) a b → is_there b path ≡ true → is_there a path ≡ true
there_at path e es a b here agrees there =
    there_same (is_touched b path) (file_need path (e ∷ es)) (content_at a path) (content_at b path)
    (first_present path e es here) (agrees.paths path) there

pub absent_at : (path : List ℕ) (es : List Event) (a b : FileState) → Agrees es a b → is_there b path ≡ false → SameAt a b path
absent_at path es a b agrees none =
    absent_same (is_touched b path) (file_need path es) (content_at a path) (content_at b path) (agrees.paths path) none

-- ---- files that change in both

apart : (q path : List ℕ) → bytes_eq q path ≡ false → q ≢ path
apart q path miss same = let hit : bytes_eq q path ≡ true = (bytes_eq-Decides q path).1 same in let never : true ≡ false = sym hit ∙ miss in cc

apart_text : (q path : List ℕ) → bytes_eq q path ≡ false → same_text path q ≡ false
apart_text q path miss = elim (cases_Bool (same_text path q)) [
  | inl hit ↦ absurd (apart q path miss (sym (bytes_eq-true path q hit)))
  | inr other ↦ other
]

moved_path : (t u : Bool) (need : Option FileNeed) (x v y z : Option (List ℕ)) → u ≡ t → v ≡ x → z ≡ y
    → PathAgrees t need x y → PathAgrees u need v z
moved_path t u need x v y z same_touched same_small same_whole agrees =
    subst (λ (o : Option (List ℕ)). PathAgrees u need v o) (sym same_whole)
    (subst (λ (o : Option (List ℕ)). PathAgrees u need o y) (sym same_small)
    (subst (λ (b : Bool). PathAgrees b need x y) (sym same_touched) agrees))

put_here : (s : FileState) (path bytes q : List ℕ) → q ≡ path → content_at (put s path bytes) q ≡ Some bytes
put_here s path bytes q same = ap (content_at (put s path bytes)) same ∙ content-put_same s path bytes

pub put_agrees : (es : List Event) (a b : FileState) (path bytes : List ℕ) → Agrees es a b → Agrees es (put a path bytes) (put b path bytes)
put_agrees es a b path bytes agrees = record {
  touched = agrees.touched;
  paths = λ q. elim (cases_Bool (bytes_eq q path)) [
    | inl hit ↦
        let same : q ≡ path = (bytes_eq-Decides q path).0 hit in
        same_agrees (is_touched b q) (file_need q es) (content_at (put a path bytes) q) (content_at (put b path bytes) q)
        (put_here a path bytes q same ∙ sym (put_here b path bytes q same))
    | inr miss ↦
        moved_path (is_touched b q) (is_touched b q) (file_need q es) (content_at a q) (content_at (put a path bytes) q) (content_at b q) (content_at (put b path bytes) q)
        refl (content-put_other a path bytes q (apart q path miss)) (content-put_other b path bytes q (apart q path miss)) (agrees.paths q)
  ];
}

pub touch_agrees : (e : Event) (es : List Event) (a b : FileState) (path : List ℕ) → changed_path e.act ≡ Some path → SameAt a b path
    → Agrees (e ∷ es) a b → Agrees es (touch a path) (touch b path)
touch_agrees e es a b path changed here agrees = record {
  touched = ap (add_path path) agrees.touched;
  paths = λ q. elim (cases_Bool (bytes_eq q path)) [
    | inl hit ↦
        let same : q ≡ path = (bytes_eq-Decides q path).0 hit in
        same_agrees (is_touched (touch b path) q) (file_need q es) (content_at a q) (content_at b q)
        (ap (content_at a) same ∙ here ∙ sym (ap (content_at b) same))
    | inr miss ↦
        let still : is_path q (changed_path e.act) ≡ false = ap (is_path q) changed ∙ apart_text q path miss in
        moved_path (is_touched b q) (is_touched (touch b path) q) (file_need q es) (content_at a q) (content_at a q) (content_at b q) (content_at b q)
        (touched-touch_other b path q (apart q path miss)) refl refl
        (later_path q e es (is_touched b q) (content_at a q) (content_at b q) still (agrees.paths q))
  ];
}

-- a file of these bytes, at a path that the act touches
pub made_agrees : (e : Event) (es : List Event) (a b : FileState) (path bytes : List ℕ) → changed_path e.act ≡ Some path
    → Agrees (e ∷ es) a b → Agrees es (touch (put a path bytes) path) (touch (put b path bytes) path)
made_agrees e es a b path bytes changed agrees =
    touch_agrees e es (put a path bytes) (put b path bytes) path changed
    (content-put_same a path bytes ∙ sym (content-put_same b path bytes))
    (put_agrees (e ∷ es) a b path bytes agrees)

removed_here : (s : FileState) (path q : List ℕ) → q ≡ path → content_at (after_remove s path) q ≡ None
removed_here s path q same = ap (content_at (after_remove s path)) same ∙ content-removed_same s path

pub removed_agrees : (e : Event) (es : List Event) (a b : FileState) (path : List ℕ) → changed_path e.act ≡ Some path
    → Agrees (e ∷ es) a b → Agrees es (after_remove a path) (after_remove b path)
removed_agrees e es a b path changed agrees = record {
  touched = ap (add_path path) agrees.touched;
  paths = λ q. elim (cases_Bool (bytes_eq q path)) [
    | inl hit ↦
        let same : q ≡ path = (bytes_eq-Decides q path).0 hit in
        same_agrees (is_touched (after_remove b path) q) (file_need q es) (content_at (after_remove a path) q) (content_at (after_remove b path) q)
        (removed_here a path q same ∙ sym (removed_here b path q same))
    | inr miss ↦
        let still : is_path q (changed_path e.act) ≡ false = ap (is_path q) changed ∙ apart_text q path miss in
        moved_path (is_touched b q) (is_touched (after_remove b path) q) (file_need q es) (content_at a q) (content_at (after_remove a path) q) (content_at b q) (content_at (after_remove b path) q)
        (touched-removed_other b path q (apart q path miss)) (content-removed_other a path q (apart q path miss)) (content-removed_other b path q (apart q path miss))
        (later_path q e es (is_touched b q) (content_at a q) (content_at b q) still (agrees.paths q))
  ];
}

-- ---- what had the same bytes has them still

pub put_follows : (a b : FileState) (path bytes q : List ℕ) → SameAt a b q → SameAt (put a path bytes) (put b path bytes) q
put_follows a b path bytes q same = elim (cases_Bool (bytes_eq q path)) [
  | inl hit ↦
      let here : q ≡ path = (bytes_eq-Decides q path).0 hit in
      put_here a path bytes q here ∙ sym (put_here b path bytes q here)
  | inr miss ↦ content-put_other a path bytes q (apart q path miss) ∙ same ∙ sym (content-put_other b path bytes q (apart q path miss))
]

pub removed_follows : (a b : FileState) (path q : List ℕ) → SameAt a b q → SameAt (after_remove a path) (after_remove b path) q
removed_follows a b path q same = elim (cases_Bool (bytes_eq q path)) [
  | inl hit ↦
      let here : q ≡ path = (bytes_eq-Decides q path).0 hit in
      removed_here a path q here ∙ sym (removed_here b path q here)
  | inr miss ↦ content-removed_other a path q (apart q path miss) ∙ same ∙ sym (content-removed_other b path q (apart q path miss))
]

-- ---- outcomes

module _ (es : List Event) (a b : FileState) (agrees : Agrees es a b) where
  touched_same : (path : List ℕ) → is_touched b path ≡ true → SameAt a b path
  touched_same path is =
      subst (λ (t : Bool). PathAgrees t (file_need path es) (content_at a path) (content_at b path)) is (agrees.paths path)

  outcomes_part : (paths : List (List ℕ)) → ((path : List ℕ) → list_any (bytes_eq path) paths ≡ true → is_touched b path ≡ true)
      → map (outcome_of_path a) paths ≡ map (outcome_of_path b) paths
  outcomes_part [] among = refl
  outcomes_part (path ∷ paths) among =
      let self : bytes_eq path path ≡ true = (bytes_eq-Decides path path).1 refl in
      let found : SameAt a b path = touched_same path (among path (or-left (bytes_eq path path) (list_any (bytes_eq path) paths) self)) in
      let head : outcome_of_path a path ≡ outcome_of_path b path = λ j. record { path = path; content = found j } in
      λ j. head j ∷ outcomes_part paths (λ q more. among q (or-right (bytes_eq q path) (list_any (bytes_eq q) paths) more)) j

  pub outcomes_agree : outcomes_of_paths a ≡ outcomes_of_paths b
  outcomes_agree = ap (map (outcome_of_path a)) agrees.touched ∙ outcomes_part b.touched (λ path more. more)
