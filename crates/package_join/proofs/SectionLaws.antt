-- The sections of a joined package: what is spelled is read, and what is read was spelled so.
use Rattle.std.proofs.Common.{◌≡◌, ℕ, Bool, true, false, cond, List, [], ◌++◌, length, Option, Some, None, refl, sym, ap, subst, ◌∙◌, ◌&&◌}
use Rattle.std.specs.Prelude.{◌==◌}
use Rattle.std.specs.List.{AllByRecursion}
use Rattle.std.proofs.lemmas.Bool.{eqb-true}
use Rattle.std.proofs.lemmas.List.{append-nil, nil_from_length}
use Rattle.ldv_value.proofs.Options.{bind-some, same-some}
use Rattle.package_codec.specs.Counts.{CountedList, CountedFile}
use Rattle.package_codec.specs.Fields.{DecodeResult, both_at}
use Rattle.package_codec.specs.Typed.{TypedFile}
use Rattle.package_codec.proofs.Laws.{IsBytes, IsField, always, then_law, struct_law}
use Rattle.package_layout.proofs.Whole.{files_law}
use Rattle.package_join.specs.Types.{PackedFile, Table}
use Rattle.joined_data.specs.declared.joined.Joined.{Joined}
use Rattle.joined_data.specs.declared.joined.JoinedRun.{JoinedRun}
use Rattle.joined_data.specs.Layout.{common_files_spelling, common_tables_spelling, run_spelling, joined_sections, common_files_at, common_tables_at, run_at, joined_at, all_of_joined}
use Rattle.joined_data.specs.Rooms.{TypedCommonTable, TypedJoinedRun, IsTypedJoined, common_tables_room, joined_run_room, joined_room, CountedCommonTable, CountedJoinedRun, IsCountedJoined}
use Rattle.joined_data.proofs.LayoutLaws.{tables_law, run_law}

abbrev Runs : Type 0
Runs = JoinedRun × JoinedRun

abbrev J2 : Type 0
J2 = List Table × Runs

abbrev J1 : Type 0
J1 = List PackedFile × J2

abbrev j3 : Runs → List ℕ
j3 p = run_spelling p.0 ++ run_spelling p.1

abbrev j2 : J2 → List ℕ
j2 p = common_tables_spelling p.0 ++ j3 p.1

abbrev j1 : J1 → List ℕ
j1 p = common_files_spelling p.0 ++ j2 p.1

abbrev u3 : Runs → Type 0
u3 p = TypedJoinedRun p.0 × TypedJoinedRun p.1

abbrev u2 : J2 → Type 0
u2 p = AllByRecursion TypedCommonTable p.0 × u3 p.1

abbrev u1 : J1 → Type 0
u1 p = AllByRecursion TypedFile p.0 × u2 p.1

abbrev v3 : Runs → Bool
v3 p = joined_run_room p.0 && joined_run_room p.1

abbrev v2 : J2 → Bool
v2 p = common_tables_room p.0 && v3 p.1

abbrev v1 : J1 → Bool
v1 p = v2 p.1

abbrev w3 : Runs → Type 0
w3 p = CountedJoinedRun p.0 × CountedJoinedRun p.1

abbrev w2 : J2 → Type 0
w2 p = AllByRecursion CountedCommonTable p.0 × w3 p.1

abbrev w1 : J1 → Type 0
w1 p = CountedList CountedFile p.0 × w2 p.1

abbrev x3 : List ℕ → DecodeResult Runs
x3 = both_at run_at run_at

abbrev x2 : List ℕ → DecodeResult J2
x2 = both_at common_tables_at x3

abbrev x1 : List ℕ → DecodeResult J1
x1 = both_at common_files_at x2

y3 : IsField j3 u3 v3 w3 x3
y3 = then_law run_spelling TypedJoinedRun joined_run_room run_at run_spelling TypedJoinedRun (λ a. joined_run_room) (λ a. run_at) run_law (λ a. run_law)

y2 : IsField j2 u2 v2 w2 x2
y2 = then_law common_tables_spelling (AllByRecursion TypedCommonTable) common_tables_room common_tables_at j3 u3 (λ a. v3) (λ a. x3) tables_law (λ a. y3)

y1 : IsField j1 u1 v1 w1 x1
y1 = then_law common_files_spelling (AllByRecursion TypedFile) always common_files_at j2 u2 (λ a. v2) (λ a. x2) files_law (λ a. y2)

pub sections_law : IsField joined_sections IsTypedJoined joined_room IsCountedJoined joined_at
sections_law = struct_law j1 u1 v1 x1
    (λ (p : J1). record { files = p.0; tables = p.1.0; first = p.1.1.0; second = p.1.1.1 }) (λ (j : Joined). (j.files, (j.tables, (j.first, j.second))))
    y1 (λ j. refl) (λ p. refl)

pub all_again : (j : Joined) → IsTypedJoined j → joined_room j ≡ true → IsCountedJoined j → all_of_joined (joined_sections j) ≡ Some j
all_again j t h n =
    let one : joined_at (joined_sections j ++ []) ≡ Some (j, []) = sections_law.again j [] t h n in
    let two : joined_at (joined_sections j) ≡ Some (j, []) = ap joined_at (sym (append-nil (joined_sections j))) ∙ one in
    rw two refl

abbrev pub ended : Joined × List ℕ → Option Joined
ended x = cond (length x.1 == 0) (Some x.0) None

ended_is : (x : Joined × List ℕ) (j : Joined) (b : Bool) → (length x.1 == 0) ≡ b → cond b (Some x.0) None ≡ Some j → (x.0 ≡ j) × (x.1 ≡ [])
ended_is x j true e h = (same-some x.0 j h, nil_from_length x.1 (eqb-true _ _ e))
ended_is x j false e h = absurd cc

pub all_took : (bytes : List ℕ) (j : Joined) → IsBytes bytes → all_of_joined bytes ≡ Some j → (bytes ≡ joined_sections j) × IsTypedJoined j × (joined_room j ≡ true) × IsCountedJoined j
all_took bytes j h e =
    let first = bind-some (joined_at bytes) ended j e in
    let x = first.0 in
    let k = sections_law.took bytes x.0 x.1 h first.1 in
    let end = ended_is x j (length x.1 == 0) refl first.2 in
    let parts : bytes ≡ joined_sections x.0 = k.parts ∙ ap (λ (l : List ℕ). joined_sections x.0 ++ l) end.1 ∙ append-nil (joined_sections x.0) in
    subst (λ (q : Joined). (bytes ≡ joined_sections q) × IsTypedJoined q × (joined_room q ≡ true) × IsCountedJoined q) end.0 (parts, k.is_typed, k.is_fit, k.is_counted)
