-- The line that is reported is the least line that is bad by the grammar.
use Rattle.std.proofs.Common.{◌≡◌, ◌≢◌, ◌⊎◌, ℕ, suc, ◌+◌, ◌<◌, ◌≤◌, List, [], ◌∷◌, ◌++◌, length, refl, sym, ap, ◌∙◌, subst, cond, Bool, true, false, inl, inr, Some, None, arith, add-zero, is_some}
use Rattle.std.specs.Prelude.{◌==◌, ◌&&◌, Option, IsUtf8, codes, option_to_list, Result, Ok, Err, IfOk, IfErr}
use Rattle.std.specs.Str.{is_utf8}
use Rattle.std.proofs.lemmas.Bool.{cases_Bool, cases_lt, eq-eqb, false≢true}
use Rattle.std.proofs.lemmas.Str.{IsUtf8-from_is_utf8, is_utf8-from_IsUtf8}
use Rattle.std.proofs.lemmas.Slice.Eq.{bytes_eq-Decides}
use Rattle.ldv_value.proofs.Lists.{append-nil, length-append}
use Rattle.ldv_value.proofs.Utf8Parts.{not-utf8}
use Rattle.script_parse.specs.declared.script.Instr.{Instr}
use Rattle.script_parse.specs.declared.script.Script.{Script}
use Rattle.script_parse.specs.declared.token.Token.TheVariants.{Word}
use Rattle.script_parse.specs.declared.scan.LexState.TheVariants.{Between}
use Rattle.script_parse.specs.declared.line.Line.{Line}
use Rattle.script_parse.specs.declared.line.Line.TheVariants as parsed
use Rattle.script_parse.specs.declared.line.Line.TheVariants.{Label, Plain, Jumping}
use Rattle.script_parse.specs.declared.line.Entry.{Entry}
use Rattle.script_parse.specs.declared.line.Definition.{Definition}
use Rattle.script_parse.specs.declared.parse.ScriptStop.{ScriptStop}
use Rattle.script_parse.specs.declared.parse.ScriptStop.TheVariants.{Line as LineStop, NoMemory}
use Rattle.ldv_value.specs.Options.{◌>>=◌, only_if}
use Rattle.script_parse.specs.Names.{is_text}
use Rattle.script_parse.specs.Tokens.{tokens_of}
use Rattle.script_parse.specs.Lines.{lines_of, starts_with_feed, grow, form_of, is_comment, line_of}
use Rattle.script_parse.specs.Script.{entry_of, entries_from, entries_of, labels_from, definition_of, with_place, is_first, resolve, resolve_line, instructions_of, first_unresolved_line, look_up, script_of, first_bad_line, IfLine}
use Rattle.script_parse.specs.Grammar.{Blank, Names, Does, IsScript}
use Rattle.script_parse.specs.BadLine.{Anywhere, HasAForm, Defines, IsDefined, Uses, IsBadLine, IsBad, IsFirstBad, IsFirstBadLine}
use Rattle.ldv_value.proofs.Cases.{cases-option}
use Rattle.ldv_value.proofs.Options.{bind-some, only_if-some}
use Rattle.script_parse.proofs.LinesLaw.{ne_eqb, lines_sound, lines_complete}
use Rattle.script_parse.proofs.TokensLaw.{tokens_sound}
use Rattle.script_parse.proofs.FormsLaw.{text_is, forms_sound}
use Rattle.script_parse.proofs.KindsLaw.{define}
use Rattle.script_parse.proofs.ScriptLaw.{BeginsPlain, no_comment, name_plain, begins, has_form_place, tokens_place, place_placed, line_sound, line_complete, made_line, script_sound, script_complete}

-- WHAT A LINE SAYS

label_read : (l line : List ℕ) → Defines l line → line_of line ≡ Some (Label l)
label_read l line (u, (name, are)) =
    made_line line (Word (l ++ codes ":") ∷ []) (Label l) u are (no_comment (Word (l ++ codes ":") ∷ []) line are (name_plain l name)) (name, refl)

label_sound : (l line : List ℕ) → line_of line ≡ Some (Label l) → Defines l line
label_sound l line h = line_sound Anywhere (λ q. Some (define 1 0)) (λ q d e. tt) line (Label l) h 1 (Names l) (refl, refl)

form_sound : (line : List ℕ) (s : Line) → line_of line ≡ Some s → HasAForm line
form_sound line parsed.Blank h = (Blank, (line_sound Anywhere (λ q. Some (define 1 0)) (λ q d e. tt) line parsed.Blank h 1 Blank refl).1)
form_sound line (Label l) h = (Names l, (label_sound l line h).1)
form_sound line (Plain i) h = (Does i, (line_sound Anywhere (λ q. Some (define 1 0)) (λ q d e. tt) line (Plain i) h 1 (Does i) refl).1)
form_sound line (Jumping i l) h =
    (Does (with_place 0 i), (line_sound Anywhere (λ q. Some (define 1 0)) (λ q d e. tt) line (Jumping i l) h 1 (Does (with_place 0 i)) (define 1 0, refl, refl)).1)

uses_sound : (l line : List ℕ) (i : Instr) → line_of line ≡ Some (Jumping i l) → Uses l line
uses_sound l line i h =
    let text = only_if-some (is_utf8 line) (cond (is_comment line) (Some parsed.Blank) (tokens_of line >>= form_of)) (Jumping i l) h in
    elim (cases_Bool (is_comment line)) [
      | inl comment ↦
          let quiet : Some parsed.Blank ≡ Some (Jumping i l) = sym (ap (λ b. cond b (Some parsed.Blank) (tokens_of line >>= form_of)) comment) ∙ text.1 in
          absurd cc
      | inr other ↦
          let said : (tokens_of line >>= form_of) ≡ Some (Jumping i l) = sym (ap (λ b. cond b (Some parsed.Blank) (tokens_of line >>= form_of)) other) ∙ text.1 in
          let r = bind-some (tokens_of line) form_of (Jumping i l) said in
          let form = forms_sound r.0 (Jumping i l) r.2 in
          (r.0, i, 0, tokens_sound line Between r.0 r.1, form.1, form.2, form.0, form.3)
    ]

uses_read : (l line : List ℕ) → IsUtf8 line → Uses l line → (i : Instr) × (line_of line ≡ Some (Jumping i l))
uses_read l line u (ts, i, place, are, form, name, some, e) = (
  with_place 0 i,
  made_line line ts (Jumping (with_place 0 i) l) u are (no_comment ts line are (subst BeginsPlain (sym e) (begins i l)))
      (place_placed i 0 place some, subst (λ (X : Type 0). X) (sym (has_form_place i 0)) form, name, e ∙ sym (tokens_place i 0 l)),
)

not_text : (line : List ℕ) → ¬ IsUtf8 line → line_of line ≡ None
not_text line h = ap (λ b. only_if b (cond (is_comment line) (Some parsed.Blank) (tokens_of line >>= form_of))) (not-utf8 line h)

no_form : (line : List ℕ) → ¬ HasAForm line → line_of line ≡ None
no_form line h = elim (cases-option (line_of line)) [
  | inl none ↦ none
  | inr some ↦ absurd (h (form_sound line some.0 some.1))
]

unread : (line : List ℕ) → line_of line ≡ None → IsUtf8 line → ¬ HasAForm line
unread line h u (kind, is) =
    let s = line_complete Anywhere line kind (u, is) in
    let no : None ≡ Some s.0 = sym h ∙ s.1 in
    absurd cc

bad_alone : (line : List ℕ) → line_of line ≡ None → (¬ IsUtf8 line) ⊎ (¬ HasAForm line)
bad_alone line h = elim (cases_Bool (is_utf8 line)) [
  | inl text ↦ inr (unread line h (IsUtf8-from_is_utf8 line text))
  | inr other ↦ inl (λ u. false≢true (sym other ∙ is_utf8-from_IsUtf8 line u))
]

-- LABELS

-- The first of lines defines the label, or what is found for it is found in the others.
abbrev Adds : ℕ → ℕ → Option Line → List Entry → List ℕ → Type 0
Adds m n o es l = ((o ≡ Some (Label l)) × (definition_of (labels_from m (entry_of n o ++ es)) l ≡ Some (define n m)))
    ⊎ ((o ≢ Some (Label l)) × (k : ℕ) × (definition_of (labels_from m (entry_of n o ++ es)) l ≡ definition_of (labels_from k es) l))

adds : (m n : ℕ) (o : Option Line) (es : List Entry) (l : List ℕ) → Adds m n o es l
adds m n None es l = inr (λ h. cc, m + 0, refl)
adds m n (Some parsed.Blank) es l = inr (λ h. cc, m, refl)
adds m n (Some (Label x)) es l = elim (cases_Bool (is_text x l)) [
  | inl hit ↦ inl (ap (λ y. Some (Label y)) (text_is x l hit), ap (λ b. cond b (Some (define n m)) (definition_of (labels_from (m + 0) es) l)) hit)
  | inr miss ↦
      let other : x ≢ l = λ e. false≢true (sym miss ∙ (bytes_eq-Decides x l).1 e) in
      inr (λ h. other cc, m + 0, ap (λ b. cond b (Some (define n m)) (definition_of (labels_from (m + 0) es) l)) miss)
]
adds m n (Some (Plain i)) es l = inr (λ h. cc, m + 1, refl)
adds m n (Some (Jumping i x)) es l = inr (λ h. cc, m + 1, refl)

later : (l x : List ℕ) (xs : List (List ℕ)) → line_of x ≢ Some (Label l) → IsDefined l (x ∷ xs) → IsDefined l xs
later l x xs free (inl h) = absurd (free (label_read l x h))
later l x xs free (inr h) = h

-- a label of earlier lines is found there
front_found : (m n : ℕ) (front rest : List (List ℕ)) (l : List ℕ) → IsDefined l front
    → (d : Definition) × (definition_of (labels_from m (entries_from n (front ++ rest))) l ≡ Some d) × (d.line < n + length front)
front_found m n [] rest l h = absurd h
front_found m n (x ∷ xs) rest l h = elim (adds m n (line_of x) (entries_from (n + 1) (xs ++ rest)) l) [
  | inl here ↦ (define n m, here.1, omega arith)
  | inr there ↦
      let r = front_found there.1 (n + 1) xs rest l (later l x xs there.0 h) in
      (r.0, there.2 ∙ r.1, omega (arith, r.2))
]

-- and one that none of them defines in the line that does
here_found : (m n : ℕ) (front : List (List ℕ)) (line : List ℕ) (back : List (List ℕ)) (l : List ℕ) → ¬ IsDefined l front → line_of line ≡ Some (Label l)
    → (d : Definition) × (definition_of (labels_from m (entries_from n (front ++ line ∷ back))) l ≡ Some d) × (d.line ≡ n + length front)
here_found m n [] line back l free h = elim (adds m n (line_of line) (entries_from (n + 1) back) l) [
  | inl here ↦ (define n m, here.1, omega arith)
  | inr there ↦ absurd (there.0 h)
]
here_found m n (x ∷ xs) line back l free h = elim (adds m n (line_of x) (entries_from (n + 1) (xs ++ line ∷ back)) l) [
  | inl here ↦ absurd (free (inl (label_sound l x here.0)))
  | inr there ↦
      let r = here_found there.1 (n + 1) xs line back l (λ d. free (inr d)) h in
      (r.0, there.2 ∙ r.1, omega (arith, r.2))
]

not_found : (m n : ℕ) (ls : List (List ℕ)) (l : List ℕ) → ¬ IsDefined l ls → definition_of (labels_from m (entries_from n ls)) l ≡ None
not_found m n [] l free = refl
not_found m n (x ∷ xs) l free = elim (adds m n (line_of x) (entries_from (n + 1) xs) l) [
  | inl here ↦ absurd (free (inl (label_sound l x here.0)))
  | inr there ↦ there.2 ∙ not_found there.1 (n + 1) xs l (λ d. free (inr d))
]

decided : (ls : List (List ℕ)) (l : List ℕ) → IsDefined l ls ⊎ (¬ IsDefined l ls)
decided [] l = inr (λ h. h)
decided (x ∷ xs) l = elim (adds 0 1 (line_of x) [] l) [
  | inl here ↦ inl (inl (label_sound l x here.0))
  | inr there ↦ elim (decided xs l) [
    | inl some ↦ inl (inr some)
    | inr none ↦ inr (λ h. none (later l x xs there.0 h))
  ]
]

abbrev places : List (List ℕ) → List ℕ → Option Definition
places ls = look_up (entries_from 1 ls)

undefined : (ls : List (List ℕ)) (l : List ℕ) → places ls l ≡ None → ¬ IsDefined l ls
undefined ls l h defined =
    let r = front_found 0 1 ls [] l defined in
    let is : places ls l ≡ Some r.0 = ap (λ (k : List (List ℕ)). places k l) (sym (append-nil ls)) ∙ r.1 in
    let absent : None ≡ Some r.0 = sym h ∙ is in
    absurd cc

-- BAD LINES

abbrev kept : Bool → Option (Option Instr)
kept b = only_if b (Some None)

not_kept : (b : Bool) → kept b ≡ None → b ≡ false
not_kept true h = absurd cc
not_kept false h = refl

abbrev placed_at : Instr → Option Definition → Option (Option Instr)
placed_at i o = o >>= λ d. Some (Some (with_place d.place i))

no_place : (i : Instr) (o : Option Definition) → placed_at i o ≡ None → o ≡ None
no_place i None h = refl
no_place i (Some d) h = absurd cc

second_label : (front : List (List ℕ)) (line : List ℕ) (back : List (List ℕ)) (l : List ℕ) → line_of line ≡ Some (Label l)
    → is_first (1 + length front) (places (front ++ line ∷ back) l) ≡ false → IsDefined l front
second_label front line back l h miss = elim (decided front l) [
  | inl some ↦ some
  | inr none ↦
      let r = here_found 0 1 front line back l none h in
      let first : is_first (1 + length front) (places (front ++ line ∷ back) l) ≡ true =
      ap (is_first (1 + length front)) r.1 ∙ eq-eqb r.0.line (1 + length front) r.2 in
      absurd (false≢true (sym miss ∙ first))
]

said_bad : (front : List (List ℕ)) (line : List ℕ) (back : List (List ℕ)) (s : Line) → line_of line ≡ Some s
    → resolve_line (places (front ++ line ∷ back)) (1 + length front) (Some s) ≡ None → IsBadLine front line back
said_bad front line back parsed.Blank h bad = absurd cc
said_bad front line back (Label l) h bad =
    let miss = not_kept (is_first (1 + length front) (places (front ++ line ∷ back) l)) bad in
    inr (inr (inl (l, label_sound l line h, second_label front line back l h miss)))
said_bad front line back (Plain i) h bad = absurd cc
said_bad front line back (Jumping i l) h bad =
    let none = no_place i (places (front ++ line ∷ back) l) bad in
    inr (inr (inr (l, uses_sound l line i h, undefined (front ++ line ∷ back) l none)))

bad_sound : (front : List (List ℕ)) (line : List ℕ) (back : List (List ℕ)) → resolve_line (places (front ++ line ∷ back)) (1 + length front) (line_of line) ≡ None → IsBadLine front line back
bad_sound front line back bad = elim (cases-option (line_of line)) [
  | inl none ↦ elim (bad_alone line none) [
    | inl text ↦ inl text
    | inr form ↦ inr (inl form)
  ]
  | inr some ↦ said_bad front line back some.0 some.1 (sym (ap (resolve_line (places (front ++ line ∷ back)) (1 + length front)) some.1) ∙ bad)
]

bad_complete : (front : List (List ℕ)) (line : List ℕ) (back : List (List ℕ)) → IsBadLine front line back → resolve_line (places (front ++ line ∷ back)) (1 + length front) (line_of line) ≡ None
bad_complete front line back (inl text) = ap (resolve_line (places (front ++ line ∷ back)) (1 + length front)) (not_text line text)
bad_complete front line back (inr (inl form)) = ap (resolve_line (places (front ++ line ∷ back)) (1 + length front)) (no_form line form)
bad_complete front line back (inr (inr (inl (l, defines, earlier)))) =
    let r = front_found 0 1 front (line ∷ back) l earlier in
    let other : r.0.line ≢ 1 + length front = λ e. absurd (omega (arith, r.2, e)) in
    let miss : is_first (1 + length front) (places (front ++ line ∷ back) l) ≡ false =
    ap (is_first (1 + length front)) r.1 ∙ ne_eqb r.0.line (1 + length front) other in
    ap (resolve_line (places (front ++ line ∷ back)) (1 + length front)) (label_read l line defines) ∙ ap kept miss
bad_complete front line back (inr (inr (inr (l, uses, none)))) = elim (cases_Bool (is_utf8 line)) [
  | inl text ↦
      let r = uses_read l line (IsUtf8-from_is_utf8 line text) uses in
      ap (resolve_line (places (front ++ line ∷ back)) (1 + length front)) r.1 ∙ ap (placed_at r.0) (not_found 0 1 (front ++ line ∷ back) l none)
  | inr other ↦ ap (resolve_line (places (front ++ line ∷ back)) (1 + length front)) (not_text line (λ u. false≢true (sym other ∙ is_utf8-from_IsUtf8 line u)))
]

-- THE FIRST ONE

abbrev after : Option (Option Instr) → Option (List Instr) → Option (List Instr)
after r rest = r >>= λ i. rest >>= λ is. Some (option_to_list i ++ is)

none_after : (i : Option Instr) (o : Option (List Instr)) → after (Some i) o ≡ None → o ≡ None
none_after i None h = refl
none_after i (Some is) h = absurd cc

-- the first of lines is bad, or what is read is so as it is of the others
abbrev Goes : (List ℕ → Option Definition) → ℕ → Option (Option Instr) → List Entry → List Entry → Type 0
Goes look n r all es = ((r ≡ None) × (first_unresolved_line look all ≡ n) × (instructions_of look all ≡ None))
    ⊎ ((r ≢ None) × (first_unresolved_line look all ≡ first_unresolved_line look es)
    × (instructions_of look es ≡ None → instructions_of look all ≡ None) × (instructions_of look all ≡ None → instructions_of look es ≡ None))

entry_goes : (look : List ℕ → Option Definition) (e : Entry) (es : List Entry) (r : Option (Option Instr)) → resolve look e ≡ r → Goes look e.number r (e ∷ es) es
entry_goes look e es None h =
    inl (refl, ap (λ r. cond (is_some r) (first_unresolved_line look es) e.number) h, ap (λ r. after r (instructions_of look es)) h)
entry_goes look e es (Some i) h =
    inr (
      λ no. cc,
      ap (λ r. cond (is_some r) (first_unresolved_line look es) e.number) h,
      λ rest. ap (λ r. after r (instructions_of look es)) h ∙ ap (after (Some i)) rest,
      λ whole. none_after i (instructions_of look es) (sym (ap (λ r. after r (instructions_of look es)) h) ∙ whole),
    )

goes : (look : List ℕ → Option Definition) (n : ℕ) (o : Option Line) (es : List Entry) → Goes look n (resolve_line look n o) (entry_of n o ++ es) es
goes look n None es = inl (refl, refl, refl)
goes look n (Some parsed.Blank) es = inr (λ no. cc, refl, λ h. h, λ h. h)
goes look n (Some (Label l)) es = entry_goes look (record { number = n; line = Some (Label l) }) es (resolve_line look n (Some (Label l))) refl
goes look n (Some (Plain i)) es = entry_goes look (record { number = n; line = Some (Plain i) }) es (resolve_line look n (Some (Plain i))) refl
goes look n (Some (Jumping i l)) es = entry_goes look (record { number = n; line = Some (Jumping i l) }) es (resolve_line look n (Some (Jumping i l))) refl

abbrev AreGood : (List ℕ → Option Definition) → ℕ → List (List ℕ) → Type 0
AreGood look n [] = Unit {0}
AreGood look n (x ∷ xs) = (resolve_line look n (line_of x) ≢ None) × AreGood look (n + 1) xs

-- what is reported of lines from the number n on
abbrev Reported : (List ℕ → Option Definition) → ℕ → List (List ℕ) → Type 0
Reported look n ls = (front : List (List ℕ)) × (line : List ℕ) × (back : List (List ℕ)) × (ls ≡ front ++ line ∷ back)
    × (first_unresolved_line look (entries_from n ls) ≡ n + length front) × (resolve_line look (n + length front) (line_of line) ≡ None) × AreGood look n front

reported : (look : List ℕ → Option Definition) (n : ℕ) (ls : List (List ℕ)) → instructions_of look (entries_from n ls) ≡ None → Reported look n ls
reported look n [] h = absurd cc
reported look n (x ∷ xs) h = elim (goes look n (line_of x) (entries_from (n + 1) xs)) [
  | inl bad ↦ ([], x, xs, refl, bad.1 ∙ sym (add-zero n), subst (λ k. resolve_line look k (line_of x) ≡ None) (sym (add-zero n)) bad.0, tt)
  | inr good ↦
      let r = reported look (n + 1) xs (good.3 h) in
      let number : n + 1 + length r.0 ≡ n + suc (length r.0) = omega arith in (
        x ∷ r.0,
        r.1,
        r.2,
        ap (λ (l : List (List ℕ)). x ∷ l) r.3,
        good.1 ∙ r.4 ∙ number,
        subst (λ k. resolve_line look k (line_of r.1) ≡ None) number r.5,
        (good.0, r.6),
      )
]

all_good : (look : List ℕ → Option Definition) (n : ℕ) (ls : List (List ℕ)) → instructions_of look (entries_from n ls) ≢ None → AreGood look n ls
all_good look n [] h = tt
all_good look n (x ∷ xs) h = elim (goes look n (line_of x) (entries_from (n + 1) xs)) [
  | inl bad ↦ absurd (h bad.2)
  | inr good ↦ (good.0, all_good look (n + 1) xs (λ none. h (good.2 none)))
]

good_at : (look : List ℕ → Option Definition) (n : ℕ) (front rest f : List (List ℕ)) (x : List ℕ) (b : List (List ℕ)) → front ++ rest ≡ f ++ x ∷ b → length f < length front
    → AreGood look n front → resolve_line look (n + length f) (line_of x) ≢ None
good_at look n [] rest f x b e less h = absurd (omega arith)
good_at look n (y ∷ ys) rest [] x b e less h =
    let same : y ≡ x = cc in
    let good : resolve_line look n (line_of x) ≢ None = subst (λ (z : List ℕ). resolve_line look n (line_of z) ≢ None) same h.0 in
    subst (λ k. resolve_line look k (line_of x) ≢ None) (sym (add-zero n)) good
good_at look n (y ∷ ys) rest (z ∷ zs) x b e less h =
    let same : ys ++ rest ≡ zs ++ x ∷ b = cc in
    let number : n + 1 + length zs ≡ n + suc (length zs) = omega arith in
    subst (λ k. resolve_line look k (line_of x) ≢ None) number (good_at look (n + 1) ys rest zs x b same (omega arith) h.1)

bad_here : (ls f : List (List ℕ)) (x : List ℕ) (b : List (List ℕ)) → ls ≡ f ++ x ∷ b → IsBadLine f x b → resolve_line (places ls) (1 + length f) (line_of x) ≡ None
bad_here ls f x b e is = subst (λ (k : List (List ℕ)). resolve_line (places k) (1 + length f) (line_of x) ≡ None) (sym e) (bad_complete f x b is)

least_bad : (ls : List (List ℕ)) → Reported (places ls) 1 ls → IsFirstBad ls (first_unresolved_line (places ls) (entries_from 1 ls))
least_bad ls (front, line, back, split, number, bad, good) =
    let here : IsBadLine front line back =
    bad_sound front line back (subst (λ (k : List (List ℕ)). resolve_line (places k) (1 + length front) (line_of line) ≡ None) split bad) in (
      (front, line, back, split, omega (arith, number), here),
      λ m is. elim (cases_lt m (first_unresolved_line (places ls) (entries_from 1 ls))) [
        | inl less ↦ absurd (good_at (places ls) 1 front (line ∷ back) is.0 is.1 is.2 (sym split ∙ is.3) (omega (arith, number, less, is.4)) good (bad_here ls is.0 is.1 is.2 is.3 is.5))
        | inr more ↦ more
      ],
    )

first_is : (bytes : List ℕ) → script_of bytes ≡ None → IsFirstBad (lines_of bytes) (first_bad_line bytes)
first_is bytes h = least_bad (lines_of bytes) (reported (places (lines_of bytes)) 1 (lines_of bytes) h)

pub first_sound : (bytes : List ℕ) → script_of bytes ≡ None → IsFirstBadLine bytes (first_bad_line bytes)
first_sound bytes h = (lines_of bytes, lines_sound bytes, first_is bytes h)

broken : (ls : List (List ℕ)) (m : ℕ) → IsBad ls m → instructions_of (places ls) (entries_from 1 ls) ≡ None
broken ls m (f, x, b, e, number, is) = elim (cases-option (instructions_of (places ls) (entries_from 1 ls))) [
  | inl none ↦ none
  | inr some ↦
      let not : instructions_of (places ls) (entries_from 1 ls) ≢ None = λ none. absurd (some_none some.0 (sym some.1 ∙ none)) in
      let inside : length f < length ls = omega (arith, ap length e, length-append f (x ∷ b)) in
      absurd (good_at (places ls) 1 ls [] f x b (append-nil ls ∙ e) inside (all_good (places ls) 1 ls not) (bad_here ls f x b e is))
]
  where
    some_none : (is : List Instr) → Some is ≡ None → ⊥
    some_none is h = cc

pub first_complete : (bytes : List ℕ) (n : ℕ) → IsFirstBadLine bytes n → (script_of bytes ≡ None) × (n ≡ first_bad_line bytes)
first_complete bytes n (lines, are, (bad, least)) =
    let same : lines_of bytes ≡ lines = lines_complete lines bytes are in
    let none : script_of bytes ≡ None = broken (lines_of bytes) n (subst (λ (k : List (List ℕ)). IsBad k n) (sym same) bad) in
    let first : IsFirstBad (lines_of bytes) (first_bad_line bytes) = first_is bytes none in
    let above : first_bad_line bytes ≤ n = first.1 n (subst (λ (k : List (List ℕ)). IsBad k n) (sym same) bad) in
    let below : n ≤ first_bad_line bytes = least (first_bad_line bytes) (subst (λ (k : List (List ℕ)). IsBad k (first_bad_line bytes)) same first.0) in
    (none, omega (arith, above, below))

-- WITHIN THE BYTES

grown_within : (b : ℕ) (lines : List (List ℕ)) → length (grow b lines) ≤ suc (length lines)
grown_within b [] = omega arith
grown_within b (line ∷ lines) = omega arith

-- each line is a byte at least
lines_within : (bytes : List ℕ) → length (lines_of bytes) ≤ length bytes
lines_within [] = omega arith
lines_within (b ∷ bs) = elim (cases_Bool (b == 10)) [
  | inl hit ↦
      let one : lines_of (b ∷ bs) ≡ [] ∷ lines_of bs = rw hit refl in
      omega (arith, ap length one, lines_within bs)
  | inr miss ↦ elim (cases_Bool (b == 13 && starts_with_feed bs)) [
    | inl return ↦
        let none : lines_of (b ∷ bs) ≡ lines_of bs = rw (miss, return) refl in
        omega (arith, ap length none, lines_within bs)
    | inr plain ↦
        let more : lines_of (b ∷ bs) ≡ grow b (lines_of bs) = rw (miss, plain) refl in
        omega (arith, ap length more, grown_within b (lines_of bs), lines_within bs)
  ]
]

unresolved_within : (look : List ℕ → Option Definition) (n : ℕ) (ls : List (List ℕ)) → 1 ≤ n → first_unresolved_line look (entries_from n ls) + 1 ≤ n + length ls
unresolved_within look n [] one = omega (arith, one)
unresolved_within look n (x ∷ xs) one = elim (goes look n (line_of x) (entries_from (n + 1) xs)) [
  | inl bad ↦ omega (arith, bad.1)
  | inr good ↦ omega (arith, good.1, unresolved_within look (n + 1) xs (omega arith))
]

first_bad_within : (bytes : List ℕ) → first_bad_line bytes ≤ length bytes
first_bad_within bytes = omega (arith, unresolved_within (look_up (entries_of bytes)) 1 (lines_of bytes) (omega arith), lines_within bytes)

-- RESULTS

pub reading_is : (bytes : List ℕ) (r : Result Script ScriptStop) → IfOk r (λ script. script_of bytes ≡ Some script.instructions) → IfOk r (λ script. IsScript bytes script.instructions)
reading_is bytes (Ok script) h = script_sound bytes script.instructions h
reading_is bytes (Err stop) h = tt

no_reading : (bytes : List ℕ) → script_of bytes ≡ None → (is : List Instr) → ¬ IsScript bytes is
no_reading bytes h is reading =
    let no : None ≡ Some is = sym h ∙ script_complete bytes is reading in
    absurd cc

abbrev NoneReported : List ℕ → Result Script ScriptStop → Type 0
NoneReported bytes r = IfErr r (λ stop. IfLine stop (λ n. (script_of bytes ≡ None) × (n ≡ first_bad_line bytes)))

pub none_is : (bytes : List ℕ) (r : Result Script ScriptStop) → NoneReported bytes r → IfErr r (λ stop. IfLine stop (λ n. (is : List Instr) → ¬ IsScript bytes is))
none_is bytes (Ok script) h = tt
none_is bytes (Err (LineStop n)) h = no_reading bytes h.0
none_is bytes (Err NoMemory) h = tt

pub bad_is : (bytes : List ℕ) (r : Result Script ScriptStop) → NoneReported bytes r → IfErr r (λ stop. IfLine stop (IsFirstBadLine bytes))
bad_is bytes (Ok script) h = tt
bad_is bytes (Err (LineStop n)) h = subst (IsFirstBadLine bytes) (sym h.1) (first_sound bytes h.0)
bad_is bytes (Err NoMemory) h = tt

pub within_is : (bytes : List ℕ) (r : Result Script ScriptStop) → NoneReported bytes r → IfErr r (λ stop. IfLine stop (λ n. n ≤ length bytes))
within_is bytes (Ok script) h = tt
within_is bytes (Err (LineStop n)) h = omega (arith, h.1, first_bad_within bytes)
within_is bytes (Err NoMemory) h = tt

pub ruleset result_rules = (reading_is, bad_is)
