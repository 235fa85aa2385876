-- The law of scripts: they are read as the grammar says.
use Rattle.std.proofs.Common.{◌≡◌, ℕ, ◌+◌, List, [], ◌∷◌, ◌++◌, length, refl, sym, ap, ◌∙◌, subst, cond, not, true, false, inl, inr, Some, None, arith, append_assoc}
use Rattle.std.specs.Prelude.{Option, ◌==◌, IsTrue, IsUtf8, codes}
use Rattle.std.specs.List.{AllByRecursion, AllZip}
use Rattle.std.specs.Str.{is_utf8}
use Rattle.std.proofs.lemmas.Bool.{cases_Bool, eqb-true, eq-eqb, false≢true}
use Rattle.std.proofs.lemmas.Str.{IsUtf8-from_is_utf8, is_utf8-from_IsUtf8}
use Rattle.script_parse.specs.declared.script.Instr.{Instr}
use Rattle.script_parse.specs.declared.script.Instr.TheVariants as instr
use Rattle.script_parse.specs.declared.token.Token.{Token}
use Rattle.script_parse.specs.declared.token.Token.TheVariants.{Word, Number, Quoted}
use Rattle.script_parse.specs.declared.scan.LexState.TheVariants.{Between}
use Rattle.script_parse.specs.declared.line.Line.{Line}
use Rattle.script_parse.specs.declared.line.Line.TheVariants as parsed
use Rattle.script_parse.specs.declared.line.Line.TheVariants.{Label, Plain, Jumping}
use Rattle.script_parse.specs.declared.line.Definition.{Definition}
use Rattle.ldv_value.specs.Options.{◌>>=◌, only_if}
use Rattle.script_parse.specs.Names.{name_test}
use Rattle.script_parse.specs.Tokens.{is_blank, tokens_of}
use Rattle.script_parse.specs.Lines.{lines_of, form_of, first_nonblank, is_comment, is_comment_start, line_of}
use Rattle.script_parse.specs.Script.{entries_from, definition_of, with_place, is_first, instructions_of, look_up, script_of}
use Rattle.script_parse.specs.Grammar.{Kind, Blank, Names, Does, steps, labels, AllDiffer, AreBlanks, AreTokens, IsName, HasForm, tokens_for, place_of, IsAtPlace, IsComment, IsKind, IsLine, IsAt, IsScript}
use Rattle.ldv_value.proofs.Options.{bind-some, only_if-some}
use Rattle.script_parse.proofs.LinesLaw.{lines_sound, lines_complete}
use Rattle.script_parse.proofs.TokensLaw.{tokens_sound}
use Rattle.script_parse.proofs.TokensRead.{tokens_complete}
use Rattle.script_parse.proofs.FormsLaw.{IsForm, forms_sound}
use Rattle.script_parse.proofs.FormsRead.{forms_complete}
use Rattle.script_parse.proofs.KindsLaw.{Fits, ReadsLines, reads_sound, reads_complete, labelled, labels_are, at_sound, labels_differ, define, at_complete}
use Rattle.ldv_value.proofs.Booleans.{not-so}

-- COMMENTS

comment_sound : (line : List ℕ) → is_comment line ≡ true → IsComment line
comment_sound [] h = absurd (false≢true h)
comment_sound (b ∷ line) h = elim (cases_Bool (is_blank b)) [
  | inl blank ↦
      let h2 : is_comment line ≡ true = sym (ap (λ t. is_comment_start (cond (not t) (Some b) (first_nonblank line))) blank) ∙ h in
      let r = comment_sound line h2 in
      (b ∷ r.0, r.1, (blank, r.2), ap (λ (l : List ℕ). b ∷ l) r.3)
  | inr shown ↦
      let h2 : (b == 35) ≡ true = sym (ap (λ t. is_comment_start (cond (not t) (Some b) (first_nonblank line))) shown) ∙ h in
      ([], line, tt, ap (λ (x : ℕ). x ∷ line) (eqb-true b 35 h2))
]

blanks_before : (blanks line : List ℕ) → AreBlanks blanks → is_comment (blanks ++ line) ≡ is_comment line
blanks_before [] line h = refl
blanks_before (b ∷ blanks) line h =
    ap (λ t. is_comment_start (cond (not t) (Some b) (first_nonblank (blanks ++ line)))) h.0 ∙ blanks_before blanks line h.1

only_blanks : (line : List ℕ) → AreBlanks line → is_comment line ≡ false
only_blanks [] h = refl
only_blanks (b ∷ line) h = ap (λ t. is_comment_start (cond (not t) (Some b) (first_nonblank line))) h.0 ∙ only_blanks line h.1

-- tokens of which the first is a word that doesn't begin with `#`
abbrev pub PlainWord : List ℕ → Type 0
PlainWord [] = ⊥
PlainWord (c ∷ cs) = (c == 35) ≡ false

abbrev pub BeginsPlain : List Token → Type 0
BeginsPlain [] = ⊥
BeginsPlain (Word w ∷ ts) = PlainWord w
BeginsPlain (Number z ∷ ts) = ⊥
BeginsPlain (Quoted t ∷ ts) = ⊥

word_no_comment : (piece rest : List ℕ) → AllByRecursion (λ b. ¬ IsTrue (is_blank b)) piece → PlainWord piece → is_comment (piece ++ rest) ≡ false
word_no_comment [] rest h p = absurd p
word_no_comment (c ∷ cs) rest h p = ap (λ t. is_comment_start (cond (not t) (Some c) (first_nonblank (cs ++ rest)))) (not-so (is_blank c) h.0) ∙ p

pub no_comment : (ts : List Token) (line : List ℕ) → AreTokens line ts → BeginsPlain ts → is_comment line ≡ false
no_comment [] line h p = absurd p
no_comment (Word w ∷ ts) line (blanks, piece, rest, e, are, (same, bare, other), ends, more) p =
    ap is_comment e ∙ blanks_before blanks (piece ++ rest) are ∙ word_no_comment piece rest bare.1 (subst PlainWord (sym same) p)
no_comment (Number z ∷ ts) line h p = absurd p
no_comment (Quoted t ∷ ts) line h p = absurd p

pub name_plain : (x : List ℕ) → IsName x → BeginsPlain (Word (x ++ codes ":") ∷ [])
name_plain [] h = absurd (false≢true h)
name_plain (c ∷ cs) h = elim (cases_Bool (c == 35)) [
  | inl hash ↦ absurd (false≢true (ap (λ (y : ℕ). name_test (y ∷ cs)) (sym (eqb-true c 35 hash)) ∙ h))
  | inr other ↦ other
]

-- PLACES

pub has_form_place : (i : Instr) (p : ℕ) → HasForm (with_place p i) ≡ HasForm i
has_form_place (instr.Let x v) p = refl
has_form_place (instr.Calc x o v w) p = refl
has_form_place (instr.Glue x v w) p = refl
has_form_place (instr.ToInt x v) p = refl
has_form_place (instr.Cut x y v) p = refl
has_form_place (instr.Print vs) p = refl
has_form_place (instr.Exit v) p = refl
has_form_place (instr.WriteLine f vs) p = refl
has_form_place (instr.CopyRest f g) p = refl
has_form_place (instr.Close f) p = refl
has_form_place (instr.Exists x v) p = refl
has_form_place (instr.Wait x c) p = refl
has_form_place (instr.Sql c v vs) p = refl
has_form_place (instr.Count x c) p = refl
has_form_place (instr.Status x c) p = refl
has_form_place (instr.Jump q) p = refl
has_form_place (instr.JumpIf op v w q) p = refl
has_form_place (instr.OpenPath f m v q) p = refl
has_form_place (instr.ReadLine x f q) p = refl
has_form_place (instr.Remove v q) p = refl
has_form_place (instr.Spawn c v vs q) p = refl
has_form_place (instr.Fetch c xs q) p = refl

pub tokens_place : (i : Instr) (p : ℕ) (l : List ℕ) → tokens_for (with_place p i) l ≡ tokens_for i l
tokens_place (instr.Let x v) p l = refl
tokens_place (instr.Calc x o v w) p l = refl
tokens_place (instr.Glue x v w) p l = refl
tokens_place (instr.ToInt x v) p l = refl
tokens_place (instr.Cut x y v) p l = refl
tokens_place (instr.Print vs) p l = refl
tokens_place (instr.Exit v) p l = refl
tokens_place (instr.WriteLine f vs) p l = refl
tokens_place (instr.CopyRest f g) p l = refl
tokens_place (instr.Close f) p l = refl
tokens_place (instr.Exists x v) p l = refl
tokens_place (instr.Wait x c) p l = refl
tokens_place (instr.Sql c v vs) p l = refl
tokens_place (instr.Count x c) p l = refl
tokens_place (instr.Status x c) p l = refl
tokens_place (instr.Jump q) p l = refl
tokens_place (instr.JumpIf op v w q) p l = refl
tokens_place (instr.OpenPath f m v q) p l = refl
tokens_place (instr.ReadLine x f q) p l = refl
tokens_place (instr.Remove v q) p l = refl
tokens_place (instr.Spawn c v vs q) p l = refl
tokens_place (instr.Fetch c xs q) p l = refl

pub place_placed : (i : Instr) (p r : ℕ) → place_of i ≡ Some r → place_of (with_place p i) ≡ Some p
place_placed (instr.Let x v) p r h = cc
place_placed (instr.Calc x o v w) p r h = cc
place_placed (instr.Glue x v w) p r h = cc
place_placed (instr.ToInt x v) p r h = cc
place_placed (instr.Cut x y v) p r h = cc
place_placed (instr.Print vs) p r h = cc
place_placed (instr.Exit v) p r h = cc
place_placed (instr.WriteLine f vs) p r h = cc
place_placed (instr.CopyRest f g) p r h = cc
place_placed (instr.Close f) p r h = cc
place_placed (instr.Exists x v) p r h = cc
place_placed (instr.Wait x c) p r h = cc
place_placed (instr.Sql c v vs) p r h = cc
place_placed (instr.Count x c) p r h = cc
place_placed (instr.Status x c) p r h = cc
place_placed (instr.Jump q) p r h = refl
place_placed (instr.JumpIf op v w q) p r h = refl
place_placed (instr.OpenPath f m v q) p r h = refl
place_placed (instr.ReadLine x f q) p r h = refl
place_placed (instr.Remove v q) p r h = refl
place_placed (instr.Spawn c v vs q) p r h = refl
place_placed (instr.Fetch c xs q) p r h = refl

placed_again : (i : Instr) (p : ℕ) → place_of i ≡ Some p → with_place p (with_place 0 i) ≡ i
placed_again (instr.Let x v) p h = refl
placed_again (instr.Calc x o v w) p h = refl
placed_again (instr.Glue x v w) p h = refl
placed_again (instr.ToInt x v) p h = refl
placed_again (instr.Cut x y v) p h = refl
placed_again (instr.Print vs) p h = refl
placed_again (instr.Exit v) p h = refl
placed_again (instr.WriteLine f vs) p h = refl
placed_again (instr.CopyRest f g) p h = refl
placed_again (instr.Close f) p h = refl
placed_again (instr.Exists x v) p h = refl
placed_again (instr.Wait x c) p h = refl
placed_again (instr.Sql c v vs) p h = refl
placed_again (instr.Count x c) p h = refl
placed_again (instr.Status x c) p h = refl
placed_again (instr.Jump q) p h = let e : q ≡ p = cc (h) in ap (λ n. instr.Jump n) (sym e)
placed_again (instr.JumpIf op v w q) p h = let e : q ≡ p = cc (h) in ap (λ n. instr.JumpIf op v w n) (sym e)
placed_again (instr.OpenPath f m v q) p h = let e : q ≡ p = cc (h) in ap (λ n. instr.OpenPath f m v n) (sym e)
placed_again (instr.ReadLine x f q) p h = let e : q ≡ p = cc (h) in ap (λ n. instr.ReadLine x f n) (sym e)
placed_again (instr.Remove v q) p h = let e : q ≡ p = cc (h) in ap (λ n. instr.Remove v n) (sym e)
placed_again (instr.Spawn c v vs q) p h = let e : q ≡ p = cc (h) in ap (λ n. instr.Spawn c v vs n) (sym e)
placed_again (instr.Fetch c xs q) p h = let e : q ≡ p = cc (h) in ap (λ n. instr.Fetch c xs n) (sym e)

pub begins : (i : Instr) (l : List ℕ) → BeginsPlain (tokens_for i l)
begins (instr.Let x v) l = refl
begins (instr.Calc x o v w) l = refl
begins (instr.Glue x v w) l = refl
begins (instr.ToInt x v) l = refl
begins (instr.Cut x y v) l = refl
begins (instr.Print vs) l = refl
begins (instr.Exit v) l = refl
begins (instr.WriteLine f vs) l = refl
begins (instr.CopyRest f g) l = refl
begins (instr.Close f) l = refl
begins (instr.Exists x v) l = refl
begins (instr.Wait x c) l = refl
begins (instr.Sql c v vs) l = refl
begins (instr.Count x c) l = refl
begins (instr.Status x c) l = refl
begins (instr.Jump q) l = refl
begins (instr.JumpIf op v w q) l = refl
begins (instr.OpenPath f m v q) l = refl
begins (instr.ReadLine x f q) l = refl
begins (instr.Remove v q) l = refl
begins (instr.Spawn c v vs q) l = refl
begins (instr.Fetch c xs q) l = refl

-- LINES

said_sound : (At : List ℕ → ℕ → Type 0) (look : List ℕ → Option Definition) → ((l : List ℕ) (d : Definition) → look l ≡ Some d → At l d.place)
    → (line : List ℕ) (ts : List Token) → AreTokens line ts → (s : Line) → IsForm s ts → (n : ℕ) (k : Kind) → Fits look n s k → IsKind At line k
said_sound At look at line ts are parsed.Blank form n k fits = subst (IsKind At line) (sym fits) (inl (subst (AreTokens line) form are))
said_sound At look at line ts are (Label l) form n k fits = subst (IsKind At line) (sym fits.1) (form.0, subst (AreTokens line) form.1 are)
said_sound At look at line ts are (Plain i) form n k fits =
    subst (IsKind At line) (sym fits) (ts, are, (form.1, subst (IsAtPlace At i ts) (sym form.0) form.2))
said_sound At look at line ts are (Jumping i l) form n k (d, found, is) =
    let placed : Instr = with_place d.place i in
    subst (IsKind At line) (sym is) (
      ts,
      are,
      (
        subst (λ (X : Type 0). X) (sym (has_form_place i d.place)) form.1,
        subst (IsAtPlace At placed ts) (sym (place_placed i d.place 0 form.0)) (l, form.2, at l d found, form.3 ∙ sym (tokens_place i d.place l)),
      ),
    )

pub line_sound : (At : List ℕ → ℕ → Type 0) (look : List ℕ → Option Definition) → ((l : List ℕ) (d : Definition) → look l ≡ Some d → At l d.place)
    → (line : List ℕ) (s : Line) → line_of line ≡ Some s → (n : ℕ) (k : Kind) → Fits look n s k → IsLine At line k
line_sound At look at line s h n k fits =
    let text = only_if-some (is_utf8 line) (cond (is_comment line) (Some parsed.Blank) (tokens_of line >>= form_of)) s h in (
      IsUtf8-from_is_utf8 line text.0,
      elim (cases_Bool (is_comment line)) [
        | inl comment ↦
            let quiet : Some parsed.Blank ≡ Some s = sym (ap (λ b. cond b (Some parsed.Blank) (tokens_of line >>= form_of)) comment) ∙ text.1 in
            let e : parsed.Blank ≡ s = cc (quiet) in
            let blank : Fits look n parsed.Blank k = subst (λ s. Fits look n s k) (sym e) fits in
            subst (IsKind At line) (sym blank) (inr (comment_sound line comment))
        | inr other ↦
            let said : (tokens_of line >>= form_of) ≡ Some s = sym (ap (λ b. cond b (Some parsed.Blank) (tokens_of line >>= form_of)) other) ∙ text.1 in
            let r = bind-some (tokens_of line) form_of s said in
            said_sound At look at line r.0 (tokens_sound line Between r.0 r.1) s (forms_sound r.0 s r.2) n k fits
      ],
    )

lines_kinds : (At : List ℕ → ℕ → Type 0) (look : List ℕ → Option Definition) → ((l : List ℕ) (d : Definition) → look l ≡ Some d → At l d.place)
    → (n : ℕ) (ls : List (List ℕ)) (ks : List Kind) → ReadsLines look n ls ks → AllZip (IsLine At) ls ks
lines_kinds At look at n [] [] h = tt
lines_kinds At look at n [] (k ∷ ks) h = absurd h
lines_kinds At look at n (l ∷ ls) [] h = absurd h
lines_kinds At look at n (l ∷ ls) (k ∷ ks) (s, said, fits, more) = (line_sound At look at l s said n k fits, lines_kinds At look at (n + 1) ls ks more)

pub script_sound : (bytes : List ℕ) (is : List Instr) → script_of bytes ≡ Some is → IsScript bytes is
script_sound bytes is h =
    let ls : List (List ℕ) = lines_of bytes in
    let look : List ℕ → Option Definition = look_up (entries_from 1 ls) in
    let r = reads_sound look 1 ls is h in
    let same : look ≡ definition_of (labelled 0 1 r.0) = ap definition_of (labels_are look 0 1 ls r.0 r.1) in
    let at : (l : List ℕ) (d : Definition) → look l ≡ Some d → IsAt r.0 l d.place = λ l d found.
    let a = at_sound 0 1 r.0 l d (sym (ap (λ (f : List ℕ → Option Definition). f l) same) ∙ found) in
    (a.0, a.1, a.2, omega (arith, a.3)) in
    (ls, r.0, lines_sound bytes, lines_kinds (IsAt r.0) look at 1 ls r.0 r.1, labels_differ look 1 ls r.0 r.1, r.2)

-- FROM THE GRAMMAR

-- what a line of the grammar says
abbrev pub Says : (List ℕ → ℕ → Type 0) → Line → Kind → Type 0
Says At parsed.Blank k = k ≡ Blank
Says At (Label l) k = k ≡ Names l
Says At (Plain i) k = k ≡ Does i
Says At (Jumping i l) k = (p : ℕ) × At l p × (k ≡ Does (with_place p i))

pub made_line : (line : List ℕ) (ts : List Token) (s : Line) → IsUtf8 line → AreTokens line ts → is_comment line ≡ false → IsForm s ts → line_of line ≡ Some s
made_line line ts s u are other form =
    ap (λ b. only_if b (cond (is_comment line) (Some parsed.Blank) (tokens_of line >>= form_of))) (is_utf8-from_IsUtf8 line u)
    ∙ ap (λ b. cond b (Some parsed.Blank) (tokens_of line >>= form_of)) other
    ∙ ap (λ o. o >>= form_of) (tokens_complete ts line u are) ∙ forms_complete s ts form

placed_line : (At : List ℕ → ℕ → Type 0) (line : List ℕ) (ts : List Token) (i : Instr) (o : Option ℕ) → place_of i ≡ o → IsUtf8 line → AreTokens line ts → HasForm i → IsAtPlace At i ts o
    → (s : Line) × (line_of line ≡ Some s) × Says At s (Does i)
placed_line At line ts i None none u are form at =
    (Plain i, made_line line ts (Plain i) u are (no_comment ts line are (subst BeginsPlain (sym at) (begins i []))) (none, form, at), refl)
placed_line At line ts i (Some p) some u are form (l, name, at, e) =
    let bare : Instr = with_place 0 i in (
      Jumping bare l,
      made_line line ts (Jumping bare l) u are (no_comment ts line are (subst BeginsPlain (sym e) (begins i l)))
          (place_placed i 0 p some, subst (λ (X : Type 0). X) (sym (has_form_place i 0)) form, name, e ∙ sym (tokens_place i 0 l)),
      (p, at, ap Does (sym (placed_again i p some))),
    )

pub line_complete : (At : List ℕ → ℕ → Type 0) (line : List ℕ) (k : Kind) → IsLine At line k → (s : Line) × (line_of line ≡ Some s) × Says At s k
line_complete At line Blank (u, inl blanks) = (parsed.Blank, made_line line [] parsed.Blank u blanks (only_blanks line blanks) refl, refl)
line_complete At line Blank (u, inr (blanks, rest, are, e)) =
    let comment : is_comment line ≡ true = ap is_comment e ∙ blanks_before blanks (35 ∷ rest) are in (
      parsed.Blank,
      ap (λ b. only_if b (cond (is_comment line) (Some parsed.Blank) (tokens_of line >>= form_of))) (is_utf8-from_IsUtf8 line u)
          ∙ ap (λ b. cond b (Some parsed.Blank) (tokens_of line >>= form_of)) comment,
      refl,
    )
line_complete At line (Names l) (u, (name, are)) =
    (Label l, made_line line (Word (l ++ codes ":") ∷ []) (Label l) u are (no_comment (Word (l ++ codes ":") ∷ []) line are (name_plain l name)) (name, refl), refl)
line_complete At line (Does i) (u, (ts, are, (form, at))) = placed_line At line ts i (place_of i) refl u are form at

fits_of : (all : List Kind) → AllDiffer (labels all) → (before : List Kind) (k : Kind) (after : List Kind) → all ≡ before ++ k ∷ after
    → (s : Line) → Says (IsAt all) s k → Fits (definition_of (labelled 0 1 all)) (1 + length before) s k
fits_of all differ before k after e parsed.Blank says = says
fits_of all differ before k after e (Label l) says =
    let e2 : all ≡ before ++ Names l ∷ after = e ∙ ap (λ k. before ++ k ∷ after) says in
    let found : definition_of (labelled 0 1 all) l ≡ Some (define (1 + length before) (0 + length (steps before))) =
    ap (λ ks. definition_of (labelled 0 1 ks) l) e2 ∙ at_complete 0 1 before l after (subst (λ ks. AllDiffer (labels ks)) e2 differ) in
    (ap (is_first (1 + length before)) found ∙ eq-eqb (1 + length before) (1 + length before) refl, says)
fits_of all differ before k after e (Plain i) says = says
fits_of all differ before k after e (Jumping i l) (p, (front, back, split, place), says) =
    let found : definition_of (labelled 0 1 all) l ≡ Some (define (1 + length front) (0 + length (steps front))) =
    ap (λ ks. definition_of (labelled 0 1 ks) l) split ∙ at_complete 0 1 front l back (subst (λ ks. AllDiffer (labels ks)) split differ) in
    let same : p ≡ 0 + length (steps front) = omega (arith, place) in
    (define (1 + length front) (0 + length (steps front)), found, says ∙ ap (λ q. Does (with_place q i)) same)

length_push : (before : List Kind) (k : Kind) → 1 + length (before ++ k ∷ []) ≡ 1 + length before + 1
length_push [] k = refl
length_push (x ∷ before) k = let e : 1 + length (before ++ k ∷ []) ≡ 1 + length before + 1 = length_push before k in omega (arith, e)

all_read : (all : List Kind) → AllDiffer (labels all) → (before : List Kind) (ls : List (List ℕ)) (ks : List Kind) → all ≡ before ++ ks → AllZip (IsLine (IsAt all)) ls ks
    → ReadsLines (definition_of (labelled 0 1 all)) (1 + length before) ls ks
all_read all differ before [] [] e h = tt
all_read all differ before [] (k ∷ ks) e h = absurd h
all_read all differ before (l ∷ ls) [] e h = absurd h
all_read all differ before (l ∷ ls) (k ∷ ks) e h =
    let one = line_complete (IsAt all) l k h.0 in
    let e2 : all ≡ (before ++ k ∷ []) ++ ks = e ∙ sym (append_assoc before (k ∷ []) ks) in (
      one.0,
      one.1,
      fits_of all differ before k ks e one.0 one.2,
      subst (λ n. ReadsLines (definition_of (labelled 0 1 all)) n ls ks) (length_push before k) (all_read all differ (before ++ k ∷ []) ls ks e2 h.1),
    )

pub script_complete : (bytes : List ℕ) (is : List Instr) → IsScript bytes is → script_of bytes ≡ Some is
script_complete bytes is (ls, ks, are, lines, differ, instructions) =
    let look : List ℕ → Option Definition = definition_of (labelled 0 1 ks) in
    let reads : ReadsLines look 1 ls ks = all_read ks differ [] ls ks refl lines in
    let same : look_up (entries_from 1 ls) ≡ look = ap definition_of (labels_are look 0 1 ls ks reads) in
    ap (λ ls. instructions_of (look_up (entries_from 1 ls)) (entries_from 1 ls)) (lines_complete ls bytes are)
    ∙ ap (λ f. instructions_of f (entries_from 1 ls)) same ∙ reads_complete look 1 ls ks reads ∙ ap Some (sym instructions)
