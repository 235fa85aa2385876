-- The tokens of a line are read only as the grammar allows.
use Rattle.std.proofs.Common.{◌≡◌, ◌≢◌, ℕ, suc, ◌+◌, ◌<◌, ◌≤◌, List, [], ◌∷◌, ◌++◌, length, map, take, drop, refl, sym, ap, ◌∙◌, subst, cond, not, ltb, Bool, true, false, inl, inr, Some, None, leb, arith}
use Rattle.std.specs.Prelude.{Option, codes, position}
use Rattle.std.specs.List.{AllByRecursion, prefix_len}
use Rattle.std.proofs.lemmas.Bool.{cases_Bool, false≢true, leb-true, ltb-true}
use Rattle.std.proofs.lemmas.Option.{cond_some}
use Rattle.std.proofs.lemmas.Slice.Eq.{bytes_eq-Decides}
use Rattle.ldv_value.specs.declared.value.Value.TheVariants as value
use Rattle.ldv_value.specs.declared.value.Cmp.{Cmp}
use Rattle.ldv_value.specs.declared.file.OpenMode.{OpenMode}
use Rattle.script_parse.specs.declared.script.Operand.{Operand}
use Rattle.script_parse.specs.declared.script.Operand.TheVariants.{Constant, Variable}
use Rattle.script_parse.specs.declared.script.Instr.{Instr}
use Rattle.script_parse.specs.declared.script.Instr.TheVariants as instr
use Rattle.script_parse.specs.declared.token.Token.{Token}
use Rattle.script_parse.specs.declared.token.Token.TheVariants.{Word, Number, Quoted}
use Rattle.script_parse.specs.declared.keyword.Keyword.{Keyword}
use Rattle.script_parse.specs.declared.keyword.Keyword.TheVariants.{Let, Cut, Goto, If, Print, Exit, Open, ReadLine, Write, Copy, Close, Remove, Exists, Spawn, Wait, Sql, Fetch, Count, Status}
use Rattle.script_parse.specs.declared.keyword.Sign.{Sign}
use Rattle.script_parse.specs.declared.keyword.Sign.TheVariants.{Plus, Minus, Times, Join}
use Rattle.script_parse.specs.declared.line.Line.{Line}
use Rattle.script_parse.specs.declared.line.Line.TheVariants.{Blank, Label, Plain, Jumping}
use Rattle.ldv_value.specs.Options.{◌>>=◌, only_if}
use Rattle.script_parse.specs.Names.{is_text, name_test}
use Rattle.script_parse.specs.Keywords.{keyword_text, sign_text, comparison_text, mode_text, keywords, signs, comparisons, modes, keyword_of, sign_of, comparison_of, mode_of}
use Rattle.script_parse.specs.Forms.{each, word_of, is_word, name_in, name_of, operand_of, operands_of, operands_from_one, names_from_one, sign_in, comparison_in, mode_in, instr_of_sign, let_value, let_of, cut_of, goto_of, if_of, print_of, exit_of, write_of, copy_of, close_of, exists_of, wait_of, sql_of, count_of, status_of, last_label, else_at, else_of, open_of, readline_of, remove_of, spawn_of, fetch_of, with_else, instruction_of}
use Rattle.script_parse.specs.Lines.{before_colon, line_of_word, form_of}
use Rattle.script_parse.specs.Grammar.{IsName, operand_token, IsOperand, AreOperands, AreNames, word, tokens_for, HasForm, place_of}
use Rattle.ldv_value.proofs.Options.{bind-some, only_if-some, same-some, tested-some}
use Rattle.script_parse.proofs.Colon.{colon_split}
use Rattle.ldv_value.proofs.Lists.{found-passes}
use Rattle.ldv_value.proofs.Booleans.{not-false}

-- what a line is, before labels have places
abbrev pub IsForm : Line → List Token → Type 0
IsForm Blank ts = ts ≡ []
IsForm (Label l) ts = IsName l × (ts ≡ Word (l ++ codes ":") ∷ [])
IsForm (Plain i) ts = (place_of i ≡ None) × HasForm i × (ts ≡ tokens_for i [])
IsForm (Jumping i l) ts = (place_of i ≡ Some 0) × HasForm i × IsName l × (ts ≡ tokens_for i l)

pub text_is : (a b : List ℕ) → is_text a b ≡ true → a ≡ b
text_is a b h = (bytes_eq-Decides a b).0 h

name_sound : (t : Token) (x : List ℕ) → name_of t ≡ Some x → (t ≡ Word x) × IsName x
name_sound (Word w) x h = let p = tested-some name_test w x h in (ap Word p.0, p.1)
name_sound (Number z) x h = cc
name_sound (Quoted t) x h = cc

operand_sound : (t : Token) (v : Operand) → operand_of t ≡ Some v → (t ≡ operand_token v) × IsOperand v
operand_sound (Word w) v h = elim (cases_Bool (is_text w (codes "null"))) [
  | inl null ↦
      let h2 : Some (Constant value.Null) ≡ Some v = rw null at h in
      let e : Constant value.Null ≡ v = cc (h2) in
      subst (λ v. (Word w ≡ operand_token v) × IsOperand v) e (ap Word (text_is w (codes "null") null), tt)
  | inr not_null ↦
      let h2 : (name_in w >>= λ x. Some (Variable x)) ≡ Some v = sym (ap (λ b. cond b (Some (Constant value.Null)) (name_in w >>= λ x. Some (Variable x))) not_null) ∙ h in
      let p = bind-some (name_in w) (λ x. Some (Variable x)) v h2 in
      let q = tested-some name_test w p.0 p.1 in
      let e : Variable p.0 ≡ v = cc (p.2) in
      subst (λ v. (Word w ≡ operand_token v) × IsOperand v) e (ap Word q.0, q.1)
]
operand_sound (Number z) v h = let e : Constant (value.Int z) ≡ v = cc (h) in subst (λ v. (Number z ≡ operand_token v) × IsOperand v) e (refl, tt)
operand_sound (Quoted t) v h = let e : Constant (value.Text t) ≡ v = cc (h) in subst (λ v. (Quoted t ≡ operand_token v) × IsOperand v) e (refl, tt)

is_word_sound : (text : List ℕ) (t : Token) → is_word text t ≡ true → t ≡ Word text
is_word_sound text (Word w) h = ap Word (text_is w text h)
is_word_sound text (Number z) h = absurd (false≢true h)
is_word_sound text (Quoted t) h = absurd (false≢true h)

word_sound : (t : Token) (w : List ℕ) → word_of t ≡ Some w → t ≡ Word w
word_sound (Word v) w h = let e : v ≡ w = cc (h) in ap Word e
word_sound (Number z) w h = cc
word_sound (Quoted t) w h = cc

sign_sound : (t : Token) (s : Sign) → sign_in t ≡ Some s → t ≡ Word (sign_text s)
sign_sound t s h = let p = bind-some (word_of t) sign_of s h in word_sound t p.0 p.1 ∙ ap Word (text_is p.0 (sign_text s) (found-passes (λ k. is_text p.0 (sign_text k)) signs s p.2))

comparison_sound : (t : Token) (s : Cmp) → comparison_in t ≡ Some s → t ≡ Word (comparison_text s)
comparison_sound t s h = let p = bind-some (word_of t) comparison_of s h in word_sound t p.0 p.1 ∙ ap Word (text_is p.0 (comparison_text s) (found-passes (λ k. is_text p.0 (comparison_text k)) comparisons s p.2))

mode_sound : (t : Token) (s : OpenMode) → mode_in t ≡ Some s → t ≡ Word (mode_text s)
mode_sound t s h = let p = bind-some (word_of t) mode_of s h in word_sound t p.0 p.1 ∙ ap Word (text_is p.0 (mode_text s) (found-passes (λ k. is_text p.0 (mode_text k)) modes s p.2))

operands_sound : (ts : List Token) (vs : List Operand) → each operand_of ts ≡ Some vs → (ts ≡ map operand_token vs) × AllByRecursion IsOperand vs × (length vs ≡ length ts)
operands_sound [] vs h = let e : [] ≡ vs = cc (h) in subst (λ vs. ([] ≡ map operand_token vs) × AllByRecursion IsOperand vs × (length vs ≡ length {A = Token} [])) e (refl, tt, refl)
operands_sound (t ∷ ts) vs h =
    let p = bind-some (operand_of t) (λ y. each operand_of ts >>= λ ys. Some (y ∷ ys)) vs h in
    let q = bind-some (each operand_of ts) (λ ys. Some (p.0 ∷ ys)) vs p.2 in
    let e : p.0 ∷ q.0 ≡ vs = cc (q.2) in
    let one = operand_sound t p.0 p.1 in
    let more = operands_sound ts q.0 q.1 in
    subst (λ vs. (t ∷ ts ≡ map operand_token vs) × AllByRecursion IsOperand vs × (length vs ≡ length (t ∷ ts))) e
    (ap (λ x. x ∷ ts) one.0 ∙ ap (λ l. operand_token p.0 ∷ l) more.0, (one.1, more.1), ap suc more.2)

names_sound : (ts : List Token) (xs : List (List ℕ)) → each name_of ts ≡ Some xs → (ts ≡ map Word xs) × AllByRecursion IsName xs × (length xs ≡ length ts)
names_sound [] xs h = let e : [] ≡ xs = cc (h) in subst (λ xs. ([] ≡ map Word xs) × AllByRecursion IsName xs × (length xs ≡ length {A = Token} [])) e (refl, tt, refl)
names_sound (t ∷ ts) xs h =
    let p = bind-some (name_of t) (λ y. each name_of ts >>= λ ys. Some (y ∷ ys)) xs h in
    let q = bind-some (each name_of ts) (λ ys. Some (p.0 ∷ ys)) xs p.2 in
    let e : p.0 ∷ q.0 ≡ xs = cc (q.2) in
    let one = name_sound t p.0 p.1 in
    let more = names_sound ts q.0 q.1 in
    subst (λ xs. (t ∷ ts ≡ map Word xs) × AllByRecursion IsName xs × (length xs ≡ length (t ∷ ts))) e
    (ap (λ x. x ∷ ts) one.0 ∙ ap (λ l. Word p.0 ∷ l) more.0, (one.1, more.1), ap suc more.2)

operands_one_sound : (ts : List Token) (vs : List Operand) → operands_from_one ts ≡ Some vs → (ts ≡ map operand_token vs) × (vs ≢ []) × AreOperands 256 vs
operands_one_sound [] vs h = cc
operands_one_sound (t ∷ ts) vs h =
    let p = only_if-some (leb (length ts) 255) (each operand_of (t ∷ ts)) vs h in
    let few : length ts ≤ 255 = leb-true _ _ p.0 in
    let q = operands_sound (t ∷ ts) vs p.1 in
    let len : length vs ≡ suc (length ts) = q.2 in
    (q.0, λ none. absurd (omega (arith, ap length none)), (omega arith, q.1))

operands_most_sound : (ts : List Token) (vs : List Operand) → operands_of ts ≡ Some vs → (ts ≡ map operand_token vs) × AreOperands 255 vs
operands_most_sound ts vs h =
    let p = only_if-some (leb (length ts) 255) (each operand_of ts) vs h in
    let few : length ts ≤ 255 = leb-true _ _ p.0 in
    let q = operands_sound ts vs p.1 in
    (q.0, (omega (arith, q.2), q.1))

names_one_sound : (ts : List Token) (xs : List (List ℕ)) → names_from_one ts ≡ Some xs → (ts ≡ map Word xs) × (xs ≢ []) × AreNames 256 xs
names_one_sound [] xs h = cc
names_one_sound (t ∷ ts) xs h =
    let p = only_if-some (leb (length ts) 255) (each name_of (t ∷ ts)) xs h in
    let few : length ts ≤ 255 = leb-true _ _ p.0 in
    let q = names_sound (t ∷ ts) xs p.1 in
    let len : length xs ≡ suc (length ts) = q.2 in
    (q.0, λ none. absurd (omega (arith, ap length none)), (omega arith, q.1))

differ_is : (a b : List ℕ) → not (is_text a b) ≡ true → a ≢ b
differ_is a b h e = false≢true (sym (ap not ((bytes_eq-Decides a b).1 e)) ∙ h)

-- a line that is made of two names
two_names : (made : List ℕ → List ℕ → Line) (tokens : Token → Token → List Token) (x y : Token) (line : Line) → (name_of x >>= λ a. name_of y >>= λ b. Some (made a b)) ≡ Some line
    → ((a b : List ℕ) → IsName a → IsName b → IsForm (made a b) (tokens (Word a) (Word b))) → IsForm line (tokens x y)
two_names made tokens x y line h form =
    let s0 = bind-some (name_of x) (λ a. name_of y >>= λ b. Some (made a b)) line h in
    let k0 = name_sound x s0.0 s0.1 in
    let s1 = bind-some (name_of y) (λ b. Some (made s0.0 b)) line s0.2 in
    let k1 = name_sound y s1.0 s1.1 in
    let same : tokens x y ≡ tokens (Word s0.0) (Word s1.0) = λ j. tokens (k0.0 j) (k1.0 j) in
    subst (λ (l : Line). IsForm l (tokens x y)) (same-some _ _ s1.2) (subst (IsForm (made s0.0 s1.0)) (sym same) (form s0.0 s1.0 k0.1 k1.1))

cut_sound : (ts : List Token) (line : Line) → cut_of ts ≡ Some line → IsForm line (word "cut" ∷ ts)
cut_sound [] line h = cc
cut_sound (x ∷ []) line h = cc
cut_sound (x ∷ y ∷ []) line h = cc
cut_sound (x ∷ y ∷ v ∷ []) line h =
    let s0 = bind-some (name_of x) (λ a. (name_of y >>= λ b. (operand_of v >>= λ d. only_if (not (is_text a b)) (Some (Plain (instr.Cut a b d)))))) line h in
    let k0 = name_sound x s0.0 s0.1 in
    let s1 = bind-some (name_of y) (λ b. (operand_of v >>= λ d. only_if (not (is_text s0.0 b)) (Some (Plain (instr.Cut s0.0 b d))))) line s0.2 in
    let k1 = name_sound y s1.0 s1.1 in
    let s2 = bind-some (operand_of v) (λ d. only_if (not (is_text s0.0 s1.0)) (Some (Plain (instr.Cut s0.0 s1.0 d)))) line s1.2 in
    let k2 = operand_sound v s2.0 s2.1 in
    let guard = only_if-some (not (is_text s0.0 s1.0)) (Some (Plain (instr.Cut s0.0 s1.0 s2.0))) line s2.2 in
    let e : Plain (instr.Cut s0.0 s1.0 s2.0) ≡ line = cc (guard.1) in
    subst (λ (made : Line). IsForm made (word "cut" ∷ x ∷ y ∷ v ∷ [])) e (refl, (k0.1, k1.1, differ_is s0.0 s1.0 guard.0, k2.1), λ j. word "cut" ∷ (k0.0 j) ∷ (k1.0 j) ∷ (k2.0 j) ∷ [])
cut_sound (x ∷ y ∷ v ∷ z ∷ zs) line h = cc

goto_sound : (ts : List Token) (line : Line) → goto_of ts ≡ Some line → IsForm line (word "goto" ∷ ts)
goto_sound [] line h = cc
goto_sound (l ∷ []) line h =
    let s0 = bind-some (name_of l) (λ a. Some (Jumping (instr.Jump 0) a)) line h in
    let k0 = name_sound l s0.0 s0.1 in
    let e : Jumping (instr.Jump 0) s0.0 ≡ line = cc (s0.2) in
    subst (λ (made : Line). IsForm made (word "goto" ∷ l ∷ [])) e (refl, tt, k0.1, λ j. word "goto" ∷ (k0.0 j) ∷ [])
goto_sound (l ∷ z ∷ zs) line h = cc

if_sound : (ts : List Token) (line : Line) → if_of ts ≡ Some line → IsForm line (word "if" ∷ ts)
if_sound [] line h = cc
if_sound (v ∷ []) line h = cc
if_sound (v ∷ c ∷ []) line h = cc
if_sound (v ∷ c ∷ w ∷ []) line h = cc
if_sound (v ∷ c ∷ w ∷ g ∷ []) line h = cc
if_sound (v ∷ c ∷ w ∷ g ∷ l ∷ []) line h =
    let s0 = bind-some (operand_of v) (λ a. (comparison_in c >>= λ b. (operand_of w >>= λ d. (name_of l >>= λ e. only_if (is_word (codes "goto") g) (Some (Jumping (instr.JumpIf b a d 0) e)))))) line h in
    let k0 = operand_sound v s0.0 s0.1 in
    let s1 = bind-some (comparison_in c) (λ b. (operand_of w >>= λ d. (name_of l >>= λ e. only_if (is_word (codes "goto") g) (Some (Jumping (instr.JumpIf b s0.0 d 0) e))))) line s0.2 in
    let k1 = comparison_sound c s1.0 s1.1 in
    let s2 = bind-some (operand_of w) (λ d. (name_of l >>= λ e. only_if (is_word (codes "goto") g) (Some (Jumping (instr.JumpIf s1.0 s0.0 d 0) e)))) line s1.2 in
    let k2 = operand_sound w s2.0 s2.1 in
    let s3 = bind-some (name_of l) (λ e. only_if (is_word (codes "goto") g) (Some (Jumping (instr.JumpIf s1.0 s0.0 s2.0 0) e))) line s2.2 in
    let k3 = name_sound l s3.0 s3.1 in
    let guard = only_if-some (is_word (codes "goto") g) (Some (Jumping (instr.JumpIf s1.0 s0.0 s2.0 0) s3.0)) line s3.2 in
    let goto_is = guard.0 in
    let e : Jumping (instr.JumpIf s1.0 s0.0 s2.0 0) s3.0 ≡ line = cc (guard.1) in
    subst (λ (made : Line). IsForm made (word "if" ∷ v ∷ c ∷ w ∷ g ∷ l ∷ [])) e (refl, (k0.1, k2.1), k3.1, λ j. word "if" ∷ (k0.0 j) ∷ (k1 j) ∷ (k2.0 j) ∷ (is_word_sound (codes "goto") g goto_is j) ∷ (k3.0 j) ∷ [])
if_sound (v ∷ c ∷ w ∷ g ∷ l ∷ z ∷ zs) line h = cc

print_sound : (ts : List Token) (line : Line) → print_of ts ≡ Some line → IsForm line (word "print" ∷ ts)
print_sound ts line h =
    let s0 = bind-some (operands_from_one ts) (λ a. Some (Plain (instr.Print a))) line h in
    let k0 = operands_one_sound ts s0.0 s0.1 in
    let e : Plain (instr.Print s0.0) ≡ line = cc (s0.2) in
    subst (λ (made : Line). IsForm made (word "print" ∷ ts)) e (refl, (k0.1, k0.2), λ j. word "print" ∷ (k0.0 j))

exit_sound : (ts : List Token) (line : Line) → exit_of ts ≡ Some line → IsForm line (word "exit" ∷ ts)
exit_sound [] line h = cc
exit_sound (v ∷ []) line h =
    let s0 = bind-some (operand_of v) (λ a. Some (Plain (instr.Exit a))) line h in
    let k0 = operand_sound v s0.0 s0.1 in
    let e : Plain (instr.Exit s0.0) ≡ line = cc (s0.2) in
    subst (λ (made : Line). IsForm made (word "exit" ∷ v ∷ [])) e (refl, k0.1, λ j. word "exit" ∷ (k0.0 j) ∷ [])
exit_sound (v ∷ z ∷ zs) line h = cc

write_sound : (ts : List Token) (line : Line) → write_of ts ≡ Some line → IsForm line (word "write" ∷ ts)
write_sound [] line h = cc
write_sound (f ∷ ts) line h =
    let s0 = bind-some (name_of f) (λ a. (operands_from_one ts >>= λ b. Some (Plain (instr.WriteLine a b)))) line h in
    let k0 = name_sound f s0.0 s0.1 in
    let s1 = bind-some (operands_from_one ts) (λ b. Some (Plain (instr.WriteLine s0.0 b))) line s0.2 in
    let k1 = operands_one_sound ts s1.0 s1.1 in
    let e : Plain (instr.WriteLine s0.0 s1.0) ≡ line = cc (s1.2) in
    subst (λ (made : Line). IsForm made (word "write" ∷ f ∷ ts)) e (refl, (k0.1, k1.1, k1.2), λ j. word "write" ∷ (k0.0 j) ∷ (k1.0 j))

copy_sound : (ts : List Token) (line : Line) → copy_of ts ≡ Some line → IsForm line (word "copy" ∷ ts)
copy_sound [] line h = cc
copy_sound (f ∷ []) line h = cc
copy_sound (f ∷ g ∷ []) line h = two_names (λ a b. Plain (instr.CopyRest a b)) (λ t u. word "copy" ∷ t ∷ u ∷ []) f g line h (λ a b p q. (refl, (p, q), refl))
copy_sound (f ∷ g ∷ z ∷ zs) line h = cc

close_sound : (ts : List Token) (line : Line) → close_of ts ≡ Some line → IsForm line (word "close" ∷ ts)
close_sound [] line h = cc
close_sound (f ∷ []) line h =
    let s0 = bind-some (name_of f) (λ a. Some (Plain (instr.Close a))) line h in
    let k0 = name_sound f s0.0 s0.1 in
    let e : Plain (instr.Close s0.0) ≡ line = cc (s0.2) in
    subst (λ (made : Line). IsForm made (word "close" ∷ f ∷ [])) e (refl, k0.1, λ j. word "close" ∷ (k0.0 j) ∷ [])
close_sound (f ∷ z ∷ zs) line h = cc

exists_sound : (ts : List Token) (line : Line) → exists_of ts ≡ Some line → IsForm line (word "exists" ∷ ts)
exists_sound [] line h = cc
exists_sound (x ∷ []) line h = cc
exists_sound (x ∷ v ∷ []) line h =
    let s0 = bind-some (name_of x) (λ a. (operand_of v >>= λ b. Some (Plain (instr.Exists a b)))) line h in
    let k0 = name_sound x s0.0 s0.1 in
    let s1 = bind-some (operand_of v) (λ b. Some (Plain (instr.Exists s0.0 b))) line s0.2 in
    let k1 = operand_sound v s1.0 s1.1 in
    let e : Plain (instr.Exists s0.0 s1.0) ≡ line = cc (s1.2) in
    subst (λ (made : Line). IsForm made (word "exists" ∷ x ∷ v ∷ [])) e (refl, (k0.1, k1.1), λ j. word "exists" ∷ (k0.0 j) ∷ (k1.0 j) ∷ [])
exists_sound (x ∷ v ∷ z ∷ zs) line h = cc

wait_sound : (ts : List Token) (line : Line) → wait_of ts ≡ Some line → IsForm line (word "wait" ∷ ts)
wait_sound [] line h = cc
wait_sound (x ∷ []) line h = cc
wait_sound (x ∷ p ∷ []) line h = two_names (λ a b. Plain (instr.Wait a b)) (λ t u. word "wait" ∷ t ∷ u ∷ []) x p line h (λ a b p q. (refl, (p, q), refl))
wait_sound (x ∷ p ∷ z ∷ zs) line h = cc

sql_sound : (ts : List Token) (line : Line) → sql_of ts ≡ Some line → IsForm line (word "sql" ∷ ts)
sql_sound [] line h = cc
sql_sound (c ∷ []) line h = cc
sql_sound (c ∷ v ∷ ts) line h =
    let s0 = bind-some (name_of c) (λ a. (operand_of v >>= λ b. (operands_of ts >>= λ d. Some (Plain (instr.Sql a b d))))) line h in
    let k0 = name_sound c s0.0 s0.1 in
    let s1 = bind-some (operand_of v) (λ b. (operands_of ts >>= λ d. Some (Plain (instr.Sql s0.0 b d)))) line s0.2 in
    let k1 = operand_sound v s1.0 s1.1 in
    let s2 = bind-some (operands_of ts) (λ d. Some (Plain (instr.Sql s0.0 s1.0 d))) line s1.2 in
    let k2 = operands_most_sound ts s2.0 s2.1 in
    let e : Plain (instr.Sql s0.0 s1.0 s2.0) ≡ line = cc (s2.2) in
    subst (λ (made : Line). IsForm made (word "sql" ∷ c ∷ v ∷ ts)) e (refl, (k0.1, k1.1, k2.1), λ j. word "sql" ∷ (k0.0 j) ∷ (k1.0 j) ∷ (k2.0 j))

count_sound : (ts : List Token) (line : Line) → count_of ts ≡ Some line → IsForm line (word "count" ∷ ts)
count_sound [] line h = cc
count_sound (x ∷ []) line h = cc
count_sound (x ∷ c ∷ []) line h = two_names (λ a b. Plain (instr.Count a b)) (λ t u. word "count" ∷ t ∷ u ∷ []) x c line h (λ a b p q. (refl, (p, q), refl))
count_sound (x ∷ c ∷ z ∷ zs) line h = cc

status_sound : (ts : List Token) (line : Line) → status_of ts ≡ Some line → IsForm line (word "status" ∷ ts)
status_sound [] line h = cc
status_sound (x ∷ []) line h = cc
status_sound (x ∷ c ∷ []) line h = two_names (λ a b. Plain (instr.Status a b)) (λ t u. word "status" ∷ t ∷ u ∷ []) x c line h (λ a b p q. (refl, (p, q), refl))
status_sound (x ∷ c ∷ z ∷ zs) line h = cc

open_sound : (ts : List Token) (label : List ℕ) (line : Line) → open_of ts label ≡ Some line → IsName label → IsForm line (word "open" ∷ ts ++ word "else" ∷ Word label ∷ [])
open_sound [] label line h ok = cc
open_sound (f ∷ []) label line h ok = cc
open_sound (f ∷ m ∷ []) label line h ok = cc
open_sound (f ∷ m ∷ v ∷ []) label line h ok =
    let s0 = bind-some (name_of f) (λ a. (mode_in m >>= λ b. (operand_of v >>= λ d. Some (Jumping (instr.OpenPath a b d 0) label)))) line h in
    let k0 = name_sound f s0.0 s0.1 in
    let s1 = bind-some (mode_in m) (λ b. (operand_of v >>= λ d. Some (Jumping (instr.OpenPath s0.0 b d 0) label))) line s0.2 in
    let k1 = mode_sound m s1.0 s1.1 in
    let s2 = bind-some (operand_of v) (λ d. Some (Jumping (instr.OpenPath s0.0 s1.0 d 0) label)) line s1.2 in
    let k2 = operand_sound v s2.0 s2.1 in
    let e : Jumping (instr.OpenPath s0.0 s1.0 s2.0 0) label ≡ line = cc (s2.2) in
    subst (λ (made : Line). IsForm made (word "open" ∷ f ∷ m ∷ v ∷ [] ++ word "else" ∷ Word label ∷ [])) e (refl, (k0.1, k2.1), ok, λ j. word "open" ∷ (k0.0 j) ∷ (k1 j) ∷ (k2.0 j) ∷ word "else" ∷ Word label ∷ [])
open_sound (f ∷ m ∷ v ∷ z ∷ zs) label line h ok = cc

readline_sound : (ts : List Token) (label : List ℕ) (line : Line) → readline_of ts label ≡ Some line → IsName label → IsForm line (word "readline" ∷ ts ++ word "else" ∷ Word label ∷ [])
readline_sound [] label line h ok = cc
readline_sound (x ∷ []) label line h ok = cc
readline_sound (x ∷ f ∷ []) label line h ok =
    two_names (λ a b. Jumping (instr.ReadLine a b 0) label) (λ t u. word "readline" ∷ t ∷ u ∷ [] ++ word "else" ∷ Word label ∷ []) x f line h (λ a b p q. (refl, (p, q), ok, refl))
readline_sound (x ∷ f ∷ z ∷ zs) label line h ok = cc

remove_sound : (ts : List Token) (label : List ℕ) (line : Line) → remove_of ts label ≡ Some line → IsName label → IsForm line (word "remove" ∷ ts ++ word "else" ∷ Word label ∷ [])
remove_sound [] label line h ok = cc
remove_sound (v ∷ []) label line h ok =
    let s0 = bind-some (operand_of v) (λ a. Some (Jumping (instr.Remove a 0) label)) line h in
    let k0 = operand_sound v s0.0 s0.1 in
    let e : Jumping (instr.Remove s0.0 0) label ≡ line = cc (s0.2) in
    subst (λ (made : Line). IsForm made (word "remove" ∷ v ∷ [] ++ word "else" ∷ Word label ∷ [])) e (refl, k0.1, ok, λ j. word "remove" ∷ (k0.0 j) ∷ word "else" ∷ Word label ∷ [])
remove_sound (v ∷ z ∷ zs) label line h ok = cc

spawn_sound : (ts : List Token) (label : List ℕ) (line : Line) → spawn_of ts label ≡ Some line → IsName label → IsForm line (word "spawn" ∷ ts ++ word "else" ∷ Word label ∷ [])
spawn_sound [] label line h ok = cc
spawn_sound (p ∷ []) label line h ok = cc
spawn_sound (p ∷ v ∷ ts) label line h ok =
    let s0 = bind-some (name_of p) (λ a. (operand_of v >>= λ b. (operands_of ts >>= λ d. Some (Jumping (instr.Spawn a b d 0) label)))) line h in
    let k0 = name_sound p s0.0 s0.1 in
    let s1 = bind-some (operand_of v) (λ b. (operands_of ts >>= λ d. Some (Jumping (instr.Spawn s0.0 b d 0) label))) line s0.2 in
    let k1 = operand_sound v s1.0 s1.1 in
    let s2 = bind-some (operands_of ts) (λ d. Some (Jumping (instr.Spawn s0.0 s1.0 d 0) label)) line s1.2 in
    let k2 = operands_most_sound ts s2.0 s2.1 in
    let e : Jumping (instr.Spawn s0.0 s1.0 s2.0 0) label ≡ line = cc (s2.2) in
    subst (λ (made : Line). IsForm made (word "spawn" ∷ p ∷ v ∷ ts ++ word "else" ∷ Word label ∷ [])) e (refl, (k0.1, k1.1, k2.1), ok, λ j. word "spawn" ∷ (k0.0 j) ∷ (k1.0 j) ∷ ((k2.0 j) ++ word "else" ∷ Word label ∷ []))

fetch_sound : (ts : List Token) (label : List ℕ) (line : Line) → fetch_of ts label ≡ Some line → IsName label → IsForm line (word "fetch" ∷ ts ++ word "else" ∷ Word label ∷ [])
fetch_sound [] label line h ok = cc
fetch_sound (c ∷ ts) label line h ok =
    let s0 = bind-some (name_of c) (λ a. (names_from_one ts >>= λ b. Some (Jumping (instr.Fetch a b 0) label))) line h in
    let k0 = name_sound c s0.0 s0.1 in
    let s1 = bind-some (names_from_one ts) (λ b. Some (Jumping (instr.Fetch s0.0 b 0) label)) line s0.2 in
    let k1 = names_one_sound ts s1.0 s1.1 in
    let e : Jumping (instr.Fetch s0.0 s1.0 0) label ≡ line = cc (s1.2) in
    subst (λ (made : Line). IsForm made (word "fetch" ∷ c ∷ ts ++ word "else" ∷ Word label ∷ [])) e (refl, (k0.1, k1.1, k1.2), ok, λ j. word "fetch" ∷ (k0.0 j) ∷ ((k1.0 j) ++ word "else" ∷ Word label ∷ []))

signed_sound : (x : List ℕ) (v w : Operand) (s : Sign) → IsName x → IsOperand v → IsOperand w
    → IsForm (Plain (instr_of_sign x v w s)) (word "let" ∷ Word x ∷ word "=" ∷ operand_token v ∷ Word (sign_text s) ∷ operand_token w ∷ [])
signed_sound x v w Plus a b c = (refl, (a, b, c), refl)
signed_sound x v w Minus a b c = (refl, (a, b, c), refl)
signed_sound x v w Times a b c = (refl, (a, b, c), refl)
signed_sound x v w Join a b c = (refl, (a, b, c), refl)

value_sound : (x : List ℕ) (ts : List Token) (i : Instr) → IsName x → let_value x ts ≡ Some i → IsForm (Plain i) (word "let" ∷ Word x ∷ word "=" ∷ ts)
value_sound x [] i ok h = cc
value_sound x (v ∷ []) i ok h =
    let s0 = bind-some (operand_of v) (λ a. Some (instr.Let x a)) i h in
    let k0 = operand_sound v s0.0 s0.1 in
    let e : instr.Let x s0.0 ≡ i = cc (s0.2) in
    subst (λ (made : Instr). IsForm (Plain made) (word "let" ∷ Word x ∷ word "=" ∷ v ∷ [])) e (refl, (ok, k0.1), λ j. word "let" ∷ Word x ∷ word "=" ∷ (k0.0 j) ∷ [])
value_sound x (t ∷ v ∷ []) i ok h =
    let s0 = bind-some (operand_of v) (λ a. only_if (is_word (codes "int") t) (Some (instr.ToInt x a))) i h in
    let k0 = operand_sound v s0.0 s0.1 in
    let guard = only_if-some (is_word (codes "int") t) (Some (instr.ToInt x s0.0)) i s0.2 in
    let int = is_word_sound (codes "int") t guard.0 in
    let e : instr.ToInt x s0.0 ≡ i = cc (guard.1) in
    subst (λ (made : Instr). IsForm (Plain made) (word "let" ∷ Word x ∷ word "=" ∷ t ∷ v ∷ [])) e (refl, (ok, k0.1), λ j. word "let" ∷ Word x ∷ word "=" ∷ (int j) ∷ (k0.0 j) ∷ [])
value_sound x (v ∷ s ∷ w ∷ []) i ok h =
    let s0 = bind-some (operand_of v) (λ a. (sign_in s >>= λ b. (operand_of w >>= λ d. Some (instr_of_sign x a d b)))) i h in
    let k0 = operand_sound v s0.0 s0.1 in
    let s1 = bind-some (sign_in s) (λ b. (operand_of w >>= λ d. Some (instr_of_sign x s0.0 d b))) i s0.2 in
    let k1 = sign_sound s s1.0 s1.1 in
    let s2 = bind-some (operand_of w) (λ d. Some (instr_of_sign x s0.0 d s1.0)) i s1.2 in
    let k2 = operand_sound w s2.0 s2.1 in
    let e : instr_of_sign x s0.0 s2.0 s1.0 ≡ i = cc (s2.2) in
    let made = signed_sound x s0.0 s2.0 s1.0 ok k0.1 k2.1 in
    subst (λ (made : Instr). IsForm (Plain made) (word "let" ∷ Word x ∷ word "=" ∷ v ∷ s ∷ w ∷ [])) e
    (made.0, made.1, ((λ j. word "let" ∷ Word x ∷ word "=" ∷ (k0.0 j) ∷ (k1 j) ∷ (k2.0 j) ∷ []) ∙ made.2))
value_sound x (a ∷ b ∷ c ∷ d ∷ more) i ok h = cc

let_sound : (ts : List Token) (line : Line) → let_of ts ≡ Some line → IsForm line (word "let" ∷ ts)
let_sound [] line h = cc
let_sound (x ∷ []) line h = cc
let_sound (x ∷ equals ∷ rest) line h =
    let s0 = bind-some (name_of x) (λ a. (let_value a rest >>= λ b. only_if (is_word (codes "=") equals) (Some (Plain b)))) line h in
    let k0 = name_sound x s0.0 s0.1 in
    let s1 = bind-some (let_value s0.0 rest) (λ b. only_if (is_word (codes "=") equals) (Some (Plain b))) line s0.2 in
    let made = value_sound s0.0 rest s1.0 k0.1 s1.1 in
    let guard = only_if-some (is_word (codes "=") equals) (Some (Plain s1.0)) line s1.2 in
    let sign = is_word_sound (codes "=") equals guard.0 in
    let e : Plain s1.0 ≡ line = cc (guard.1) in
    let same : word "let" ∷ x ∷ equals ∷ rest ≡ word "let" ∷ Word s0.0 ∷ word "=" ∷ rest = λ j. word "let" ∷ (k0.0 j) ∷ (sign j) ∷ rest in
    subst (λ (l : Line). IsForm l (word "let" ∷ x ∷ equals ∷ rest)) e (made.0, made.1, same ∙ made.2)

-- `else L` at the end
prefix_sound : {A : Type 0} (q : A → Bool) (xs : List A) → prefix_len q xs < length xs
    → (x : A) × (q x ≡ false) × (xs ≡ take (prefix_len q xs) xs ++ x ∷ drop (suc (prefix_len q xs)) xs)
prefix_sound q [] h = absurd (omega arith)
prefix_sound q (x ∷ xs) h = elim (cases_Bool (q x)) [
  | inl hit ↦
      let place : prefix_len q (x ∷ xs) ≡ suc (prefix_len q xs) = rw hit (omega arith) in
      let r = prefix_sound q xs (omega arith) in
      (r.0, r.1, ap (λ l. x ∷ l) r.2 ∙ ap (λ k. take k (x ∷ xs) ++ r.0 ∷ drop (suc k) (x ∷ xs)) (sym place))
  | inr miss ↦ let place : prefix_len q (x ∷ xs) ≡ 0 = rw miss refl in (x, miss, ap (λ k. take k (x ∷ xs) ++ x ∷ drop (suc k) (x ∷ xs)) (sym place))
]

label_sound : (ts : List Token) (l : List ℕ) → last_label ts ≡ Some l → (ts ≡ Word l ∷ []) × IsName l
label_sound [] l h = cc
label_sound (t ∷ []) l h = let k = name_sound t l h in (ap (λ x. x ∷ []) k.0, k.1)
label_sound (t ∷ z ∷ zs) l h = cc

else_sound : (ts front : List Token) (label : List ℕ) → else_of ts ≡ Some (front, label) → (ts ≡ front ++ word "else" ∷ Word label ∷ []) × IsName label
else_sound ts front label h =
    let s0 = bind-some (position (is_word (codes "else")) ts) (else_at ts) (front, label) h in
    let q : Token → Bool = λ t. not (is_word (codes "else") t) in
    let p = cond_some (ltb (prefix_len q ts) (length ts)) (prefix_len q ts) s0.0 s0.1 in
    let r = prefix_sound q ts (ltb-true _ _ p.0) in
    let at : s0.0 ≡ prefix_len q ts = sym p.1 in
    let next : s0.0 + 1 ≡ suc (prefix_len q ts) = omega (arith, p.1) in
    let s1 = bind-some (last_label (drop (s0.0 + 1) ts)) (λ l. Some (take s0.0 ts, l)) (front, label) s0.2 in
    let k = label_sound (drop (s0.0 + 1) ts) s1.0 s1.1 in
    let both : (take s0.0 ts, s1.0) ≡ (front, label) = cc (s1.2) in
    let one : take s0.0 ts ≡ front = ap (λ (p : List Token × List ℕ). p.0) both in
    let two : s1.0 ≡ label = ap (λ (p : List Token × List ℕ). p.1) both in
    let word_is : r.0 ≡ word "else" = is_word_sound (codes "else") r.0 (not-false (is_word (codes "else") r.0) r.1) in
    let front_is : take (prefix_len q ts) ts ≡ front = ap (λ n. take n ts) (sym at) ∙ one in
    let back_is : drop (suc (prefix_len q ts)) ts ≡ Word label ∷ [] = ap (λ n. drop n ts) (sym next) ∙ k.0 ∙ ap (λ l. Word l ∷ []) two in
    (r.2 ∙ (λ j. (front_is j) ++ (word_is j) ∷ (back_is j)), subst IsName two k.1)

else_form : (form : List Token → List ℕ → Option Line) (w : List ℕ) → ((ts : List Token) (label : List ℕ) (line : Line) → form ts label ≡ Some line → IsName label → IsForm line (Word w ∷ ts ++ word "else" ∷ Word label ∷ []))
    → (ts : List Token) (line : Line) → with_else form ts ≡ Some line → IsForm line (Word w ∷ ts)
else_form form w sound ts line h =
    let s0 = bind-some (else_of ts) (λ e. form e.0 e.1) line h in
    let r = else_sound ts s0.0.0 s0.0.1 s0.1 in
    subst (λ (l : List Token). IsForm line (Word w ∷ l)) (sym r.0) (sound s0.0.0 s0.0.1 line s0.2 r.1)

instruction_sound : (k : Keyword) (ts : List Token) (line : Line) → instruction_of k ts ≡ Some line → IsForm line (Word (keyword_text k) ∷ ts)
instruction_sound Let ts line h = let_sound ts line h
instruction_sound Cut ts line h = cut_sound ts line h
instruction_sound Goto ts line h = goto_sound ts line h
instruction_sound If ts line h = if_sound ts line h
instruction_sound Print ts line h = print_sound ts line h
instruction_sound Exit ts line h = exit_sound ts line h
instruction_sound Open ts line h = else_form open_of (codes "open") open_sound ts line h
instruction_sound ReadLine ts line h = else_form readline_of (codes "readline") readline_sound ts line h
instruction_sound Write ts line h = write_sound ts line h
instruction_sound Copy ts line h = copy_sound ts line h
instruction_sound Close ts line h = close_sound ts line h
instruction_sound Remove ts line h = else_form remove_of (codes "remove") remove_sound ts line h
instruction_sound Exists ts line h = exists_sound ts line h
instruction_sound Spawn ts line h = else_form spawn_of (codes "spawn") spawn_sound ts line h
instruction_sound Wait ts line h = wait_sound ts line h
instruction_sound Sql ts line h = sql_sound ts line h
instruction_sound Fetch ts line h = else_form fetch_of (codes "fetch") fetch_sound ts line h
instruction_sound Count ts line h = count_sound ts line h
instruction_sound Status ts line h = status_sound ts line h

worded_sound : (w : List ℕ) (ts : List Token) (line : Line) → line_of_word w ts ≡ Some line → IsForm line (Word w ∷ ts)
worded_sound w [] line h =
    let s0 = bind-some (before_colon w) (λ front. (name_in front >>= λ name. Some (Label name))) line h in
    let s1 = bind-some (name_in s0.0) (λ name. Some (Label name)) line s0.2 in
    let k = tested-some name_test s0.0 s1.0 s1.1 in
    let e : Label s1.0 ≡ line = cc (s1.2) in
    subst (λ (l : Line). IsForm l (Word w ∷ [])) e (k.1, ap (λ (x : List ℕ). Word x ∷ []) (colon_split w s0.0 s0.1 ∙ ap (λ (x : List ℕ). x ++ 58 ∷ []) k.0))
worded_sound w (t ∷ ts) line h =
    let s0 = bind-some (keyword_of w) (λ k. instruction_of k (t ∷ ts)) line h in
    let is : w ≡ keyword_text s0.0 = text_is w (keyword_text s0.0) (found-passes (λ k. is_text w (keyword_text k)) keywords s0.0 s0.1) in
    subst (λ (x : List ℕ). IsForm line (Word x ∷ t ∷ ts)) (sym is) (instruction_sound s0.0 (t ∷ ts) line s0.2)

pub forms_sound : (ts : List Token) (line : Line) → form_of ts ≡ Some line → IsForm line ts
forms_sound [] line h = let e : Blank ≡ line = cc (h) in subst (λ (l : Line). IsForm l []) e refl
forms_sound (t ∷ ts) line h =
    let s0 = bind-some (word_of t) (λ w. line_of_word w ts) line h in
    subst (λ (x : Token). IsForm line (x ∷ ts)) (sym (word_sound t s0.0 s0.1)) (worded_sound s0.0 ts line s0.2)
