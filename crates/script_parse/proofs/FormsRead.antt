-- The tokens of a line are read in each way that the grammar allows.
use Rattle.std.proofs.Common.{◌≡◌, ◌≢◌, ℕ, suc, ◌+◌, ◌≤◌, List, [], ◌∷◌, ◌++◌, length, map, take, drop, length-append, add-one, refl, sym, ap, ◌∙◌, cond, not, ltb, Bool, true, false, Some, None, leb, arith}
use Rattle.std.specs.Prelude.{Option, codes, position}
use Rattle.std.specs.List.{AllByRecursion, prefix_len}
use Rattle.std.proofs.lemmas.Bool.{false≢true, le-leb, lt-ltb}
use Rattle.ldv_value.specs.declared.value.Value.TheVariants as value
use Rattle.ldv_value.specs.declared.value.Cmp.{Cmp}
use Rattle.ldv_value.specs.declared.value.Cmp.TheVariants as cmp
use Rattle.ldv_value.specs.declared.file.OpenMode.{OpenMode}
use Rattle.ldv_value.specs.declared.file.OpenMode.TheVariants as mode
use Rattle.script_parse.specs.declared.script.Operand.{Operand}
use Rattle.script_parse.specs.declared.script.Operand.TheVariants.{Constant, Variable}
use Rattle.script_parse.specs.declared.script.CalcOp.TheVariants.{Add, Subtract, Multiply}
use Rattle.script_parse.specs.declared.script.Instr.{Instr}
use Rattle.script_parse.specs.declared.script.Instr.TheVariants as instr
use Rattle.script_parse.specs.declared.token.Token.{Token}
use Rattle.script_parse.specs.declared.token.Token.TheVariants.{Word}
use Rattle.script_parse.specs.declared.keyword.Sign.{Sign}
use Rattle.script_parse.specs.declared.keyword.Sign.TheVariants.{Plus, Minus, Times, Join}
use Rattle.script_parse.specs.declared.line.Line.{Line}
use Rattle.script_parse.specs.declared.line.Line.TheVariants.{Blank, Label, Plain, Jumping}
use Rattle.ldv_value.specs.Options.{◌>>=◌, only_if}
use Rattle.script_parse.specs.Names.{is_text, name_test}
use Rattle.script_parse.specs.Keywords.{sign_text, comparison_text, mode_text}
use Rattle.script_parse.specs.Forms.{each, is_word, name_in, name_of, operand_of, operands_of, operands_from_one, names_from_one, sign_in, comparison_in, mode_in, instr_of_sign, let_value, let_of, cut_of, goto_of, if_of, print_of, exit_of, write_of, copy_of, close_of, exists_of, wait_of, sql_of, count_of, status_of, last_label, else_at, else_of, open_of, readline_of, remove_of, spawn_of, fetch_of, with_else}
use Rattle.script_parse.specs.Lines.{form_of}
use Rattle.script_parse.specs.Grammar.{IsName, operand_token, IsOperand, AreOperands, AreNames, word, tokens_for, HasForm, place_of}
use Rattle.script_parse.proofs.Colon.{colon_found}
use Rattle.script_parse.proofs.FormsLaw.{IsForm, text_is}
use Rattle.ldv_value.proofs.Booleans.{not-so}

name_made : (x : List ℕ) → IsName x → name_of (Word x) ≡ Some x
name_made x h = let test : name_test x ≡ true = h in ap (λ b. only_if b (Some x)) test

two_names_made : (made : List ℕ → List ℕ → Line) (x y : List ℕ) → IsName x → IsName y → (name_of (Word x) >>= λ a. name_of (Word y) >>= λ b. Some (made a b)) ≡ Some (made x y)
two_names_made made x y hx hy =
    ap (λ o. o >>= λ a. name_of (Word y) >>= λ b. Some (made a b)) (name_made x hx) ∙ ap (λ o. o >>= λ b. Some (made x b)) (name_made y hy)

-- a name isn't a word that is none
not_name : (x w : List ℕ) → IsName x → name_test w ≡ false → is_text x w ≡ false
not_name x w h none = not-so (is_text x w) (λ same. false≢true (sym none ∙ ap name_test (sym (text_is x w same)) ∙ h))

operand_made : (v : Operand) → IsOperand v → operand_of (operand_token v) ≡ Some v
operand_made (Constant value.Null) h = refl
operand_made (Constant (value.Int z)) h = refl
operand_made (Constant (value.Text t)) h = refl
operand_made (Variable x) h =
    ap (λ b. cond b (Some (Constant value.Null)) (name_in x >>= λ y. Some (Variable y))) (not_name x (codes "null") h refl)
    ∙ ap (λ o. o >>= λ y. Some (Variable y)) (name_made x h)

comparison_made : (c : Cmp) → comparison_in (Word (comparison_text c)) ≡ Some c
comparison_made cmp.Eq = refl
comparison_made cmp.Ne = refl
comparison_made cmp.Lt = refl
comparison_made cmp.Le = refl
comparison_made cmp.Gt = refl
comparison_made cmp.Ge = refl

mode_made : (m : OpenMode) → mode_in (Word (mode_text m)) ≡ Some m
mode_made mode.Read = refl
mode_made mode.Write = refl
mode_made mode.Append = refl
mode_made mode.New = refl

sign_made : (s : Sign) → sign_in (Word (sign_text s)) ≡ Some s
sign_made Plus = refl
sign_made Minus = refl
sign_made Times = refl
sign_made Join = refl

length_map : {A B : Type 0} (f : A → B) (xs : List A) → length (map f xs) ≡ length xs
length_map f [] = refl
length_map f (x ∷ xs) = ap suc (length_map f xs)

operands_made : (vs : List Operand) → AllByRecursion IsOperand vs → each operand_of (map operand_token vs) ≡ Some vs
operands_made [] h = refl
operands_made (v ∷ vs) h =
    ap (λ o. o >>= λ y. each operand_of (map operand_token vs) >>= λ ys. Some (y ∷ ys)) (operand_made v h.0) ∙ ap (λ o. o >>= λ ys. Some (v ∷ ys)) (operands_made vs h.1)

names_made : (xs : List (List ℕ)) → AllByRecursion IsName xs → each name_of (map Word xs) ≡ Some xs
names_made [] h = refl
names_made (x ∷ xs) h =
    ap (λ o. o >>= λ y. each name_of (map Word xs) >>= λ ys. Some (y ∷ ys)) (name_made x h.0) ∙ ap (λ o. o >>= λ ys. Some (x ∷ ys)) (names_made xs h.1)

operands_one_made : (vs : List Operand) → (vs ≢ []) × AreOperands 256 vs → operands_from_one (map operand_token vs) ≡ Some vs
operands_one_made [] h = absurd (h.0 refl)
operands_one_made (v ∷ vs) h =
    let few : length (v ∷ vs) ≤ 256 = h.1.0 in
    let test : leb (length (map operand_token vs)) 255 ≡ true = le-leb _ _ (omega (arith, length_map operand_token vs)) in
    ap (λ b. only_if b (each operand_of (map operand_token (v ∷ vs)))) test ∙ operands_made (v ∷ vs) h.1.1

operands_most_made : (vs : List Operand) → AreOperands 255 vs → operands_of (map operand_token vs) ≡ Some vs
operands_most_made vs h =
    let few : length vs ≤ 255 = h.0 in
    let test : leb (length (map operand_token vs)) 255 ≡ true = le-leb _ _ (omega (arith, length_map operand_token vs)) in
    ap (λ b. only_if b (each operand_of (map operand_token vs))) test ∙ operands_made vs h.1

names_one_made : (xs : List (List ℕ)) → (xs ≢ []) × AreNames 256 xs → names_from_one (map Word xs) ≡ Some xs
names_one_made [] h = absurd (h.0 refl)
names_one_made (x ∷ xs) h =
    let few : length (x ∷ xs) ≤ 256 = h.1.0 in
    let test : leb (length (map Word xs)) 255 ≡ true = le-leb _ _ (omega (arith, length_map Word xs)) in
    ap (λ b. only_if b (each name_of (map Word (x ∷ xs)))) test ∙ names_made (x ∷ xs) h.1.1

differ_made : (a b : List ℕ) → a ≢ b → not (is_text a b) ≡ true
differ_made a b h = ap not (not-so (is_text a b) (λ same. h (text_is a b same)))

cut_complete : (a : List ℕ) (b : List ℕ) (d : Operand) → IsName a → IsName b → IsOperand d → a ≢ b → cut_of (Word a ∷ Word b ∷ operand_token d ∷ []) ≡ Some (Plain (instr.Cut a b d))
cut_complete a b d ha hb hd hg =
    ap (λ o. o >>= λ a′. (name_of (Word b) >>= λ b′. (operand_of (operand_token d) >>= λ d′. only_if (not (is_text a′ b′)) (Some (Plain (instr.Cut a′ b′ d′)))))) (name_made a ha)
    ∙ ap (λ o. o >>= λ b′. (operand_of (operand_token d) >>= λ d′. only_if (not (is_text a b′)) (Some (Plain (instr.Cut a b′ d′))))) (name_made b hb)
    ∙ ap (λ o. o >>= λ d′. only_if (not (is_text a b)) (Some (Plain (instr.Cut a b d′)))) (operand_made d hd)
    ∙ ap (λ t. only_if t (Some (Plain (instr.Cut a b d)))) (differ_made a b hg)

goto_complete : (a : List ℕ) → IsName a → goto_of (Word a ∷ []) ≡ Some (Jumping (instr.Jump 0) a)
goto_complete a ha =
    ap (λ o. o >>= λ a′. Some (Jumping (instr.Jump 0) a′)) (name_made a ha)

if_complete : (a : Operand) (b : Cmp) (d : Operand) (e : List ℕ) → IsOperand a → IsOperand d → IsName e → if_of (operand_token a ∷ Word (comparison_text b) ∷ operand_token d ∷ word "goto" ∷ Word e ∷ []) ≡ Some (Jumping (instr.JumpIf b a d 0) e)
if_complete a b d e ha hd he =
    ap (λ o. o >>= λ a′. (comparison_in (Word (comparison_text b)) >>= λ b′. (operand_of (operand_token d) >>= λ d′. (name_of (Word e) >>= λ e′. only_if (is_word (codes "goto") (word "goto")) (Some (Jumping (instr.JumpIf b′ a′ d′ 0) e′)))))) (operand_made a ha)
    ∙ ap (λ o. o >>= λ b′. (operand_of (operand_token d) >>= λ d′. (name_of (Word e) >>= λ e′. only_if (is_word (codes "goto") (word "goto")) (Some (Jumping (instr.JumpIf b′ a d′ 0) e′))))) (comparison_made b)
    ∙ ap (λ o. o >>= λ d′. (name_of (Word e) >>= λ e′. only_if (is_word (codes "goto") (word "goto")) (Some (Jumping (instr.JumpIf b a d′ 0) e′)))) (operand_made d hd)
    ∙ ap (λ o. o >>= λ e′. only_if (is_word (codes "goto") (word "goto")) (Some (Jumping (instr.JumpIf b a d 0) e′))) (name_made e he)

print_complete : (a : List Operand) → (a ≢ []) × AreOperands 256 a → print_of (map operand_token a) ≡ Some (Plain (instr.Print a))
print_complete a ha =
    ap (λ o. o >>= λ a′. Some (Plain (instr.Print a′))) (operands_one_made a ha)

exit_complete : (a : Operand) → IsOperand a → exit_of (operand_token a ∷ []) ≡ Some (Plain (instr.Exit a))
exit_complete a ha =
    ap (λ o. o >>= λ a′. Some (Plain (instr.Exit a′))) (operand_made a ha)

write_complete : (a : List ℕ) (b : List Operand) → IsName a → (b ≢ []) × AreOperands 256 b → write_of (Word a ∷ map operand_token b) ≡ Some (Plain (instr.WriteLine a b))
write_complete a b ha hb =
    ap (λ o. o >>= λ a′. (operands_from_one (map operand_token b) >>= λ b′. Some (Plain (instr.WriteLine a′ b′)))) (name_made a ha)
    ∙ ap (λ o. o >>= λ b′. Some (Plain (instr.WriteLine a b′))) (operands_one_made b hb)

copy_complete : (a : List ℕ) (b : List ℕ) → IsName a → IsName b → copy_of (Word a ∷ Word b ∷ []) ≡ Some (Plain (instr.CopyRest a b))
copy_complete a b ha hb = two_names_made (λ x y. Plain (instr.CopyRest x y)) a b ha hb

close_complete : (a : List ℕ) → IsName a → close_of (Word a ∷ []) ≡ Some (Plain (instr.Close a))
close_complete a ha =
    ap (λ o. o >>= λ a′. Some (Plain (instr.Close a′))) (name_made a ha)

exists_complete : (a : List ℕ) (b : Operand) → IsName a → IsOperand b → exists_of (Word a ∷ operand_token b ∷ []) ≡ Some (Plain (instr.Exists a b))
exists_complete a b ha hb =
    ap (λ o. o >>= λ a′. (operand_of (operand_token b) >>= λ b′. Some (Plain (instr.Exists a′ b′)))) (name_made a ha)
    ∙ ap (λ o. o >>= λ b′. Some (Plain (instr.Exists a b′))) (operand_made b hb)

wait_complete : (a : List ℕ) (b : List ℕ) → IsName a → IsName b → wait_of (Word a ∷ Word b ∷ []) ≡ Some (Plain (instr.Wait a b))
wait_complete a b ha hb = two_names_made (λ x y. Plain (instr.Wait x y)) a b ha hb

sql_complete : (a : List ℕ) (b : Operand) (d : List Operand) → IsName a → IsOperand b → AreOperands 255 d → sql_of (Word a ∷ operand_token b ∷ map operand_token d) ≡ Some (Plain (instr.Sql a b d))
sql_complete a b d ha hb hd =
    ap (λ o. o >>= λ a′. (operand_of (operand_token b) >>= λ b′. (operands_of (map operand_token d) >>= λ d′. Some (Plain (instr.Sql a′ b′ d′))))) (name_made a ha)
    ∙ ap (λ o. o >>= λ b′. (operands_of (map operand_token d) >>= λ d′. Some (Plain (instr.Sql a b′ d′)))) (operand_made b hb)
    ∙ ap (λ o. o >>= λ d′. Some (Plain (instr.Sql a b d′))) (operands_most_made d hd)

count_complete : (a : List ℕ) (b : List ℕ) → IsName a → IsName b → count_of (Word a ∷ Word b ∷ []) ≡ Some (Plain (instr.Count a b))
count_complete a b ha hb = two_names_made (λ x y. Plain (instr.Count x y)) a b ha hb

status_complete : (a : List ℕ) (b : List ℕ) → IsName a → IsName b → status_of (Word a ∷ Word b ∷ []) ≡ Some (Plain (instr.Status a b))
status_complete a b ha hb = two_names_made (λ x y. Plain (instr.Status x y)) a b ha hb

open_complete : (a : List ℕ) (b : OpenMode) (d : Operand) (label : List ℕ) → IsName a → IsOperand d → open_of (Word a ∷ Word (mode_text b) ∷ operand_token d ∷ []) label ≡ Some (Jumping (instr.OpenPath a b d 0) label)
open_complete a b d label ha hd =
    ap (λ o. o >>= λ a′. (mode_in (Word (mode_text b)) >>= λ b′. (operand_of (operand_token d) >>= λ d′. Some (Jumping (instr.OpenPath a′ b′ d′ 0) label)))) (name_made a ha)
    ∙ ap (λ o. o >>= λ b′. (operand_of (operand_token d) >>= λ d′. Some (Jumping (instr.OpenPath a b′ d′ 0) label))) (mode_made b)
    ∙ ap (λ o. o >>= λ d′. Some (Jumping (instr.OpenPath a b d′ 0) label)) (operand_made d hd)

readline_complete : (a : List ℕ) (b : List ℕ) (label : List ℕ) → IsName a → IsName b → readline_of (Word a ∷ Word b ∷ []) label ≡ Some (Jumping (instr.ReadLine a b 0) label)
readline_complete a b label ha hb = two_names_made (λ x y. Jumping (instr.ReadLine x y 0) label) a b ha hb

remove_complete : (a : Operand) (label : List ℕ) → IsOperand a → remove_of (operand_token a ∷ []) label ≡ Some (Jumping (instr.Remove a 0) label)
remove_complete a label ha =
    ap (λ o. o >>= λ a′. Some (Jumping (instr.Remove a′ 0) label)) (operand_made a ha)

spawn_complete : (a : List ℕ) (b : Operand) (d : List Operand) (label : List ℕ) → IsName a → IsOperand b → AreOperands 255 d → spawn_of (Word a ∷ operand_token b ∷ map operand_token d) label ≡ Some (Jumping (instr.Spawn a b d 0) label)
spawn_complete a b d label ha hb hd =
    ap (λ o. o >>= λ a′. (operand_of (operand_token b) >>= λ b′. (operands_of (map operand_token d) >>= λ d′. Some (Jumping (instr.Spawn a′ b′ d′ 0) label)))) (name_made a ha)
    ∙ ap (λ o. o >>= λ b′. (operands_of (map operand_token d) >>= λ d′. Some (Jumping (instr.Spawn a b′ d′ 0) label))) (operand_made b hb)
    ∙ ap (λ o. o >>= λ d′. Some (Jumping (instr.Spawn a b d′ 0) label)) (operands_most_made d hd)

fetch_complete : (a : List ℕ) (b : List (List ℕ)) (label : List ℕ) → IsName a → (b ≢ []) × AreNames 256 b → fetch_of (Word a ∷ map Word b) label ≡ Some (Jumping (instr.Fetch a b 0) label)
fetch_complete a b label ha hb =
    ap (λ o. o >>= λ a′. (names_from_one (map Word b) >>= λ b′. Some (Jumping (instr.Fetch a′ b′ 0) label))) (name_made a ha)
    ∙ ap (λ o. o >>= λ b′. Some (Jumping (instr.Fetch a b′ 0) label)) (names_one_made b hb)

signed_complete : (x : List ℕ) (v w : Operand) (s : Sign) → IsName x → IsOperand v → IsOperand w
    → let_of (Word x ∷ word "=" ∷ operand_token v ∷ Word (sign_text s) ∷ operand_token w ∷ []) ≡ Some (Plain (instr_of_sign x v w s))
signed_complete x v w s hx hv hw =
    ap (λ o. o >>= λ a. (let_value a (operand_token v ∷ Word (sign_text s) ∷ operand_token w ∷ []) >>= λ b. only_if (is_word (codes "=") (word "=")) (Some (Plain b)))) (name_made x hx)
    ∙ ap (λ o. (o >>= λ a. (sign_in (Word (sign_text s)) >>= λ b. (operand_of (operand_token w) >>= λ d. Some (instr_of_sign x a d b)))) >>= λ b. only_if (is_word (codes "=") (word "=")) (Some (Plain b))) (operand_made v hv)
    ∙ ap (λ o. (o >>= λ b. (operand_of (operand_token w) >>= λ d. Some (instr_of_sign x v d b))) >>= λ b. only_if (is_word (codes "=") (word "=")) (Some (Plain b))) (sign_made s)
    ∙ ap (λ o. (o >>= λ d. Some (instr_of_sign x v d s)) >>= λ b. only_if (is_word (codes "=") (word "=")) (Some (Plain b))) (operand_made w hw)

let_complete : (x : List ℕ) (v : Operand) → IsName x → IsOperand v → let_of (Word x ∷ word "=" ∷ operand_token v ∷ []) ≡ Some (Plain (instr.Let x v))
let_complete x v hx hv =
    ap (λ o. o >>= λ a. (let_value a (operand_token v ∷ []) >>= λ b. only_if (is_word (codes "=") (word "=")) (Some (Plain b)))) (name_made x hx)
    ∙ ap (λ o. (o >>= λ a. Some (instr.Let x a)) >>= λ b. only_if (is_word (codes "=") (word "=")) (Some (Plain b))) (operand_made v hv)

int_complete : (x : List ℕ) (v : Operand) → IsName x → IsOperand v → let_of (Word x ∷ word "=" ∷ word "int" ∷ operand_token v ∷ []) ≡ Some (Plain (instr.ToInt x v))
int_complete x v hx hv =
    ap (λ o. o >>= λ a. (let_value a (word "int" ∷ operand_token v ∷ []) >>= λ b. only_if (is_word (codes "=") (word "=")) (Some (Plain b)))) (name_made x hx)
    ∙ ap (λ o. (o >>= λ a. only_if (is_word (codes "int") (word "int")) (Some (instr.ToInt x a))) >>= λ b. only_if (is_word (codes "=") (word "=")) (Some (Plain b))) (operand_made v hv)

-- `else L` at the end
abbrev NoElse : List Token → Type 0
NoElse = AllByRecursion (λ t. is_word (codes "else") t ≡ false)

prefix_complete : {A : Type 0} (q : A → Bool) (front : List A) (x : A) (rest : List A) → AllByRecursion (λ y. q y ≡ true) front → q x ≡ false → prefix_len q (front ++ x ∷ rest) ≡ length front
prefix_complete q [] x rest h miss = rw miss refl
prefix_complete q (y ∷ front) x rest h miss = let hit : q y ≡ true = h.0 in rw hit (omega (arith, prefix_complete q front x rest h.1 miss))

no_else_test : (front : List Token) → NoElse front → AllByRecursion (λ t. not (is_word (codes "else") t) ≡ true) front
no_else_test [] h = tt
no_else_test (t ∷ ts) h = (ap not h.0, no_else_test ts h.1)

take_front : {A : Type 0} (xs ys : List A) → take (length xs) (xs ++ ys) ≡ xs
take_front [] ys = refl
take_front (x ∷ xs) ys = ap (λ l. x ∷ l) (take_front xs ys)

drop_front : {A : Type 0} (xs : List A) (y : A) (ys : List A) → drop (suc (length xs)) (xs ++ y ∷ ys) ≡ ys
drop_front [] y ys = refl
drop_front (x ∷ xs) y ys = drop_front xs y ys

abbrev with_label : List Token → Option (List ℕ) → Option (List Token × List ℕ)
with_label front o = o >>= λ l. Some (front, l)

else_complete : (front : List Token) (l : List ℕ) → NoElse front → IsName l → else_of (front ++ word "else" ∷ Word l ∷ []) ≡ Some (front, l)
else_complete front l none ok =
    let ts : List Token = front ++ word "else" ∷ Word l ∷ [] in
    let q : Token → Bool = λ t. not (is_word (codes "else") t) in
    let at : prefix_len q ts ≡ length front = prefix_complete q front (word "else") (Word l ∷ []) (no_else_test front none) refl in
    let inside : ltb (prefix_len q ts) (length ts) ≡ true = lt-ltb _ _ (omega (arith, length-append front (word "else" ∷ Word l ∷ []))) in
    let place : position (is_word (codes "else")) ts ≡ Some (length front) = ap (λ b. cond b (Some (prefix_len q ts)) None) inside ∙ ap Some at in
    let behind : drop (length front + 1) ts ≡ Word l ∷ [] = ap (λ n. drop n ts) (add-one (length front)) ∙ drop_front front (word "else") (Word l ∷ []) in
    ap (λ o. o >>= else_at ts) place
    ∙ ap (with_label (take (length front) ts)) (ap last_label behind ∙ name_made l ok)
    ∙ ap (λ f. with_label f (Some l)) (take_front front (word "else" ∷ Word l ∷ []))

form_complete : (form : List Token → List ℕ → Option Line) (front : List Token) (l : List ℕ) → NoElse front → IsName l → with_else form (front ++ word "else" ∷ Word l ∷ []) ≡ form front l
form_complete form front l none ok = ap (λ o. o >>= λ e. form e.0 e.1) (else_complete front l none ok)

name_no_else : (x : List ℕ) → IsName x → is_word (codes "else") (Word x) ≡ false
name_no_else x h = not_name x (codes "else") h refl

operand_no_else : (v : Operand) → IsOperand v → is_word (codes "else") (operand_token v) ≡ false
operand_no_else (Constant value.Null) h = refl
operand_no_else (Constant (value.Int z)) h = refl
operand_no_else (Constant (value.Text t)) h = refl
operand_no_else (Variable x) h = name_no_else x h

mode_no_else : (m : OpenMode) → is_word (codes "else") (Word (mode_text m)) ≡ false
mode_no_else mode.Read = refl
mode_no_else mode.Write = refl
mode_no_else mode.Append = refl
mode_no_else mode.New = refl

operands_no_else : (vs : List Operand) → AllByRecursion IsOperand vs → NoElse (map operand_token vs)
operands_no_else [] h = tt
operands_no_else (v ∷ vs) h = (operand_no_else v h.0, operands_no_else vs h.1)

names_no_else : (xs : List (List ℕ)) → AllByRecursion IsName xs → NoElse (map Word xs)
names_no_else [] h = tt
names_no_else (x ∷ xs) h = (name_no_else x h.0, names_no_else xs h.1)

plain_complete : (i : Instr) → place_of i ≡ None → HasForm i → form_of (tokens_for i []) ≡ Some (Plain i)
plain_complete (instr.Let x v) p h = let_complete x v h.0 h.1
plain_complete (instr.Calc x Add v w) p h = signed_complete x v w Plus h.0 h.1 h.2
plain_complete (instr.Calc x Subtract v w) p h = signed_complete x v w Minus h.0 h.1 h.2
plain_complete (instr.Calc x Multiply v w) p h = signed_complete x v w Times h.0 h.1 h.2
plain_complete (instr.Glue x v w) p h = signed_complete x v w Join h.0 h.1 h.2
plain_complete (instr.ToInt x v) p h = int_complete x v h.0 h.1
plain_complete (instr.Cut x y v) p h = cut_complete x y v h.0 h.1 h.3 h.2
plain_complete (instr.Jump place) p h = cc
plain_complete (instr.JumpIf op v w place) p h = cc
plain_complete (instr.Print []) p h = absurd (h.0 refl)
plain_complete (instr.Print (v ∷ vs)) p h = print_complete (v ∷ vs) h
plain_complete (instr.Exit v) p h = exit_complete v h
plain_complete (instr.OpenPath f m v place) p h = cc
plain_complete (instr.ReadLine x f place) p h = cc
plain_complete (instr.WriteLine f vs) p h = write_complete f vs h.0 (h.1, h.2)
plain_complete (instr.CopyRest f g) p h = copy_complete f g h.0 h.1
plain_complete (instr.Close f) p h = close_complete f h
plain_complete (instr.Remove v place) p h = cc
plain_complete (instr.Exists x v) p h = exists_complete x v h.0 h.1
plain_complete (instr.Spawn c v vs place) p h = cc
plain_complete (instr.Wait x c) p h = wait_complete x c h.0 h.1
plain_complete (instr.Sql c v vs) p h = sql_complete c v vs h.0 h.1 h.2
plain_complete (instr.Fetch c xs place) p h = cc
plain_complete (instr.Count x c) p h = count_complete x c h.0 h.1
plain_complete (instr.Status x c) p h = status_complete x c h.0 h.1

same_place : (a b : ℕ) → Some a ≡ Some b → b ≡ a
same_place a b h = cc

jumping_complete : (i : Instr) (l : List ℕ) → place_of i ≡ Some 0 → HasForm i → IsName l → form_of (tokens_for i l) ≡ Some (Jumping i l)
jumping_complete (instr.Jump place) l p h ok = goto_complete l ok ∙ ap (λ q. Some (Jumping (instr.Jump q) l)) (same_place place 0 p)
jumping_complete (instr.JumpIf op v w place) l p h ok = if_complete v op w l h.0 h.1 ok ∙ ap (λ q. Some (Jumping (instr.JumpIf op v w q) l)) (same_place place 0 p)
jumping_complete (instr.OpenPath f m v place) l p h ok =
    form_complete open_of (Word f ∷ Word (mode_text m) ∷ operand_token v ∷ []) l (name_no_else f h.0, (mode_no_else m, (operand_no_else v h.1, tt))) ok
    ∙ open_complete f m v l h.0 h.1 ∙ ap (λ q. Some (Jumping (instr.OpenPath f m v q) l)) (same_place place 0 p)
jumping_complete (instr.ReadLine x f place) l p h ok =
    form_complete readline_of (Word x ∷ Word f ∷ []) l (name_no_else x h.0, (name_no_else f h.1, tt)) ok
    ∙ readline_complete x f l h.0 h.1 ∙ ap (λ q. Some (Jumping (instr.ReadLine x f q) l)) (same_place place 0 p)
jumping_complete (instr.Remove v place) l p h ok =
    form_complete remove_of (operand_token v ∷ []) l (operand_no_else v h, tt) ok ∙ remove_complete v l h ∙ ap (λ q. Some (Jumping (instr.Remove v q) l)) (same_place place 0 p)
jumping_complete (instr.Spawn c v vs place) l p h ok =
    form_complete spawn_of (Word c ∷ operand_token v ∷ map operand_token vs) l (name_no_else c h.0, (operand_no_else v h.1, operands_no_else vs h.2.1)) ok
    ∙ spawn_complete c v vs l h.0 h.1 h.2 ∙ ap (λ q. Some (Jumping (instr.Spawn c v vs q) l)) (same_place place 0 p)
jumping_complete (instr.Fetch c xs place) l p h ok =
    form_complete fetch_of (Word c ∷ map Word xs) l (name_no_else c h.0, names_no_else xs h.2.1) ok
    ∙ fetch_complete c xs l h.0 (h.1, h.2) ∙ ap (λ q. Some (Jumping (instr.Fetch c xs q) l)) (same_place place 0 p)
jumping_complete (instr.Let x v) l p h ok = cc
jumping_complete (instr.Calc x op v w) l p h ok = cc
jumping_complete (instr.Glue x v w) l p h ok = cc
jumping_complete (instr.ToInt x v) l p h ok = cc
jumping_complete (instr.Cut x y v) l p h ok = cc
jumping_complete (instr.Print vs) l p h ok = cc
jumping_complete (instr.Exit v) l p h ok = cc
jumping_complete (instr.WriteLine f vs) l p h ok = cc
jumping_complete (instr.CopyRest f g) l p h ok = cc
jumping_complete (instr.Close f) l p h ok = cc
jumping_complete (instr.Exists x v) l p h ok = cc
jumping_complete (instr.Wait x c) l p h ok = cc
jumping_complete (instr.Sql c v vs) l p h ok = cc
jumping_complete (instr.Count x c) l p h ok = cc
jumping_complete (instr.Status x c) l p h ok = cc

pub forms_complete : (line : Line) (ts : List Token) → IsForm line ts → form_of ts ≡ Some line
forms_complete Blank ts h = ap form_of h
forms_complete (Label l) ts h =
    ap form_of h.1 ∙ ap (λ o. o >>= λ front. (name_in front >>= λ name. Some (Label name))) (colon_found l)
    ∙ ap (λ o. o >>= λ name. Some (Label name)) (name_made l h.0)
forms_complete (Plain i) ts h = ap form_of h.2 ∙ plain_complete i h.0 h.1
forms_complete (Jumping i l) ts h = ap form_of h.3 ∙ jumping_complete i l h.0 h.1 h.2
