-- Statements and texts: reading agrees with the grammar.
use Rattle.std.proofs.Common.{◌≡◌, ◌≢◌, ℕ, zero, suc, ◌+◌, ◌≤◌, List, [], ◌∷◌, ◌++◌, length, drop, refl, sym, ap, ◌∙◌, subst, true, false, Some, None, inl, inr, arith}
use Rattle.std.specs.Prelude.{Option, ◌==◌, if◌then◌else◌, codes, slice_get, IsUtf8}
use Rattle.std.proofs.lemmas.Bool.{cases_Bool, eqb-true, eq-eqb, false≢true}
use Rattle.ldv_value.specs.declared.value.Value.{Value}
use Rattle.sql_model.specs.declared.expr.Expr.{Expr}
use Rattle.sql_model.specs.declared.statement.Delete.{Delete}
use Rattle.sql_model.specs.declared.statement.Insert.{Insert}
use Rattle.sql_model.specs.declared.statement.Query.{Query}
use Rattle.sql_model.specs.declared.statement.Set.{Set}
use Rattle.sql_model.specs.declared.statement.Statement.{Statement}
use Rattle.sql_model.specs.declared.statement.Statement.TheVariants as statement
use Rattle.sql_model.specs.declared.statement.Update.{Update}
use Rattle.sql_model.specs.declared.reading.LexState.TheVariants.{Between}
use Rattle.sql_model.specs.declared.token.Token.{Token}
use Rattle.sql_model.specs.declared.token.Token.TheVariants.{Word, Number, Quoted, Given}
use Rattle.ldv_value.specs.Options.{◌>>=◌, only_if}
use Rattle.sql_model.specs.Grammar.{word}
use Rattle.sql_model.specs.GrammarOfStatements.{Then, After, Optionally, IsCommaList, IsNameToken, IsExpression, AreColumns, IsTuple, IsSet, IsStatement, IsEnd, IsWhole, IsGiven, Reads}
use Rattle.sql_model.specs.Parts.{reads_optional}
use Rattle.sql_model.specs.Queries.{reads_query}
use Rattle.sql_model.specs.Reader.{is_word, starts, tail}
use Rattle.sql_model.specs.Texts.{reads_insert, reads_set, reads_update, reads_delete, reads_statement, with_parameters, is_end, whole_statement, statement_of}
use Rattle.sql_model.specs.Tokens.{tokens_of}
use Rattle.sql_parse.proofs.Choices.{choose}
use Rattle.sql_parse.proofs.ExpressionsLaw.{starts_is, text_is}
use Rattle.sql_parse.proofs.Follows.{ends_by, Follows, follows_after, follows_optional}
use Rattle.sql_parse.proofs.Laws.{Law, state_law, after_law, then_law, made_law, optional_law, named_law}
use Rattle.ldv_value.proofs.Options.{bind-some, only_if-some, same-some}
use Rattle.sql_parse.proofs.PartsLaw.{comma, expr_law, listed_law, columns_law, tuple_law, after_filled, named_filled, then_filled}
use Rattle.sql_parse.proofs.QueriesLaw.{after_all, query_law, query_start}
use Rattle.sql_parse.proofs.TokensRead.{tokens_complete}
use Rattle.sql_parse.proofs.TokensSound.{tokens_sound}

-- ---- INSERT

abbrev RowsForm : List ℕ → Option (List (List ℕ)) → Insert → List Token → Type 0
RowsForm t c i ts = (r : List (List Expr)) × (i ≡ record { table = t; columns = c; rows = r }) × IsCommaList IsTuple r ts

abbrev ValuesForm : List ℕ → Insert → List Token → Type 0
ValuesForm t i ts = (c : Option (List (List ℕ))) × Then (AreColumns c) (λ ts. After "values" (λ ts. RowsForm t c i ts) ts) ts

abbrev InsertForm : Insert → List Token → Type 0
InsertForm i ts = After "into" (λ ts. (t : List ℕ) × Then (IsNameToken t) (λ ts. ValuesForm t i ts) ts) ts

-- what stands after the word INSERT
abbrev InsertRest : Insert → List Token → Type 0
InsertRest i ts = After "into" (Then (IsNameToken i.table) (Then (AreColumns i.columns) (After "values" (IsCommaList IsTuple i.rows)))) ts

insert_to : (i : Insert) (ts : List Token) → InsertForm i ts → InsertRest i ts
insert_to i ts (more, e, (t, (f1, b1, e1, named, (c, (f2, b2, e2, columns, (m3, e3, (r, made, list))))))) =
    subst (λ (j : Insert). InsertRest j ts) (sym made) (more, e, (f1, b1, e1, named, (f2, b2, e2, columns, (m3, e3, list))))

insert_from : (i : Insert) (ts : List Token) → InsertRest i ts → InsertForm i ts
insert_from i ts (more, e, (f1, b1, e1, named, (f2, b2, e2, columns, (m3, e3, list)))) =
    (more, e, (i.table, (f1, b1, e1, named, (i.columns, (f2, b2, e2, columns, (m3, e3, (i.rows, refl, list)))))))

tuple_filled : (t : List Expr) (ts : List Token) → IsTuple t ts → 1 ≤ length ts
tuple_filled t ts form = after_filled "(" ts form

insert_law : Law InsertRest after_all reads_insert
insert_law =
    state_law InsertForm InsertRest after_all reads_insert
    (after_law "into" (named_law (λ t. then_law (columns_law (codes "values" ∷ []) refl)
    (λ c. after_law "values" (made_law (λ (r : List (List Expr)). record { table = t; columns = c; rows = r }) (listed_law after_all (tuple_law (comma ∷ after_all)) tuple_filled refl refl)))
    (λ c i. follows_after "values" after_all (codes "values" ∷ []) refl))))
    insert_to insert_from

-- ---- UPDATE

abbrev after_sets : List (List ℕ)
after_sets = codes "where" ∷ after_all

abbrev SetForm : Set → List Token → Type 0
SetForm s ts = (n : List ℕ) × Then (IsNameToken n) (λ ts. After "=" (λ ts. (e : Expr) × (s ≡ record { column = n; expr = e }) × IsExpression e ts) ts) ts

set_to : (s : Set) (ts : List Token) → SetForm s ts → IsSet s ts
set_to s ts (n, (front, back, e, named, (more, is, (x, made, expr)))) = subst (λ (r : Set). IsSet r ts) (sym made) (front, back, e, named, (more, is, expr))

set_from : (s : Set) (ts : List Token) → IsSet s ts → SetForm s ts
set_from s ts (front, back, e, named, (more, is, expr)) = (s.column, (front, back, e, named, (more, is, (s.expr, refl, expr))))

set_law : Law IsSet (comma ∷ after_sets) reads_set
set_law =
    state_law SetForm IsSet (comma ∷ after_sets) reads_set
    (named_law (λ n. after_law "=" (made_law (λ (e : Expr). record { column = n; expr = e }) (expr_law (comma ∷ after_sets) refl refl)))) set_to set_from

set_filled : (s : Set) (ts : List Token) → IsSet s ts → 1 ≤ length ts
set_filled s ts form = then_filled ts (named_filled s.column) form

where_law : Law (λ o ts. Optionally "where" IsExpression o ts) after_all (reads_optional (codes "where"))
where_law = optional_law "where" (expr_law after_all refl refl) refl

abbrev PickForm : List ℕ → List Set → Update → List Token → Type 0
PickForm t s u ts = (w : Option Expr) × (u ≡ record { table = t; sets = s; pick = w }) × Optionally "where" IsExpression w ts

abbrev SetsForm : List ℕ → Update → List Token → Type 0
SetsForm t u ts = (s : List Set) × Then (IsCommaList IsSet s) (λ ts. PickForm t s u ts) ts

abbrev UpdateForm : Update → List Token → Type 0
UpdateForm u ts = (t : List ℕ) × Then (IsNameToken t) (λ ts. After "set" (λ ts. SetsForm t u ts) ts) ts

abbrev UpdateRest : Update → List Token → Type 0
UpdateRest u ts = Then (IsNameToken u.table) (After "set" (Then (IsCommaList IsSet u.sets) (Optionally "where" IsExpression u.pick))) ts

update_to : (u : Update) (ts : List Token) → UpdateForm u ts → UpdateRest u ts
update_to u ts (t, (f1, b1, e1, named, (more, e, (s, (f2, b2, e2, sets, (w, made, pick)))))) =
    subst (λ (v : Update). UpdateRest v ts) (sym made) (f1, b1, e1, named, (more, e, (f2, b2, e2, sets, pick)))

update_from : (u : Update) (ts : List Token) → UpdateRest u ts → UpdateForm u ts
update_from u ts (f1, b1, e1, named, (more, e, (f2, b2, e2, sets, pick))) = (u.table, (f1, b1, e1, named, (more, e, (u.sets, (f2, b2, e2, sets, (u.pick, refl, pick))))))

follows_pick : (t : List ℕ) (s : List Set) (u : Update) → Follows (PickForm t s u) after_all after_sets
follows_pick t s u ts rest form h = follows_optional IsExpression "where" after_all after_sets form.0 refl refl ts rest form.2 h

update_law : Law UpdateRest after_all reads_update
update_law =
    state_law UpdateForm UpdateRest after_all reads_update
    (named_law (λ t. after_law "set" (then_law (listed_law after_sets set_law set_filled refl refl)
    (λ s. made_law (λ (w : Option Expr). record { table = t; sets = s; pick = w }) where_law) (λ s u. follows_pick t s u))))
    update_to update_from

-- ---- DELETE

abbrev DeleteForm : Delete → List Token → Type 0
DeleteForm d ts = After "from" (λ ts. (t : List ℕ) × Then (IsNameToken t) (λ ts. (w : Option Expr) × (d ≡ record { table = t; pick = w }) × Optionally "where" IsExpression w ts) ts) ts

abbrev DeleteRest : Delete → List Token → Type 0
DeleteRest d ts = After "from" (Then (IsNameToken d.table) (Optionally "where" IsExpression d.pick)) ts

delete_to : (d : Delete) (ts : List Token) → DeleteForm d ts → DeleteRest d ts
delete_to d ts (more, e, (t, (f1, b1, e1, named, (w, made, pick)))) = subst (λ (x : Delete). DeleteRest x ts) (sym made) (more, e, (f1, b1, e1, named, pick))

delete_from : (d : Delete) (ts : List Token) → DeleteRest d ts → DeleteForm d ts
delete_from d ts (more, e, (f1, b1, e1, named, pick)) = (more, e, (d.table, (f1, b1, e1, named, (d.pick, refl, pick))))

delete_law : Law DeleteRest after_all reads_delete
delete_law =
    state_law DeleteForm DeleteRest after_all reads_delete
    (after_law "from" (named_law (λ t. made_law (λ (w : Option Expr). record { table = t; pick = w }) where_law))) delete_to delete_from

-- ---- statements

abbrev StatementRead : List Token → Statement → List Token → Type 0
StatementRead ts s rest = (front : List Token) × (ts ≡ front ++ rest) × IsStatement s front

abbrev made_of : {A : Type 0} → (A → Statement) → A × List Token → Option (Statement × List Token)
made_of make r = Some (make r.0, r.1)

-- a statement that one of the three words begins
changed : {A : Type 0} {Form : A → List Token → Type 0} {read : List Token → Option (A × List Token)} (w : List ℕ) (make : A → Statement) (ts : List Token) (s : Statement) (rest : List Token) → Law Form after_all read
    → ((a : A) (more : List Token) → Form a more → IsStatement (make a) (Word w ∷ more)) → starts w ts ≡ true
    → (read (tail ts) >>= λ r. made_of make r) ≡ Some (s, rest) → StatementRead ts s rest
changed {A = A} {read = read} w make ts s rest law form is h =
    let p : (r : A × List Token) × (read (tail ts) ≡ Some r) × (made_of make r ≡ Some (s, rest)) = bind-some (read (tail ts)) (λ r. made_of make r) (s, rest) h in
    let q = law.sound (tail ts) p.0.0 p.0.1 p.1 in
    subst (λ (x : Statement × List Token). StatementRead ts x.0 x.1) (same-some _ _ p.2) (Word w ∷ q.0, starts_is w ts is ∙ ap (λ (l : List Token). Word w ∷ l) q.1, form p.0.0 q.0 q.2)

statement_sound : (ts : List Token) (s : Statement) (rest : List Token) → reads_statement ts ≡ Some (s, rest) → StatementRead ts s rest
statement_sound ts s rest h =
    choose (starts (codes "select") ts) _ _ (s, rest) h
    (λ is made.
    let p : (r : Query × List Token) × (reads_query ts ≡ Some r) × (Some (statement.Query r.0, r.1) ≡ Some (s, rest)) = bind-some (reads_query ts) (λ r. Some (statement.Query r.0, r.1)) (s, rest) made in
    let q = query_law.sound ts p.0.0 p.0.1 p.1 in
    subst (λ (x : Statement × List Token). StatementRead ts x.0 x.1) (same-some _ _ p.2) (q.0, q.1, q.2)) (λ n1 h1.
    choose (starts (codes "insert") ts) _ _ (s, rest) h1 (λ is made. changed (codes "insert") (λ i. statement.Insert i) ts s rest insert_law (λ i more form. (more, refl, form)) is made) (λ n2 h2.
    choose (starts (codes "update") ts) _ _ (s, rest) h2 (λ is made. changed (codes "update") (λ u. statement.Update u) ts s rest update_law (λ u more form. (more, refl, form)) is made) (λ n3 h3.
    choose (starts (codes "delete") ts) _ _ (s, rest) h3 (λ is made. changed (codes "delete") (λ d. statement.Delete d) ts s rest delete_law (λ d more form. (more, refl, form)) is made) (λ n4 h4.
    let none : None ≡ Some (s, rest) = h4 in absurd cc))))

abbrev change_read : List Token → Option (Statement × List Token)
change_read ts =
    if starts (codes "insert") ts then (reads_insert (tail ts) >>= λ r. Some (statement.Insert r.0, r.1))
    else if starts (codes "update") ts then (reads_update (tail ts) >>= λ r. Some (statement.Update r.0, r.1))
    else if starts (codes "delete") ts then (reads_delete (tail ts) >>= λ r. Some (statement.Delete r.0, r.1))
    else None

statement_complete : (s : Statement) (front rest : List Token) → IsStatement s front → ends_by after_all rest ≡ true → reads_statement (front ++ rest) ≡ Some (s, rest)
statement_complete (statement.Query q) front rest form ends =
    ap (λ b. if b then (reads_query (front ++ rest) >>= λ r. Some (statement.Query r.0, r.1)) else change_read (front ++ rest)) (query_start q front rest form)
    ∙ ap (λ (o : Option (Query × List Token)). o >>= λ r. Some (statement.Query r.0, r.1)) (query_law.complete front rest q form ends)
statement_complete (statement.Insert i) front rest (more, e, form) ends =
    ap (λ (l : List Token). reads_statement (l ++ rest)) e ∙ ap (λ (o : Option (Insert × List Token)). o >>= λ r. Some (statement.Insert r.0, r.1)) (insert_law.complete more rest i form ends)
statement_complete (statement.Update u) front rest (more, e, form) ends =
    ap (λ (l : List Token). reads_statement (l ++ rest)) e ∙ ap (λ (o : Option (Update × List Token)). o >>= λ r. Some (statement.Update r.0, r.1)) (update_law.complete more rest u form ends)
statement_complete (statement.Delete d) front rest (more, e, form) ends =
    ap (λ (l : List Token). reads_statement (l ++ rest)) e ∙ ap (λ (o : Option (Delete × List Token)). o >>= λ r. Some (statement.Delete r.0, r.1)) (delete_law.complete more rest d form ends)

-- ---- the end of a text

empty_is : (ts : List Token) → (length ts == 0) ≡ true → ts ≡ []
empty_is [] h = refl
empty_is (t ∷ ts) h = absurd (omega (arith, eqb-true (length (t ∷ ts)) 0 h))

end_sound : (ts : List Token) → is_end ts ≡ true → IsEnd ts
end_sound ts h = elim (cases_Bool (starts (codes ";") ts)) [
  | inl is ↦
      let h2 : (length (tail ts) == 0) ≡ true = sym (ap (λ b. length (if b then tail ts else ts) == 0) is) ∙ h in
      inr (starts_is (codes ";") ts is ∙ ap (λ (l : List Token). word ";" ∷ l) (empty_is (tail ts) h2))
  | inr other ↦
      let h2 : (length ts == 0) ≡ true = sym (ap (λ b. length (if b then tail ts else ts) == 0) other) ∙ h in
      inl (empty_is ts h2)
]

end_complete : (ts : List Token) → IsEnd ts → (is_end ts ≡ true) × (ends_by after_all ts ≡ true)
end_complete ts (inl e) = (ap is_end e, ap (ends_by after_all) e)
end_complete ts (inr e) = (ap is_end e, ap (ends_by after_all) e)

whole_sound : (ts : List Token) (s : Statement) → whole_statement ts ≡ Some s → IsWhole s ts
whole_sound ts s h =
    let p : (r : Statement × List Token) × (reads_statement ts ≡ Some r) × (only_if (is_end r.1) (Some r.0) ≡ Some s) = bind-some (reads_statement ts) (λ r. only_if (is_end r.1) (Some r.0)) s h in
    let q : (is_end p.0.1 ≡ true) × (Some p.0.0 ≡ Some s) = only_if-some (is_end p.0.1) (Some p.0.0) s p.2 in
    let r : StatementRead ts p.0.0 p.0.1 = statement_sound ts p.0.0 p.0.1 p.1 in
    (r.0, p.0.1, r.1, subst (λ (x : Statement). IsStatement x r.0) (same-some _ _ q.1) r.2, end_sound p.0.1 q.0)

whole_complete : (ts : List Token) (s : Statement) → IsWhole s ts → whole_statement ts ≡ Some s
whole_complete ts s (front, back, e, form, last) =
    let ends = end_complete back last in
    ap whole_statement e ∙ ap (λ (o : Option (Statement × List Token)). o >>= λ r. only_if (is_end r.1) (Some r.0)) (statement_complete s front back form ends.1) ∙ ap (λ b. only_if b (Some s)) ends.0

-- ---- parameters

drop_some : (xs : List Value) (i : ℕ) (x : Value) → slice_get xs i ≡ Some x → drop i xs ≡ x ∷ drop (suc i) xs
drop_some [] i x is = cc
drop_some (y ∷ xs) zero x is = cc
drop_some (y ∷ xs) (suc i) x is = drop_some xs i x is

drop_get : (xs : List Value) (i : ℕ) (x : Value) (more : List Value) → drop i xs ≡ x ∷ more → (slice_get xs i ≡ Some x) × (drop (suc i) xs ≡ more)
drop_get [] zero x more e = absurd cc
drop_get [] (suc i) x more e = absurd cc
drop_get (y ∷ xs) zero x more e = (cc, cc)
drop_get (y ∷ xs) (suc i) x more e = drop_get xs i x more e

drop_nothing : (xs : List Value) (i : ℕ) → i ≡ length xs → drop i xs ≡ []
drop_nothing [] zero e = refl
drop_nothing [] (suc i) e = refl
drop_nothing (x ∷ xs) zero e = absurd (omega (arith, e))
drop_nothing (x ∷ xs) (suc i) e = drop_nothing xs i (omega (arith, e))

drop_ends : (xs : List Value) (i : ℕ) → i ≤ length xs → drop i xs ≡ [] → i ≡ length xs
drop_ends [] zero h e = refl
drop_ends [] (suc i) h e = absurd (omega (arith, h))
drop_ends (x ∷ xs) zero h e = absurd cc
drop_ends (x ∷ xs) (suc i) h e = let same : i ≡ length xs = drop_ends xs i (omega (arith, h)) e in omega (arith, same)

place_within : (xs : List Value) (i : ℕ) (x : Value) (more : List Value) → drop i xs ≡ x ∷ more → suc i ≤ length xs
place_within [] zero x more e = absurd cc
place_within [] (suc i) x more e = absurd cc
place_within (y ∷ xs) zero x more e = omega arith
place_within (y ∷ xs) (suc i) x more e = let h : suc i ≤ length xs = place_within xs i x more e in omega (arith, h)

word_is_mark : (t : Token) → is_word (codes "?") t ≡ true → t ≡ word "?"
word_is_mark (Word w) h = ap Word (text_is w (codes "?") h)
word_is_mark (Number z) h = absurd (false≢true h)
word_is_mark (Quoted u) h = absurd (false≢true h)
word_is_mark (Given v) h = absurd (false≢true h)

no_mark : (t : Token) → t ≢ word "?" → is_word (codes "?") t ≡ false
no_mark t not = elim (cases_Bool (is_word (codes "?") t)) [
  | inl is ↦ absurd (not (word_is_mark t is))
  | inr other ↦ other
]

mark_not : (t : Token) → is_word (codes "?") t ≡ false → t ≢ word "?"
mark_not t other e = false≢true (sym other ∙ ap (is_word (codes "?")) e)

plus_one : (n : ℕ) → n + 1 ≡ suc n
plus_one n = omega arith

abbrev placed_rest : List Value → List Token → Token × ℕ → Option (List Token)
placed_rest params ts r = with_parameters params r.1 ts >>= λ rest. Some (r.0 ∷ rest)

given_sound : (ts : List Token) (params : List Value) (place : ℕ) (given : List Token) → with_parameters params place ts ≡ Some given → IsGiven (drop place params) ts given
given_sound [] params place given h =
    let p : (place == length params ≡ true) × (Some [] ≡ Some given) = only_if-some (place == length params) (Some []) given h in
    (drop_nothing params place (eqb-true place (length params) p.0), sym (same-some _ _ p.1))
given_sound (t ∷ ts) params place given h = elim (cases_Bool (is_word (codes "?") t)) [
  | inl mark ↦
      let h2 : ((slice_get params place >>= λ v. Some (Given v, place + 1)) >>= λ r. placed_rest params ts r) ≡ Some given =
      sym (ap (λ b. (if b then (slice_get params place >>= λ v. Some (Given v, place + 1)) else Some (t, place)) >>= λ r. placed_rest params ts r) mark) ∙ h in
      let p : (r : Token × ℕ) × ((slice_get params place >>= λ v. Some (Given v, place + 1)) ≡ Some r) × (placed_rest params ts r ≡ Some given) =
      bind-some (slice_get params place >>= λ v. Some (Given v, place + 1)) (λ r. placed_rest params ts r) given h2 in
      let q : (v : Value) × (slice_get params place ≡ Some v) × (Some (Given v, place + 1) ≡ Some p.0) = bind-some (slice_get params place) (λ v. Some (Given v, place + 1)) p.0 p.1 in
      let next : (Given q.0, place + 1) ≡ p.0 = same-some _ _ q.2 in
      let h3 : placed_rest params ts (Given q.0, place + 1) ≡ Some given = ap (λ (r : Token × ℕ). placed_rest params ts r) next ∙ p.2 in
      let r : (rest : List Token) × (with_parameters params (place + 1) ts ≡ Some rest) × (Some (Given q.0 ∷ rest) ≡ Some given) = bind-some (with_parameters params (place + 1) ts) (λ rest. Some (Given q.0 ∷ rest)) given h3 in
      let others : IsGiven (drop (suc place) params) ts r.0 = subst (λ (n : ℕ). IsGiven (drop n params) ts r.0) (plus_one place) (given_sound ts params (place + 1) r.0 r.1) in
      inl (word_is_mark t mark, (q.0, drop (suc place) params, r.0, drop_some params place q.0 q.1, sym (same-some _ _ r.2), others))
  | inr other ↦
      let h2 : placed_rest params ts (t, place) ≡ Some given =
      sym (ap (λ b. (if b then (slice_get params place >>= λ v. Some (Given v, place + 1)) else Some (t, place)) >>= λ r. placed_rest params ts r) other) ∙ h in
      let r : (rest : List Token) × (with_parameters params place ts ≡ Some rest) × (Some (t ∷ rest) ≡ Some given) = bind-some (with_parameters params place ts) (λ rest. Some (t ∷ rest)) given h2 in
      inr (mark_not t other, (r.0, sym (same-some _ _ r.2), given_sound ts params place r.0 r.1))
]

given_complete : (ts : List Token) (params : List Value) (place : ℕ) (given : List Token) → place ≤ length params → IsGiven (drop place params) ts given → with_parameters params place ts ≡ Some given
given_complete [] params place given within (none, e) =
    ap (λ b. only_if b (Some [])) (eq-eqb place (length params) (drop_ends params place within none)) ∙ ap (λ (l : List Token). Some l) (sym e)
given_complete (t ∷ ts) params place given within (inl (mark, (v, more, rest, some, e, others))) =
    let g : (slice_get params place ≡ Some v) × (drop (suc place) params ≡ more) = drop_get params place v more some in
    let is : is_word (codes "?") t ≡ true = ap (is_word (codes "?")) mark in
    let next : place + 1 ≤ length params = omega (arith, place_within params place v more some) in
    let after : IsGiven (drop (place + 1) params) ts rest = subst (λ (n : ℕ). IsGiven (drop n params) ts rest) (sym (plus_one place)) (subst (λ (l : List Value). IsGiven l ts rest) (sym g.1) others) in
    ap (λ b. (if b then (slice_get params place >>= λ v. Some (Given v, place + 1)) else Some (t, place)) >>= λ r. placed_rest params ts r) is
    ∙ ap (λ (o : Option Value). (o >>= λ v. Some (Given v, place + 1)) >>= λ r. placed_rest params ts r) g.0
    ∙ ap (λ (o : Option (List Token)). o >>= λ rest. Some (Given v ∷ rest)) (given_complete ts params (place + 1) rest next after) ∙ ap (λ (l : List Token). Some l) (sym e)
given_complete (t ∷ ts) params place given within (inr (other, (rest, e, others))) =
    ap (λ b. (if b then (slice_get params place >>= λ v. Some (Given v, place + 1)) else Some (t, place)) >>= λ r. placed_rest params ts r) (no_mark t other)
    ∙ ap (λ (o : Option (List Token)). o >>= λ rest. Some (t ∷ rest)) (given_complete ts params place rest within others) ∙ ap (λ (l : List Token). Some l) (sym e)

-- ---- texts

drop_none : (params : List Value) → drop 0 params ≡ params
drop_none [] = refl
drop_none (p ∷ params) = refl

pub reading_sound : (text : List ℕ) (params : List Value) (s : Statement) → statement_of text params ≡ Some s → Reads text params s
reading_sound text params s h =
    let p : (ts : List Token) × (tokens_of text ≡ Some ts) × ((with_parameters params 0 ts >>= λ given. whole_statement given) ≡ Some s) = bind-some (tokens_of text) (λ ts. with_parameters params 0 ts >>= λ given. whole_statement given) s h in
    let q : (given : List Token) × (with_parameters params 0 p.0 ≡ Some given) × (whole_statement given ≡ Some s) = bind-some (with_parameters params 0 p.0) (λ given. whole_statement given) s p.2 in
    (p.0, q.0, tokens_sound text Between p.0 p.1, subst (λ (l : List Value). IsGiven l p.0 q.0) (drop_none params) (given_sound p.0 params 0 q.0 q.1), whole_sound q.0 s q.2)

pub reading_complete : (text : List ℕ) (params : List Value) (s : Statement) → IsUtf8 text → Reads text params s → statement_of text params ≡ Some s
reading_complete text params s u (ts, given, spells, gives, whole) =
    let start : IsGiven (drop 0 params) ts given = subst (λ (l : List Value). IsGiven l ts given) (sym (drop_none params)) gives in
    ap (λ (o : Option (List Token)). o >>= λ ts. with_parameters params 0 ts >>= λ given. whole_statement given) (tokens_complete ts text u spells)
    ∙ ap (λ (o : Option (List Token)). o >>= λ given. whole_statement given) (given_complete ts params 0 given (omega arith) start) ∙ whole_complete given s whole
