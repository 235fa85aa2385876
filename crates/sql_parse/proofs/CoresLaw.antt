-- The cores of a query: reading agrees with the grammar.
use Rattle.std.proofs.Common.{◌≡◌, ℕ, ◌≤◌, List, [], ◌∷◌, ◌++◌, length, refl, sym, ap, ◌∙◌, subst, Bool, true, false, append_assoc}
use Rattle.std.specs.Prelude.{Option, option_to_list, codes}
use Rattle.sql_model.specs.declared.expr.ColumnName.{ColumnName}
use Rattle.sql_model.specs.declared.expr.Expr.{Expr}
use Rattle.sql_model.specs.declared.statement.Core.{Core}
use Rattle.sql_model.specs.declared.statement.Item.{Item}
use Rattle.sql_model.specs.declared.reading.Sources.{Sources}
use Rattle.sql_model.specs.declared.token.Token.{Token}
use Rattle.sql_model.specs.GrammarOfStatements.{Then, After, Flag, Optionally, IsExpression, AreItems, IsColumnAt, IsGroup, IsCore, IsFirstCore, IsUnited, AreCores}
use Rattle.sql_model.specs.Queries.{reads_group, core_end, core_rest, reads_core, reads_cores}
use Rattle.sql_model.specs.Reader.{starts, tokens_past}
use Rattle.sql_parse.proofs.ClausesLaw.{clause_law}
use Rattle.sql_parse.proofs.Follows.{Follows, follows_after, follows_nothing, follows_optional, follows_then}
use Rattle.sql_parse.proofs.Laws.{Law, state_law, after_law, then_law, made_law, optional_law, flag_law}
use Rattle.sql_parse.proofs.PartsLaw.{comma, expr_law, column_law, column_filled, items_law, items_apart, after_filled}
use Rattle.sql_parse.proofs.RepeatLaws.{separated_law}
use Rattle.sql_parse.proofs.SourcesLaw.{after_sources, SourcesForm, sources_law}

-- what may stand after the cores, after one of them, and after the parts of one
abbrev pub after_cores : List (List ℕ)
after_cores = codes "order" ∷ codes "limit" ∷ codes ";" ∷ []

abbrev pub after_core : List (List ℕ)
after_core = codes "union" ∷ after_cores

abbrev after_group : List (List ℕ)
after_group = codes "having" ∷ after_core

abbrev after_where : List (List ℕ)
after_where = codes "group" ∷ after_group

-- ---- GROUP BY

group_law : Law IsGroup after_group reads_group
group_law = clause_law "group" "by" IsColumnAt after_group IsGroup (λ ts. (λ e. e, λ e. e)) (λ c cs ts. (λ form. form, λ form. form)) (column_law (comma ∷ after_group) refl) column_filled refl refl refl

-- ---- what stands after the sources

abbrev ends_core : Bool → Bool → Option (List Item) → Sources → Option Expr → List ColumnName → Option Expr → Core
ends_core all distinct items sources w g h = record { joined_all = all; distinct = distinct; items = items; from = sources.from; picks = sources.picks ++ option_to_list w; group = g; having = h }

abbrev HavingForm : Core → (Option Expr → Core) → List Token → Type 0
HavingForm core make ts = (h : Option Expr) × (core ≡ make h) × Optionally "having" IsExpression h ts

abbrev GroupedForm : Core → (List ColumnName → Option Expr → Core) → List Token → Type 0
GroupedForm core make ts = (g : List ColumnName) × Then (IsGroup g) (λ ts. HavingForm core (make g) ts) ts

abbrev EndForm : Bool → Bool → Option (List Item) → Sources → Core → List Token → Type 0
EndForm all distinct items sources core ts = (w : Option Expr) × Then (λ ts. Optionally "where" IsExpression w ts) (λ ts. GroupedForm core (ends_core all distinct items sources w) ts) ts

follows_having : (core : Core) (make : Option Expr → Core) → Follows (HavingForm core make) after_core after_group
follows_having core make ts rest form h = follows_optional IsExpression "having" after_core after_group form.0 refl refl ts rest form.2 h

follows_group : (g : List ColumnName) → Follows (IsGroup g) after_group after_where
follows_group [] = follows_nothing after_group after_where refl
follows_group (c ∷ cs) = follows_after "group" after_group after_where refl

follows_grouped : (core : Core) (make : List ColumnName → Option Expr → Core) → Follows (GroupedForm core make) after_core after_where
follows_grouped core make ts rest form h = follows_then after_core after_group after_where (follows_group form.0) (follows_having core (make form.0)) ts rest form.1 h

follows_end : (all distinct : Bool) (items : Option (List Item)) (sources : Sources) (core : Core) → Follows (EndForm all distinct items sources core) after_core after_sources
follows_end all distinct items sources core ts rest form h =
    follows_then after_core after_where after_sources (follows_optional IsExpression "where" after_where after_sources form.0 refl refl) (follows_grouped core (ends_core all distinct items sources form.0)) ts rest form.1 h

end_law : (all distinct : Bool) (items : Option (List Item)) (sources : Sources) → Law (EndForm all distinct items sources) after_core (core_end all distinct items sources)
end_law all distinct items sources =
    then_law (optional_law "where" (expr_law after_where refl refl) refl)
    (λ w. then_law group_law (λ g. made_law (λ h. ends_core all distinct items sources w g h) (optional_law "having" (expr_law after_core refl refl) refl)) (λ g core. follows_having core (ends_core all distinct items sources w g)))
    (λ w core. follows_grouped core (ends_core all distinct items sources w))

-- ---- one core

abbrev FromForm : Bool → Bool → Option (List Item) → Core → List Token → Type 0
FromForm all distinct items core ts = (s : Sources) × Then (SourcesForm s) (λ ts. EndForm all distinct items s core ts) ts

abbrev RestForm : Bool → Bool → Core → List Token → Type 0
RestForm all distinct core ts = (i : Option (List Item)) × Then (AreItems i) (λ ts. After "from" (λ ts. FromForm all distinct i core ts) ts) ts

rest_law : (all distinct : Bool) → Law (RestForm all distinct) after_core (core_rest all distinct)
rest_law all distinct =
    then_law items_law (λ i. after_law "from" (then_law sources_law (λ s. end_law all distinct i s) (λ s core. follows_end all distinct i s core)))
    (λ i core. follows_after "from" after_core (codes "from" ∷ []) refl)

abbrev CoreForm : Bool → Core → List Token → Type 0
CoreForm all core ts = After "select" (λ ts. (d : Bool) × Then (Flag "distinct" d) (λ ts. RestForm all d core ts) ts) ts

rest_apart : (all : Bool) (core : Core) (front rest : List Token) → RestForm all false core front → starts (codes "distinct") (front ++ rest) ≡ false
rest_apart all core front rest (i, (one, back, e, items, others)) =
    ap (λ (l : List Token). starts (codes "distinct") (l ++ rest)) e ∙ ap (starts (codes "distinct")) (append_assoc one back rest) ∙ items_apart (codes "distinct") i one (back ++ rest) refl refl items

abbrev IsCoreOf : Bool → Core → List Token → Type 0
IsCoreOf all core ts = (core.joined_all ≡ all) × IsCore core ts

core_to : (all : Bool) (core : Core) (ts : List Token) → CoreForm all core ts → IsCoreOf all core ts
core_to all core ts (more, e, (d, (f1, b1, e1, flag, (i, (f2, b2, e2, items, (m3, e3, (s, (f4, b4, e4, sources, (w, (f5, b5, e5, pick, (g, (f6, b6, e6, group, (h, made, having))))))))))))) =
    subst (λ (c : Core). IsCoreOf all c ts) (sym made)
    (refl, (more, e, (f1, b1, e1, flag, (f2, b2, e2, items, (m3, e3, (s.picks, w, refl, (f4, b4, e4, sources, (f5, b5, e5, pick, (f6, b6, e6, group, having)))))))))

core_from : (all : Bool) (core : Core) (ts : List Token) → IsCoreOf all core ts → CoreForm all core ts
core_from all core ts (joined, (more, e, (f1, b1, e1, flag, (f2, b2, e2, items, (m3, e3, (picks, w, is, (f4, b4, e4, sources, (f5, b5, e5, pick, (f6, b6, e6, group, having))))))))) =
    let made : core ≡ ends_core all core.distinct core.items (record { from = core.from; picks = picks }) w core.group core.having =
    ap (λ (b : Bool). record core { joined_all = b }) joined ∙ ap (λ (l : List Expr). record core { joined_all = all; picks = l }) is in
    (more, e, (core.distinct, (f1, b1, e1, flag, (core.items, (f2, b2, e2, items, (m3, e3, (record { from = core.from; picks = picks }, (f4, b4, e4, sources, (w, (f5, b5, e5, pick, (core.group, (f6, b6, e6, group, (core.having, made, having)))))))))))))

core_law : (all : Bool) → Law (IsCoreOf all) after_core (reads_core all)
core_law all =
    state_law (CoreForm all) (IsCoreOf all) after_core (reads_core all)
    (after_law "select" (flag_law "distinct" (λ d. rest_law all d) (λ core front rest form h. rest_apart all core front rest form)))
    (core_to all) (core_from all)

-- ---- all of them

abbrev UnitedForm : Core → List Token → Type 0
UnitedForm core ts = (b : Bool) × Then (Flag "all" b) (λ ts. IsCoreOf b core ts) ts

abbrev reads_united : List Token → Option (Core × List Token)
reads_united ts = reads_core (starts (codes "all") ts) (tokens_past (codes "all") ts)

united_to : (core : Core) (ts : List Token) → UnitedForm core ts → IsUnited core ts
united_to core ts (b, (front, back, e, flag, (joined, form))) = (front, back, e, subst (λ (c : Bool). Flag "all" c front) (sym joined) flag, form)

united_from : (core : Core) (ts : List Token) → IsUnited core ts → UnitedForm core ts
united_from core ts (front, back, e, flag, form) = (core.joined_all, (front, back, e, flag, (refl, form)))

core_apart : (core : Core) (front rest : List Token) → IsCoreOf false core front → starts (codes "all") (front ++ rest) ≡ false
core_apart core front rest (joined, (more, e, form)) = ap (λ (l : List Token). starts (codes "all") (l ++ rest)) e

united_law : Law IsUnited after_core reads_united
united_law =
    state_law UnitedForm IsUnited after_core reads_united (flag_law "all" (λ b. core_law b) (λ core front rest form h. core_apart core front rest form))
    united_to united_from

core_filled : (core : Core) (ts : List Token) → IsFirstCore core ts → 1 ≤ length ts
core_filled core ts (joined, form) = after_filled "select" ts form

pub cores_law : Law AreCores after_cores reads_cores
cores_law = separated_law "union" after_cores (core_law false) united_law core_filled refl refl refl

-- the first word of the cores is SELECT
pub cores_start : (cores : List Core) (front rest : List Token) → AreCores cores front → starts (codes "select") (front ++ rest) ≡ true
cores_start [] front rest form = absurd form
cores_start (core ∷ cores) front rest (one, back, e, (joined, (more, is, form)), others) =
    ap (λ (l : List Token). starts (codes "select") (l ++ rest)) (e ∙ ap (λ (l : List Token). l ++ back) is)
