use Rattle.std.proofs.Common.{rules, ◌≡◌, ◌≢◌, ◌∙◌, ◌++◌, ◌∷◌, [], ◌+◌, ◌<◌, ap, sym, subst, refl, ℕ, List, get_or, set, length, arith}
use Rattle.std.proofs.lemmas.List.{get_or_default}
use Rattle.row_version.specs.History.{write_at}
use Rattle.table_store.specs.inner.Past.{LogView, past, count_at, AreLinked}
use Rattle.table_store.specs.declared.rows.logged.Logged.{Logged}
use Rattle.table_store.proofs.PastLaws.{past_here, past_elsewhere, linked_more}
use Rattle.table_store.proofs.rows.version_log.VersionLog.push.Goals as goal

pub invariant_of-self-2 : goal.invariant_of-self-2
invariant_of-self-2 c =
    let a = c.self.inside in
    let slot : ℕ = c.args.slot in
    let version : Logged = record { slot = slot; since = c.args.since; before = c.index-before.result.now; count = c.count_to-count.result + 1; values = c.args.values } in
    let items : c.push.new.self.items ≡ a.held.items ++ version ∷ [] = search rules in
    let within : slot < length a.last.items = omega (arith, c.requires.within, ap (λ (v : LogView). v.slots) c.self.view_is) in
    let before : c.index-before.result.now ≡ get_or a.last.items slot 0 = c.index-before.ensures ∙ get_or_default a.last.items slot c.index-before.result.now 0 within in
    let count : c.count_to-count.result + 1 ≡ count_at a.held.items c.index-before.result.now + 1 =
    ap (λ (n : ℕ). n + 1) (c.count_to-count.ensures ∙ ap (λ (l : List Logged). count_at l c.index-before.result.now) c.as_slice.ensures.value) in
    let long : c.len.result ≡ length a.held.items + 1 = search rules in
    subst (λ (l : List Logged). AreLinked l (set a.last.items slot c.len.result)) (sym items)
    (linked_more a.held.items version a.last.items (set a.last.items slot c.len.result) c.self.invariant within before count (ap (set a.last.items slot) long))

pub returns-clause-here : goal.returns-clause-here
returns-clause-here c =
    let a = c.self.inside in
    let slot : ℕ = c.args.slot in
    let version : Logged = record { slot = slot; since = c.args.since; before = c.index-before.result.now; count = c.count_to-count.result + 1; values = c.args.values } in
    let items : c.push.new.self.items ≡ a.held.items ++ version ∷ [] = search rules in
    ap (λ (l : List Logged). past l slot) items
    ∙ past_here a.held.items version slot refl
    ∙ ap (λ (v : LogView). past v.versions slot ++ write_at c.args.since c.args.values ∷ []) c.self.view_is

pub returns-clause-others : goal.returns-clause-others
returns-clause-others c = λ k other.
    let a = c.self.inside in
    let slot : ℕ = c.args.slot in
    let version : Logged = record { slot = slot; since = c.args.since; before = c.index-before.result.now; count = c.count_to-count.result + 1; values = c.args.values } in
    let items : c.push.new.self.items ≡ a.held.items ++ version ∷ [] = search rules in
    ap (λ (l : List Logged). past l k) items
    ∙ past_elsewhere a.held.items version k (λ same. other (sym same))
    ∙ ap (λ (v : LogView). past v.versions k) c.self.view_is
