use Rattle.std.proofs.Common.{◌≡◌, ◌∙◌, ap, sym, List, ℕ, Option, Some, None}
use Rattle.std.specs.BTreeMap.{get}
use Rattle.std.specs.Ordering.{nat_cmp}
use Rattle.table_store.specs.Histories.{history_at, table_now, tables_now}
use Rattle.table_store.specs.Types.{Table}
use Rattle.table_store.specs.inner.ParentSet.{kept_in}
use Rattle.table_store.proofs.NowLaws.{now_at, now_none}
use Rattle.table_store.proofs.RefusalLaws.{keyed_parent}
use Rattle.table_store.proofs.references.parent_set.kept_in.Goals as goal

pub kept_number-requires : goal.kept_number-requires
kept_number-requires c =
    let store = c.args.store.now in
    let f = c.args.foreign.now in
    let parent = c.in-Some.parent.now in
    let there : Some parent ≡ history_at f.parent store = c.in-Some.ensures.table ∙ ap (λ (name : List ℕ). history_at name store) c.as_str.ensures in
    keyed_parent (tables_now store) f (table_now parent) c.requires (now_at f.parent store parent there)

pub returns-in-None : goal.returns-in-None
returns-in-None c =
    let store = c.args.store.now in
    let f = c.args.foreign.now in
    let none : None ≡ history_at f.parent store = c.in-None.ensures.table ∙ ap (λ (name : List ℕ). history_at name store) c.as_str.ensures in
    sym (ap (λ (o : Option Table). kept_in (get nat_cmp c.args.given.now) c.args.own.now o (Some c.args.key.now)) (now_none f.parent store none))

pub returns-in-Some : goal.returns-in-Some
returns-in-Some c =
    let store = c.args.store.now in
    let f = c.args.foreign.now in
    let parent = c.in-Some.parent.now in
    let there : Some parent ≡ history_at f.parent store = c.in-Some.ensures.table ∙ ap (λ (name : List ℕ). history_at name store) c.as_str.ensures in
    c.kept_number.ensures
    ∙ sym (ap (λ (o : Option Table). kept_in (get nat_cmp c.args.given.now) c.args.own.now o (Some c.args.key.now)) (now_at f.parent store parent there))
