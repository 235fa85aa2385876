use Rattle.std.proofs.Common.{◌≡◌, ◌<◌, ◌∙◌, ℕ, ap, length, List, subst, sym}
use Rattle.std.specs.Prelude.{slice_index_or}
use Rattle.table_store.specs.inner.ChildPairs.{IsFirstFrom, IsNextOf, first_place, no_foreign, pair_by, pair_in, refers}
use Rattle.table_store.specs.Histories.{TableHistory, rows_now}
use Rattle.table_store.specs.Types.{Foreign}
use Rattle.table_store.proofs.ChildIndexLaws.{next_of}
use Rattle.table_store.proofs.table.TableStore.referring_from.Goals as goal

pub first_place-first-requires : goal.first_place-first-requires
first_place-first-requires c =
    let within = subst (λ (t : TableHistory). c.args.place < length t.schema.foreign) (sym c.self.view_is) c.requires in
    subst (λ (l : List Foreign). c.args.place < length l) (sym c.items.ensures) within

pub returns : goal.returns
returns c =
    let a = c.self.inside in
    let within = subst (λ (t : TableHistory). c.args.place < length t.schema.foreign) (sym c.self.view_is) c.requires in
    let at : c.first_place-first.result ≡ first_place a.schema.foreign c.args.place = c.first_place-first.ensures ∙ ap (λ (l : List Foreign). first_place l c.args.place) c.items.ensures in
    let found = subst (λ (n : ℕ). IsFirstFrom (pair_in a.children n c.args.key.now.values) c.args.from c.in_ok-found.found) at c.in_ok-found.ensures in
    subst (λ (t : TableHistory). IsNextOf (refers (slice_index_or t.schema.foreign c.args.place no_foreign) c.args.key.now.values) (rows_now t.slots) c.args.from c.in_ok-found.found) c.self.view_is
    (next_of (pair_by a.children a.schema.foreign) a.schema.foreign c.args.place within c.args.key.now.values c.args.from c.in_ok-found.found (rows_now a.rows.slots) found c.self.invariant.referred)
