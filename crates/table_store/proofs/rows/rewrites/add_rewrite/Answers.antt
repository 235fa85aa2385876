use Rattle.std.proofs.Common.{◌≡◌, ◌∙◌, ◌∷◌, ◌++◌, [], ap, sym, subst, List, map}
use Rattle.std.proofs.lemmas.List.{map_push}
use Rattle.table_store.specs.Types.{TableRow}
use Rattle.table_store.specs.inner.RowChanges.{row_given, AreInSlots}
use Rattle.table_store.specs.declared.rows.rewrites.RowRewrite.{RowRewrite}
use Rattle.table_store.proofs.ChangeLaws.{in_slots_more}
use Rattle.table_store.proofs.rows.rewrites.add_rewrite.Goals as goal

pub returns-clause-slots : goal.returns-clause-slots
returns-clause-slots c =
    subst (λ (l : List RowRewrite). AreInSlots c.args.grid.now.slots l) (sym c.in_ok-push.ensures.items)
    (in_slots_more c.args.grid.now.slots c.args.made.now.items c.in_ok-given.given c.requires.slots c.in_ok-given.ensures.slot)

pub returns-clause-rows : goal.returns-clause-rows
returns-clause-rows c =
    ap (map row_given) c.in_ok-push.ensures.items
    ∙ map_push row_given c.args.made.now.items c.in_ok-given.given
    ∙ ap (λ (row : TableRow). map row_given c.args.made.now.items ++ row ∷ []) c.in_ok-given.ensures.row
