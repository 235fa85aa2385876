use Rattle.std.proofs.Common.{◌∙◌, ap, sym, Bool, Some}
use Rattle.std.specs.Prelude.{if◌then◌else◌}
use Rattle.table_store.specs.inner.ChildSteps.{after}
use Rattle.table_store.specs.declared.references.child_rows.Search.TheVariants.{Ends}
use Rattle.table_store.proofs.references.child_rows.search_at.Goals as goal

pub returns-then-hit : goal.returns-then-hit
returns-then-hit c = sym (ap (λ (b : Bool). if b then Ends (Some c.args.number) else after c.args.number) (sym c.in_ok-hit.ensures ∙ c.if-hit.true))

pub returns : goal.returns
returns c = c.after.ensures ∙ sym (ap (λ (b : Bool). if b then Ends (Some c.args.number) else after c.args.number) (sym c.in_ok-hit.ensures ∙ c.if-hit.false))
