use Rattle.std.proofs.Common.{◌∙◌, sym, ap, refl, subst, List}
use Rattle.std.specs.Prelude.{slice_get}
use Rattle.inspect.specs.declared.process_names.Made.{Made}
use Rattle.inspect.specs.inner.Named.{NamedProcess}
use Rattle.inspect.specs.inner.ChildRoom.{HaveRoom}
use Rattle.inspect.specs.ProcessNames.{with_child}
use Rattle.inspect.specs.inner.ProcessPlaces.{ComeAfter, named_of}
use Rattle.inspect.proofs.PlaceLaws.{may_grow, named_with, with_after}
use Rattle.inspect.proofs.process_names.with_child.Goals as goal

pub add_child-requires : goal.add_child-requires
add_child-requires c =
    may_grow c.processes.inside.made.items (subst (λ (ps : List NamedProcess). HaveRoom 1 ps) (sym c.processes.view_is) c.requires)

pub invariant_of-result : goal.invariant_of-result
invariant_of-result c =
    let ms : List Made = c.processes.inside.made.items in
    subst (λ (l : List Made). ComeAfter l) (sym c.in_ok-add_child.ensures)
    (with_after ms c.args.number (slice_get ms c.args.number) refl c.processes.invariant)

pub returns : goal.returns
returns c =
    let ms : List Made = c.processes.inside.made.items in
    ap named_of c.in_ok-add_child.ensures
    ∙ named_with ms c.args.number (slice_get ms c.args.number) refl
    ∙ ap (λ (ps : List NamedProcess). with_child c.args.number (slice_get ps c.args.number) ps) c.processes.view_is
