use Rattle.std.proofs.Common.{◌≡◌, ◌∙◌, ◌++◌, sym, ap, subst, List, OnOk}
use Rattle.inspect.specs.declared.process_names.Made.{Made}
use Rattle.inspect.specs.inner.Named.{NamedProcess}
use Rattle.inspect.specs.ProcessNames.{name_in}
use Rattle.inspect.specs.inner.ProcessPlaces.{ComeAfter, named_of}
use Rattle.inspect.proofs.process_names.append_process.Goals as goal

pub append_made-requires : goal.append_made-requires
append_made-requires c = subst (λ (ms : List Made). ComeAfter ms) (sym c.as_slice.ensures.value) c.processes.invariant

pub returns : goal.returns
returns c =
    let same : named_of c.as_slice.result.now ≡ c.args.processes.now = ap named_of c.as_slice.ensures.value ∙ c.processes.view_is in
    subst (λ (ps : List NamedProcess). OnOk c.append_made.result (c.append_made.new.to ≡ c.args.to.now ++ name_in ps c.args.number)) same
    c.append_made.ensures
