use Rattle.std.proofs.Common.{ℕ, List, sym, subst}
use Rattle.std.specs.Prelude.{Option}
use Rattle.std.specs.BTreeMap.{get_by_text}
use Rattle.script_code.specs.Names.{IsFound}
use Rattle.script_code.proofs.name_table.NameTable.find.Goals as goal

pub returns-clause-found : goal.returns-clause-found
returns-clause-found c =
    let name = c.args.name.now in
    let inside : IsFound c.self.inside.names name (get_by_text c.self.inside.slots name) = c.self.invariant.found name in
    subst (λ (ns : List (List ℕ)). IsFound ns name c.slot_in.result) c.self.view_is
    (subst (λ (o : Option ℕ). IsFound c.self.inside.names name o) (sym c.slot_in.ensures) inside)
