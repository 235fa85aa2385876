use Rattle.std.proofs.Common.{ap, ◌∙◌, sym, subst, List, Some}
use Rattle.std.specs.List.{AllByRecursion}
use Rattle.world_json.specs.Shape.{object_of}
use Rattle.world_json.specs.inner.Taking.{AreNamed}
use Rattle.world_json.proofs.KeptMembers.{named_each, named_all}
use Rattle.world_json.proofs.Taken.{object_taken, kept_all}
use Rattle.world_json.proofs.fast.members.take_object.Goals as goal

pub returns-clause-taken : goal.returns-clause-taken
returns-clause-taken g c =
    let f = g.X.FromNamedTokens.of_member in
    let P = g.X.FromNamedTokens.typed in
    object_taken (λ ms named. AreNamed f P ms named.members.entries) (object_of f) c.in_ok-found.found g.X.FromNamedTokens.levels c.args.reader.now c.open_object.new.reader c.take_members.new.reader
    c.new_members-named.result c.take_members.new.to c.in_ok-open_object.ensures c.new_members-named.ensures c.in_ok-take_members.ensures.taken
    (λ ms kept. named_each f P ms _ kept ∙ ap Some (sym c.in_ok-found.ensures))

pub returns-clause-typed : goal.returns-clause-typed
returns-clause-typed g c =
    let f = g.X.FromNamedTokens.of_member in
    let P = g.X.FromNamedTokens.typed in
    kept_all (λ ms named. AreNamed f P ms named.members.entries) (AllByRecursion P c.in_ok-found.found) g.X.FromNamedTokens.levels c.open_object.new.reader c.take_members.new.reader
    c.new_members-named.result c.take_members.new.to c.new_members-named.ensures c.in_ok-take_members.ensures.taken
    (λ ms kept. subst (λ (xs : List g.row.X.Denot). AllByRecursion P xs) (sym c.in_ok-found.ensures) (named_all f P ms _ kept))
