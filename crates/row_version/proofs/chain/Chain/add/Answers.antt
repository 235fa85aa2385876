use Rattle.std.proofs.Common.{◌++◌, ◌∷◌, [], List, ◌∙◌, ap, refl, arith}
use Rattle.row_version.proofs.Parts.{added}
use Rattle.row_version.specs.declared.versions.Version.{Version}
use Rattle.row_version.specs.declared.chain.Chain.TheInside.{Inside}
use Rattle.row_version.proofs.chain.Chain.add.Goals as goal

pub invariant_of-self-2 : goal.invariant_of-self-2
invariant_of-self-2 c =
    let version : Version = record { time = c.args.time; values = c.args.values } in
    let new : Inside = record { held = c.push.new.self; ended = c.self.inside.ended } in
    (added c.self.inside new c.args.self.now version c.self.view_is c.self.invariant c.requires.live c.requires.few c.requires.later
    (c.in_ok-push.ensures.items ∙ ap (λ (l : List Version). l ++ version ∷ []) c.reserve.ensures.items) (omega (arith, c.in_ok-push.ensures.len)) refl).1

pub returns-clause-ok : goal.returns-clause-ok
returns-clause-ok c =
    let version : Version = record { time = c.args.time; values = c.args.values } in
    let new : Inside = record { held = c.push.new.self; ended = c.self.inside.ended } in
    (added c.self.inside new c.args.self.now version c.self.view_is c.self.invariant c.requires.live c.requires.few c.requires.later
    (c.in_ok-push.ensures.items ∙ ap (λ (l : List Version). l ++ version ∷ []) c.reserve.ensures.items) (omega (arith, c.in_ok-push.ensures.len)) refl).0
