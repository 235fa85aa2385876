use Rattle.package_join.proofs.ValidJoins.{copies_as, copies_joined}
use Rattle.package_join.proofs.joins.join.Goals as goal

pub returns-clause-joined : goal.returns-clause-joined
returns-clause-joined c =
    copies_as c.args.a.now c.args.b.now c.in_ok-first.first c.in_ok-second.second c.join_owned.result
    c.in_ok-first.ensures c.in_ok-second.ensures c.join_owned.ensures

pub returns-clause-valid : goal.returns-clause-valid
returns-clause-valid c =
    copies_joined c.args.a.now c.args.b.now c.in_ok-first.first c.in_ok-second.second c.join_owned.result
    c.requires.first c.requires.second c.requires.first_included c.requires.second_included
    c.in_ok-first.ensures c.in_ok-second.ensures c.join_owned.ensures
