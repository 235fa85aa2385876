use Rattle.joined_data.specs.Joined.{joined_of}
use Rattle.package_join.proofs.CutLaws.{cuts_joined, first_stays, second_stays}
use Rattle.package_join.proofs.joins.join_compact.Goals as goal

pub returns-clause-joined : goal.returns-clause-joined
returns-clause-joined c = cuts_joined c.args.a c.args.b c.join_with_runs.result c.join_with_runs.ensures

pub returns-clause-first_cut : goal.returns-clause-first_cut
returns-clause-first_cut c =
    first_stays c.args.a.runs c.args.b.runs (joined_of c.args.a.bare c.args.b.bare) c.join_with_runs.result
    c.requires.first c.join_with_runs.ensures

pub returns-clause-second_cut : goal.returns-clause-second_cut
returns-clause-second_cut c =
    second_stays c.args.a.runs c.args.b.runs (joined_of c.args.a.bare c.args.b.bare) c.join_with_runs.result
    c.requires.second c.join_with_runs.ensures
