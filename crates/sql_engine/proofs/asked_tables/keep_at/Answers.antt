use Rattle.std.proofs.Common.{◌∙◌}
use Rattle.sql_engine.proofs.PlaceLaws.{goes-in-place, stays-in-place}
use Rattle.sql_engine.proofs.asked_tables.keep_at.Goals as goal

pub returns-then-not-taken-clause-kept : goal.returns-then-not-taken-clause-kept
returns-then-not-taken-clause-kept c = λ test all is mark.
    goes-in-place test all c.args.items.now.items c.args.kept c.args.place is c.requires.within (mark ∙ c.if-not-taken.true)

pub returns-clause-kept : goal.returns-clause-kept
returns-clause-kept c = λ test all is mark.
    stays-in-place test all c.args.items.now.items c.args.kept c.args.place is c.requires.within c.swap.new.self.items c.swap.ensures.by_index
    (mark ∙ c.if-not-taken.false)
