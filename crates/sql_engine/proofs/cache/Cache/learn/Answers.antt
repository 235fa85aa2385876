use Rattle.std.proofs.Common.{◌≡◌, subst, sym, length, List, ℕ, Option}
use Rattle.std.specs.Prelude.{◌≤◌, IfSome}
use Rattle.sql_template.specs.Checking.{IsPrepared}
use Rattle.sql_template.specs.declared.prepared.Prepared.{Prepared}
use Rattle.sql_engine.proofs.cache.Cache.learn.Goals as goal

pub keep-requires-clause-entry : goal.keep-requires-clause-entry
keep-requires-clause-entry c =
    let same : c.in-Some.prepared.template.text ≡ c.args.text.now =
    subst (λ (o : Option Prepared). IfSome o (λ (p : Prepared). p.template.text ≡ c.args.text.now)) c.in-Some.is c.in_ok-made.ensures.text in
    record {
      prepared = subst (λ (o : Option Prepared). IfSome o (IsPrepared c.args.catalog.now)) c.in-Some.is c.in_ok-made.ensures.prepared;
      short = subst (λ (text : List ℕ). length text ≤ 1024) (sym same) c.requires.short;
    }
