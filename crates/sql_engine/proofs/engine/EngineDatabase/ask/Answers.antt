use Rattle.std.proofs.Common.{◌≡◌, ◌∙◌, ◌++◌, ◌∷◌, [], subst, sym, ap}
use Rattle.std.specs.Prelude.{IsTrue}
use Rattle.run_model.specs.Database.{Gives, asked_by, asked_event}
use Rattle.run_model.specs.SqlDatabase.{lists_of, sql_base}
use Rattle.sql_engine.proofs.AskLaws.{never_kept, seen_gives, seen_lists}
use Rattle.sql_engine.specs.Asking.{database}
use Rattle.sql_engine.specs.Types.{Reply}
use Rattle.sql_model.specs.Texts.{statement_of}
use Rattle.sql_engine.proofs.engine.EngineDatabase.ask.Goals as goal

pub returns-then-not-KEEPS-clause-reply : goal.returns-then-not-KEEPS-clause-reply
returns-then-not-KEEPS-clause-reply g c = (
  lists_of (statement_of c.args.text.now c.args.params.now) (database c.args.self.now),
  seen_gives c.self.inside.store c.args.self.now c.execute.new.store c.as_str.result.now c.args.text.now c.args.params.now _ c.in_ok-done.done
      c.self.view_is c.as_str.ensures c.in_ok-done.ensures.done c.args.who.now,
  λ kept. absurd (never_kept c.KEEPS-2.result g.T.Tracer.KEEPS c.if-not-KEEPS.true c.KEEPS-2.ensures kept),
)

pub returns-clause-reply : goal.returns-clause-reply
returns-clause-reply g c = (
  lists_of (statement_of c.args.text.now c.args.params.now) (database c.args.self.now),
  subst (λ (reply : Reply). sql_base (database c.args.self.now) (asked_by c.args.who.now c.args.text.now c.args.params.now)
      ≡ Gives reply (database c.execute.new.store) (lists_of (statement_of c.args.text.now c.args.params.now) (database c.args.self.now)))
      (sym (ap (λ p. p.0) c.asked_event-reply.ensures))
      (seen_gives c.self.inside.store c.args.self.now c.execute.new.store c.as_str.result.now c.args.text.now c.args.params.now _ c.in_ok-done.done
      c.self.view_is c.as_str.ensures c.in_ok-done.ensures.done c.args.who.now),
  λ kept. c.in_ok-note.ensures kept ∙ ap (λ e. g.T.Tracer.events c.args.tracer.now ++ e ∷ [])
      (ap (λ p. p.1) c.asked_event-reply.ensures
      ∙ ap (asked_event c.args.who.now) (seen_lists c.self.inside.store c.args.self.now c.execute.new.store c.as_str.result.now c.args.text.now c.args.params.now _ c.in_ok-done.done
      c.self.view_is c.as_str.ensures c.in_ok-done.ensures.done (subst IsTrue (sym c.KEEPS.ensures) kept))),
)
