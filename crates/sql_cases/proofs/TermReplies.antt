-- The reply of a statement over terms, its needed rows, the tables after it, and its row versions.
use Rattle.std.proofs.Common.{◌≡◌, List, [], ◌++◌, map, ap, ◌∙◌}
use Rattle.std.specs.Prelude.{Option, Some, None}
use Rattle.sql_cases.proofs.FreeTables.{else_none}
use Rattle.sql_cases.proofs.Types.{L, Rows, Refused, SqlRefusal, Statement, Table}
use Rattle.sql_model.specs.declared.statement.Statement.TheVariants as statement
use Rattle.sql_model.specs.QueryAnswer.{AnswerRow, answer, answer_values, lineage_of}
use Rattle.sql_model.specs.Changes.{or_else}
use Rattle.sql_model.specs.Needs.{Versions, made_by, made_unless, need_of, needs_by, needed_by, sorted_needs, hidden_rows}
use Rattle.sql_model.specs.Refusals.{check_refusal}
use Rattle.sql_model.specs.Scope.{catalog_of}
use Rattle.sql_model.specs.Statements.{reply_of, reply_or, refusal_of, after, after_unless}
use Rattle.sql_model.proofs.Equations.{refused_needs}
use Rattle.sql_cases.proofs.Terms.{over}
use Rattle.sql_cases.proofs.TermStatements.{TermQuery, query_of}
use Rattle.sql_cases.proofs.TermQueries as queries

-- ---- any statement

-- what a statement answers, needs, leaves and makes, by its refusal
pub reply_by : (s : Statement) (db : List Table) (refusal : Option SqlRefusal)
    → refusal_of (Some s) db ≡ refusal → reply_of (Some s) db ≡ reply_or refusal (Some s) db
unfolding reply_of
reply_by s db refusal is = ap (λ r. reply_or r (Some s) db) is

pub need_by : (s : Statement) (db : List Table) (refusal : Option SqlRefusal)
    → refusal_of (Some s) db ≡ refusal → need_of (Some s) db ≡ sorted_needs (needs_by refusal s db)
unfolding need_of
need_by s db refusal is = ap (λ r. sorted_needs (needs_by r s db)) is

pub after_by : (s : Statement) (db : List Table) (refusal : Option SqlRefusal)
    → refusal_of (Some s) db ≡ refusal → after (Some s) db ≡ after_unless refusal (Some s) db
unfolding after
after_by s db refusal is = ap (λ r. after_unless r (Some s) db) is

pub made_is : (versions : Versions) (s : Statement) (db : List Table) (refusal : Option SqlRefusal)
    → refusal_of (Some s) db ≡ refusal
    → made_by versions (Some s) db ≡ made_unless refusal versions (Some s) db
unfolding made_by
made_is versions s db refusal is = ap (λ r. made_unless r versions (Some s) db) is

-- ---- queries

-- over any tables a query means what its terms do
pub record Computes (query : TermQuery) : Type 0 where
  pub refusal : (db : List Table)
      → check_refusal (statement.Query (query_of query)) (catalog_of db)
      ≡ queries.query_refusal over query db
  pub rows : (db : List Table) → answer (query_of query) db ≡ queries.answer over query db
  pub hidden : (db : List Table)
      → hidden_rows (query_of query) db ≡ queries.hidden_rows over query db

module _ (query : TermQuery) (is : Computes query) (db : List Table) where
  abbrev s : Statement
  s = statement.Query (query_of query)

  abbrev by_terms : Option SqlRefusal
  by_terms = or_else (queries.query_refusal over query db) None

  by_expr : refusal_of (Some s) db ≡ by_terms
  by_expr = (λ i. or_else (or_else (is.refusal db i) None) None) ∙ else_none by_terms

  abbrev rows : List AnswerRow
  rows = queries.answer over query db

  -- where it isn't refused
  pub query_accepted : by_terms ≡ None
      → (reply_of (Some s) db ≡ Rows (map answer_values rows))
      × (need_of (Some s) db
      ≡ sorted_needs (map (needed_by L) (lineage_of rows) ++ queries.hidden_rows over query db))
  query_accepted accepted = (
    reply_by s db None (by_expr ∙ accepted) ∙ (λ i. Rows (map answer_values (is.rows db i))),
    need_by s db None (by_expr ∙ accepted)
        ∙ (λ i. sorted_needs (map (needed_by L) (lineage_of (is.rows db i)) ++ is.hidden db i)),
  )

  -- where it is
  pub query_refused : (r : SqlRefusal) → by_terms ≡ Some r
      → (reply_of (Some s) db ≡ Refused r) × (need_of (Some s) db ≡ [])
  query_refused r refused = (
    reply_by s db (Some r) (by_expr ∙ refused),
    need_by s db (Some r) (by_expr ∙ refused) ∙ ap sorted_needs (refused_needs (query_of query) db r),
  )
