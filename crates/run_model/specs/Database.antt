-- Databases: questions and answers. A run is defined over any database.
use Rattle.std.specs.Prelude.{◌≡◌, ℕ, List, [], ◌∷◌, ◌++◌, Bool, IsTrue}
use Rattle.run_model.specs.Types.{Value, Member, Need, Reply, Act, Asked, Event}
use Rattle.run_model.specs.declared.database.Asker.{Asker}

-- a text that a process asks, with its parameters
pub record Question : Type 0 where
  -- the name of the process
  pub process : List ℕ
  pub text : List ℕ
  pub params : List Value

-- what is recorded of a statement: the tables that it asks, the rows that it needed with their versions, and
-- the versions that it made
pub record Lists : Type 0 where
  pub tables : List (List ℕ)
  pub reads : List Need
  pub made : List Member

-- a reply, with the database after it and the lists; or there is none, and the run stops
pub data Answer (Db : Type 0) : Type 0 where
  Gives : Reply → Db → Lists → Answer Db
  Diverges : Answer Db

-- a database is a function from its state and a question to an answer
abbrev pub Base : Type 0 → Type 0
Base Db = Db → Question → Answer Db

-- ---- who asks, and what a tracer notes

abbrev pub asked_by : Asker → List ℕ → List Value → Question
asked_by who text params = record { process = who.name.parts; text = text; params = params }

abbrev pub asked_act : ℕ → Lists → Act
asked_act statement lists = Asked statement lists.tables lists.reads lists.made

abbrev pub asked_event : Asker → Lists → Event
asked_event who lists =
    record { step = who.step; process = who.number; act = asked_act who.statement lists }

-- a tracer that keeps events notes one
abbrev pub Notes : Bool → List Event → List Event → Asker → Lists → Type 0
Notes keeps old new who lists = IsTrue keeps → new ≡ old ++ asked_event who lists ∷ []
