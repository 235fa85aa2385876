-- The state of a run over any database, and the result of a step.
use Rattle.std.specs.Prelude.{ℕ, List}
use Rattle.run_model.specs.Types.{Act}
use Rattle.run_model.specs.Core.{Core}

pub record State (Db : Type 0) : Type 0 where
  pub core : Core
  pub db : Db

-- a step of a process, by its creation number: the state after it, and what it did
pub record StepResult (Db : Type 0) : Type 0 where
  pub process : ℕ
  pub state : State Db
  pub acts : List Act
