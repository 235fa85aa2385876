-- The law of kept replies: keeping the replies of a database doesn't change a run, and the kept questions and
-- replies are the logs of its processes.
use Rattle.std.specs.Prelude.{◌≡◌, ℕ, List, []}
use Rattle.run_laws.specs.Types.{File, Instr}
use Rattle.run_model.specs.Database.{Base}
use Rattle.run_model.specs.Events.{events}
use Rattle.run_model.specs.Run.{run, steps}
use Rattle.run_model.specs.RunLaw.{start_state_of}
use Rattle.run_model.specs.State.{State}
use Rattle.run_model.specs.WorldRun.{logs_of}
use Rattle.run_laws.specs.KeptReplies.{KeepingDatabase, keeping_base, logs_kept}

-- the same core and database, the same events and number of steps
pub record KeepsRun {Db : Type 0} (base : Base Db) (n : ℕ) (picks : List ℕ) (k : State (KeepingDatabase Db))
    (s : State Db) : Type 0 where
  pub core : (run (keeping_base base) n picks k).core ≡ (run base n picks s).core
  pub db : (run (keeping_base base) n picks k).db.db ≡ (run base n picks s).db
  pub told : events (keeping_base base) n 1 picks k ≡ events base n 1 picks s
  pub count : steps (keeping_base base) n picks k ≡ steps base n picks s
  pub logs : logs_kept (run (keeping_base base) n picks k).db.kept ≡ logs_of (run base n picks s).core

-- nothing is kept yet
abbrev pub nothing_kept : {Db : Type 0} → Db → KeepingDatabase Db
nothing_kept db = record { db = db; kept = [] }

-- over any database, after any steps of any script, whatever chooses
abbrev pub KeptLaw : Type 0 → Type 0
KeptLaw Db = (base : Base Db) (n : ℕ) (picks : List ℕ)
    (start : List (List ℕ)) (seed : ℕ) (files : List File) (script : List Instr) (db : Db)
    → KeepsRun base n picks (start_state_of start seed files script (nothing_kept db))
    (start_state_of start seed files script db)
