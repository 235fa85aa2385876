-- The kept questions and replies of a run, and the logs that they make.
use Rattle.std.specs.Prelude.{List, [], ◌∷◌, ◌++◌}
use Rattle.std.specs.Ordering.{nat_cmp}
use Rattle.std.specs.declared.cmp.Ordering.{Ordering}
use Rattle.std.specs.declared.cmp.Ordering.TheVariants.{Less, Equal, Greater}
use Rattle.std.specs.Cmp.Lexicographic.{slice_cmp}
use Rattle.run_laws.specs.Types.{Log, Reply}
use Rattle.run_laws.specs.declared.kept.Kept.{Kept}
use Rattle.run_model.specs.Database.{Question, Answer, Gives, Diverges, Base}
use Rattle.run_model.specs.StepReplies.{entry_of}

-- ---- a database whose replies are kept

-- the database, and what is kept: a list that is empty at first
pub record KeepingDatabase (Db : Type 0) : Type 0 where
  pub db : Db
  pub kept : List Kept

-- a question with its reply
abbrev pub kept_of : Question → Reply → Kept
kept_of q reply = record { process = record { parts = q.process }; entry = entry_of q reply }

module _ {Db : Type 0} where
  abbrev pub with_answer : List Kept → Question → Answer Db → Answer (KeepingDatabase Db)
  with_answer kept q (Gives reply db lists) =
      Gives reply (record { db = db; kept = kept ++ kept_of q reply ∷ [] }) lists
  with_answer kept q Diverges = Diverges

  -- it replies what the database replies, and keeps the question with the reply
  abbrev pub keeping_base : Base Db → Base (KeepingDatabase Db)
  keeping_base base k q = with_answer k.kept q (base k.db q)

-- ---- the logs

abbrev pub name_cmp : Kept → Log → Ordering
name_cmp k log = slice_cmp nat_cmp k.process.parts log.process.parts

abbrev pub new_log : Kept → Log
new_log k = record { process = k.process; entries = k.entry ∷ [] }

abbrev pub with_first : Kept → Log → Log
with_first k log = record log { entries = k.entry ∷ log.entries }

abbrev pub put_where : Ordering → Kept → Log → List Log → List Log → List Log
put_where Less k log logs more = new_log k ∷ log ∷ logs
put_where Equal k log logs more = with_first k log ∷ logs
put_where Greater k log logs more = log ∷ more

-- before the other entries of its process, where there are some; the logs are sorted by process
abbrev pub put_first : Kept → List Log → List Log
put_first k [] = new_log k ∷ []
put_first k (log ∷ logs) = put_where (name_cmp k log) k log logs (put_first k logs)

-- those of a process in the order in which it asked
abbrev pub logs_kept : List Kept → List Log
logs_kept [] = []
logs_kept (k ∷ kept) = put_first k (logs_kept kept)
