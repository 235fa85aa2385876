use Rattle.std.proofs.Common.{refl, ◌∙◌}
use Rattle.run_model.specs.Schedule.{moved_x}
use Rattle.proc_core.proofs.schedule.schedule.Goals as goal

pub returns-clause-core : goal.returns-clause-core
returns-clause-core c = λ core is. record {
  files = is.files;
  processes = is.processes;
  seed = is.seed;
  last = refl;
  generator = c.moved_x-moved.ensures ∙ (λ i. moved_x (is.seed i) (is.generator i));
  asked = is.asked;
  going = is.going;
}
