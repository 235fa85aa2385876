-- A copy of a package.
use Rattle.std.specs.Prelude.{[]}
use Rattle.run_model.specs.declared.package.Package.{Package}

-- a package without its logs, which an included one hasn't got
abbrev pub without_logs : Package → Package
without_logs p = record {
  mode = p.mode;
  start = p.start;
  seed = p.seed;
  steps = p.steps;
  files = p.files;
  tables = p.tables;
  logs = [];
  events = p.events;
}
