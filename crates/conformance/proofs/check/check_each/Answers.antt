use Rattle.std.proofs.Common.{◌≡◌, ◌+◌, ◌≤◌, drop, option_map, arith}
use Rattle.ldv_value.proofs.Places.{drop_item}
use Rattle.conformance.specs.Files.{IsFileAsWanted}
use Rattle.conformance.proofs.Wanting.{one_more}
use Rattle.conformance.proofs.check.check_each.Goals as goal

pub loop-file-preserved : goal.loop-file-preserved
loop-file-preserved g c =
    let files = c.args.files.now in
    let i = c.loop-file.file-index in
    let split = drop_item files i c.file-item.result c.loop-file-test.true c.file-item.is in
    let judged = c.in_ok-check_file.ensures in (
      omega (arith, c.loop-file.invariant.0, judged.kept),
      one_more (IsFileAsWanted (option_map (λ name. name.now) c.args.only)) files (drop i files) (drop (i + 1) files) c.file-item.result
          c.loop-file.tally.differences c.check_file.new.tally.differences split judged.kept judged.same c.loop-file.invariant.1,
    )
