use Rattle.std.proofs.Common.{arith, length-take, length-drop, ◌-◌, length, drop}
use Rattle.ldv_io.proofs.Pieces.{front_copied}
use Rattle.ldv_io.proofs.memory.copy_piece.Goals as goal

pub returns-clause-front : goal.returns-clause-front
returns-clause-front c =
    let ys = c.as_slice.result.now in
    front_copied c.args.bytes.now ys _ _ c.args.at c.min-count.result c.as_slice.ensures c.copy_from_slice.ensures.after
    (omega (arith, c.min.ensures, c.min-count.ensures, length-take (length ys - c.args.at) (drop c.args.at ys), length-drop c.args.at ys))
