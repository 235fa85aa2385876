use Rattle.std.proofs.Common.{◌<◌, length, arith}
use Rattle.inspect.proofs.PlaceLaws.{whole_name}
use Rattle.inspect.proofs.process_names.numbers_to.Goals as goal

pub returns : goal.returns
returns c =
    let within : 0 < length c.args.made.now = omega (arith, c.requires.within) in
    whole_name c.args.made.now c.args.place c.made_at-first.result c.in_ok-numbers.numbers.items c.push.new.self.items
    c.reverse.new.self.items within c.made_at-first.ensures c.in_ok-numbers.ensures c.in_ok-push.ensures.items c.reverse.ensures.items
