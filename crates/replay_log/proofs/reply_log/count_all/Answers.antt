use Rattle.std.proofs.Common.{◌≡◌, ◌≤◌, length, vec_len, rules}
use Rattle.std.specs.Result.{is_ok}
use Rattle.replay_log.proofs.LeftLogs.{resized}
use Rattle.replay_log.proofs.reply_log.count_all.Goals as goal

pub returns-clause-same : goal.returns-clause-same
returns-clause-same c =
    let sized : vec_len c.args.used.now ≡ length c.args.used.now.items = search rules in
    let few : vec_len c.args.used.now ≤ c.args.count = search rules in
    λ logs. resized logs c.args.used.now.items c.resize.new.self.items (is_ok c.resize.result) c.args.count (vec_len c.args.used.now)
    sized few c.resize.ensures.items
