use Rattle.ldv_top.proofs.commands.replay.excluded_response.Goals as goal

pub returns : goal.returns
returns c = c.log_response.ensures c.args.parsed.cut.bare c.replay_parsed-ended.ensures
