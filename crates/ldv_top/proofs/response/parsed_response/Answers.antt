use Rattle.ldv_top.proofs.response.parsed_response.Goals as goal

pub returns : goal.returns
returns c = c.ended_response.ensures c.args.parsed.world c.run_parsed-ended.ensures.outcome
