use Rattle.replay_db.proofs.start.parsed_world.Goals as goal

pub returns-clause-parsed : goal.returns-clause-parsed
returns-clause-parsed c = c.in_ok-script.ensures
