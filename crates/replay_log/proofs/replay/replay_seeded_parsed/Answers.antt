use Rattle.replay_log.proofs.replay.replay_seeded_parsed.Goals as goal

pub replay_parsed-requires-clause-can_replay : goal.replay_parsed-requires-clause-can_replay
replay_parsed-requires-clause-can_replay c =
    record { script = c.requires.can_replay.script; files = c.requires.can_replay.files; logs = c.requires.can_replay.logs }

pub replay_parsed-requires-clause-parsed : goal.replay_parsed-requires-clause-parsed
replay_parsed-requires-clause-parsed c = c.requires.parsed
