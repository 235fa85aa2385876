use Rattle.json_bytes.proofs.JsonText.{json_some, json_none}
use Rattle.json_bytes.proofs.reading.read_json.Goals as goal

pub returns-in-Ok-clause-ok : goal.returns-in-Ok-clause-ok
returns-in-Ok-clause-ok c = json_some _ _ c.in-Ok.ensures.ok.0 c.in-Ok.ensures.ok.1

pub returns-in_default : goal.returns-in_default
returns-in_default c = record {
  ok = tt;
  not_json = λ _. json_none _ (c.in-Err.ensures.err (λ memory. c.in_default.not-Memory (c.classify.ensures.memory.1 memory)));
}
