use Rattle.std.proofs.Common.{◌≡◌, ◌++◌, false}
use Rattle.serde_json.specs.Written.{members_text}
use Rattle.prov_export.specs.Document.{place_value}
use Rattle.prov_export.specs.inner.Texts.{members_by}
use Rattle.prov_export.proofs.writing.append_each_node.Given as goal

abbrev pub invariant-loop-name : goal.invariant-loop-name
invariant-loop-name l =
    l.to ++ members_text l.later (members_by place_value l.name-iterator)
    ≡ l.fn.to ++ members_text false (members_by place_value l.fn.entries.entries)
