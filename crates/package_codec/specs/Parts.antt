-- The parts of read rows and of made rows that an event writes.
use Rattle.std.specs.Prelude.{ℕ, List, ◌++◌, Some}
use Rattle.std.specs.Int.{w8, w32, to_be_bytes}
use Rattle.sql_model.specs.declared.need.Member.{Member}
use Rattle.sql_model.specs.declared.need.Need.{Need}
use Rattle.package_codec.specs.declared.trace.event_part.ReadPart.{ReadPart}
use Rattle.package_codec.specs.declared.trace.event_part.MadePart.{MadePart}
use Rattle.package_codec.specs.Fields.{DecodeResult, both_at, made_at, number_at}
use Rattle.package_codec.specs.Spelling.{rule_number}
use Rattle.package_codec.specs.Typed.{IsU32}
use Rattle.package_codec.specs.Reading.{rule_at}

abbrev pub read_part_spelling : ReadPart → List ℕ
read_part_spelling p =
    to_be_bytes w32 p.row ++ (to_be_bytes w32 p.version ++ to_be_bytes w8 (rule_number p.rule))

abbrev pub made_part_spelling : MadePart → List ℕ
made_part_spelling p = to_be_bytes w32 p.row ++ to_be_bytes w32 p.version

abbrev pub TypedReadPart : ReadPart → Type 0
TypedReadPart p = IsU32 p.row × IsU32 p.version

abbrev pub TypedMadePart : MadePart → Type 0
TypedMadePart p = IsU32 p.row × IsU32 p.version

abbrev pub read_part_at : List ℕ → DecodeResult ReadPart
read_part_at =
    made_at (λ p. Some (record { row = p.0; version = p.1.0; rule = p.1.1 }))
    (both_at (number_at w32) (both_at (number_at w32) rule_at))

abbrev pub made_part_at : List ℕ → DecodeResult MadePart
made_part_at =
    made_at (λ p. Some (record { row = p.0; version = p.1 })) (both_at (number_at w32) (number_at w32))

abbrev pub need_table : Need → List ℕ
need_table n = n.member.table

abbrev pub need_part : Need → ReadPart
need_part n = record { row = n.member.row; version = n.member.version; rule = n.rule }

abbrev pub need_of : List ℕ → ReadPart → Need
need_of table p = record {
  member = record { table = table; row = p.row; version = p.version };
  rule = p.rule;
}

abbrev pub member_table : Member → List ℕ
member_table m = m.table

abbrev pub member_part : Member → MadePart
member_part m = record { row = m.row; version = m.version }

abbrev pub member_of : List ℕ → MadePart → Member
member_of table p = record { table = table; row = p.row; version = p.version }
