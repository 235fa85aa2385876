-- Facts about every package in memory: its numbers fit their types, and its texts are UTF-8.
-- Clauses range over all numbers and lists, so they assume these facts by name.
use Rattle.std.specs.Prelude.{ℕ, ◌<◌, ◌^◌, List}
use Rattle.std.specs.List.{AllByRecursion}
use Rattle.std.specs.Str.{IsUtf8}
use Rattle.std.specs.Int.{w64}
use Rattle.std.specs.Int.RustNames.{FitsSigned}
use Rattle.sql_model.specs.declared.reply.Reply.TheVariants.{Rows, Changed, Refused}
use Rattle.sql_model.specs.declared.reply.SqlRefusal.{SqlRefusal}
use Rattle.sql_model.specs.declared.reply.SqlRefusal.TheVariants as refusals
use Rattle.sql_model.specs.declared.table.Column.{Column}
use Rattle.sql_model.specs.declared.table.Foreign.{Foreign}
use Rattle.sql_model.specs.declared.table.Schema.{Schema}
use Rattle.run_model.specs.declared.event.Act.TheVariants as acts
use Rattle.run_model.specs.Types.{Value, Null, Int, Text, Member, Need, Reply, Act, Event}
use Rattle.run_model.specs.Types.{Entry, Log, Package, PackedFile, PackedRow, PackedTable}

abbrev pub IsU32 : ℕ → Type 0
IsU32 n = n < 2 ^ 32

-- ---- values, files and tables

abbrev pub TypedValue : Value → Type 0
TypedValue Null = Unit {0}
TypedValue (Int z) = FitsSigned w64 z
TypedValue (Text t) = IsUtf8 t

abbrev pub TypedValues : List Value → Type 0
TypedValues = AllByRecursion TypedValue

abbrev pub TypedFile : PackedFile → Type 0
TypedFile f = IsUtf8 f.path

abbrev pub TypedColumn : Column → Type 0
TypedColumn c = IsUtf8 c.name

abbrev pub TypedForeign : Foreign → Type 0
TypedForeign f = IsUtf8 f.parent

abbrev pub TypedSchema : Schema → Type 0
TypedSchema s = AllByRecursion TypedColumn s.columns × AllByRecursion TypedForeign s.foreign

abbrev pub TypedRow : PackedRow → Type 0
TypedRow r = IsU32 r.number × (IsU32 r.statement × TypedValues r.values)

abbrev pub TypedTable : PackedTable → Type 0
TypedTable t =
    IsUtf8 t.name × (TypedSchema t.schema × (IsU32 t.next × AllByRecursion TypedRow t.rows))

-- ---- logs

abbrev pub TypedRefusal : SqlRefusal → Type 0
TypedRefusal refusals.Syntax = Unit {0}
TypedRefusal refusals.NoTable = Unit {0}
TypedRefusal refusals.NoColumn = Unit {0}
TypedRefusal refusals.TypeClash = Unit {0}
TypedRefusal refusals.NotNull = Unit {0}
TypedRefusal (refusals.KeyTaken table key) = IsUtf8 table × TypedValues key
TypedRefusal refusals.Full = Unit {0}
TypedRefusal (refusals.NoParent table key) = IsUtf8 table × TypedValues key
TypedRefusal (refusals.HasChild table key) = IsUtf8 table × TypedValues key

abbrev pub TypedReply : Reply → Type 0
TypedReply (Rows rows) = AllByRecursion TypedValues rows
TypedReply (Changed n) = n < 2 ^ 64
TypedReply (Refused refusal) = TypedRefusal refusal

abbrev pub TypedEntry : Entry → Type 0
TypedEntry e = IsUtf8 e.text × (TypedValues e.params × TypedReply e.reply)

abbrev pub TypedLog : Log → Type 0
TypedLog l = AllByRecursion IsU32 l.process.parts × AllByRecursion TypedEntry l.entries

-- ---- events

abbrev pub TypedNeed : Need → Type 0
TypedNeed n = IsUtf8 n.member.table × (IsU32 n.member.row × IsU32 n.member.version)

abbrev pub TypedMember : Member → Type 0
TypedMember m = IsUtf8 m.table × (IsU32 m.row × IsU32 m.version)

abbrev pub TypedAct : Act → Type 0
TypedAct (acts.Started path) = IsUtf8 path
TypedAct (acts.Spawned path) = IsUtf8 path
TypedAct (acts.Unspawned path found) = IsUtf8 path
TypedAct (acts.OpenedRead path) = IsUtf8 path
TypedAct (acts.OpenedWrite path) = IsUtf8 path
TypedAct (acts.OpenedAppend path found) = IsUtf8 path
TypedAct (acts.OpenedNew path) = IsUtf8 path
TypedAct (acts.Unopened path found) = IsUtf8 path
TypedAct (acts.Read path) = IsUtf8 path
TypedAct (acts.Wrote path) = IsUtf8 path
TypedAct (acts.Removed path) = IsUtf8 path
TypedAct (acts.Tested path found) = IsUtf8 path
TypedAct (acts.Waited child) = IsU32 child
TypedAct (acts.Ended status) = status < 256
TypedAct (acts.Asked statement tables reads made) =
    IsU32 statement × (AllByRecursion IsUtf8 tables
    × (AllByRecursion TypedNeed reads × AllByRecursion TypedMember made))

abbrev pub TypedEvent : Event → Type 0
TypedEvent e = IsU32 e.step × (IsU32 e.process × TypedAct e.act)

-- ---- packages

abbrev pub TypedParts : Package → Type 0
TypedParts p =
    AllByRecursion TypedFile p.files × (AllByRecursion TypedTable p.tables
    × (AllByRecursion TypedLog p.logs × AllByRecursion TypedEvent p.events))

abbrev pub TypedNumbers : Package → Type 0
TypedNumbers p = (p.seed < 2 ^ 64) × (IsU32 p.steps × TypedParts p)

abbrev pub IsTyped : Package → Type 0
IsTyped p = AllByRecursion IsUtf8 p.start × TypedNumbers p
