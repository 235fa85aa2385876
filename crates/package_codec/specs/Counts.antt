-- Counts of four bytes that fit their fields: the lengths of texts, and of lists that may be long. If one
-- doesn't fit, the package is too long to be written. The validity of a package
-- (`package_layout/specs/Valid.antt`) depends on the counts of one and two bytes (`specs/Room.antt`), and
-- never on these.
use Rattle.std.specs.Prelude.{ℕ, ◌<◌, ◌^◌, List, length, Option, Some, None}
use Rattle.std.specs.List.{AllByRecursion}
use Rattle.ldv_value.specs.declared.value.Value.{Value}
use Rattle.ldv_value.specs.declared.value.Value.TheVariants.{Null, Int, Text}
use Rattle.sql_model.specs.declared.table.Column.{Column}
use Rattle.sql_model.specs.declared.reply.SqlRefusal.{SqlRefusal}
use Rattle.sql_model.specs.declared.reply.SqlRefusal.TheVariants.{Syntax, NoTable, NoColumn, TypeClash}
use Rattle.sql_model.specs.declared.reply.SqlRefusal.TheVariants.{NotNull, KeyTaken, Full, NoParent}
use Rattle.sql_model.specs.declared.reply.SqlRefusal.TheVariants.{HasChild}
use Rattle.sql_model.specs.declared.table.Foreign.{Foreign}
use Rattle.sql_model.specs.declared.table.Schema.{Schema}
use Rattle.sql_model.specs.declared.reply.Reply.{Reply}
use Rattle.sql_model.specs.declared.reply.Reply.TheVariants.{Rows, Changed, Refused}
use Rattle.run_model.specs.declared.event.Act.{Act}
use Rattle.run_model.specs.declared.event.Act.TheVariants as acts
use Rattle.run_model.specs.declared.event.Event.{Event}
use Rattle.run_model.specs.declared.package.PackedFile.{PackedFile}
use Rattle.run_model.specs.declared.package.PackedRow.{PackedRow}
use Rattle.run_model.specs.declared.package.PackedTable.{PackedTable}
use Rattle.run_model.specs.declared.package.Entry.{Entry}
use Rattle.run_model.specs.declared.package.Log.{Log}
use Rattle.package_codec.specs.declared.trace.group.Group.{Group}
use Rattle.package_codec.specs.Events.{need_groups, member_groups}
use Rattle.package_codec.specs.Version.{Version, One, Two}

-- a text, or a list, whose count fits
abbrev pub IsCountable : {X : Type 0} → List X → Type 0
IsCountable xs = length xs < 2 ^ 32

-- a list whose count has four bytes, with the counts of its items
abbrev pub CountedList : {X : Type 0} → (X → Type 0) → List X → Type 0
CountedList Counted xs = IsCountable xs × AllByRecursion Counted xs

-- ---- values, files and tables

abbrev pub CountedValue : Value → Type 0
CountedValue Null = Unit {0}
CountedValue (Int z) = Unit {0}
CountedValue (Text t) = IsCountable t

abbrev pub CountedContent : Option (List ℕ) → Type 0
CountedContent (Some bytes) = IsCountable bytes
CountedContent None = Unit {0}

abbrev pub CountedFile : PackedFile → Type 0
CountedFile f = IsCountable f.path × CountedContent f.content

abbrev pub CountedColumn : Column → Type 0
CountedColumn c = IsCountable c.name

abbrev pub CountedForeign : Foreign → Type 0
CountedForeign f = IsCountable f.parent

-- version 1 has no foreign keys
abbrev pub CountedForeigns : Version → List Foreign → Type 0
CountedForeigns One foreigns = Unit {0}
CountedForeigns Two foreigns = AllByRecursion CountedForeign foreigns

abbrev pub CountedSchema : Version → Schema → Type 0
CountedSchema version s = AllByRecursion CountedColumn s.columns × CountedForeigns version s.foreign

abbrev pub CountedRow : PackedRow → Type 0
CountedRow r = AllByRecursion CountedValue r.values

abbrev pub CountedTable : Version → PackedTable → Type 0
CountedTable version t =
    IsCountable t.name × (CountedSchema version t.schema × CountedList CountedRow t.rows)

-- ---- logs

abbrev pub CountedRefusal : SqlRefusal → Type 0
CountedRefusal Syntax = Unit {0}
CountedRefusal NoTable = Unit {0}
CountedRefusal NoColumn = Unit {0}
CountedRefusal TypeClash = Unit {0}
CountedRefusal NotNull = Unit {0}
CountedRefusal (KeyTaken table key) = IsCountable table × AllByRecursion CountedValue key
CountedRefusal Full = Unit {0}
CountedRefusal (NoParent table key) = IsCountable table × AllByRecursion CountedValue key
CountedRefusal (HasChild table key) = IsCountable table × AllByRecursion CountedValue key

abbrev pub CountedReply : Reply → Type 0
CountedReply (Rows rows) = CountedList (AllByRecursion CountedValue) rows
CountedReply (Changed n) = Unit {0}
CountedReply (Refused refusal) = CountedRefusal refusal

abbrev pub CountedEntry : Entry → Type 0
CountedEntry e = IsCountable e.text × (AllByRecursion CountedValue e.params × CountedReply e.reply)

abbrev pub CountedLog : Log → Type 0
CountedLog l = CountedList CountedEntry l.entries

-- ---- events

abbrev pub CountedGroup : {P : Type 0} → Group P → Type 0
CountedGroup g = IsCountable g.table × IsCountable g.parts

abbrev pub CountedAct : Act → Type 0
CountedAct (acts.Started path) = IsCountable path
CountedAct (acts.Spawned path) = IsCountable path
CountedAct (acts.Unspawned path found) = IsCountable path
CountedAct (acts.OpenedRead path) = IsCountable path
CountedAct (acts.OpenedWrite path) = IsCountable path
CountedAct (acts.OpenedAppend path found) = IsCountable path
CountedAct (acts.OpenedNew path) = IsCountable path
CountedAct (acts.Unopened path found) = IsCountable path
CountedAct (acts.Read path) = IsCountable path
CountedAct (acts.Wrote path) = IsCountable path
CountedAct (acts.Removed path) = IsCountable path
CountedAct (acts.Tested path found) = IsCountable path
CountedAct (acts.Waited child) = Unit {0}
CountedAct (acts.Ended status) = Unit {0}
CountedAct (acts.Asked statement tables reads made) =
    AllByRecursion IsCountable tables
    × (AllByRecursion CountedGroup (need_groups reads) × AllByRecursion CountedGroup (member_groups made))

abbrev pub CountedEvent : Event → Type 0
CountedEvent e = CountedAct e.act
