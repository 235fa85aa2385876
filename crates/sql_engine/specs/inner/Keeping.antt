-- Texts that are kept, each read and checked against the schemas of the tables.
use Rattle.std.specs.Prelude.{◌≤◌, List, length}
use Rattle.std.specs.List.{AllByRecursion}
use Rattle.sql_engine.specs.Types.{Catalog}
use Rattle.sql_engine.specs.declared.cache.Cache.{Cache}
use Rattle.sql_engine.specs.declared.cache.Entry.{Entry}
use Rattle.sql_template.specs.Checking.{IsPrepared}

-- a text of at most 1,024 bytes, read and checked
pub record IsEntryOf (catalog : Catalog) (entry : Entry) : Type 0 where
  pub prepared : IsPrepared catalog entry.prepared
  pub short : length entry.prepared.template.text ≤ 1024

abbrev pub AreEntriesOf : Catalog → List Entry → Type 0
AreEntriesOf catalog entries = AllByRecursion (IsEntryOf catalog) entries

-- at most 64 texts
pub record AreKept (catalog : Catalog) (entries : List Entry) : Type 0 where
  pub each : AreEntriesOf catalog entries
  pub few : length entries ≤ 64

abbrev pub IsCacheOf : Catalog → Cache → Type 0
IsCacheOf catalog cache = AreKept catalog cache.entries.items
