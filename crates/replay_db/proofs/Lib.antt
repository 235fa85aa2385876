mod AuditLaws
mod KeptLogs
mod SortedLists
mod TraceLists
mod Membership
pub mod WorldRules
mod WorldValues
mod NeedsSorted
mod RowGroups
mod StatementEvents
mod TraceReasons
mod TraceRun
mod PackageLogs
pub mod PackageValid
mod PackageValidLists
mod PackageValidParts
mod PackageValidTyped
mod TableRooms
pub mod TraceValid
mod EndedRuns
pub mod OwnWorlds
pub mod RecordedRuns
mod RunsBetween
mod RunTraces
mod LoggedRuns
mod TableDue
