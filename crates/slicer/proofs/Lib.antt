pub mod DueLaws
pub mod FileLaws
pub mod FreshLaws
pub mod InitialLaws
pub mod InitialRows
pub mod RowSetLaws
pub mod RunRows
pub mod StatementRows
