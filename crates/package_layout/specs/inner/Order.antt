-- The orders of the lists of a package: those of `run_model`.
pub use Rattle.ldv_value.specs.Sorted.{precedes_first as is_below_next, is_strictly_sorted as rises}
pub use Rattle.ldv_value.specs.Sorted.{text_precedes as is_below}
pub use Rattle.run_model.specs.ValidPackage.{packed_file_precedes as file_below}
pub use Rattle.run_model.specs.ValidPackage.{packed_table_precedes as table_below, log_precedes as log_below}
pub use Rattle.run_model.specs.ValidTrace.{row_after_table, member_precedes as member_below}
pub use Rattle.run_model.specs.ValidTrace.{need_precedes as need_below}
