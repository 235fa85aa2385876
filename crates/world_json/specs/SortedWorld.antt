-- The files of a world are sorted by path, and its tables by name.
use Rattle.std.specs.Prelude.{Bool, ◌&&◌}
use Rattle.ldv_value.specs.FileState.{file_precedes}
use Rattle.ldv_value.specs.Sorted.{is_strictly_sorted}
use Rattle.run_model.specs.declared.world.World.{World}
use Rattle.sql_model.specs.Tables.{table_precedes}

abbrev pub is_sorted_world : World → Bool
is_sorted_world world =
    is_strictly_sorted file_precedes world.files && is_strictly_sorted table_precedes world.tables
