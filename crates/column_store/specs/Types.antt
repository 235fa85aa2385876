-- The types of the crate below, each under one name.
pub use Rattle.ldv_value.specs.declared.value.Value.{Value}
pub use Rattle.ldv_value.specs.declared.value.Value.TheVariants.{Null, Int, Text}
