-- Facts about every value of the program's types: the definitions of `run_model`.
pub use Rattle.run_model.specs.TypedPackage.{IsU32, TypedValue, TypedValues, TypedFile, TypedColumn, TypedRow}
pub use Rattle.run_model.specs.TypedPackage.{TypedForeign, TypedSchema}
pub use Rattle.run_model.specs.TypedPackage.{TypedTable}
pub use Rattle.run_model.specs.TypedPackage.{TypedRefusal, TypedReply, TypedEntry, TypedLog}
pub use Rattle.run_model.specs.TypedPackage.{TypedNeed, TypedMember, TypedAct, TypedEvent}
pub use Rattle.run_model.specs.TypedPackage.{TypedParts, TypedNumbers, IsTyped}
