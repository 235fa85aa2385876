pub mod WorkedArguments
pub mod WorkedExits
pub mod WorkedOutcomes
pub mod WorkedReplies
pub mod WorkedSchedules
