mod Named
pub mod OneTable
pub mod StoreFacts
