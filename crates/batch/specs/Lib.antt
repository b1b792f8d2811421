pub mod Items
pub mod Batch
pub mod Promises
