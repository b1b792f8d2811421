pub mod Pascals
pub mod Setpoints
pub mod Promises
