pub mod Tests
pub mod Writes
pub mod Before
pub mod Promises
