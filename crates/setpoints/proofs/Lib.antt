pub mod Rounding
pub mod Number
pub mod Order
pub mod Morning
pub mod Examples
