pub mod Laws
pub mod Order
pub mod OneByOne
pub mod Run
pub mod Examples
