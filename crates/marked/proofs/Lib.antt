pub mod Brief
pub mod Computing
pub mod Marked
pub mod Confined
pub mod DefaultRoles
pub mod ProgramRoles
pub mod Refreshed
