pub mod Spelled
pub mod Laid
pub mod Turns
pub mod RunTells
