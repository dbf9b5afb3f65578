pub mod Sizes
pub mod Places
pub mod Runs
pub mod RunDecides
