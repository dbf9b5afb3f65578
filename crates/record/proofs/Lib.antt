pub mod Twelve
pub mod Owned
pub mod Shaping
