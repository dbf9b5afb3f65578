pub mod Widths
pub mod Padding
pub mod Pairs
pub mod Filling
pub mod Reading
pub mod Determined
