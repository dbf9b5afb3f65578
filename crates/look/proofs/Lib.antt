pub mod ByBits
pub mod Looking
pub mod Best
pub mod Looked
