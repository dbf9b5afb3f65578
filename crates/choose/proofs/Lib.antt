pub mod Choice
pub mod Samples
pub mod DefaultRange
