-- The definitions of this crate, in the order to read them.
-- what a report says of samples: a fold over them
pub mod Report
-- what the theorems speak of: an input that is looked at as blocks, and the bits of what is counted
pub mod ReportTheorem
