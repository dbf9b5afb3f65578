pub mod KindTests
pub mod Numbers
pub mod Answers
pub mod Given
pub mod Orders
pub mod SameNumber
pub mod OrderKeys
pub mod ByOrder
