-- The definitions of this crate, in the order to read them.
-- comparison of two values, its six tests, and the total order
pub mod Compare
-- what an order decides between two, and refusal 8
pub mod ByOrder
-- what private functions compute
pub mod Inner
