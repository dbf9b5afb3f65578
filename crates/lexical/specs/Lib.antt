-- The definitions of this crate, in the order to read them.
-- two records compared and chosen between: the order, the rules, the answers
pub mod Lexical
-- what private functions compute
pub mod Inner
