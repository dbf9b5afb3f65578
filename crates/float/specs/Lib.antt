-- The definitions of this crate, in the order to read them.
-- a float format: sign, abs, class, scaled magnitude and position of a bit pattern
pub mod Format
-- what a sample stands for: no number, an infinity, or a sign and a magnitude; the number alone
pub mod Number
-- four orders, their six tests, and the comparison of numbers and of patterns
pub mod Order
-- what a pattern of each class stands for
pub mod ClassMeaning
-- the language's formats among these
pub mod Language
-- how the numbers of the machine meet the laws of their traits
pub mod Inner
