-- The definitions of this crate, in the order to read them.
-- the kinds: their list, their numbers, their three forms
pub mod Kinds
-- what a value holds: its bits, its number, its position, and the value of a bit pattern
pub mod Meaning
-- what a call answers, in the words of the rules, and lent memory after it
pub mod Outcome
-- rules of refusal in their order, and what it means to go by them
pub mod Rules
