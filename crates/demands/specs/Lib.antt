-- The definitions of this crate, in the order to read them.
-- the three demands, as one claim
pub mod Demands
-- every call answers by its rules
pub mod Demand1
-- refusals 9, 10 and 11 of records and keys, by counts and lengths
pub mod Lengths
-- the same at the boundary, and for a whole input
pub mod Boundary
-- the same for a block of a migration
pub mod Blocks
-- the sentences of demand 2
pub mod Demand2
-- classes, comparison and total order
pub mod Floats
-- conversion
pub mod Conversion
-- which refusal a conversion gives, by the numbers
pub mod WhichRefusal
-- records compared, samples chosen and clamped
pub mod Choosing
-- rows of samples, accepted and refused
pub mod Rows
-- the default range, by the greys of 16 bits
pub mod DefaultRange
-- the choice between lent rows of bytes
pub mod LentRows
-- keys and the order of their bytes
pub mod Demand3
-- the same at the boundary, in kind numbers and bits
pub mod BoundaryKeys
-- no two outcomes meet a contract
pub mod Determined
-- the fourteen marked cases
pub mod Marked
