pub mod Gathering
pub mod Samplings
pub mod Joining
pub mod Refusals
