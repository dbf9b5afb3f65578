pub mod ClampRow
