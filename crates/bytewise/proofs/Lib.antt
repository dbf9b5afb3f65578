pub mod BigEndian
pub mod LittleEndian
pub mod LowerKey
pub mod Laid
