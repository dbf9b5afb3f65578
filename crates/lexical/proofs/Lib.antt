pub mod Steps
pub mod OneKind
pub mod OneShape
pub mod Deciding
pub mod Given
