pub mod Tests
pub mod Along
pub mod Tables
pub mod Rules
pub mod OneKind
pub mod Normal
