pub mod Pairing
pub mod KindCounts
pub mod FieldTables
pub mod Settings
pub mod Calls
pub mod Codes
pub mod Operands
pub mod Spared
