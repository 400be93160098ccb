pub mod EpochStories
pub mod LoneRows
pub mod HeldRows
pub mod WindowRows
pub mod WholeRows
pub mod WrapUpRows
pub mod CountedRows
pub mod BegunRows
