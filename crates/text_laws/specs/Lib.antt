pub mod LinesAndWords
pub mod StandsFor
