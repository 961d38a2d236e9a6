pub mod LinesOfRows
