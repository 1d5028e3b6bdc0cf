pub mod GraphOrder
pub mod GraphParts
pub mod HashText
pub mod Segments
pub mod Suffixes
