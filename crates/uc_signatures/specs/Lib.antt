pub mod Joined
pub mod LocalViews
pub mod PlacedViews
