pub mod Filled
pub mod Images
pub mod Moments
pub mod Recorded
pub mod Replay
