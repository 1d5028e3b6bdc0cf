pub mod BodyViews
pub mod StepMeanings
