pub mod Ends
pub mod NumberLine
pub mod Program
pub mod Reading
