pub mod ShapeFits
pub mod WalkSteps
pub mod Walks
pub mod RunWords
pub mod Seeds
pub mod WorkedSeeds
