pub mod SheetSteps
pub mod FaceLines
pub mod CornerLists
pub mod VertexNumbers
pub mod TurnedAxes
pub mod CutSections
