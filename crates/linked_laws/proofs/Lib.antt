pub mod ByFrames
