pub mod Frames
pub mod Parts
pub mod StretchesApart
pub mod Overlaps
pub mod Judged
pub mod OneInstant
