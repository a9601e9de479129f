mod MirroredLoops
mod MirroredTrace
mod MirroredEnds
pub mod TooManyRanges
