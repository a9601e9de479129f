-- The contract of the pass.
pub mod RanMirrored
pub mod Examples
-- What the code's slices and loops hold: no contract of an open call names these.
pub mod RanInMirror
pub mod MirroredSlices
