-- What the code's arrays and loops hold: no contract of an open call names these.
pub mod TaskArrays
