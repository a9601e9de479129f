pub mod AskedSize
pub mod TaskLines
pub mod TasksReadBack
pub mod LeafChanges
