-- What a reader must believe of the second form's count; then the road on which it is reached.
pub mod BranchPoints
pub mod KeptTries
