-- An exported call tells what its call answers.
pub mod Told
pub mod Many
-- Each of them has one outcome.
pub mod Determined
