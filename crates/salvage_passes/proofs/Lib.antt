-- Why: counting and filling by batches.
pub mod Batches
pub mod Fillings
