-- Why: entries at their places.
pub mod EntryForm
