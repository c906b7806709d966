-- What the contracts cite.
pub mod Networks
