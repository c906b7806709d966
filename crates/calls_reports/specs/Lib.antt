-- What the contracts cite.
pub mod Reports
