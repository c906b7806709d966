-- Why: the report of the calls with a network, and what their contracts say.
pub mod Reported
pub mod Outcomes
