-- The call that simplifies a set: what is said of it in change_simplify.
pub use Rattle.change_simplify.specs.Simplified.{list_simple, no_args, Simplifies}
