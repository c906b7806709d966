-- The call that writes a set's file: what is said of it in setfile_save.
pub use Rattle.setfile_save.specs.Calls.{file_at, Saved}
unfoldable pub use Rattle.setfile_save.specs.Calls.{save_rules, save_rule, bytes_after}
