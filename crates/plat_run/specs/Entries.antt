-- The entries of a closed history, for those who tell of it.
pub use Rattle.plat_end.specs.Entries.{entries_read, entry_read}
