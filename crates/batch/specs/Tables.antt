-- The tables that two lists give, as the crates above name them. Assumes nothing.
unfoldable pub use Rattle.joined_tables.specs.Tables.{tables}
