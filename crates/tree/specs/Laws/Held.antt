-- What is known of each row kept in local arrays, as the crates above name it. Assumes nothing.
pub use Rattle.growing.specs.Laws.Held.{rows_in-mem}
