pub mod Mended
-- Of the mended rows: they are the exact reading of the smaller cost table.
pub mod MendedRows
pub mod Renamed
