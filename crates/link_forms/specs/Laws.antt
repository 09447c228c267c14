-- From one row up to the whole form.
pub mod Sizes
pub mod Rows
pub mod RowsAgain
pub mod Form
