-- What the contracts of `table_text` cite: the text of a cost table, and which image can be last.
pub mod LastImage
pub mod TableText
-- What is true of it.
pub mod Laws
