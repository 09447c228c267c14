-- Of the images' numbers, and of far sides once one has left.
pub mod OldNumbers
pub mod TakeOut
-- Of how the code mends them.
pub mod Joining
