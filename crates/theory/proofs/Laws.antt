pub mod Attained
pub mod ClosedSum
pub mod Divisions
pub mod FewSteps
-- The laws, from the definitions up to the demands.
-- The four-point condition.
pub mod FourPoint
pub mod ImageOne
pub mod Index
pub mod LastChoice
pub mod Line
pub mod NoShorter
pub mod OneMore
-- The drawn links form one tree.
pub mod OneTree
pub mod OnlyOne
pub mod Over
pub mod OwnLinks
pub mod Paths
pub mod Reached
pub mod ReadingGrows
pub mod Ring
pub mod RingLeft
pub mod RingRuns
pub mod Routes
pub mod RowCount
pub mod RowsFound
pub mod RowsGrow
pub mod Runs
-- That no smaller bounds hold.
pub mod Scaled
pub mod Shortest
pub mod SignedIndex
pub mod Sorted
pub mod Stable
-- No ring is shorter, and by how much one may be where a table is a little off.
pub mod TakenOut
pub mod TimedLine
pub mod TimedSum
pub mod Under
