-- The struct of numbers for each case of an answer; those of bytes and stored tables are in Stored.antt. A refusal has no values: they are 0.
-- Assumes nothing.
use Rattle.compare.specs.Call.{Comparison}
use Rattle.consensus.specs.Call.{Shared}
use Rattle.ground.specs.Refusals.{Answer, SignedAnswer, Written}
use Rattle.std.specs.Prelude.{pos, Ok, Err}
use Rattle.numbers.specs.Heads.{accepted, refused}
use Rattle.numbers.specs.declared.KemotuikiComparison.{KemotuikiComparison}
use Rattle.numbers.specs.declared.KemotuikiIndex.{KemotuikiIndex}
use Rattle.numbers.specs.declared.KemotuikiOrder.{KemotuikiOrder}
use Rattle.numbers.specs.declared.KemotuikiPath.{KemotuikiPath}
use Rattle.numbers.specs.declared.KemotuikiRows.{KemotuikiRows}

-- the index, a signed number
abbrev pub of_index : SignedAnswer → KemotuikiIndex
of_index (Ok v) = record { head = accepted; signed_index = v }
of_index (Err r) = record { head = refused 0 r; signed_index = pos 0 }

-- the images written
abbrev pub of_order : Written → KemotuikiOrder
of_order (Ok m) = record { head = accepted; images = m }
of_order (Err r) = record { head = refused 0 r; images = 0 }

-- the rows written
abbrev pub of_rows : Written → KemotuikiRows
of_rows (Ok m) = record { head = accepted; rows = m }
of_rows (Err r) = record { head = refused 0 r; rows = 0 }

-- the path cost
abbrev pub of_path : Answer → KemotuikiPath
of_path (Ok v) = record { head = accepted; cost = v }
of_path (Err r) = record { head = refused 0 r; cost = 0 }

-- inner rows of the first and of the second, common far sides, the Robinson-Foulds count and what it stands over
abbrev pub of_comparison : Comparison → KemotuikiComparison
of_comparison (Ok w) = record {
  head = accepted;
  inner_first = w.first;
  inner_second = w.second;
  common = w.common;
  count = w.count;
  over = w.over;
}
of_comparison (Err e) =
    record { head = refused e.table e.refusal; inner_first = 0; inner_second = 0; common = 0; count = 0; over = 0 }

-- the rows that a team shares
abbrev pub of_shared : Shared → KemotuikiRows
of_shared (Ok m) = record { head = accepted; rows = m }
of_shared (Err e) = record { head = refused e.table e.refusal; rows = 0 }
