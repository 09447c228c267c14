-- The struct of numbers for each case of an answer about bytes, stored tables and Newick text. Assumes nothing.
use Rattle.batch.specs.Batch.{Batched}
use Rattle.choice.specs.Call.{Chosen}
use Rattle.stored_costs.specs.Outcomes.{StoredCosts}
use Rattle.stored_links.specs.Outcomes.{StoredLinks}
use Rattle.newick_reader.specs.Outcomes.{NewickTree}
use Rattle.std.specs.Prelude.{Ok, Err}
use Rattle.ground.specs.Refusals.{Written}
use Rattle.numbers.specs.Heads.{accepted, refused}
use Rattle.numbers.specs.declared.KemotuikiBytes.{KemotuikiBytes}
use Rattle.numbers.specs.declared.KemotuikiChoice.{KemotuikiChoice}
use Rattle.numbers.specs.declared.KemotuikiCosts.{KemotuikiCosts}
use Rattle.numbers.specs.declared.KemotuikiLinks.{KemotuikiLinks}
use Rattle.numbers.specs.declared.KemotuikiTree.{KemotuikiTree}

-- the bytes written
abbrev pub of_bytes : Written → KemotuikiBytes
of_bytes (Ok m) = record { head = accepted; used = m }
of_bytes (Err r) = record { head = refused 0 r; used = 0 }

-- those of a batch
abbrev pub of_batched : Batched → KemotuikiBytes
of_batched (Ok used) = record { head = accepted; used = used }
of_batched (Err e) = record { head = refused e.table e.refusal; used = 0 }

-- n and the bytes used
abbrev pub of_costs : StoredCosts → KemotuikiCosts
of_costs (Ok e) = record { head = accepted; n = e.n; used = e.used }
of_costs (Err r) = record { head = refused 0 r; n = 0; used = 0 }

-- n, the row count and the bytes used
abbrev pub of_links : StoredLinks → KemotuikiLinks
of_links (Ok e) = record { head = accepted; n = e.n; rows = e.count; used = e.used }
of_links (Err r) = record { head = refused 0 r; n = 0; rows = 0; used = 0 }

-- the chosen table's number and its bytes used
abbrev pub of_chosen : Chosen → KemotuikiChoice
of_chosen (Ok e) = record { head = accepted; chosen = e.table; used = e.used }
of_chosen (Err e) = record { head = refused e.table e.refusal; chosen = 0; used = 0 }

-- n and the row count
abbrev pub of_tree : NewickTree → KemotuikiTree
of_tree (Ok e) = record { head = accepted; n = e.n; rows = e.count }
of_tree (Err r) = record { head = refused 0 r; n = 0; rows = 0 }
