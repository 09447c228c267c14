-- `routes::upper_rows` meets its contract: behind the checks stand a link table and room for its rows. Assumes nothing.
use Rattle.std.proofs.Common.{arith}
use Rattle.std.proofs.lemmas.Grind.{common_steps}
use Rattle.ground.specs.Laws.Buffers.{over-all}
use Rattle.climbing.specs.Laws.UpperRows.{uppers-length}
use Rattle.routes.specs.Laws.Accepted.{upper-passed}
use Rattle.routes.proofs.upper_rows.Goals as goal

pub returns : goal.returns
returns c = record { answered = grind (arith, common_steps, upper-passed, uppers-length); left = grind (arith, common_steps, upper-passed, over-all, uppers-length) }
