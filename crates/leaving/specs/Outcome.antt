-- What the replay answers and leaves in the two lent slices, in document 02's words. Assumes nothing.
use Rattle.ground.specs.Refusals.{Check}
use Rattle.std.specs.Prelude.{List, ℕ, length, Ok, Err}
use Rattle.ground.specs.Buffers.{front}
use Rattle.theory.specs.LinkTables.{costs, fars}
use Rattle.theory.specs.Outcomes.{RowsOutcome}
use Rattle.tree.specs.Exact.{exact_rows}
use Rattle.tree.specs.Readings.{exact_check}
use Rattle.leaving.specs.declared.Replayed.{Replayed}
use Rattle.leaving.specs.Replay.{Standing, replay}

-- the exact reading's refusals for the start, as event 0, and nothing altered; else the replay's images, number of rows, refused event
-- and refusal, and its rows in front: where an event was refused, those before it
abbrev pub outcome : Check → Standing → List ℕ → List ℕ → RowsOutcome Replayed
outcome (Ok tt) p f v = record {
  answer = record { images = p.images; rows = length p.rows; event = p.event; stop = p.stop };
  far_list = front (fars p.rows) f;
  cost_list = front (costs p.rows) v;
}
outcome (Err r) p f v = record { answer = record { images = 0; rows = 0; event = 0; stop = Err r }; far_list = f; cost_list = v }

-- of the cost table t of n images and the events es
abbrev pub replay_outcome : ℕ → ℕ → List ℕ → List ℕ → List ℕ → List ℕ → RowsOutcome Replayed
replay_outcome L n t es f v = outcome (exact_check L n t (length f) (length v)) (replay 1 n (exact_rows L n t) es) f v
