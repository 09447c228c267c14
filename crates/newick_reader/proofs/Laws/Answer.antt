-- What the notes of a whole text say is what reading the text answers and leaves. Assumes nothing.
use Rattle.ground.specs.Refusals.{Check}
use Rattle.std.specs.Prelude.{true, List, refl, ◌≡◌, min, ℕ, ◌*◌, ◌+◌, ◌≤◌, length, take, Ok, Err}
use Rattle.std.proofs.Common.{ap, ◌∙◌}
use Rattle.theory.specs.LinkTables.{Row}
use Rattle.theory.specs.Tables.{limit}
use Rattle.tree.specs.LocalRows.{rows_in}
use Rattle.newick_text.specs.Trees.{Siblings}
use Rattle.newick_text.specs.Profile.{Tree}
use Rattle.newick_text.specs.Tables.{names, table_of}
use Rattle.newick_text.specs.Bytes.{run}
use Rattle.newick_text.specs.States.{start}
use Rattle.newick_text.specs.Ends.{is_done}
use Rattle.newick_text.specs.Noting.{fallen, marked, noted}
use Rattle.newick_text.specs.Reading.{tree_checks, tree_in}
use Rattle.newick_text.proofs.Laws.Place.{done_text}
use Rattle.newick_text.proofs.Laws.Accepted.{done_is}
use Rattle.newick_table.specs.Notes.{noted_table}
use Rattle.newick_reader.specs.Notes.{note_outcome}
use Rattle.newick_reader.specs.Outcomes.{read_outcome, rows_if}
use Rattle.newick_table.specs.Laws.Table.{noted-count}
use Rattle.newick_table.proofs.Laws.Checks.{checks_same, rows_are}

-- ## A tree

rows_same : (c : Check) (n : ℕ) (S T : List Row) (f v : List ℕ) → (c ≡ Ok tt → S ≡ T) → rows_if c n S f v ≡ rows_if c n T f v
rows_same (Ok tt) n S T f v h = ap (λ (l : List Row). rows_if (Ok tt) n l f v) (h refl)
rows_same (Err r) n S T f v h = refl

module _ (f : Siblings) (w : Tree f) (k : ℕ) (g v : List ℕ) (e : rows_in g v k ≡ take 128 (noted 0 f)) (room : ℕ) where
  abbrev n : ℕ
  n = length (names f)

  abbrev S : List Row
  S = noted_table (marked 0 f) k g v

  pub note_tree : (l u : List ℕ) → min (length l) (length u) ≡ room
      → note_outcome n (marked 0 f) k (fallen 0 2 0 f) g v l u ≡ rows_if (tree_checks limit f room) n (table_of f) l u
  note_tree l u q = rw q (ap (λ (c : Check). rows_if c n S l u) (checks_same f w k g v e room) ∙ rows_same (tree_checks limit f room) n S (table_of f) l u (rows_are f w k g v e room))

-- ## A text of the profile

module _ (t : List ℕ) (d : is_done (run start t) ≡ true) (k : ℕ) (g v : List ℕ) (e : rows_in g v k ≡ take 128 (noted 0 (tree_in t))) where
  fine : Tree (tree_in t)
  fine = (done_text t (tree_in t) (done_is (run start t) d)).1

  pub whole-count : (1 ≤ k) × (k ≤ 128) × (k + 3 ≤ 2 * length (names (tree_in t)))
  whole-count = noted-count (tree_in t) fine k g v e

  pub note_read : (l u : List ℕ)
      → note_outcome (length (names (tree_in t))) (marked 0 (tree_in t)) k (fallen 0 2 0 (tree_in t)) g v l u ≡ read_outcome t l u
  note_read l u = note_tree (tree_in t) fine k g v e (min (length l) (length u)) l u refl ∙ rw d refl
