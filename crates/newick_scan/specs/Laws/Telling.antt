-- What is told of a tree, or of the open brackets. Assumes nothing.
use Rattle.std.specs.Prelude.{List, ◌≡◌, min, ℕ, length, take}
use Rattle.std.proofs.Common.{append-nil, ap, sym, ◌∙◌, arith, length-take}
use Rattle.theory.specs.LinkTables.{Row}
use Rattle.tree.specs.Laws.LocalRows.{rows_in-length}
use Rattle.newick_text.specs.Trees.{none}
use Rattle.newick_text.specs.Tables.{names}
use Rattle.newick_text.specs.States.{Open, within}
use Rattle.newick_text.specs.Noting.{fallen, marked, noted}
use Rattle.newick_notes.specs.declared.Noted.{Noted}
use Rattle.newick_scan.specs.Noting.{Kept}
use Rattle.newick_notes.specs.Able.{Room}
use Rattle.newick_scan.specs.Notes.{fallen_open, noted_open}
use Rattle.newick_scan.specs.Says.{Told}
use Rattle.newick_scan.specs.Reading.{ToldOpen}
use Rattle.newick_notes.specs.Laws.Lower.{lower_none}

pub told_room : (n m p : ℕ) (T : List Row) (w : Noted) (f v : List ℕ) → Told n m p T w f v → Room w.rows f v
told_room n m p T w f v t =
    let e : w.rows ≡ min 128 (length T) = sym (rows_in-length f v w.rows) ∙ ap length t.rows ∙ length-take 128 T in
    record { most = omega arith; far-size = t.far-size; cost-size = t.cost-size }

-- a bracket with nothing in it adds nothing
pub none_told : (o : Open) (x : Kept) → ToldOpen o x → ToldOpen (within none o) x
unfolding names marked noted fallen
none_told o x t = record {
  names = t.names ∙ omega arith;
  marked = t.marked;
  fallen = t.fallen ∙ sym (lower_none (fallen_open o));
  rows = t.rows ∙ ap (take 128) (sym (append-nil (noted_open o)));
  far-size = t.far-size;
  cost-size = t.cost-size;
}

pub like_told : (n m p : ℕ) (T : List Row) (w r : Noted) (f v : List ℕ)
    → r.names ≡ w.names → r.marked ≡ w.marked → r.fallen ≡ w.fallen → r.rows ≡ w.rows
    → Told n m p T w f v → Told n m p T r f v
like_told n m p T w r f v i j k l t = record {
  names = i ∙ t.names;
  marked = j ∙ t.marked;
  fallen = k ∙ t.fallen;
  rows = rw l t.rows;
  far-size = t.far-size;
  cost-size = t.cost-size;
}
