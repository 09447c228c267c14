-- What document 02 says of writing Newick text, in the words of the call: what was answered, and what it left in the lent bytes. N is the row
-- count, l the far sides, v the doubled costs. Assumes nothing.
use Rattle.std.specs.Prelude.{List, ◌≡◌, ℕ, ◌≤◌, drop, length, take}
use Rattle.theory.specs.LinkTables.{rows_of}
use Rattle.theory.specs.Tables.{limit}
use Rattle.links.specs.Links.{Links}
use Rattle.newick_text.specs.LinkTrees.{newick}

-- the text of the rows
abbrev pub text_of : List ℕ → List ℕ → List ℕ
text_of l v = newick (rows_of l v)

-- what an accepted call left: e in the lent bytes out, of which it used k
pub record Wrote (n N : ℕ) (l v out : List ℕ) (k : ℕ) (e : List ℕ) : Type 0 where
  pub table : Links limit n N l v
  pub used : k ≡ length (text_of l v)
  pub room : k ≤ length out
  pub front : take k e ≡ text_of l v
  pub rest : drop k e ≡ drop k out
