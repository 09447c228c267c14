-- How far two lists of far sides differ, in document 01's words; the divisor is document 02's.
use Rattle.std.specs.Prelude.{cond, List, ℕ, ◌+◌, eqb, length}
use Rattle.theory.specs.Comparison.{common, differing, inners}
use Rattle.counts.specs.declared.Difference.{Difference}

-- what the count is set over: the m inner far sides of the first and of the second, and 1 where m is 0
abbrev pub over_of : ℕ → ℕ
over_of m = cond (eqb m 0) 1 m

-- inner far sides of the first, of the second, common ones, and those in exactly one
abbrev pub differ : ℕ → List ℕ → List ℕ → Difference
differ n l r = record {
  first = length (inners n l);
  second = length (inners n r);
  common = length (common (inners n l) (inners n r));
  count = differing (inners n l) (inners n r);
  over = over_of (length (inners n l) + length (inners n r));
}
