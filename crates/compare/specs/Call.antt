-- What the comparison answers, in document 01's words. Of the tree part it names the check of one table and the far sides of its tree.
use Rattle.counts.specs.declared.Difference.{Difference}
use Rattle.ground.specs.declared.TableRefusal.{TableRefusal}
use Rattle.std.specs.Prelude.{List, ℕ, Ok, Result}
use Rattle.ground.specs.Refusals.{if_passed, Check, refused_in}
use Rattle.theory.specs.Checks.{images_check}
use Rattle.tree.specs.Exact.{exact_sides, table_check}
use Rattle.counts.specs.Differ.{differ}

-- what the call answers: what is counted, or the refusal with the table's number
abbrev pub Comparison : Type 0
Comparison = Result Difference TableRefusal

-- a refusal with the table's number m beside the places, or what follows where the check passed
abbrev pub numbered : ℕ → Check → Comparison → Comparison
numbered m c y = if_passed (refused_in m) c y

-- the second table, number 2, after the tree with the far sides l
abbrev pub against_second : ℕ → ℕ → List ℕ → List ℕ → Comparison
against_second L n l u = numbered 2 (table_check L n u) (Ok (differ n l (exact_sides L n u)))

-- the first table, number 1, and then the second
abbrev pub both_tables : ℕ → ℕ → List ℕ → List ℕ → Comparison
both_tables L n t u = numbered 1 (table_check L n t) (against_second L n (exact_sides L n t) u)

-- 1, with number 0, before both
abbrev pub comparison : ℕ → ℕ → List ℕ → List ℕ → Comparison
comparison L n t u = numbered 0 (images_check n) (both_tables L n t u)
