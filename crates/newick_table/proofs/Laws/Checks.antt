-- What is checked of the notes of a text of the profile is what is checked of its tree. Assumes nothing.
use Rattle.std.specs.Prelude.{Bool, false, not, ◌||◌, List, refl, ◌≡◌, suc, ℕ, ◌*◌, ◌-◌, ◌<◌, ◌≤◌, eqb, get_or, length, take, Ok}
use Rattle.std.proofs.Common.{ap, ap₂, ◌∙◌, arith}
use Rattle.std.proofs.lemmas.Bool.{not-false}
use Rattle.ground.specs.Laws.Bits.{bit_none}
use Rattle.ground.specs.Laws.Refusals.{outside_false, refuse_if-passed, then_assoc, then_passed, then_same}
use Rattle.ground.specs.Members.{is_in}
use Rattle.ground.specs.Refusals.{outside, refusal, refuse_if, room_check, ◌then◌, Check}
use Rattle.theory.specs.Checks.{images_check}
use Rattle.theory.specs.FarSides.{holds}
use Rattle.theory.specs.LinkTables.{Row, costs, fars}
use Rattle.theory.specs.Tables.{limit}
use Rattle.tree.specs.LocalRows.{rows_in}
use Rattle.bad_rows.specs.BadRows.{bad_cost}
use Rattle.links.specs.FirstChecks.{first_check}
use Rattle.links.specs.Laws.FirstChecks.{first-passed}
use Rattle.newick_text.specs.Trees.{Siblings, bracket, image, none}
use Rattle.newick_text.specs.Profile.{Tree}
use Rattle.newick_text.specs.Tables.{names, table_of}
use Rattle.newick_text.specs.Noting.{fallen, marked, noted}
use Rattle.newick_text.specs.Reading.{costs_check, names_check, order_check, tree_checks}
use Rattle.newick_text.specs.Order.{fall}
use Rattle.newick_text.proofs.Laws.ReadLinks.{cost_good}
use Rattle.newick_text.specs.Laws.Lists.{at_row}
use Rattle.newick_text.specs.Laws.NamedOnce.{AllOnce, all_once}
use Rattle.newick_table.specs.Capping.{capped}
use Rattle.newick_table.specs.Notes.{name_checks, noted_table, row_checks, unnamed}
use Rattle.newick_table.specs.Laws.Capped.{capped_bad, capped-cost, capped-far, capped-length, capped_same}
use Rattle.newick_table.specs.Laws.Named.{marked-names}
use Rattle.newick_table.specs.Laws.Searching.{check_same}
use Rattle.newick_table.specs.Laws.Table.{noted-fall, noted-table}

-- ## 13

named-bit : (f : Siblings) → Tree f → (i : ℕ) → i < 64 → unnamed (marked 0 f) i ≡ not (is_in (suc i) (names f))
unfolding unnamed
named-bit f w i l =
    let z : holds 0 i ≡ false = ap (λ (x : ℕ). eqb x 1) (bit_none i) in
    ap not (marked-names 1 0 f w.formed i l ∙ ap (λ (b : Bool). b || is_in (suc i) (names f)) z)

names_same : (f : Siblings) (room : ℕ) → Tree f → (n : ℕ)
    → name_checks n (marked 0 f) room ≡ (images_check n then (room_check (2 * n - 3) room then names_check n f))
names_same f room w n =
    then_same (images_check n) refl (λ p.
    let k = outside_false 3 64 n (refuse_if-passed (outside 3 64 n) _ p) in
    then_same (room_check (2 * n - 3) room) refl (λ q.
    check_same 13 (unnamed (marked 0 f)) (λ i. not (is_in (suc i) (names f))) n (λ i l. named-bit f w i (omega (arith, k.1)))))

-- ## 12

capped_checked : (n : ℕ) (T : List Row) → costs_check limit n (capped T) ≡ costs_check limit n T
capped_checked n T =
    let C = capped T in
    check_same 12 (λ k. bad_cost limit n (get_or (fars C) k 0) (get_or (costs C) k 0)) (λ k. bad_cost limit n (get_or (fars T) k 0) (get_or (costs T) k 0)) (length C)
    (λ k l.
    ap₂ (bad_cost limit n) (ap (λ (x : List ℕ). get_or x k 0) (capped-far T)) (capped-cost T k) ∙ capped_bad n (get_or (fars T) k 0) (get_or (costs T) k 0))
    ∙ ap (first_check 12 (λ k. bad_cost limit n (get_or (fars T) k 0) (get_or (costs T) k 0))) (capped-length T)

uncapped : (n : ℕ) (T : List Row) → costs_check limit n T ≡ Ok tt → capped T ≡ T
uncapped n T e =
    capped_same T (λ x m.
    let k = at_row T x m in
    rw k.2 (cost_good limit n (get_or (fars T) k.0 0) (get_or (costs T) k.0 0)
    (first-passed 12 (λ j. bad_cost limit n (get_or (fars T) j 0) (get_or (costs T) j 0)) (length T) e k.0 k.1)).0)

-- ## All checks

module _ (f : Siblings) (w : Tree f) (k : ℕ) (g v : List ℕ) (e : rows_in g v k ≡ take 128 (noted 0 f)) (room : ℕ) where
  abbrev n : ℕ
  n = length (names f)

  abbrev Names : Check
  Names = images_check n then (room_check (2 * n - 3) room then names_check n f)

  abbrev S : List Row
  S = noted_table (marked 0 f) k g v

  -- once the names passed
  table_same : Names ≡ Ok tt → (S ≡ capped (table_of f)) × (fallen 0 2 0 f ≡ fall f)
  table_same p =
      let a = then_passed (images_check n) _ p in
      let b = then_passed (room_check (2 * n - 3) room) _ a.1 in
      let q = outside_false 3 64 n (refuse_if-passed (outside 3 64 n) _ a.0) in
      go f w e q.1 (all_once n f refl (λ m l. not-false (is_in (suc m) (names f)) (first-passed 13 (λ i. not (is_in (suc i) (names f))) n b.1 m l)))
    where
      go : (f : Siblings) → Tree f → rows_in g v k ≡ take 128 (noted 0 f) → length (names f) ≤ 64 → AllOnce (length (names f)) f
          → (noted_table (marked 0 f) k g v ≡ capped (table_of f)) × (fallen 0 2 0 f ≡ fall f)
      go none w e l a = absurd (omega (arith, w.three))
      go (image i c r) w e l a =
          let n = length (names (image i c r)) in
          (noted-table n i c r l w refl a k g v e, noted-fall n i c r l w refl a k g v e)
      go (bracket g c r) w e l a = absurd w.one

  -- the checks of what was noted are those of the tree
  pub checks_same : (name_checks n (marked 0 f) room then row_checks n (fallen 0 2 0 f) S) ≡ tree_checks limit f room
  checks_same =
      then_same Names (names_same f room w n) (λ p.
      let t = table_same p in
      ap₂ (λ (c : Check) (x : ℕ). c then refuse_if (not (eqb x 0)) (refusal 22 x 0 0 0)) (ap (costs_check limit n) t.0 ∙ capped_checked n (table_of f)) t.1)
      ∙ then_assoc (images_check n) (room_check (2 * n - 3) room then names_check n f) (costs_check limit n (table_of f) then order_check f)
      ∙ ap (λ (c : Check). images_check n then c) (then_assoc (room_check (2 * n - 3) room) (names_check n f) (costs_check limit n (table_of f) then order_check f))

  pub rows_are : tree_checks limit f room ≡ Ok tt → S ≡ table_of f
  rows_are p =
      let a = then_passed (images_check n) _ p in
      let b = then_passed (room_check (2 * n - 3) room) _ a.1 in
      let c = then_passed (names_check n f) _ b.1 in
      let d = then_passed (costs_check limit n (table_of f)) _ c.1 in
      let q : Names ≡ (Ok tt) = rw (a.0, b.0, c.0) refl in
      (table_same q).0 ∙ uncapped n (table_of f) d.0
