-- The table of an accepted text is a link table. Assumes nothing.
use Rattle.std.specs.Prelude.{Bool, false, not, true, ◌&&◌, refl, ◌≡◌, suc, zero, ℕ, ◌*◌, ◌+◌, ◌<◌, ◌^◌, ◌≤◌, eqb, ltb, get_or, length, Ok}
use mathlib.Core.List.{List, Memᴰ, [], ◌++◌, ◌∷◌}
use Rattle.std.proofs.Common.{ap, subst, sym, ◌∙◌, arith, pow_pos, eqb-true, ltb-false, ne_eqb}
use Rattle.std.proofs.lemmas.Bool.{eqb-false}
use borrow.Table.Steps.{cases}
use Rattle.ground.specs.Counts.{one_if}
use Rattle.ground.specs.Laws.Maps.{map-mem, mem-map}
use Rattle.ground.specs.Laws.Tests.{or_false}
use Rattle.theory.specs.FarSides.{inner, own}
use Rattle.theory.specs.LinkTables.{LinkTable, Row, costs, far, fars}
use Rattle.bad_rows.specs.BadRows.{bad_cost}
use Rattle.links.specs.Laws.FirstChecks.{first-passed}
use Rattle.newick_text.specs.Trees.{Siblings, bracket, image, none}
use Rattle.newick_text.specs.Profile.{Tree}
use Rattle.newick_text.specs.Tables.{names, rows, side, sorted, table_of}
use Rattle.newick_text.specs.Reading.{read_checks, tree_in}
use Rattle.newick_text.proofs.Laws.Accepted.{Accepted, root_proper, said}
use Rattle.newick_text.specs.Laws.Lists.{at_row}
use Rattle.newick_text.specs.Laws.Numbers.{bit-own, zero_or_one}
use Rattle.newick_text.specs.Laws.OneText.{rows_between}
use Rattle.newick_text.specs.Laws.RowsNested.{occ-row, row-occ, rows_nested}
use Rattle.newick_text.specs.Laws.Sides.{side_is}
use Rattle.newick_text.specs.Laws.Sorting.{mem-sorted, sorted-mem}
use Rattle.newick_text.specs.Laws.Vertices.{Named, Once, occ}

pub cost_good : (L n S c : ℕ) → bad_cost L n S c ≡ false → (c ≤ 2 * L) × (inner n S ≡ true → 0 < c)
cost_good L n S c e =
    let k = or_false (ltb (2 * L) c) (inner n S && eqb c 0) e in
    (ltb-false (2 * L) c k.0, λ h. let z : (true && eqb c 0) ≡ false = rw h at k.1 in omega (arith, eqb-false c 0 z))

-- the own link of every image
owns_of : (n c : ℕ) (r : Siblings) → 1 ≤ n → Named n r → Once r → occ r 0 ≡ 0 → ((m : ℕ) → 1 ≤ m → m < n → occ r m ≡ 1)
    → (j : ℕ) → j < n → Memᴰ (own n j) (fars (sorted (rows (bracket r c none))))
unfolding occ rows
owns_of n c r k h o z e zero l =
    let q : side r ≡ own n 0 = side_is n r (own n 0) h o (omega (arith, pow_pos n)) (λ m b.
    cases (eqb m 0)
    (λ t. rw (eqb-true m 0 t) (z ∙ sym (bit-own n 0 k l)))
    (λ t. e m (omega (arith, eqb-false m 0 t)) b ∙ sym (bit-own n m k b ∙ ap (λ (x : Bool). one_if (not x)) t))) in
    let d : Memᴰ (side r, c) (rows r ++ ((side r, c) ∷ [])) = mathlib.Core.List.Memᴰ.append_right (rows r) (mathlib.Core.List.Memᴰ.head refl) in
    subst (λ (x : ℕ). Memᴰ x (fars (sorted (rows r ++ ((side r, c) ∷ []))))) q (mem-map far (sorted-mem (side r, c) (rows r ++ ((side r, c) ∷ [])) d))
owns_of n c r k h o z e (suc j) l =
    let F = bracket r c none in
    let m = map-mem far (rows F) (2 ^ suc j) (occ-row F (suc j) (omega (arith, e (suc j) (omega arith) l))) in
    rw m.1 (mem-map far (sorted-mem m.0 (rows F) m.2))

-- what is read of an accepted text is a link table
pub tree_links : (L room : ℕ) (f : Siblings) → Tree f → Accepted L f room → LinkTable L (length (names f)) (table_of f)
unfolding occ rows
tree_links L room none w a = absurd (omega (arith, w.three))
tree_links L room (bracket g c r) w a = absurd w.one
tree_links L room (image i c r) w a =
    let n = length (names (image i c r)) in
    let F = bracket r c none in
    let T = sorted (rows F) in
    let p = root_proper L room i c r w a in
    let back : (x : Row) → Memᴰ x T → Memᴰ x (rows F) = λ x d. mem-sorted x (rows F) d in
    let first : one_if (eqb i 1) ≡ 1 = ap (λ (y : ℕ). one_if (eqb y 1)) w.one in
    let zero-occ : occ r 0 ≡ 0 = omega (arith, a.all.each 0 (omega (arith, a.some))) in
    let cost : (x : Row) → Memᴰ x T → (x.1 ≤ 2 * L) × (inner n x.0 ≡ true → 0 < x.1) = λ x d.
    let k = at_row T x d in
    let bad : ℕ → Bool = λ j. bad_cost L n (get_or (fars T) j 0) (get_or (costs T) j 0) in
    rw k.2 (cost_good L n (get_or (fars T) k.0 0) (get_or (costs T) k.0 0) (first-passed 12 bad (length T) a.costly k.0 k.1)) in
    record {
      ascending = rows_between n a.few F p;
      near = λ x d. zero_or_one x.0 0 (λ e. omega (arith, row-occ n F x 0 p.named p.once (omega (arith, a.some)) (back x d) e));
      owns = owns_of n c r (omega (arith, a.some)) p.named.0 (λ m. omega (arith, p.once m)) zero-occ (λ m h l. later m h (a.all.each m l));
      nested = λ x d y e. rows_nested n F p.named p.once x (back x d) y (back y e);
      drawn = λ x d. (cost x d).1;
      small = λ x d. (cost x d).0;
    }
  where
    later : (m : ℕ) → 1 ≤ m → one_if (eqb i (suc m)) + occ r m ≡ 1 → occ r m ≡ 1
    later m h e = omega (arith, e, ap one_if (ne_eqb i (suc m) (λ q. omega (arith, w.one))))

pub read_links : (L : ℕ) (t : List ℕ) (room : ℕ) → read_checks L t room ≡ Ok tt → LinkTable L (length (names (tree_in t))) (table_of (tree_in t))
read_links L t room e = let s = said L t room e in tree_links L room (tree_in t) s.fine s.accepted
