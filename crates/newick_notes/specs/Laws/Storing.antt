-- One row more in the two arrays, where there is room. Assumes nothing.
use Rattle.std.specs.Prelude.{List, [], ◌++◌, ◌∷◌, refl, ◌≡◌, suc, zero, ℕ, ◌+◌, ◌<◌, ◌≤◌, length, set, take}
use Rattle.std.proofs.Common.{ap, sym, ◌∙◌, arith, length-append, length-set, take_all}
use Rattle.std.proofs.lemmas.List.{take-append-le}
use Rattle.theory.specs.LinkTables.{Row}
use Rattle.tree.specs.LocalRows.{rows_in}
use Rattle.tree.specs.Laws.LocalRows.{rows_in-length, stored_more}
use Rattle.newick_notes.specs.Turns.{Stored}
use Rattle.newick_notes.specs.Able.{Room}

pub stored_room : (f v : List ℕ) (k S c : ℕ) → k < 128 → Room k f v → Stored f v k S c (set f k S) (set v k c) (k + 1)
stored_room f v k S c h m = record {
  rows =
      stored_more f v k S c (omega (arith, m.far-size)) (omega (arith, m.cost-size))
      ∙ sym (take_all 128 (rows_in f v k ++ ((S, c) ∷ [])) (rw length-append (omega (arith, rows_in-length f v k))));
  far-size = length-set f k S ∙ m.far-size;
  cost-size = length-set v k c ∙ m.cost-size;
}

pub stored_full : (f v : List ℕ) (k S c : ℕ) → 128 ≤ k → Room k f v → Stored f v k S c f v k
stored_full f v k S c h m = record {
  rows =
      let T = rows_in f v k in
      let l : length T ≡ 128 = rows_in-length f v k ∙ omega (arith, m.most) in
      sym (take-append-le 128 T ((S, c) ∷ []) (omega arith) ∙ take_all 128 T (omega arith));
  far-size = m.far-size;
  cost-size = m.cost-size;
}

-- the first so many of a list and one more are the first so many of all
pub take_more : (n : ℕ) (T : List Row) (r : Row) → take n (take n T ++ (r ∷ [])) ≡ take n (T ++ (r ∷ []))
take_more zero T r = refl
take_more (suc n) [] r = refl
take_more (suc n) (x ∷ T) r = ap (λ (l : List Row). x ∷ l) (take_more n T r)
