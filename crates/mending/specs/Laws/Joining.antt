-- Rows renamed and joined in place, one after another. Assumes nothing.
use Rattle.std.specs.Prelude.{List, [], map, ◌++◌, ◌∷◌, refl, ◌≡◌, suc, ℕ, ◌+◌, ◌<◌, ◌^◌, ◌≤◌, ltb, get_or, length}
use Rattle.std.proofs.Common.{ap, ap₂, sym, ◌∙◌, arith, lt-ltb}
use Rattle.std.proofs.lemmas.List.{length-map}
use borrow.Table.Steps.{cases}
use Rattle.ground.specs.Laws.Filters.{filter-append}
use Rattle.ground.specs.Laws.Maps.{map-append}
use Rattle.ground.specs.Laws.Sums.{sum-append, sum-map}
use Rattle.theory.specs.LinkTables.{Row, all_costs}
use Rattle.tree.specs.Laws.LocalRows.{rows_in-length, rows_in-more, rows_in_none}
use Rattle.tree.specs.LocalRows.{rows_in}
use Rattle.rows.proofs.Laws.Places.{in_at}
use Rattle.rows.proofs.Laws.PutAll.{put_all-append, put_all-length, put_all-total}
use Rattle.rows.specs.Putting.{Ascends, PutRoom, PutRow}
use Rattle.rows.specs.Rows.{put_all}
use Rattle.mending.specs.Leaving.{grouped, joined, mend, rename_row, renamed}
use Rattle.mending.specs.Mending.{Joining, KeepRow, Kept, Mendable}

-- ## One row

pub keep_none : (f v : List ℕ) (count S c : ℕ) → Ascends f count → S ≡ 0 → KeepRow f v count S c count f v
unfolding put_all
keep_none f v count S c a e = record {
  rows = rw e refl;
  ascends = a;
  behind = record { far_same = λ {j} l. refl; cost_same = λ {j} l. refl };
  far-size = refl;
  cost-size = refl;
}

pub keep_some : (f v : List ℕ) (count S c r : ℕ) (f' v' : List ℕ) → 0 < S → PutRow f v count S c r f' v' → KeepRow f v count S c r f' v'
unfolding put_all
keep_some f v count S c r f' v' h p =
    record { rows = rw (lt-ltb 0 S h) p.rows; ascends = p.ascends; behind = p.behind; far-size = p.far-size; cost-size = p.cost-size }

-- ## All of them

joined_none : joined [] ≡ []
unfolding joined put_all
joined_none = refl

joined-more : (R : List Row) (a : Row) → joined (R ++ (a ∷ [])) ≡ put_all (grouped (a ∷ [])) (joined R)
unfolding joined
joined-more R a = ap (λ l. put_all l []) (filter-append (λ r. ltb 0 r.0) R (a ∷ [])) ∙ put_all-append (grouped R) (grouped (a ∷ [])) []

grouped_few : (R : List Row) → (length (grouped R) ≤ length R) × (all_costs (grouped R) ≤ all_costs R)
grouped_few [] = (omega arith, omega arith)
grouped_few (r ∷ R) =
    let ih = grouped_few R in
    cases (ltb 0 r.0) (λ e. rw e (omega (arith, ih.0), omega (arith, ih.1))) (λ e. rw e (omega (arith, ih.0), omega (arith, ih.1)))

-- no more rows, and no more cost
joined_few : (R : List Row) → (length (joined R) ≤ length R) × (all_costs (joined R) ≤ all_costs R)
unfolding joined
joined_few R =
    let g = grouped_few R in
    (omega (arith, put_all-length (grouped R) [], g.0), omega (arith, put_all-total (grouped R) [], g.1))

module _ (m x : ℕ) (g w : List ℕ) where
  renamed-more : (k : ℕ) → map (rename_row m x) (rows_in g w (k + 1)) ≡ map (rename_row m x) (rows_in g w k) ++ ((renamed m x (get_or g k 0), get_or w k 0) ∷ [])
  renamed-more k = ap (map (rename_row m x)) (rows_in-more g w k) ∙ map-append (rename_row m x) (rows_in g w k) ((get_or g k 0, get_or w k 0) ∷ [])

  -- no more rows than there were, at no more cost
  mend_few : (k : ℕ) → (length (mend m x (rows_in g w k)) ≤ k) × (all_costs (mend m x (rows_in g w k)) ≤ all_costs (rows_in g w k))
  mend_few k =
      let j = joined_few (map (rename_row m x) (rows_in g w k)) in (
        omega (arith, j.0, length-map (rows_in g w k) (rename_row m x) ∙ rows_in-length g w k),
        omega (arith, j.1, sum-map (rename_row m x) (λ q. q.1) (rows_in g w k)),
      )

  pub join-start : length g ≡ 128 → length w ≡ 128 → Joining m x g w 0 0 g w
  join-start a b = record {
    rows = rows_in_none g w ∙ sym (ap (mend m x) (rows_in_none g w) ∙ joined_none);
    ascends = record { up = λ h l. absurd (omega arith) };
    far-left = λ {j} h. refl;
    cost-left = λ {j} h. refl;
    far-room = a;
    cost-room = b;
  }

  module _ (k r : ℕ) (f v : List ℕ) (j : Joining m x g w k r f v) where
    join-count : r ≤ k
    join-count = omega (arith, sym (rows_in-length f v r) ∙ ap length j.rows, (mend_few k).0)

    -- the row that comes next is the old one
    pub join-next : (count : ℕ) → Mendable m g w count → k < count → get_or f k 0 < 2 ^ suc m
    join-next count a h = rw (j.far-left {j = k} (omega arith)) (a.sides {i = k} h)

    pub join-room : (count : ℕ) → Mendable m g w count → k < count → PutRoom f v r (get_or v k 0)
    join-room count a h = record {
      ascends = j.ascends;
      for_far = omega (arith, join-count, a.kept.few, j.far-room);
      for_cost = omega (arith, join-count, a.kept.few, j.cost-room);
      spent = omega (
        arith,
        ap all_costs j.rows,
        (mend_few k).1,
        j.cost-left {j = k} (omega arith),
        ap all_costs (in_at g w k count h) ∙ sum-append (λ q. q.1) (rows_in g w k) _,
        a.spent,
      );
    }

    pub join_more : (S r' : ℕ) (f' v' : List ℕ) → S ≡ renamed m x (get_or f k 0) → KeepRow f v r S (get_or v k 0) r' f' v' → Joining m x g w (k + 1) r' f' v'
    join_more S r' f' v' e p =
        let q : S ≡ renamed m x (get_or g k 0) = e ∙ ap (renamed m x) (j.far-left {j = k} (omega arith)) in
        let c = j.cost-left {j = k} (omega arith) in
        let few = join-count in
        record {
          rows =
              p.rows ∙ ap₂ (λ (y : ℕ) (T : List Row). put_all (grouped ((S, y) ∷ [])) T) c j.rows
              ∙ ap (λ (z : ℕ). put_all (grouped ((z, get_or w k 0) ∷ [])) (mend m x (rows_in g w k))) q
              ∙ sym (ap joined (renamed-more k) ∙ joined-more (map (rename_row m x) (rows_in g w k)) (renamed m x (get_or g k 0), get_or w k 0));
          ascends = p.ascends;
          far-left = λ {j = i} h. p.behind.far_same {j = i} (omega arith) ∙ j.far-left {j = i} (omega arith);
          cost-left = λ {j = i} h. p.behind.cost_same {j = i} (omega arith) ∙ j.cost-left {j = i} (omega arith);
          far-room = p.far-size ∙ j.far-room;
          cost-room = p.cost-size ∙ j.cost-room;
        }

    pub join_end : (count : ℕ) → Mendable m g w count → k ≤ count → count ≤ k → Kept (mend m x (rows_in g w count)) f v r
    join_end count a h l =
        let e : k ≡ count = omega arith in
        record {
          is = j.rows ∙ ap (λ (i : ℕ). mend m x (rows_in g w i)) e;
          far-room = j.far-room;
          cost-room = j.cost-room;
          few = omega (arith, join-count, a.kept.few);
        }
