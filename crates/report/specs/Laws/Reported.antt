-- The figures, and what stands in the three slices. Assumes nothing.
use mathlib.Core.List.Memᴰ
use mathlib.Core.List.{List, Memᴰ, [], map, ◌∷◌}
use Rattle.std.proofs.Common.{inl, inr, ap, ◌∙◌, arith, drop_at, take_at, leb-false, leb-true}
use Rattle.std.specs.Prelude.{◌⊎◌, ◌↔◌, refl, ◌≡◌, max, suc, ℕ, ◌+◌, ◌-◌, ◌≤◌, leb, drop, length, take}
use Rattle.std.proofs.lemmas.List.{length-map}
use borrow.Table.Steps.{cases}
use Rattle.ground.specs.Buffers.{front}
use Rattle.ground.specs.Filters.{Each}
use Rattle.ground.specs.Laws.Maps.{map-mem, mem-map}
use Rattle.theory.specs.LinkTables.{LinkTable, Row, fars}
use Rattle.theory.specs.Tables.{limit}
use Rattle.seen.specs.Columns.{Room, sides_in, sums_in, trees_in}
use Rattle.seen.specs.Seen.{Entry, cost_sum, entries, in_trees, seen}
use Rattle.figures.specs.Figures.{counts, entries_at, figures_of, largest, neighbours, pairs_from, sides_at}
use Rattle.figures.specs.Laws.Tables.{entries-count, entries-sides, trees-length, trees_link}
use Rattle.report.specs.Outcome.{refused_table}
use Rattle.figures.specs.Checks.{most_sides}
use Rattle.figures.specs.Reading.{Ended}
use Rattle.figures.specs.Tables.{Table, accepted, apart, images_in, is_accepted, tree_of, trees}
use Rattle.report.specs.Follows.{ReadSo}
use Rattle.report.specs.Laws.Follows.{follows_sound}
use Rattle.seen.specs.Laws.Which.{seen_ascends, seen-mem}
use Rattle.report.specs.Reported.{Reported}

split : (ts : List Table) → length (accepted ts) + length (apart ts) ≡ length ts
split [] = refl
split (t ∷ ts) = let ih = split ts in cases (is_accepted t) (λ e. rw e (omega arith)) (λ e. rw e (omega arith))

pairs_less : (ts : List Table) → length (counts limit ts) ≡ length (accepted ts) - 1
unfolding counts
pairs_less ts = length-map (neighbours (trees limit ts)) _ ∙ go (trees limit ts) ∙ ap (λ (k : ℕ). k - 1) (trees-length limit ts)
  where
    from : (T : List Row) (Ts : List (List Row)) → length (pairs_from T Ts) ≡ length Ts
    from T [] = refl
    from T (U ∷ Ts) = ap suc (from U Ts)

    go : (Ts : List (List Row)) → length (neighbours Ts) ≡ length Ts - 1
    go [] = refl
    go (T ∷ Ts) = omega (arith, from T Ts)

-- the largest of a list is not below any of its numbers, and it is one of them or the list is empty
pub largest-most : (l : List ℕ) → Each l (λ x. x ≤ largest l)
largest-most [] x m = absurd (Memᴰ.not-nil m)
largest-most (y ∷ l) x m = go (Memᴰ.cases_cons m) (largest-most l x)
  where
    go : (x ≡ y) ⊎ Memᴰ x l → (Memᴰ x l → x ≤ largest l) → x ≤ largest (y ∷ l)
    go (inl e) ih = omega arith
    go (inr t) ih = omega (arith, ih t)

pub largest-one : (l : List ℕ) → (l ≡ []) ⊎ Memᴰ (largest l) l
largest-one [] = inl refl
largest-one (y ∷ l) = inr (go (largest-one l))
  where
    go : (l ≡ []) ⊎ Memᴰ (largest l) l → Memᴰ (max y (largest l)) (y ∷ l)
    go (inl e) = let q : max y (largest l) ≡ y = rw e (omega arith) in Memᴰ.head q
    go (inr t) =
        cases (leb (largest l) y) (λ h. let e : max y (largest l) ≡ y = omega (arith, leb-true (largest l) y h) in Memᴰ.head e)
        (λ h. let e : max y (largest l) ≡ largest l = omega (arith, leb-false (largest l) y h) in rw e (Memᴰ.tail t))

columns : (Ts : List (List Row)) (l : List ℕ)
    → (trees_in (map (λ S. (S, in_trees Ts S, cost_sum Ts S)) l) ≡ map (in_trees Ts) l) × (sums_in (map (λ S. (S, in_trees Ts S, cost_sum Ts S)) l) ≡ map (cost_sum Ts) l)
columns Ts [] = (refl, refl)
columns Ts (x ∷ l) = let ih = columns Ts l in (ap (λ z. in_trees Ts x ∷ z) ih.0, ap (λ z. cost_sum Ts x ∷ z) ih.1)

in_trees_lem : (ts : List Table) (S : ℕ)
    → ((T : List Row) × Memᴰ T (trees limit ts) × Memᴰ S (fars T)) ↔ ((tb : Table) × Memᴰ tb (accepted ts) × Memᴰ S (fars (tree_of limit tb)))
unfolding trees
in_trees_lem ts S = (
  λ p. let r = map-mem (tree_of limit) (accepted ts) p.0 p.1 in (r.0, r.2, rw (← r.1) p.2),
  λ p. (tree_of limit p.0, mem-map (tree_of limit) p.1, p.2),
)

pub reported : (bytes f t s : List ℕ) (e : Ended) → ReadSo bytes e.read e.stop → Room most_sides f t s
    → Reported bytes f t s (record { figures = figures_of limit e.read; table = refused_table e.stop (length e.read); stop = e.stop })
    (front (sides_in (entries_at limit e.read)) f) (front (trees_in (entries_at limit e.read)) t) (front (sums_in (entries_at limit e.read)) s)
unfolding entries_at entries
reported bytes f t s e y room =
    let ts = e.read in
    let E = entries_at limit ts in
    let Ts = trees limit ts in
    let so = follows_sound bytes ts y.follows in
    let k = entries-count limit ts in
    let a : length (sides_in E) ≡ sides_at limit ts = length-map E (λ (x : Entry). x.0) ∙ k in
    let b : length (trees_in E) ≡ sides_at limit ts = length-map E (λ (x : Entry). x.1) ∙ k in
    let c : length (sums_in E) ≡ sides_at limit ts = length-map E (λ (x : Entry). x.2) ∙ k in
    let fs : take (sides_at limit ts) (front (sides_in E) f) ≡ seen (images_in ts) Ts =
    take_at (sides_in E) (drop (length (sides_in E)) f) (sides_at limit ts) a ∙ entries-sides (images_in ts) Ts in
    let cs = columns Ts (seen (images_in ts) Ts) in
    let links : Each Ts (LinkTable limit (images_in ts)) = λ T m. (trees_link limit (images_in ts) ts so.one so.formed T m).tree in
    record {
      room = room;
      ts = ts;
      read = y;
      number = refl;
      sound = so;
      images = refl;
      tables = refl;
      accepted-tables = refl;
      apart-tables = refl;
      all-tables = split ts;
      pairs = pairs_less ts;
      count-sum = refl;
      largest-count = refl;
      used = refl;
      sides = so.kept;
      ascending = rw fs (seen_ascends (images_in ts) Ts);
      listed = λ S. let q = seen-mem limit (images_in ts) Ts links S in
          rw fs ((λ m. let p = q.0 m in (p.0, (in_trees_lem ts S).0 p.1)), (λ p. q.1 (p.0, (in_trees_lem ts S).1 p.1)));
      tree_numbers = rw fs (take_at (trees_in E) (drop (length (trees_in E)) t) (sides_at limit ts) b ∙ cs.0);
      cost_sums = rw fs (take_at (sums_in E) (drop (length (sums_in E)) s) (sides_at limit ts) c ∙ cs.1);
      far-rest = drop_at (sides_in E) (drop (length (sides_in E)) f) (sides_at limit ts) a ∙ ap (λ (j : ℕ). drop j f) a;
      tree_rest = drop_at (trees_in E) (drop (length (trees_in E)) t) (sides_at limit ts) b ∙ ap (λ (j : ℕ). drop j t) b;
      sum-rest = drop_at (sums_in E) (drop (length (sums_in E)) s) (sides_at limit ts) c ∙ ap (λ (j : ℕ). drop j s) c;
    }
