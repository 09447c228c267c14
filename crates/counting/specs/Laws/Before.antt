-- The tables read so far, as the code holds them, where the next one is over the same images. Assumes nothing.
use Rattle.std.specs.Prelude.{not, List, [], ◌∷◌, refl, ◌≡◌, ℕ, ◌*◌, ◌+◌, ◌<◌, ◌^◌, ◌≤◌, drop, length, take}
use mathlib.Core.List.Memᴰ
use Rattle.std.proofs.Common.{ap, sym, ◌∙◌, arith, pow_pos, length-take-le, take_at}
use Rattle.std.proofs.lemmas.List.{length-map}
use Rattle.ground.specs.Ascending.{Between}
use Rattle.ground.specs.Filters.{Each}
use Rattle.ground.specs.Sums.{sum}
use Rattle.theory.specs.Demands.{OneTree}
use Rattle.theory.specs.LinkTables.{Row, far, fars}
use Rattle.theory.specs.Tables.{limit}
use Rattle.counts.proofs.Laws.Formula.{filter_le, inners_le}
use Rattle.seen.specs.Columns.{Room, sides_in}
use Rattle.seen.specs.Seen.{Entry, seen}
use Rattle.figures.specs.Figures.{counts, entries_at}
use Rattle.figures.specs.Laws.Pairs.{sum_cap}
use Rattle.figures.specs.Laws.Tables.{counts-at, entries-at, entries-sides, trees-length, trees_link}
use Rattle.figures.specs.Checks.{most_sides, most_tables}
use Rattle.figures.specs.OneMore.{Fits}
use Rattle.figures.specs.Pairing.{last_from, last_tree}
use Rattle.counting.specs.Standing.{Holds, Stands}
use Rattle.figures.specs.Tables.{Table, is_accepted, trees}
use Rattle.counting.specs.declared.Standing.{Standing}

-- the last tree is one of the trees, or there is none
last_ascends : (L n : ℕ) (Ts : List (List Row)) → Each Ts (OneTree L n) → Between 1 (fars (last_tree Ts)) (2 ^ n)
last_ascends L n [] h = pow_pos n
last_ascends L n (T ∷ Ts) h = go T Ts (h T (Memᴰ.head refl)) (λ U m. h U (Memᴰ.tail m))
  where
    go : (T : List Row) (Ts : List (List Row)) → OneTree L n T → Each Ts (OneTree L n) → Between 1 (fars (last_from T Ts)) (2 ^ n)
    go T [] t h = t.tree.ascending
    go T (U ∷ Ts) t h = go U Ts (h U (Memᴰ.head refl)) (λ W m. h W (Memᴰ.tail m))

module _ (ts : List Table) (here : Standing) (f t s : List ℕ) (st : Stands limit ts here) (ho : Holds limit ts here f t s) where
  pub sides_few : here.figures.sides ≤ most_sides
  sides_few = rw st.figures st.sound.kept

  pub sides-room : Room here.figures.sides f t s
  sides-room =
      let r = ho.room in
      record { sides = omega (arith, sides_few, r.sides); trees = omega (arith, sides_few, r.trees); sums = omega (arith, sides_few, r.sums) }

  module _ (n : ℕ) (one : Each ts (λ t. t.images ≡ n)) where
    pub links : Each (trees limit ts) (OneTree limit n)
    links = trees_link limit n ts one st.sound.formed

    pub kept-front : take here.figures.sides f ≡ seen n (trees limit ts)
    kept-front =
        let e = ho.stored in
        let k : length (sides_in (entries_at limit ts)) ≡ here.figures.sides = length-map (entries_at limit ts) (λ (x : Entry). x.0) ∙ sym e.counted in
        ap (take here.figures.sides) e.sides
        ∙ take_at (sides_in (entries_at limit ts)) (drop (length (sides_in (entries_at limit ts))) f) here.figures.sides k
        ∙ ap sides_in (entries-at limit n ts one) ∙ entries-sides n (trees limit ts)

    pub last_is : Between 1 (take here.rows here.last) (2 ^ n)
    last_is = rw st.last_sides (last_ascends limit n (trees limit ts) links)

    pub last_few : length (take here.rows here.last) ≤ 128
    last_few = omega (arith, length-take-le here.rows here.last (omega (arith, st.few, st.last_room)), st.few)

    -- what has to fit
    pub numbers_fit : (more d : ℕ) → n ≤ 64 → length ts < most_tables → d ≤ 256 → here.figures.used + more < 2 ^ 64 → Fits here.figures more d
    numbers_fit more d few b p u =
        let q : sum (counts limit ts) (λ c. c) ≤ length (trees limit ts) * 256 =
        rw (counts-at limit n ts one)
        (sum_cap n (trees limit ts) (λ T m. let o = links T m in omega (arith, inners_le n (fars T), length-map T far, o.most))) in
        let a = filter_le is_accepted ts in
        let c = filter_le (λ t. not (is_accepted t)) ts in
        let x = st.figures in
        record {
          tables = rw x b;
          accepted = rw x (omega (arith, a));
          apart = rw x (omega (arith, c));
          sum = rw x (omega (arith, q, trees-length limit ts, a));
          pair = p;
          bytes = u;
        }
