-- All groups written by their last image: before the loop, one image more, after it. Assumes nothing.
use Rattle.std.specs.Prelude.{List, ◌++◌, ◌≡◌}
use Rattle.std.proofs.Common.{ap, sym, ◌∙◌}
use Rattle.std.proofs.Math.Path.{refl}
use Prim.Native.Nat.{suc, zero, ℕ, ◌+◌, ◌-◌, ◌<◌, ◌≤◌}
use native.Mathlib.Omega.{arith}
use Rattle.std.proofs.Math.ListN.{length, length-append, length-map}
use Rattle.ground.specs.Buffers.{front}
use Rattle.ground.specs.Ranges.{from, gather}
use Rattle.theory.specs.Tables.{WellFormed, limit}
use Rattle.tables.specs.Entries.{costs_in}
use Rattle.tables.specs.declared.costs.Costs.{Costs}
use Rattle.levels.specs.Balls.{ball, found, found_at, found_heights, levels_at}
use Rattle.levels.specs.Groups.{groups, height, heights}
use Rattle.levels.proofs.Laws.Count.{groups-most}
use Rattle.levels.proofs.Laws.Listed.{found-groups, found-heights}
use Rattle.levels.specs.Laws.Putting.{front-next, front_same}
use Rattle.levels.specs.Laws.LevelList.{gather_fewer, gather-next}
use Rattle.levels.specs.Putting.{PutLevels, WroteLevels}
use Rattle.leveling.specs.ThreePoint.{ThreePoint}

-- the groups whose last image is before k, and their heights
unfoldable pub found_to : ℕ → (ℕ → ℕ → ℕ) → ℕ → ℕ → List ℕ
found_to L d n k = gather (from 0 k) (found_at d n (suc L))

unfoldable pub heights_to : ℕ → (ℕ → ℕ → ℕ) → ℕ → ℕ → List ℕ
heights_to L d n k = gather (from 0 k) (λ k. levels_at d n k (suc L))

-- they are written, and p is their number
pub record WrittenTo (L : ℕ) (d : ℕ → ℕ → ℕ) (n k : ℕ) (g₀ v₀ g v : List ℕ) (p : ℕ) : Type 0 where
  pub counted : p ≡ length (heights_to L d n k)
  pub groups_are : g ≡ front (found_to L d n k) g₀
  pub heights_are : v ≡ front (heights_to L d n k) v₀

module _ (L : ℕ) (d : ℕ → ℕ → ℕ) (n : ℕ) where
  -- as many groups as heights
  same_count : (k : ℕ) → length (found_to L d n k) ≡ length (heights_to L d n k)
  unfolding found_to heights_to
  same_count k = go 0 k
    where
      go : (i m : ℕ) → length (gather (from i m) (found_at d n (suc L))) ≡ length (gather (from i m) (λ k. levels_at d n k (suc L)))
      go i zero = refl
      go i (suc m) =
          omega (
            arith,
            length-append (found_at d n (suc L) i) (gather (from (suc i) m) (found_at d n (suc L))),
            length-append (levels_at d n i (suc L)) (gather (from (suc i) m) (λ k. levels_at d n k (suc L))),
            length-map (levels_at d n i (suc L)) (ball d n i),
            go (suc i) m,
          )

  found-more : (k : ℕ) → found_to L d n (k + 1) ≡ found_to L d n k ++ found_at d n (suc L) k
  unfolding found_to
  found-more k = gather-next (found_at d n (suc L)) k

  heights-more : (k : ℕ) → heights_to L d n (k + 1) ≡ heights_to L d n k ++ levels_at d n k (suc L)
  unfolding heights_to
  heights-more k = gather-next (λ k. levels_at d n k (suc L)) k

  heights_fewer : (k : ℕ) → k ≤ n → length (heights_to L d n k) ≤ length (heights_to L d n n)
  unfolding heights_to
  heights_fewer k l = gather_fewer (λ k. levels_at d n k (suc L)) k n l

  module _ (c : WellFormed L d n) (t : ThreePoint d n) where
    found_all : found_to L d n n ≡ groups d n
    unfolding found_to found
    found_all = found-groups L d n c t

    heights-all : heights_to L d n n ≡ heights d n
    unfolding heights_to found_heights
    heights-all = found-heights L d n c t

    -- there is room for those of one image more
    pub room_next : (k : ℕ) → k < n → length (heights_to L d n k) + length (levels_at d n k (suc L)) ≤ n - 1
    room_next k l =
        omega (
          arith,
          length-append (heights_to L d n k) (levels_at d n k (suc L)),
          ap length (heights-more k),
          heights_fewer (k + 1) (omega arith),
          ap length heights-all,
          length-map (groups d n) (height d n),
          groups-most L d n c t,
        )

    module _ (g₀ v₀ : List ℕ) (a : n - 1 ≤ length g₀) (b : n - 1 ≤ length v₀) where
      pub written_none : WrittenTo L d n 0 g₀ v₀ g₀ v₀ 0
      unfolding found_to heights_to
      written_none = record { counted = refl; groups_are = refl; heights_are = refl }

      pub written_groups : (k p : ℕ) (g v : List ℕ) → WrittenTo L d n k g₀ v₀ g v p → k < n → p + length (levels_at d n k (suc L)) ≤ length g
      written_groups k p g v w l =
          omega (arith, w.counted, room_next k l, front_same (found_to L d n k) g₀ (omega (arith, same_count k, room_next k l)) w.groups_are)

      pub written_heights : (k p : ℕ) (g v : List ℕ) → WrittenTo L d n k g₀ v₀ g v p → k < n → p + length (levels_at d n k (suc L)) ≤ length v
      written_heights k p g v w l =
          omega (arith, w.counted, room_next k l, front_same (heights_to L d n k) v₀ (omega (arith, room_next k l)) w.heights_are)

      pub written_more : (k p r : ℕ) (g v g' v' : List ℕ) → WrittenTo L d n k g₀ v₀ g v p → k < n → PutLevels L d n k p g v r g' v'
          → WrittenTo L d n (k + 1) g₀ v₀ g' v' r
      written_more k p r g v g' v' w l q = record {
        counted =
            omega (
              arith,
              q.counted,
              w.counted,
              ap length (heights-more k),
              length-append (heights_to L d n k) (levels_at d n k (suc L)),
            );
        groups_are =
            q.groups-put
            ∙ front-next (found_to L d n k) (found_at d n (suc L) k) g₀ p (w.counted ∙ sym (same_count k))
            (omega (arith, same_count k, room_next k l, length-map (levels_at d n k (suc L)) (ball d n k))) w.groups_are
            ∙ ap (λ m. front m g₀) (sym (found-more k));
        heights_are =
            q.heights-put
            ∙ front-next (heights_to L d n k) (levels_at d n k (suc L)) v₀ p w.counted (omega (arith, room_next k l)) w.heights_are
            ∙ ap (λ m. front m v₀) (sym (heights-more k));
      }

      pub written_end : (k p : ℕ) (g v : List ℕ) → k ≤ n → n ≤ k → WrittenTo L d n k g₀ v₀ g v p → WroteLevels d n p g₀ v₀ g v
      written_end k p g v l m w =
          let e : k ≡ n = omega arith in
          record {
            counted = w.counted ∙ ap (λ x. length (heights_to L d n x)) e ∙ ap length heights-all ∙ length-map (groups d n) (height d n);
            groups-front = w.groups_are ∙ ap (λ x. front (found_to L d n x) g₀) e ∙ ap (λ x. front x g₀) found_all;
            heights-front = w.heights_are ∙ ap (λ x. front (heights_to L d n x) v₀) e ∙ ap (λ x. front x v₀) heights-all;
          }

      pub written_lengths : (k p : ℕ) (g v : List ℕ) → WrittenTo L d n k g₀ v₀ g v p → k ≤ n → (length g ≡ length g₀) × (length v ≡ length v₀)
      written_lengths k p g v w l =
          let m : length (heights_to L d n k) ≤ n - 1 =
          omega (arith, heights_fewer k l, ap length heights-all, length-map (groups d n) (height d n), groups-most L d n c t) in (
            front_same (found_to L d n k) g₀ (omega (arith, same_count k, m)) w.groups_are,
            front_same (heights_to L d n k) v₀ (omega (arith, m))
                w.heights_are,
          )

-- ## The same of a cost table, as the loop over the images names it

unfoldable pub Writing : Costs → ℕ → List ℕ → List ℕ → List ℕ → List ℕ → ℕ → Type 0
Writing t k g₀ v₀ g v p = WrittenTo limit (costs_in t) t.n k g₀ v₀ g v p

module _ (t : Costs) (g₀ v₀ : List ℕ) where
  pub write_begin : ThreePoint (costs_in t) t.n → t.n - 1 ≤ length g₀ → t.n - 1 ≤ length v₀ → Writing t 0 g₀ v₀ g₀ v₀ 0
  unfolding Writing
  write_begin c a b = written_none limit (costs_in t) t.n t.formed.formed c g₀ v₀ a b

  pub write_groups : (k p : ℕ) (g v : List ℕ) → Writing t k g₀ v₀ g v p → ThreePoint (costs_in t) t.n → t.n - 1 ≤ length g₀
      → t.n - 1 ≤ length v₀ → k < t.n → p + length (levels_at (costs_in t) t.n k (suc limit)) ≤ length g
  unfolding Writing
  write_groups k p g v w c a b l = written_groups limit (costs_in t) t.n t.formed.formed c g₀ v₀ a b k p g v w l

  pub write_heights : (k p : ℕ) (g v : List ℕ) → Writing t k g₀ v₀ g v p → ThreePoint (costs_in t) t.n → t.n - 1 ≤ length g₀
      → t.n - 1 ≤ length v₀ → k < t.n → p + length (levels_at (costs_in t) t.n k (suc limit)) ≤ length v
  unfolding Writing
  write_heights k p g v w c a b l = written_heights limit (costs_in t) t.n t.formed.formed c g₀ v₀ a b k p g v w l

  pub write_more : (k p r : ℕ) (g v g' v' : List ℕ) → Writing t k g₀ v₀ g v p → PutLevels limit (costs_in t) t.n k p g v r g' v'
      → ThreePoint (costs_in t) t.n → t.n - 1 ≤ length g₀ → t.n - 1 ≤ length v₀ → k < t.n → Writing t (k + 1) g₀ v₀ g' v' r
  unfolding Writing
  write_more k p r g v g' v' w q c a b l = written_more limit (costs_in t) t.n t.formed.formed c g₀ v₀ a b k p r g v g' v' w l q

  pub write_end : (k p : ℕ) (g v : List ℕ) → Writing t k g₀ v₀ g v p → ThreePoint (costs_in t) t.n → t.n - 1 ≤ length g₀
      → t.n - 1 ≤ length v₀ → k ≤ t.n → t.n ≤ k → WroteLevels (costs_in t) t.n p g₀ v₀ g v
  unfolding Writing
  write_end k p g v w c a b l m = written_end limit (costs_in t) t.n t.formed.formed c g₀ v₀ a b k p g v l m w

pub ruleset write_turns = (write_begin, write_groups, write_heights, write_more, write_end)
