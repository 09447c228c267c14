-- The entry of two different images is the height of the smallest group that holds both.
-- The set of all images is a group. Assumes nothing.
use Rattle.std.specs.Prelude.{false, true, ◌&&◌, ◌⊎◌, ◌≡◌, ℕ, ◌-◌, ◌<◌, ◌^◌, ◌≤◌, leb}
use Rattle.std.proofs.Common.{inl, inr, ap, ◌∙◌, arith, pow_pos, leb-false, leb-true}
use borrow.Table.Steps.{cases}
use Rattle.ground.specs.Laws.Bits.{bit_full}
use Rattle.ground.specs.Laws.Ones.{ones_full}
use Rattle.ground.specs.Laws.Tests.{and_l, and_r}
use Rattle.theory.specs.FarSides.{Nested, Within, holds}
use Rattle.theory.specs.Laws.Nested.{bit-holds, find, holds_false, holds_true}
use Rattle.theory.specs.Tables.{WellFormed}
use Rattle.levels.specs.Balls.{ball}
use Rattle.levels.specs.Groups.{Group, Smallest, height}
use Rattle.levels.proofs.Laws.Balls.{ball-group, ball-height, ball_in, group-ball, in_ball}
use Rattle.levels.specs.Laws.Heights.{height-at, le_height}
use Rattle.levels.specs.Laws.Sets.{holds_ext, within_le}
use Rattle.leveling.specs.ThreePoint.{ThreePoint}

-- contained sets are no larger numbers, so the smallest group is the first in the list that holds both
pub within_number : (n S R : ℕ) → S < 2 ^ n → Within n S R → S ≤ R
within_number n S R f w =
    within_le n S R f (λ i l. cases (holds S i) (λ e. omega (arith, holds_true S i e, holds_true R i (w i l e)))
    (λ e. omega (arith, holds_false S i e)))

-- ## All images, on every well-formed table

all_in : (n i : ℕ) → i < n → holds (2 ^ n - 1) i ≡ true
all_in n i h = bit-holds (2 ^ n - 1) i (bit_full n i h)

pub all-group : (L : ℕ) (d : ℕ → ℕ → ℕ) (n : ℕ) → 2 ≤ n → WellFormed L d n → Group d n (2 ^ n - 1)
all-group L d n h c =
    let S = 2 ^ n - 1 in
    let r = height-at d n S 0 (omega arith) (all_in n 0 (omega arith)) in
    record {
      two = omega (arith, ones_full n);
      row = r.0;
      column = r.1;
      entry = (r.2, r.3);
      is = record {
        fits = omega (arith, pow_pos n);
        under = λ i j hi hj si sj. omega (arith, r.6, le_height d n S i j hi hj si sj);
        largest = λ R f w u. holds_ext n R S f (omega (arith, pow_pos n)) (λ k l e. all_in n k l) w;
      };
    }

-- ## With the three-point condition

module _ (L : ℕ) (d : ℕ → ℕ → ℕ) (n : ℕ) (c : WellFormed L d n) (t : ThreePoint d n) where
  module _ (i j : ℕ) (hi : i < n) (hj : j < n) (ne : i ≡ j → ⊥) where
    pub smallest_exists : Smallest d n i j (ball d n i (d i j))
    smallest_exists = record {
      group = ball-group L d n c t i j hi hj ne;
      both = (ball_in d n i (d i j) i hi (omega (arith, c.self hi)), ball_in d n i (d i j) j hj (omega arith));
      least = λ R g ri rj k l s.
          ap (λ (x : ℕ). holds x k) (group-ball L d n c t R g i hi ri)
          ∙ ball_in d n i (height d n R) k l (omega (arith, in_ball d n i (d i j) k l s, le_height d n R i j hi hj ri rj));
    }

    smallest-one : (S R : ℕ) → Smallest d n i j S → Smallest d n i j R → S ≡ R
    smallest-one S R p q =
        holds_ext n S R p.group.is.fits q.group.is.fits (p.least R q.group q.both.0 q.both.1)
        (q.least S p.group p.both.0 p.both.1)

    -- the entry is the height of the smallest group holding both
    pub smallest-height : (S : ℕ) → Smallest d n i j S → height d n S ≡ d i j
    smallest-height S p = ap (height d n) (smallest-one S (ball d n i (d i j)) p smallest_exists) ∙ ball-height L d n c t i j hi hj

-- ## Two groups

-- they are nested or disjoint: with an image in common both are balls around it, and the higher contains the other
pub groups_nested : (L : ℕ) (d : ℕ → ℕ → ℕ) (n : ℕ) → WellFormed L d n → ThreePoint d n → (S R : ℕ) → Group d n S → Group d n R → Nested n S R
groups_nested L d n c t S R p q = go (find n (λ i. holds S i && holds R i))
  where
    inside : (S R x : ℕ) → Group d n S → Group d n R → x < n → holds S x ≡ true → holds R x ≡ true → height d n S ≤ height d n R → Within n S R
    inside S R x p q hx s r h k l e =
        ap (λ (y : ℕ). holds y k) (group-ball L d n c t R q x hx r)
        ∙ ball_in d n x (height d n R) k l (omega (arith, h, le_height d n S x k hx l s e))

    go : ((x : ℕ) × (x < n) × ((holds S x && holds R x) ≡ true)) ⊎ ((i : ℕ) → i < n → (holds S i && holds R i) ≡ false) → Nested n S R
    go (inl (x, hx, e)) =
        let s = and_l (holds S x) (holds R x) e in
        let r = and_r (holds S x) (holds R x) e in
        cases (leb (height d n S) (height d n R)) (λ h. inl (inside S R x p q hx s r (leb-true (height d n S) (height d n R) h)))
        (λ h. inr (inl (inside R S x q p hx r s (omega (arith, leb-false (height d n S) (height d n R) h)))))
    go (inr none) = inr (inr (λ i hi s. rw s at (none i hi)))
