-- The levels below a height, one level more at a time; and lists joined, one image more at a time. Assumes nothing.
use Rattle.std.specs.Prelude.{false, true, ◌≡◌, suc, zero, ℕ, ◌+◌, ◌-◌, ◌<◌, ◌≤◌}
use mathlib.Core.List.{List, [], append_assoc, append-nil, ◌++◌, ◌∷◌}
use Rattle.std.proofs.Math.Path.{ap, refl}
use Rattle.std.proofs.Common.{◌∙◌, add-one}
use native.Mathlib.Omega.{arith}
use Rattle.std.proofs.Math.ListN.{length, length-append}
use Rattle.ground.specs.Filters.{filter}
use Rattle.ground.specs.Laws.Filters.{filter-append, filter_none}
use Rattle.ground.specs.Laws.Ranges.{from_last, from-mem}
use Rattle.ground.specs.Ranges.{from, gather}
use Rattle.levels.specs.Balls.{is_level, levels_at}

from_split : (i a m : ℕ) → from i (a + m) ≡ from i a ++ from (i + a) m
from_split i zero m = let e : 0 + m ≡ m = omega arith in let q : i + 0 ≡ i = omega arith in rw (e, q)
from_split i (suc a) m =
    let e : suc a + m ≡ suc (a + m) = omega arith in
    let q : i + suc a ≡ suc i + a = omega arith in
    rw (e, q) (ap (λ l. i ∷ l) (from_split (suc i) a m))

module _ (d : ℕ → ℕ → ℕ) (n k : ℕ) where
  pub levels_none : levels_at d n k 0 ≡ []
  unfolding levels_at
  levels_none = refl

  -- no level between a and b
  pub levels_skip : (a b : ℕ) → a ≤ b → ((x : ℕ) → a ≤ x → x < b → is_level d n k x ≡ false) → levels_at d n k b ≡ levels_at d n k a
  unfolding levels_at
  levels_skip a b l h = go (b - a) (omega arith)
    where
      go : (m : ℕ) → b ≡ a + m → levels_at d n k b ≡ levels_at d n k a
      go m e =
          let q : 0 + a ≡ a = omega arith in
          rw (
            e,
            from_split 0 a m,
            q,
            filter-append (is_level d n k) (from 0 a) (from a m),
            filter_none (is_level d n k) (from a m) (λ x t. let r = from-mem a m x t in h x r.0 (omega (arith, r.1))),
            append-nil (levels_at d n k a),
          )

  -- a level more
  pub levels_more : (a : ℕ) → is_level d n k a ≡ true → levels_at d n k (suc a) ≡ levels_at d n k a ++ (a ∷ [])
  unfolding levels_at
  levels_more a e =
      let q : 0 + a ≡ a = omega arith in
      ap (filter (is_level d n k)) (from_last 0 a ∙ ap (λ x. from 0 a ++ (x ∷ [])) q)
      ∙ filter-append (is_level d n k) (from 0 a) (a ∷ [])
      ∙ ap (λ l. levels_at d n k a ++ l) (rw e)

  -- no fewer up to a greater height
  pub levels_fewer : (a b : ℕ) → a ≤ b → length (levels_at d n k a) ≤ length (levels_at d n k b)
  unfolding levels_at
  levels_fewer a b l = go (b - a) (omega arith)
    where
      go : (m : ℕ) → b ≡ a + m → length (levels_at d n k a) ≤ length (levels_at d n k b)
      go m e =
          rw (
            e,
            from_split 0 a m,
            filter-append (is_level d n k) (from 0 a) (from (0 + a) m),
            length-append (filter (is_level d n k) (from 0 a))
                (filter (is_level d n k) (from (0 + a) m)),
          )
          (omega arith)

gather-more : {A : Type 0} (f : ℕ → List A) (i m : ℕ) → gather (from i (suc m)) f ≡ gather (from i m) f ++ f (i + m)
gather-more f i zero = let e : i + 0 ≡ i = omega arith in rw e (append-nil (f i))
gather-more f i (suc m) =
    let e : i + suc m ≡ suc i + m = omega arith in
    rw (e, append_assoc (f i) (gather (from (suc i) m) f) (f (suc i + m))) (ap (λ l. f i ++ l) (gather-more f (suc i) m))

-- the lists of one image more
pub gather-next : {A : Type 0} (f : ℕ → List A) (k : ℕ) → gather (from 0 (k + 1)) f ≡ gather (from 0 k) f ++ f k
gather-next f k = let e : 0 + k ≡ k = omega arith in rw add-one (gather-more f 0 k ∙ ap (λ x. gather (from 0 k) f ++ f x) e)

-- no fewer up to a later image
pub gather_fewer : {A : Type 0} (f : ℕ → List A) (a b : ℕ) → a ≤ b → length (gather (from 0 a) f) ≤ length (gather (from 0 b) f)
gather_fewer f a b l = go 0 a b l
  where
    go : (i a b : ℕ) → a ≤ b → length (gather (from i a) f) ≤ length (gather (from i b) f)
    go i zero b l = omega arith
    go i (suc a) zero l = absurd (omega arith)
    go i (suc a) (suc b) l =
        omega (arith, length-append (f i) (gather (from (suc i) a) f), length-append (f i) (gather (from (suc i) b) f), go (suc i) a b (omega arith))
