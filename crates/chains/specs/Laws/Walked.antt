-- One image z after the other: its walk lowers every side that holds it, and gives its own link. Assumes nothing.
use Rattle.std.specs.Prelude.{List, ◌≡◌, eqb, get_or, set}
use Rattle.std.proofs.Math.Path.{ap}
use Rattle.std.proofs.Common.{sym, ◌∙◌, le_antisymm, get_or-set_same}
use Prim.Native.Nat.{suc, ℕ, ◌*◌, ◌+◌, ◌<◌, ◌^◌, ◌≤◌}
use native.Mathlib.Omega.{arith}
use Rattle.std.proofs.Math.ListN.{length-set}
use Rattle.std.proofs.Math.Pow.{pow-lt}
use Rattle.std.proofs.Math.Seq.{get_or-set_other}
use borrow.Author.Tests.{eqb-false, eqb-true}
use borrow.Table.Steps.{cases}
use Rattle.ground.specs.Bits.{bit}
use Rattle.ground.specs.Laws.Bits.{bit-above, bit_pow, bit_pow_other}
use Rattle.ground.specs.Least.{least_on}
use Rattle.ground.specs.Laws.Least.{le_least_on, least_on_cap, least_on_le}
use Rattle.theory.specs.OneMore.{brought_fast, brought_side}
use Rattle.theory.specs.Tables.{WellFormed}
use Rattle.upper_sides.specs.Chains.{Chained}
use Rattle.chains.specs.Values.{Brought, Least}
use Rattle.upper_sides.proofs.Laws.Chain.{held_none}
use Rattle.chains.specs.Laws.Descents.{Down, DownTo, down_end, lowered}
use Rattle.upper_sides.proofs.Laws.Ends.{near-own, side-sum}

module _ (L : ℕ) (d : ℕ → ℕ → ℕ) (k z : ℕ) (w : WellFormed L d (suc k)) (hz : z < k) where
  side_cap : brought_side L d k (bit (2 ^ z)) z ≤ 4 * L
  unfolding brought_side
  side_cap = least_on_cap _ _ _ _ _

  own_fast : brought_side L d k (bit (2 ^ z)) z ≡ brought_fast L d k (bit (2 ^ z))
  unfolding brought_fast
  own_fast =
      rw (bit_pow_other z k (λ e. omega arith))
      (le_antisymm
      (le_least_on (bit (2 ^ z)) 1 (4 * L) (brought_side L d k (bit (2 ^ z))) k (brought_side L d k (bit (2 ^ z)) z) side_cap (λ a o. only a o.1))
      (least_on_le (bit (2 ^ z)) 1 (4 * L) (brought_side L d k (bit (2 ^ z))) k z (hz, bit_pow z)))
    where
      only : (a : ℕ) → bit (2 ^ z) a ≡ 1 → brought_side L d k (bit (2 ^ z)) z ≤ brought_side L d k (bit (2 ^ z)) a
      only a e =
          cases (eqb z a)
          (λ t. let q = eqb-true z a t in rw (← q) (omega arith))
          (λ t. absurd (omega (arith, bit_pow_other z a (eqb-false z a t))))

  module _ (B : List ℕ) (m : ℕ) (best best' : List ℕ) (a : ℕ) (n : Down L d k z B m 0 a best best') where
    v : DownTo L d k z B m 0 0 a best best'
    v = down_end L d k z w hz B n

    -- z alone: the least over it, and the least beside it
    own_value : L + d k z + a ≡ brought_fast L d k (bit (2 ^ z))
    own_value =
        rw (v.apart, held_none B z, ← (near-own L d k w z hz)) (sym (side-sum L d k w z hz (2 ^ z) (pow-lt hz) (bit_pow z)) ∙ own_fast)

    pub least_more : (near : ℕ) → near ≡ L + d k z → z < 63 → Least L d k B m z best → Least L d k B m (z + 1) (set best' z (near + a))
    unfolding least_on
    least_more near e h o =
        let q : z + 1 ≡ suc z = omega arith in
        rw (q, e) (record {
          sides = λ j l. get_or-set_other best' z (64 + j) _ 0 (λ e. omega arith) ∙ v.done j (omega arith) l ∙ ap (lowered L d k z B j) (o.sides j l);
          owns = λ y l. cases (eqb y z)
              (λ e. let s = eqb-true y z e in rw s (get_or-set_same best' z _ 0 (omega (arith, v.room, o.room)) ∙ own_value))
              (λ e. get_or-set_other best' z y _ 0 (eqb-false y z e) ∙ v.front y (omega arith) ∙ o.owns y (omega (arith, eqb-false y z e)));
          none = get_or-set_other best' z 63 _ 0 (λ e. omega arith) ∙ v.front 63 (omega arith) ∙ o.none;
          room = simp length-set (v.room ∙ o.room);
        })

pub least_end : (L : ℕ) (d : ℕ → ℕ → ℕ) (k : ℕ) (B : List ℕ) (m : ℕ) → Chained k B m → (best : List ℕ) → Least L d k B m k best → Brought L d k B m best
unfolding brought_fast
least_end L d k B m c best n = record {
  sides = λ j h. n.sides j h ∙ rw (bit-above (get_or B j 0) k k (c.fits j h) (omega arith));
  owns = n.owns;
  none = n.none;
  room = n.room;
}
