-- The walk down a chain: at the top, one side further down, and what a turn asks. Assumes nothing.
use Rattle.std.specs.Prelude.{List, refl, ◌≡◌, min, suc, zero, ℕ, ◌*◌, ◌+◌, ◌<◌, ◌≤◌, eqb, ltb, get_or, length, set}
use Rattle.std.proofs.Common.{ap, sym, ◌∙◌, arith, length-set, get_or-set_other, get_or-set_same, eq-eqb, eqb-true, ltb-false, ltb-true, ne_eqb}
use Rattle.std.proofs.lemmas.Bool.{eqb-false}
use borrow.Table.Steps.{cases}
use Rattle.ground.specs.Bits.{bit}
use Rattle.ground.specs.Laws.Bits.{bit_full}
use Rattle.ground.specs.Laws.Least.{least_on_cap}
use Rattle.ground.specs.Least.{lower_if}
use Rattle.theory.specs.OneMore.{brought_side}
use Rattle.theory.specs.Tables.{WellFormed}
use Rattle.upper_sides.specs.Chains.{Chained, Family, apart_on, depth_at, held_at, near_on}
use Rattle.chains.specs.Walks.{Climbed}
use Rattle.upper_sides.proofs.Laws.Chain.{apart_more, depth_in, depth_none, held_in}
use Rattle.upper_sides.proofs.Laws.Ends.{apart-all, side-sum}
use Rattle.upper_sides.proofs.Laws.Places.{depth_last, depth_le, held_last, last_again, last_gap, last_holds, last_in, last_le, last_at}

-- the least value of the side j, lowered by what image k brings with z where z is in it
abbrev pub lowered : ℕ → (ℕ → ℕ → ℕ) → ℕ → ℕ → List ℕ → ℕ → ℕ → ℕ
lowered L d k z B j v = lower_if (eqb (bit (get_or B j 0) z) 1) (brought_side L d k (bit (get_or B j 0))) z v

-- down to place p, which has q sides that hold z before it: those from p on are lowered, and a is the least beside the last before it
pub record DownTo (L : ℕ) (d : ℕ → ℕ → ℕ) (k z : ℕ) (B : List ℕ) (m p q a : ℕ) (best best' : List ℕ) : Type 0 where
  pub few : p ≤ m
  pub here : p ≡ last_at B z p
  pub deep : q ≡ depth_at B z p
  pub apart : a ≡ apart_on L d k z (held_at B z p)
  pub done : (j : ℕ) → p ≤ j → j < m → get_or best' (64 + j) 0 ≡ lowered L d k z B j (get_or best (64 + j) 0)
  pub todo : (j : ℕ) → j < p → get_or best' (64 + j) 0 ≡ get_or best (64 + j) 0
  pub front : (j : ℕ) → j < 64 → get_or best' j 0 ≡ get_or best j 0
  pub room : length best' ≡ length best

pub record Down (L : ℕ) (d : ℕ → ℕ → ℕ) (k z : ℕ) (B : List ℕ) (m q a : ℕ) (best best' : List ℕ) : Type 0 where
  pub p : ℕ
  pub to : DownTo L d k z B m p q a best best'

module _ (L : ℕ) (d : ℕ → ℕ → ℕ) (k z : ℕ) (w : WellFormed L d (suc k)) (hz : z < k) (B : List ℕ) where
  -- at the top, all images
  pub down_none : (m : ℕ) → Family k B m → (best : List ℕ) {q a : ℕ} → q ≡ depth_at B z m → a ≡ L + d k z → Down L d k z B m q a best best
  down_none zero f best eq ea = absurd (omega (arith, f.some))
  down_none (suc i) f best eq ea =
      let whole = f.whole i refl in
      let t : bit (get_or B i 0) z ≡ 1 = rw whole (bit_full k z hz) in
      record {
        p = suc i;
        to = record {
          few = omega arith;
          here = sym (last_in B z i t);
          deep = eq;
          apart = ea ∙ sym (apart-all L d k w z hz) ∙ ap (apart_on L d k z) (sym whole ∙ sym (held_in B z i t));
          done = λ j g l. absurd (omega arith);
          todo = λ j g. refl;
          front = λ j g. refl;
          room = refl;
        };
      }

  pub down_cap : {m q a : ℕ} {best best' : List ℕ} → Down L d k z B m q a best best' → a ≤ 4 * L
  unfolding apart_on
  down_cap n = rw n.to.apart (least_on_cap _ _ _ _ _)

  module _ (m : ℕ) (few : m ≤ 128) (c : Chained k B m) (depth : ℕ) (steps : List ℕ) (u : Climbed L d k z B m depth steps) (best best' : List ℕ) (q a : ℕ) where
    -- one side further down: it stands at place p, and q others that hold z before it
    module _ (p : ℕ) (n : DownTo L d k z B m (suc p) (suc q) a best best') where
      t : bit (get_or B p 0) z ≡ 1
      t = last_holds B z p n.here

      h : p < m
      h = omega (arith, n.few)

      deep : q ≡ depth_at B z p
      deep = omega (arith, n.deep, depth_in B z p t)

      near_is : get_or steps (3 * q) 0 ≡ near_on L d k z (get_or B p 0)
      near_is = rw deep (u.kept p h t).near

      place_is : get_or steps (3 * q + 2) 0 ≡ p
      place_is = rw deep (u.kept p h t).place

      a_is : a ≡ apart_on L d k z (get_or B p 0)
      a_is = n.apart ∙ ap (apart_on L d k z) (held_in B z p t)

      value_is : get_or steps (3 * q) 0 + a ≡ brought_side L d k (bit (get_or B p 0)) z
      value_is = rw (near_is, a_is) (sym (side-sum L d k w z hz (get_or B p 0) (c.fits p h) t))

      down-more : length best ≡ 192
          → DownTo L d k z B m (last_at B z p) q (min a (get_or steps (3 * q + 1) 0)) best
          (set best' (64 + p) (min (get_or best' (64 + p) 0) (get_or steps (3 * q) 0 + a)))
      down-more room = let low = last_le B z p in record {
        few = omega (arith, n.few);
        here = last_again B z p;
        deep = deep ∙ depth_last B z p;
        apart = rw (← (held_last B z p), deep, (u.kept p h t).apart, a_is) (sym (apart_more k B m c z hz L d p h t));
        done = λ j g l. cases (eqb j p)
            (λ e. let q = eqb-true j p e in
            rw q
            (get_or-set_same best' (64 + p) _ 0 (omega (arith, n.room)) ∙ rw (eq-eqb (bit (get_or B p 0) z) 1 t, value_is, n.todo p (omega arith)) (omega arith)))
            (λ e. get_or-set_other best' (64 + p) (64 + j) _ 0 (λ q. eqb-false j p e (omega arith)) ∙ other j g l (eqb-false j p e));
        todo = λ j g. get_or-set_other best' (64 + p) (64 + j) _ 0 (λ q. omega arith) ∙ n.todo j (omega arith);
        front = λ j g. get_or-set_other best' (64 + p) j _ 0 (λ q. omega arith) ∙ n.front j g;
        room = simp length-set n.room;
      }
        where
          other : (j : ℕ) → last_at B z p ≤ j → j < m → (j ≡ p → ⊥) → get_or best' (64 + j) 0 ≡ lowered L d k z B j (get_or best (64 + j) 0)
          other j g l o =
              cases (ltb j p)
              (λ e. let r = ltb-true j p e in rw (ne_eqb (bit (get_or B j 0) z) 1 (last_gap B z p j g r)) (n.todo j (omega arith)))
              (λ e. n.done j (omega (arith, ltb-false j p e)) l)

      known : (q < 128) × (get_or steps (3 * q) 0 ≤ 4 * L) × (get_or steps (3 * q + 2) 0 < 128)
      unfolding near_on
      known = (omega (arith, deep, depth_le B z p, h), rw near_is (least_on_cap _ _ _ _ _), omega (arith, place_is, h))

    -- above a side there is a place
    above : (p : ℕ) → DownTo L d k z B m p (suc q) a best best' → (i : ℕ) × (p ≡ suc i)
    above zero n = absurd (omega (arith, n.deep, depth_none B z))
    above (suc i) n = (i, refl)

    module _ (n : Down L d k z B m (suc q) a best best') where
      place : (i : ℕ) × (n.p ≡ suc i)
      place = above n.p n.to

      at : DownTo L d k z B m (suc place.0) (suc q) a best best'
      at = rw place.1 at n.to

      pub down_turn : length best ≡ 192 → {r : ℕ} {next : List ℕ} → r ≡ min a (get_or steps (3 * q + 1) 0)
          → next ≡ set best' (64 + get_or steps (3 * q + 2) 0) (min (get_or best' (64 + get_or steps (3 * q + 2) 0) 0) (get_or steps (3 * q) 0 + a))
          → Down L d k z B m q r best next
      down_turn room er en = record { p = last_at B z place.0; to = rw (er, en, place_is place.0 at) (down-more place.0 at room) }

      -- what the turn asks
      pub down-known : (q < 128) × (get_or steps (3 * q) 0 ≤ 4 * L) × (get_or steps (3 * q + 2) 0 < 128)
      down-known = known place.0 at

  -- at the bottom, z alone
  pub down_end : {m a : ℕ} {best best' : List ℕ} → Down L d k z B m 0 a best best' → DownTo L d k z B m 0 0 a best best'
  down_end {m} {a} {best} {best'} n = go n.p n.to
    where
      go : (p : ℕ) → DownTo L d k z B m p 0 a best best' → DownTo L d k z B m 0 0 a best best'
      go zero t = t
      go (suc p) t = absurd (omega (arith, t.deep, depth_in B z p (last_holds B z p t.here)))
