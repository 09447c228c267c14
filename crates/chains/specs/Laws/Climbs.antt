-- The walk up a chain: before any side, past sides that do not hold z, past one that does. Assumes nothing.
use Rattle.std.specs.Prelude.{List, ◌≡◌, min, suc, zero, ℕ, ◌*◌, ◌+◌, ◌-◌, ◌<◌, ◌^◌, ◌≤◌, eqb, get_or, length, set}
use Rattle.std.proofs.Common.{ap, sym, ◌∙◌, arith, length-set, get_or-set_other, get_or-set_same, eqb-true}
use Rattle.std.proofs.lemmas.Bool.{eqb-false}
use borrow.Table.Steps.{cases}
use Rattle.ground.specs.Bits.{bit}
use Rattle.ground.specs.Least.{least_on}
use Rattle.ground.specs.Laws.Least.{least_on_cap}
use Rattle.upper_sides.specs.Chains.{Chained, ahead, depth_at, gap_on, held_at, near_on}
use Rattle.chains.specs.Walks.{Up}
use Rattle.upper_sides.proofs.Laws.Chain.{depth_in, depth_none, depth_out, held_fits, held_in, held_none, held_out, held_within, near-more}
use Rattle.upper_sides.specs.Laws.Parts.{bits_le}
use Rattle.upper_sides.proofs.Laws.Places.{depth_le, depth_lt}

-- three numbers kept of the side of depth i
abbrev pub kept3 : List ℕ → ℕ → ℕ → ℕ → ℕ → List ℕ
kept3 s i x y v = set (set (set s (3 * i) x) (3 * i + 1) y) (3 * i + 2) v

module _ (s : List ℕ) (i x y v : ℕ) where
  kept-other : (p : ℕ) → (p ≡ 3 * i → ⊥) → (p ≡ 3 * i + 1 → ⊥) → (p ≡ 3 * i + 2 → ⊥) → get_or (kept3 s i x y v) p 0 ≡ get_or s p 0
  kept-other p a b c =
      get_or-set_other (set (set s (3 * i) x) (3 * i + 1) y) (3 * i + 2) p v 0 c
      ∙ get_or-set_other (set s (3 * i) x) (3 * i + 1) p y 0 b
      ∙ get_or-set_other s (3 * i) p x 0 a

  module _ (h : 3 * i + 2 < length s) where
    kept-first : get_or (kept3 s i x y v) (3 * i) 0 ≡ x
    kept-first =
        get_or-set_other (set (set s (3 * i) x) (3 * i + 1) y) (3 * i + 2) (3 * i) v 0 (λ e. omega arith)
        ∙ get_or-set_other (set s (3 * i) x) (3 * i + 1) (3 * i) y 0 (λ e. omega arith)
        ∙ get_or-set_same s (3 * i) x 0 (omega arith)

    kept_second : get_or (kept3 s i x y v) (3 * i + 1) 0 ≡ y
    kept_second =
        get_or-set_other (set (set s (3 * i) x) (3 * i + 1) y) (3 * i + 2) (3 * i + 1) v 0 (λ e. omega arith)
        ∙ get_or-set_same (set s (3 * i) x) (3 * i + 1) y 0 (simp length-set (omega arith))

    kept_third : get_or (kept3 s i x y v) (3 * i + 2) 0 ≡ v
    kept_third = get_or-set_same (set (set s (3 * i) x) (3 * i + 1) y) (3 * i + 2) v 0 (simp length-set h)

module _ (L : ℕ) (d : ℕ → ℕ → ℕ) (k z : ℕ) (B : List ℕ) where
  -- before any side
  pub up_none : (steps : List ℕ) (near : ℕ) → near ≡ near_on L d k z (2 ^ z) → length steps ≡ 384 → Up L d k z B 0 (2 ^ z) near 0 steps
  up_none steps near e r = record {
    held_is = sym (held_none B z);
    near_is = e ∙ ap (near_on L d k z) (sym (held_none B z));
    climbed = record { room = r; deep = sym (depth_none B z); kept = λ j h t. absurd (omega arith) };
  }

  module _ (held near depth : ℕ) (steps : List ℕ) where
    -- past a side that does not hold z
    up_out : (i : ℕ) → (bit (get_or B i 0) z ≡ 1 → ⊥) → Up L d k z B i held near depth steps → Up L d k z B (suc i) held near depth steps
    up_out i o u = record {
      held_is = u.held_is ∙ sym (held_out B z i o);
      near_is = u.near_is ∙ ap (near_on L d k z) (sym (held_out B z i o));
      climbed = record {
        room = u.climbed.room;
        deep = u.climbed.deep ∙ sym (depth_out B z i o);
        kept = λ j h t. cases (eqb j i) (λ e. absurd (o (rw (eqb-true j i e) at t))) (λ e. u.climbed.kept j (omega (arith, eqb-false j i e)) t);
      };
    }

    up_by : (i m : ℕ) → ((j : ℕ) → i ≤ j → j < i + m → bit (get_or B j 0) z ≡ 1 → ⊥) → Up L d k z B i held near depth steps
        → Up L d k z B (i + m) held near depth steps
    up_by i zero h u = let q : i + 0 ≡ i = omega arith in rw q u
    up_by i (suc m) h u =
        let q : i + suc m ≡ suc (i + m) = omega arith in
        rw q (up_out (i + m) (h (i + m) (omega arith) (omega arith)) (up_by i m (λ j a b. h j a (omega arith)) u))

    -- past all up to place j
    pub up_past : (i j : ℕ) → i ≤ j → ((l : ℕ) → i ≤ l → l < j → bit (get_or B l 0) z ≡ 1 → ⊥) → Up L d k z B i held near depth steps
        → Up L d k z B j held near depth steps
    up_past i j h none u =
        let q : j ≡ i + (j - i) = omega arith in rw q (up_by i (j - i) (λ l a b. none l a (omega arith)) u)

    -- past a side that does
    module _ (i : ℕ) (c : Chained k B (i + 1)) (hz : z < k) (t : bit (get_or B i 0) z ≡ 1) (u : Up L d k z B i held near depth steps) where
      h : i < i + 1
      h = omega arith

      pub up_less : held ≤ get_or B i 0
      up_less =
          rw u.held_is
          (bits_le k (held_at B z i) (get_or B i 0) (held_fits k B (i + 1) c z hz i (omega arith)) (held_within k B (i + 1) c z hz i i (omega arith) h t))

      pub up_cap : near ≤ 4 * L
      unfolding near_on
      up_cap = rw u.near_is (least_on_cap _ _ _ _ _)

      pub up_deep : depth ≤ i
      up_deep = omega (arith, u.climbed.deep, depth_le B z i)

      pub up_in : {x y r : ℕ} → i < 128 → x ≡ min near (least_on k (bit (get_or B i 0 - held)) 1 (4 * L) (ahead L d k z))
          → y ≡ gap_on L d k z (get_or B i 0 - held) → r ≡ i
          → Up L d k z B (i + 1) (get_or B i 0) x (depth + 1) (kept3 steps depth x y r)
      up_in {x} {y} {r} few ex ey er =
          let q : i + 1 ≡ suc i = omega arith in
          let ex' : x ≡ near_on L d k z (get_or B i 0) = ex ∙ rw (u.held_is, u.near_is) (sym (near-more k B (i + 1) c z hz L d i h t)) in
          let deep = u.climbed.deep in
          let room : 3 * depth + 2 < length steps = omega (arith, u.climbed.room, up_deep) in
          rw q (record {
            held_is = sym (held_in B z i t);
            near_is = ex' ∙ ap (near_on L d k z) (sym (held_in B z i t));
            climbed = record {
              room = simp length-set u.climbed.room;
              deep = omega (arith, depth_in B z i t);
              kept = λ j l o. cases (eqb j i)
                  (λ e. let p = eqb-true j i e in rw p (record {
                    near = rw (← deep) (kept-first steps depth x y r room ∙ ex');
                    apart = rw (← deep) (kept_second steps depth x y r room ∙ ey ∙ ap (λ m. gap_on L d k z (get_or B i 0 - m)) u.held_is);
                    place = rw (← deep) (kept_third steps depth x y r room ∙ er);
                  }))
                  (λ e. let f = eqb-false j i e in let p = u.climbed.kept j (omega arith) o in let s = depth_lt B z j i (omega arith) o in record {
                    near = kept-other steps depth x y r (3 * depth_at B z j) (λ a. omega arith) (λ a. omega arith) (λ a. omega arith) ∙ p.near;
                    apart = kept-other steps depth x y r (3 * depth_at B z j + 1) (λ a. omega arith) (λ a. omega arith) (λ a. omega arith) ∙ p.apart;
                    place = kept-other steps depth x y r (3 * depth_at B z j + 2) (λ a. omega arith) (λ a. omega arith) (λ a. omega arith) ∙ p.place;
                  });
            };
          })
