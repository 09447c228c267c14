-- The values at the places of the rows are what image k brings to them. Assumes nothing.
use Rattle.std.specs.Prelude.{Bool, false, true, List, ◌⊎◌, ◌≡◌, suc, ℕ, ◌*◌, ◌+◌, ◌-◌, ◌<◌, ◌^◌, ◌≤◌, eqb, ltb, set}
use Rattle.std.proofs.Common.{inl, inr, sym, ◌∙◌, lt_of_lt_of_le, add-one, arith, pow_mono, pow_pos}
use Rattle.std.proofs.Math.Path.{ap}
use Rattle.std.specs.Int.Bits.{bit_and}
use Rattle.std.specs.Int.Count.{count_trailing_zeros}
use Rattle.std.proofs.Math.ListN.{get_or, length-set}
use Rattle.std.proofs.Math.Pow.{pow-lt}
use Rattle.std.proofs.Math.Seq.{get_or-set_other, get_or-set_same}
use borrow.Author.Tests.{eqb-false, eqb-true, ltb-false, ltb-true}
use borrow.Table.Steps.{cases}
use Rattle.ground.specs.Bits.{bit}
use Rattle.ground.specs.Laws.Bits.{bit_ext, bit_none, bit_pow, bit_pow_other}
use Rattle.ground.specs.Least.{least_on}
use Rattle.theory.specs.OneMore.{brought_fast}
use Rattle.theory.specs.Tables.{WellFormed}
use Rattle.upper_sides.specs.Chains.{Family}
use Rattle.chains.specs.Values.{Brought, Least}
use Rattle.upper_sides.specs.Laws.Lowest.{drop_lowest, lowest_below, lowest_one}
use Rattle.brought.specs.Answers.{AllBrought}
use Rattle.brought.specs.Choosing.{Ins, Outs, Same, in_live, in_side, out_live, out_side}
use Rattle.brought.specs.Chosen.{Rowed, Slot, SidesStored, one_image, by_image, nowhere, stored, stored_of}
use Rattle.near_images.specs.Near.{Closest, NearImages}
use Rattle.near_images.proofs.Laws.Dead.{b-below, in_dead, near-b, out_dead}
use Rattle.brought.specs.Laws.BothWays.{both_fit}
use Rattle.brought.specs.Laws.Choosing.{of_none}
use Rattle.brought.specs.Laws.Sides.{family}
use Rattle.brought.specs.Laws.Stores.{stored_same}
use Rattle.brought.specs.Laws.Turned.{fast_rest, rest_lt, rest_some}

-- one image alone
alone_is : (S : ℕ) → 0 < S → S < 2 ^ 64 → one_image S ≡ true → S ≡ 2 ^ count_trailing_zeros 64 S
alone_is S p f e =
    bit_ext 64 S (2 ^ count_trailing_zeros 64 S) f (pow-lt (lowest_one 64 S p f).0) (λ i h. go i (drop_lowest 64 S i p f))
  where
    none : bit_and S (S - 1) ≡ 0
    none = eqb-true (bit_and S (S - 1)) 0 e

    go : (i : ℕ) → ((i ≡ count_trailing_zeros 64 S) × (bit (bit_and S (S - 1)) i ≡ 0)) ⊎ ((i ≡ count_trailing_zeros 64 S → ⊥) × (bit (bit_and S (S - 1)) i ≡ bit S i))
        → bit S i ≡ bit (2 ^ count_trailing_zeros 64 S) i
    go i (inl r) = rw r.0 ((lowest_one 64 S p f).1 ∙ sym (bit_pow (count_trailing_zeros 64 S)))
    go i (inr r) = sym r.1 ∙ ap (λ (m : ℕ). bit m i) none ∙ bit_none i ∙ sym (bit_pow_other (count_trailing_zeros 64 S) i (λ q. r.0 (sym q)))

-- the value at a side's place
valued : (L : ℕ) (d : ℕ → ℕ → ℕ) (k m : ℕ) (B best : List ℕ) → k < 64 → m ≤ 128 → Brought L d k B m best → {i : ℕ} {live : Bool} {A x : ℕ} → i ≤ m
    → 0 < A → A < 2 ^ k
    → (live ≡ false → brought_fast L d k (bit A) ≤ 2 * L) → Slot i B live A x → (x < 192) × (get_or best x 0 - 2 * L ≡ brought_fast L d k (bit A) - 2 * L)
valued L d k m B best few most v {i} {live} {A} g p f dead (by_image e t) =
    let h = lowest_below k A 0 p f (omega arith) in
    let q = alone_is A p (lt_of_lt_of_le f (pow_mono {i = k} {j = 64} (omega arith))) t in
    (omega arith, ap (λ m. m - 2 * L) (ap (λ m. get_or best m 0) e ∙ v.owns (count_trailing_zeros 64 A) h ∙ ap (λ (m : ℕ). brought_fast L d k (bit m)) (sym q)))
valued L d k m B best few most v g p f dead (stored j e l t) =
    (omega arith, ap (λ m. m - 2 * L) (ap (λ m. get_or best m 0) e ∙ v.sides j (omega arith) ∙ ap (λ (m : ℕ). brought_fast L d k (bit m)) t))
valued L d k m B best few most v g p f dead (nowhere e t) = (omega arith, omega (arith, ap (λ m. get_or best m 0) e, v.none, dead t))

module _ (L : ℕ) (d : ℕ → ℕ → ℕ) (k : ℕ) (w : WellFormed L d (suc k)) (g : 1 ≤ k) (few : k < 64) (b N : ℕ) (p : Closest d k k b)
    (q : NearImages d k b k N) (f : List ℕ) (count : ℕ) (r : Rowed k f count) where
  -- b is a near image, where there is a row
  near-row : 0 < count → bit N b ≡ 1
  near-row h = near-b L d k w b N p q (b-below L d k w b N p q (get_or f 0 0) (r.far 0 h))

  module _ (low : ℕ) (B₀ outs best₀ : List ℕ) (o : Outs L b N f count low B₀ outs best₀) where
    -- there is room for the sides of both ways and one more
    pub chosen_fit : low + stored_of (in_side k f) (in_live N f) count ≤ count + 1
    chosen_fit = omega (arith, o.counted, both_fit k b N f count near-row r.rising)

    module _ (m : ℕ) (B ins best : List ℕ) (i : Ins L k N f 0 count low m B₀ best₀ B ins best) where
      pub chosen_few : m < 127
      chosen_few = omega (arith, i.counted, of_none (in_side k f) (in_live N f), chosen_fit, r.rising.few)

      -- all images behind them, and the values before any image took its turn
      module _ (B' best' : List ℕ) (full : ℕ) (ef : full ≡ 2 ^ k - 1) (eb : B' ≡ set B m full) (ev : best' ≡ set (set best 63 0) (64 + m) (4 * L)) where
        last_same : Same m B best B' best'
        last_same = record {
          sides = λ j h. ap (λ l. get_or l j 0) eb ∙ get_or-set_other B m j full 0 (λ e. omega arith);
          values =
              λ j h. ap (λ l. get_or l (64 + j) 0) ev ∙ get_or-set_other (set best 63 0) (64 + m) (64 + j) (4 * L) 0 (λ e. omega arith)
              ∙ get_or-set_other best 63 (64 + j) 0 0 (λ e. omega arith);
        }

        front_same : Same low B₀ best₀ B' best'
        front_same = record {
          sides = λ j h. last_same.sides j (omega (arith, i.made.order)) ∙ i.same.sides j h;
          values = λ j h. last_same.values j (omega (arith, i.made.order)) ∙ i.same.values j h;
        }

        out_made : SidesStored L (out_side f) (out_live b N f) 0 count 0 low B' outs best'
        out_made = stored_same front_same o.made

        in_made : SidesStored L (in_side k f) (in_live N f) 0 count low m B' ins best'
        in_made = stored_same last_same i.made

        whole : get_or B' m 0 ≡ 2 ^ k - 1
        whole = ap (λ l. get_or l m 0) eb ∙ get_or-set_same B m full 0 (omega (arith, i.room.sides, chosen_few)) ∙ ef

        pub chosen_family : Family k B' (m + 1)
        chosen_family =
            rw add-one (family L k b N f count low m B' outs ins best' r near-row out_made in_made whole (rw eb (simp length-set i.room.sides))
            (omega (arith, chosen_few)))

        pub chosen_least : Least L d k B' (m + 1) 0 best'
        unfolding least_on
        chosen_least = record {
          sides = λ j h. cases (ltb j low) (λ e. out_made.caps j (omega arith) (ltb-true j low e))
              (λ e. cases (eqb j m) (λ t. rw (eqb-true j m t) last_value) (λ t. in_made.caps j (ltb-false j low e) (omega (arith, eqb-false j m t))));
          owns = λ y h. absurd (omega arith);
          none =
              ap (λ l. get_or l 63 0) ev ∙ get_or-set_other (set best 63 0) (64 + m) 63 (4 * L) 0 (λ e. omega arith)
              ∙ get_or-set_same best 63 0 0 (omega (arith, i.room.values));
          room = rw ev (simp length-set i.room.values);
        }
          where
            last_value : get_or best' (64 + m) 0 ≡ 4 * L
            last_value =
                ap (λ l. get_or l (64 + m) 0) ev ∙ get_or-set_same (set best 63 0) (64 + m) (4 * L) 0 (simp length-set (omega (arith, i.room.values, chosen_few)))

        pub answered : (last : List ℕ) → Brought L d k B' (m + 1) last → AllBrought L d k f count (64 + m) outs ins last
        answered last v = record {
          outside = record { place = λ j h. (out j h).0; value = λ j h. (out j h).1 };
          inside = record { place = λ j h. (inn j h).0; value = λ j h. (inn j h).1 };
          own-place = omega (arith, chosen_few);
          own =
              v.sides m (omega arith) ∙ ap (λ (x : ℕ). brought_fast L d k (bit x)) (whole ∙ omega arith) ∙ sym (fast_rest L d k 0 (pow_pos k))
              ∙ ap (λ (x : ℕ). brought_fast L d k (bit x)) (omega arith);
          room = v.room;
        }
          where
            most : m + 1 ≤ 128
            most = omega (arith, chosen_few)

            out : (j : ℕ) → j < count → (get_or outs j 0 < 192) × (get_or last (get_or outs j 0) 0 - 2 * L ≡ brought_fast L d k (bit (0 + get_or f j 0)) - 2 * L)
            out j h =
                let t = r.far j h in
                let z : 0 + get_or f j 0 ≡ get_or f j 0 = omega arith in
                rw z (valued L d k (m + 1) B' last few most v (omega (arith, in_made.order)) t.some t.fits (out_dead L d k w b N p q (get_or f j 0) t)
                (out_made.slot j (omega arith) h))

            inn : (j : ℕ) → j < count → (get_or ins j 0 < 192) × (get_or last (get_or ins j 0) 0 - 2 * L ≡ brought_fast L d k (bit (2 ^ k + get_or f j 0)) - 2 * L)
            inn j h =
                let t = r.far j h in
                let e = fast_rest L d k (get_or f j 0) t.fits in
                rw e (valued L d k (m + 1) B' last few most v (omega arith) (rest_some k (get_or f j 0) t g) (rest_lt k (get_or f j 0))
                (λ l. omega (arith, in_dead L d k w b N p q (get_or f j 0) t l)) (in_made.slot j (omega arith) h))
