-- The sides that are asked form a chain for each image. Assumes nothing.
use Rattle.std.specs.Prelude.{true, List, ◌⊎◌, ◌≡◌, suc, ℕ, ◌-◌, ◌<◌, ◌^◌, ◌≤◌, eqb, ltb, get_or, length}
use Rattle.std.proofs.Common.{inl, inr, ap, arith, pow_pos, eqb-true, ltb-false, ltb-true}
use Rattle.std.specs.Int.Bits.{bit_and}
use Rattle.std.proofs.lemmas.Bool.{eqb-false}
use borrow.Table.Steps.{cases}
use Rattle.ground.specs.Bits.{bit}
use Rattle.ground.specs.Laws.Bits.{bit_and_lem, bit_full, bit_lt}
use Rattle.ground.specs.Laws.Tests.{or_cases}
use Rattle.theory.specs.FarSides.{Nested, Within}
use Rattle.theory.specs.Laws.Nested.{bit-holds, holds_false, holds_true}
use Rattle.upper_sides.specs.Chains.{Family}
use Rattle.brought.specs.Choosing.{in_live, in_side, out_live, out_side}
use Rattle.brought.specs.Chosen.{Rowed, SidesStored}
use Rattle.near_images.specs.Near.{goes_in, goes_out}
use Rattle.brought.specs.Laws.Turned.{bit-rest, rest_lt}
use Rattle.upper_sides.specs.Laws.Lowest.{one_below}
use Rattle.upper_sides.specs.Laws.Parts.{bits_le}

-- bit by bit
and_bits : (S N : ℕ) → bit_and S N ≡ S → (x : ℕ) → bit S x ≤ bit N x
and_bits S N e x = omega (arith, bit_and_lem x S N, ap (λ (y : ℕ). bit y x) e)

within_bits : (k S R : ℕ) → S < 2 ^ k → Within k S R → (x : ℕ) → bit S x ≤ bit R x
within_bits k S R f w x =
    cases (eqb (bit S x) 1)
    (λ e. let o = eqb-true (bit S x) 1 e in omega (arith, holds_true R x (w x (one_below S k x f o) (bit-holds S x o))))
    (λ e. omega (arith, eqb-false (bit S x) 1 e, bit_lt S x))

-- of two rows that hold one image, the lower is within the higher
rows_within : (k S R : ℕ) → S < 2 ^ k → R < 2 ^ k → Nested k S R → S < R → (z : ℕ) → bit S z ≡ 1 → bit R z ≡ 1 → (y : ℕ) → bit S y ≤ bit R y
rows_within k S R f g (inl w) l z s r y = within_bits k S R f w y
rows_within k S R f g (inr (inl w)) l z s r y = absurd (omega (arith, bits_le k R S g (within_bits k R S g w)))
rows_within k S R f g (inr (inr w)) l z s r y = absurd (omega (arith, holds_false R z (w z (one_below S k z f s) (bit-holds S z s))))

-- a row S with image k outside and a row R with it inside: what S holds R does not, where S holds something that R does not
rows_apart : (k b N S R : ℕ) → S < 2 ^ k → R < 2 ^ k → bit N b ≡ 1 → Nested k S R → goes_out b N S ≡ true → goes_in N R ≡ true → (z : ℕ) → bit S z ≡ 1
    → bit R z ≡ 0
    → (y : ℕ) → bit S y ≡ 1 → bit R y ≡ 0
rows_apart k b N S R f g n (inl w) o i z s r y t = absurd (omega (arith, within_bits k S R f w z))
rows_apart k b N S R f g n (inr (inl w)) o i z s r y t = absurd (go (or_cases (eqb (bit S b) 0) (eqb (bit_and S N) S) o))
  where
    into : (x : ℕ) → bit N x ≤ bit R x
    into x = omega (arith, bit_and_lem x R N, ap (λ (v : ℕ). bit v x) (eqb-true (bit_and R N) N i))

    go : (eqb (bit S b) 0 ≡ true) ⊎ (eqb (bit_and S N) S ≡ true) → ⊥
    go (inl e) = omega (arith, eqb-true (bit S b) 0 e, within_bits k R S g w b, into b)
    go (inr e) = omega (arith, and_bits S N (eqb-true (bit_and S N) S e) z, into z)
rows_apart k b N S R f g n (inr (inr w)) o i z s r y t = holds_false R y (w y (one_below S k y f t) (bit-holds S y t))

module _ (L k b N : ℕ) (f : List ℕ) (count low m : ℕ) (B outs ins best : List ℕ) (r : Rowed k f count) (n : 0 < count → bit N b ≡ 1)
    (l : SidesStored L (out_side f) (out_live b N f) 0 count 0 low B outs best) (h : SidesStored L (in_side k f) (in_live N f) 0 count low m B ins best)
    (whole : get_or B m 0 ≡ 2 ^ k - 1) where
  -- the side at place j: a row, what a row does not hold, or the whole
  data Kind (j : ℕ) : Type 0 where
    front : j < low → Kind j
    back : low ≤ j → j < m → Kind j
    all : j ≡ m → Kind j

  kind : (j : ℕ) → j < suc m → Kind j
  kind j g =
      cases (ltb j low) (λ e. front (ltb-true j low e))
      (λ e. cases (eqb j m) (λ s. all (eqb-true j m s)) (λ s. back (ltb-false j low e) (omega (arith, eqb-false j m s))))

  fits : (j : ℕ) → Kind j → get_or B j 0 < 2 ^ k
  fits j (front g) = let s = l.from j (omega arith) g in rw s.3 (r.far s.0 s.2).fits
  fits j (back g t) = let s = h.from j g t in rw s.3 (rest_lt k (get_or f s.0 0))
  fits j (all e) = rw (e, whole) (omega (arith, pow_pos k))

  to_all : (i j y : ℕ) → Kind i → j ≡ m → bit (get_or B i 0) y ≡ 1 → bit (get_or B j 0) y ≡ 1
  to_all i j y p e v = rw (e, whole) (bit_full k y (one_below (get_or B i 0) k y (fits i p) v))

  grows : (i j z y : ℕ) → Kind i → Kind j → i < j → bit (get_or B i 0) z ≡ 1 → bit (get_or B j 0) z ≡ 1 → bit (get_or B i 0) y ≡ 1 → bit (get_or B j 0) y ≡ 1
  grows i j z y (front g) (front t) c s u v =
      let a = l.from i (omega arith) g in
      let e = l.from j (omega arith) t in
      let w = l.up i j (omega arith) c t in
      let x = rw (a.3, e.3) at w in
      let s' = rw a.3 at s in
      let u' = rw e.3 at u in
      let v' = rw a.3 at v in
      rw e.3 (omega (
        arith,
        bit_lt (get_or f e.0 0) y,
        rows_within k (get_or f a.0 0) (get_or f e.0 0) (r.far a.0 a.2).fits
            (r.far e.0 e.2).fits (r.nested a.0 e.0 a.2 e.2) x z s' u' y,
      ))
  grows i j z y (front g) (back t c) q s u v =
      let a = l.from i (omega arith) g in
      let e = h.from j t c in
      let S = get_or f a.0 0 in
      let R = get_or f e.0 0 in
      let s' : bit S z ≡ 1 = rw a.3 at s in
      let u' : bit (2 ^ k - 1 - R) z ≡ 1 = rw e.3 at u in
      let v' : bit S y ≡ 1 = rw a.3 at v in
      let fs = (r.far a.0 a.2).fits in
      let fr = (r.far e.0 e.2).fits in
      let zr : bit R z ≡ 0 = omega (arith, bit-rest k R z fr (one_below S k z fs s')) in
      rw e.3 (omega (
        arith,
        bit-rest k R y fr (one_below S k y fs v'),
        rows_apart k b N S R fs fr (n (omega (arith, a.2)))
            (r.nested a.0 e.0 a.2 e.2) a.4 e.4 z s' zr y v',
      ))
  grows i j z y (back g p) (front t) q s u v = absurd (omega arith)
  grows i j z y (back g p) (back t c) q s u v =
      let a = h.from i g p in
      let e = h.from j t c in
      let S = get_or f a.0 0 in
      let R = get_or f e.0 0 in
      let w = h.up i j g q c in
      let x : 2 ^ k - 1 - S < 2 ^ k - 1 - R = rw (a.3, e.3) at w in
      let v' : bit (2 ^ k - 1 - S) y ≡ 1 = rw a.3 at v in
      let fs = (r.far a.0 a.2).fits in
      let fr = (r.far e.0 e.2).fits in
      let yk = one_below (2 ^ k - 1 - S) k y (rest_lt k S) v' in
      let nb = n (omega (arith, a.2)) in
      let bs : bit S b ≡ 1 = omega (arith, bit_and_lem b S N, ap (λ (w : ℕ). bit w b) (eqb-true (bit_and S N) N a.4), bit_lt S b) in
      let br : bit R b ≡ 1 = omega (arith, bit_and_lem b R N, ap (λ (w : ℕ). bit w b) (eqb-true (bit_and R N) N e.4), bit_lt R b) in
      rw e.3
      (omega
      (arith, bit-rest k S y fs yk, bit-rest k R y fr yk, bit_lt S y, rows_within k R S fr fs (r.nested e.0 a.0 e.2 a.2) (omega arith) b br bs y))
  grows i j z y (front g) (all e) q s t v = to_all i j y (front g) e v
  grows i j z y (back g p) (all e) q s t v = to_all i j y (back g p) e v
  grows i j z y (all p) (front t) q s u v = absurd (omega (arith, h.order))
  grows i j z y (all p) (back t c) q s u v = absurd (omega arith)
  grows i j z y (all p) (all t) q s u v = absurd (omega arith)

  pub family : length B ≡ 128 → m < 128 → Family k B (suc m)
  family e few = record {
    room = e;
    some = omega arith;
    few = few;
    chained = record { fits = λ i g. fits i (kind i g); grows = λ i j z y g t. grows i j z y (kind i (omega arith)) (kind j t) g };
    whole = λ i e. let q : i ≡ m = omega arith in rw q whole;
  }
