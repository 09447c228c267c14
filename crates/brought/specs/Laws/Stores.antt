-- One side more behind the sides so far: what stood before it stays, and the new one takes its place or leaves it. Assumes nothing.
use Rattle.std.specs.Prelude.{Bool, false, not, true, List, ◌≡◌, ℕ, ◌*◌, ◌+◌, ◌<◌, ◌≤◌, eqb, get_or}
use Rattle.std.proofs.Common.{ap, ◌∙◌, arith, length-set, get_or-set_other, get_or-set_same, eqb-true}
use Rattle.std.proofs.lemmas.Bool.{eqb-false, not-true}
use borrow.Table.Steps.{cases}
use Rattle.ground.specs.Counts.{one_if}
use Rattle.ground.specs.Laws.Tests.{and_l, and_r}
use Rattle.brought.specs.Chosen.{Slot, SidesStored, one_image, by_image, nowhere, slot_of, stored, is_stored}
use Rattle.brought.specs.Choosing.{SidePut, Room, Same}

-- a side was stored for good, since it may stay and is no image alone; or it was not
pub data Took (x : ℕ) (live : Bool) (S : ℕ) : Type 0 where
  put : x ≡ 1 → live ≡ true → one_image S ≡ false → Took x live S
  left : x ≡ 0 → Took x live S

pub took : (live : Bool) (S : ℕ) → Took (one_if (is_stored live S)) live S
took live S =
    cases (is_stored live S)
    (λ t. put (rw t) (and_l live (not (one_image S)) t) (not-true (one_image S) (and_r live (not (one_image S)) t)))
    (λ t. left (rw t))

-- more sides, of which the first m are the same
slot_kept : {m m' : ℕ} {B B' : List ℕ} {live : Bool} {A x : ℕ} → m ≤ m' → ((j : ℕ) → j < m → get_or B' j 0 ≡ get_or B j 0) → Slot m B live A x → Slot m' B' live A x
slot_kept h s (by_image e t) = by_image e t
slot_kept h s (stored j e l t) = stored j e (omega arith) (s j l ∙ t)
slot_kept h s (nowhere e t) = nowhere e t

pub stored_same : {L : ℕ} {a : ℕ → ℕ} {live : ℕ → Bool} {p q low m : ℕ} {B slots best B' best' : List ℕ} → Same m B best B' best'
    → SidesStored L a live p q low m B slots best → SidesStored L a live p q low m B' slots best'
stored_same s t = record {
  order = t.order;
  from = λ j g h. let r = t.from j g h in (r.0, r.1, r.2, s.sides j h ∙ r.3, r.4);
  up = λ j l g h k. rw (s.sides j (omega arith), s.sides l k) (t.up j l g h k);
  slot = λ r g h. slot_kept (omega arith) s.sides (t.slot r g h);
  caps = λ j g h. s.values j h ∙ t.caps j g h;
}

module _ (L : ℕ) (live : Bool) (s m i : ℕ) (B slots best : List ℕ) (r : ℕ) (B' slots' best' : List ℕ) (room : Room B slots best) (g : m < 128)
    (h : i < 128) (u : SidePut L live s m i B slots best r B' slots' best') where
  pub put-room : Room B' slots' best'
  put-room = record {
    sides = rw u.side (simp length-set room.sides);
    places = rw u.slot (simp length-set room.places);
    values = rw u.value (simp length-set room.values);
  }

  pub put_same : Same m B best B' best'
  put_same = record {
    sides = λ j l. ap (λ n. get_or n j 0) u.side ∙ get_or-set_other B m j s 0 (λ e. omega arith);
    values = λ j l. ap (λ n. get_or n (64 + j) 0) u.value ∙ get_or-set_other best (64 + m) (64 + j) (4 * L) 0 (λ e. omega arith);
  }

  -- the side and its value
  side_here : get_or B' m 0 ≡ s
  side_here = ap (λ n. get_or n m 0) u.side ∙ get_or-set_same B m s 0 (omega (arith, room.sides))

  value_here : get_or best' (64 + m) 0 ≡ 4 * L
  value_here = ap (λ n. get_or n (64 + m) 0) u.value ∙ get_or-set_same best (64 + m) (4 * L) 0 (omega (arith, room.values))

  slot_here : get_or slots' i 0 ≡ slot_of live s m
  slot_here = ap (λ n. get_or n i 0) u.slot ∙ get_or-set_same slots i (slot_of live s m) 0 (omega (arith, room.places))

  slot_other : (j : ℕ) → (j ≡ i → ⊥) → get_or slots' j 0 ≡ get_or slots j 0
  slot_other j o = ap (λ n. get_or n j 0) u.slot ∙ get_or-set_other slots i j (slot_of live s m) 0 o

  pub put-more : m ≤ r
  put-more = go (one_if (is_stored live s)) (took live s) u.counted
    where
      go : (x : ℕ) → Took x live s → r ≡ m + x → m ≤ r
      go x t e = omega arith

  slot_new : Slot r B' live s (slot_of live s m)
  slot_new =
      cases (one_image s)
      (λ e. by_image (rw e) e)
      (λ e. cases live
      (λ l. let q : r ≡ m + 1 = u.counted ∙ rw (l, e) in stored m (rw (e, l)) (omega arith) side_here)
      (λ l. nowhere (rw (e, l)) l))

  -- row i joins the rows from p to q, above all of them
  module _ (a : ℕ → ℕ) (lives : ℕ → Bool) (p q p' q' low : ℕ) (ea : a i ≡ s) (el : lives i ≡ live) (first : p' ≤ p) (last : q ≤ q') (here : (p' ≤ i) × (i < q'))
      (only : (j : ℕ) → p' ≤ j → j < q' → (j ≡ i → ⊥) → (p ≤ j) × (j < q)) (above : (j : ℕ) → p ≤ j → j < q → (a j < s) × (j ≡ i → ⊥))
      (t : SidesStored L a lives p q low m B slots best) where
    slots_more : (j : ℕ) → p' ≤ j → j < q' → Slot r B' (lives j) (a j) (get_or slots' j 0)
    slots_more j x y =
        cases (eqb j i)
        (λ e. let o = eqb-true j i e in rw (o, slot_here, ea, el) slot_new)
        (λ e. let o = only j x y (eqb-false j i e) in rw (slot_other j (eqb-false j i e)) (slot_kept put-more put_same.sides (t.slot j o.0 o.1)))

    from_old : (j : ℕ) → low ≤ j → j < m → (r : ℕ) × (p' ≤ r) × (r < q') × (get_or B' j 0 ≡ a r) × (lives r ≡ true)
    from_old j x y = let f = t.from j x y in (f.0, omega (arith, f.1), omega (arith, f.2), put_same.sides j y ∙ f.3, f.4)

    pub stored_more : SidesStored L a lives p' q' low r B' slots' best'
    stored_more = go (one_if (is_stored live s)) (took live s) u.counted
      where
        go : (x : ℕ) → Took x live s → r ≡ m + x → SidesStored L a lives p' q' low r B' slots' best'
        go x (left e) c =
            let o : r ≡ m = omega arith in
            record {
              order = omega (arith, t.order);
              from = λ j x y. from_old j x (omega arith);
              up = λ j l x y z. rw (put_same.sides j (omega arith), put_same.sides l (omega arith)) (t.up j l x y (omega arith));
              slot = slots_more;
              caps = λ j x y. put_same.values j (omega arith) ∙ t.caps j x (omega arith);
            }
        go x (put e l w) c =
            let o : r ≡ m + 1 = omega arith in
            record {
              order = omega (arith, t.order);
              from = λ j x y. cases (eqb j m)
                  (λ q. let k = eqb-true j m q in (i, here.0, here.1, rw (k, ea) side_here, el ∙ l))
                  (λ q. from_old j x (omega (arith, eqb-false j m q)));
              up = λ j k x y z. cases (eqb k m)
                  (λ q. let o = eqb-true k m q in let f = t.from j x (omega arith) in rw (o, side_here, put_same.sides j (omega arith), f.3)
                  (above f.0 f.1 f.2).0)
                  (λ q. let h : k < m = omega (arith, eqb-false k m q) in rw (put_same.sides j (omega arith), put_same.sides k h) (t.up j k x y h));
              slot = slots_more;
              caps = λ j x y. cases (eqb j m)
                  (λ q. rw (eqb-true j m q) value_here)
                  (λ q. let h : j < m = omega (arith, eqb-false j m q) in put_same.values j h ∙ t.caps j x h);
            }
