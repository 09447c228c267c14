-- The lists are filled image by image, and what is least over them is least over the two sides. Assumes nothing.
use Rattle.std.specs.Prelude.{false, true, List, refl, ◌≡◌, suc, ℕ, ◌+◌, ◌-◌, ◌<◌, ◌≤◌, eqb, length, set, get_or, min, take}
use Rattle.std.proofs.Common.{ap, ◌∙◌, add-one, arith, length-set, length-take-le, get_or-take, get_or-set_other, get_or-set_same, eq-eqb, eqb-true, ne_eqb}
use Rattle.std.proofs.lemmas.Bool.{eqb-false}
use borrow.Table.Steps.{cases}
use mir.Val.{bool_byte}
use Rattle.ground.specs.Least.{least_on}
use Rattle.ground.specs.Laws.Least.{least_on_same, least_on_cap, least_on_end, least_on-turn}
use Rattle.theory.specs.OneMore.{brought_fast, brought_near, brought_side}
use Rattle.index_more.specs.Sides.{Gathered, Images, BothSides, least_at, more_at}

-- ## One image more

pub images_wider : (m n c : ℕ) (l : List ℕ) → m ≤ n → Images m c l → Images n c l
images_wider m n c l h p = record { room = p.room; below = λ i b. omega (arith, p.below i b) }

-- what is stored behind the first c places is none of them
behind : (c x cap : ℕ) (l : List ℕ) (f : ℕ → ℕ) → least_at c (set l c x) cap f ≡ least_at c l cap f
behind c x cap l f =
    least_on_same _ _ 0 cap _ _ c (λ i h. refl) (λ i h. ap f (get_or-set_other l c i x 0 (λ e. omega arith)))

pub gathered_skip : (n : ℕ) (s : ℕ → ℕ) (g c x : ℕ) (l : List ℕ) → eqb (s n) g ≡ false → Gathered n s g c l → Gathered (n + 1) s g c (set l c x)
unfolding least_on
gathered_skip n s g c x l e p = record {
  images = record {
    room = simp length-set p.images.room;
    below = λ i h. rw (get_or-set_other l c i x 0 (λ q. omega arith)) (omega (arith, p.images.below i h));
  };
  least = λ cap f. rw (add-one, e) (behind c x cap l f ∙ p.least cap f);
}

pub gathered-more : (n : ℕ) (s : ℕ → ℕ) (g c : ℕ) (l : List ℕ) → c < length l → eqb (s n) g ≡ true → Gathered n s g c l
    → Gathered (n + 1) s g (c + 1) (set l c n)
unfolding least_on
gathered-more n s g c l r e p = record {
  images = record {
    room = simp length-set (omega arith);
    below = λ i h. cases (eqb i c)
        (λ t. let q = eqb-true i c t in rw (q, get_or-set_same l c n 0 r) (omega arith))
        (λ t. rw (get_or-set_other l c i n 0 (eqb-false i c t)) (omega (arith, p.images.below i (omega (arith, eqb-false i c t)))));
  };
  least = λ cap f. rw (add-one, add-one, e, get_or-set_same l c n 0 r, behind c n cap l f, p.least cap f);
}

gathered_none : (s : ℕ → ℕ) (g : ℕ) (l : List ℕ) → Gathered 0 s g 0 l
unfolding least_on
gathered_none s g l = record { images = record { room = omega arith; below = λ i h. absurd (omega arith) }; least = λ cap f. refl }

pub split_none : (s : ℕ → ℕ) (h : ℕ) (own other : List ℕ) → BothSides s h 0 0 own other
split_none s h own other = record { few = omega arith; mine = gathered_none s h own; rest = gathered_none s (1 - h) other }

-- image n goes to its own side, stored behind the images of either
module _ (s : ℕ → ℕ) (h n c : ℕ) (own other : List ℕ) (two : h < 2) (x : c < length own) (y : n - c < length other) (p : BothSides s h n c own other) where
  pub split_mine : s n ≡ h → BothSides s h (n + 1) (c + 1) (set own c n) (set other (n - c) n)
  split_mine e =
      let q : n + 1 - (c + 1) ≡ n - c = omega arith in
      record {
        few = omega (arith, p.few);
        mine = gathered-more n s h c own x (eq-eqb (s n) h e) p.mine;
        rest = rw q (gathered_skip n s (1 - h) (n - c) n other (ne_eqb (s n) (1 - h) (λ f. omega arith)) p.rest);
      }

  pub split_rest : s n < 2 → (s n ≡ h → ⊥) → BothSides s h (n + 1) c (set own c n) (set other (n - c) n)
  split_rest l e =
      let q : n + 1 - c ≡ n - c + 1 = omega (arith, p.few) in
      record {
        few = omega (arith, p.few);
        mine = gathered_skip n s h c n own (ne_eqb (s n) h e) p.mine;
        rest = rw q (gathered-more n s (1 - h) (n - c) other y (eq-eqb (s n) (1 - h) (omega arith)) p.rest);
      }

  -- as the code counts
  pub split_turn : {m k : ℕ} → s n < 2 → m ≡ s n → k ≡ bool_byte (eqb m h) → BothSides s h (n + 1) (c + k) (set own c n) (set other (n - c) n)
  split_turn {m} {k} l e q =
      cases (eqb m h)
      (λ t. let z : k ≡ 1 = q ∙ ap bool_byte t in rw z (split_mine (omega (arith, eqb-true m h t))))
      (λ t. let z : c + k ≡ c = omega (arith, q ∙ ap bool_byte t) in rw z (split_rest l (λ f. eqb-false m h t (e ∙ f))))

-- image k is not on the side that is not its own
beside : (s : ℕ → ℕ) (k cap : ℕ) (f : ℕ → ℕ) → s k < 2 → least_on (suc k) s (1 - s k) cap f ≡ least_on k s (1 - s k) cap f
unfolding least_on
beside s k cap f h = rw (ne_eqb (s k) (1 - s k) (λ e. omega arith))

pub more-at : (L : ℕ) (d : ℕ → ℕ → ℕ) (k : ℕ) (s : ℕ → ℕ) (c : ℕ) (own other : List ℕ) → s k < 2 → BothSides s (s k) (k + 1) c own other
    → more_at L d k own c other (k + 1 - c) ≡ brought_fast L d k s
unfolding brought_fast brought_side brought_near
more-at L d k s c own other h q =
    let p : BothSides s (s k) (suc k) c own other = rw add-one at q in
    rw add-one
    (p.rest.least _ _ ∙ beside s k _ _ h
    ∙ least_on_same s s (1 - s k) _ _ _ k (λ i l. refl) (λ e l.
    p.mine.least _ _ ∙ least_on_same s s (s k) _ _ _ (suc k) (λ i l. refl) (λ a l. ap (λ x. x + (L + d a e - d k a)) (p.rest.least _ _ ∙ beside s k _ _ h))))

-- ## The first places alone

taken : (n : ℕ) (s : ℕ → ℕ) (g c : ℕ) (l : List ℕ) → Gathered n s g c l → Gathered n s g (length (take c l)) (take c l)
taken n s g c l p =
    let size = length-take-le c l p.images.room in
    rw size (record {
      images = record {
        room = omega (arith, size);
        below = λ i h. rw (get_or-take c l i 0 h) (p.images.below i h);
      };
      least = λ cap f. least_on_same _ _ 0 cap _ _ c (λ i h. refl) (λ i h. ap f (get_or-take c l i 0 h)) ∙ p.least cap f;
    })

-- what is least over them is least over the two sides
pub more_taken : (L : ℕ) (d : ℕ → ℕ → ℕ) (k : ℕ) (s : ℕ → ℕ) (h c : ℕ) (own other : List ℕ) → h ≡ s k → s k < 2 → BothSides s h (k + 1) c own other
    → more_at L d k (take c own) (length (take c own)) (take (k + 1 - c) other) (length (take (k + 1 - c) other)) ≡ brought_fast L d k s
more_taken L d k s h c own other e l p =
    let x = length-take-le c own p.mine.images.room in
    let y = length-take-le (k + 1 - c) other p.rest.images.room in
    let z : k + 1 - length (take c own) ≡ length (take (k + 1 - c) other) = omega (arith, x, y) in
    let q : BothSides s h (k + 1) (length (take c own)) (take c own) (take (k + 1 - c) other) = record {
      few = omega (arith, x, p.few);
      mine = taken (k + 1) s h c own p.mine;
      rest = rw z (taken (k + 1) s (1 - h) (k + 1 - c) other p.rest);
    } in
    rw (← z) (more-at L d k s (length (take c own)) (take c own) (take (k + 1 - c) other) l (rw e at q))

-- what the author of `one_more` names
pub ruleset over_sides = (images_wider, more_taken)

-- ## A loop over the first places of a list, with the least value m so far

module _ (l : List ℕ) (cap : ℕ) (f : ℕ → ℕ) where
  pub least_begins : cap ≡ least_at 0 l cap f
  unfolding least_on
  least_begins = refl

  pub least_goes : (i : ℕ) {m x r : ℕ} → m ≡ least_at i l cap f → x ≡ get_or l i 0 → r ≡ min (f x) m → r ≡ least_at (i + 1) l cap f
  least_goes i e g h = least_on-turn _ _ _ _ i e (rw g at h)

  pub least_stops : (i n : ℕ) {m : ℕ} → i ≤ n → n ≤ i → m ≡ least_at i l cap f → m ≡ least_at n l cap f
  least_stops i n p q e = least_on_end _ _ _ _ i n p q e

  pub least_capped : (n : ℕ) → least_at n l cap f ≤ cap
  least_capped n = least_on_cap _ _ _ _ n

-- what an author names on a function with such a loop
pub ruleset over_places = (least_begins, least_goes, least_stops, least_capped)
