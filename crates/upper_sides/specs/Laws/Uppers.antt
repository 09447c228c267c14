-- The first side that holds z, and from a side that holds z the next one: its upper side. Assumes nothing.
use Rattle.std.specs.Prelude.{List, ◌⊎◌, refl, ◌≡◌, max, suc, zero, ℕ, ◌+◌, ◌-◌, ◌<◌, ◌^◌, ◌≤◌, eqb, get_or, length, set}
use Rattle.std.proofs.Common.{inl, inr, ap, sym, ◌∙◌, arith, length-set, get_or-set_other, get_or-set_same, eqb-true}
use Rattle.std.specs.Int.Bits.{bit_and, bit_or}
use Rattle.std.specs.Int.Count.{count_trailing_zeros}
use Rattle.std.proofs.lemmas.Bool.{eqb-false}
use borrow.Table.Steps.{cases}
use Rattle.ground.specs.Bits.{bit}
use Rattle.ground.specs.Laws.Bits.{bit_and_lem, bit_full, bit_lt, bit_none, bit_or_lem}
use Rattle.theory.specs.Laws.Contained.{within_and}
use Rattle.theory.specs.Laws.Nested.{bit-holds, holds_true}
use Rattle.upper_sides.specs.Chains.{Chained, Family}
use Rattle.upper_sides.specs.Links.{Holder, Linked, Linking, PlacesMarked, FirstContaining}
use Rattle.upper_sides.specs.Laws.Lowest.{drop_lowest, lowest_one}
use Rattle.upper_sides.specs.Laws.Parts.{bit_minus, bits_le}

-- a side contains s, image by image
contains-bits : (s r y : ℕ) → bit_and s r ≡ s → bit s y ≡ 1 → bit r y ≡ 1
contains-bits s r y e t = omega (arith, bit_and_lem y s r, ap (λ (x : ℕ). bit x y) e, bit_lt r y)

bits_contain : (k s r : ℕ) → s < 2 ^ k → ((y : ℕ) → bit s y ≡ 1 → bit r y ≡ 1) → bit_and s r ≡ s
bits_contain k s r f h = within_and k s r f (λ y l e. bit-holds r y (h y (holds_true s y e)))

-- the upper side of a side that holds z
pub upper_holder : (k : ℕ) (B links : List ℕ) (m z i j : ℕ) → Chained k B m → Linked B m links → i < m → bit (get_or B i 0) z ≡ 1 → j ≡ get_or links i 0
    → Holder B m z (i + 1) j
upper_holder k B links m z i j c u h e q =
    let n = u.upper i h in
    rw q (record {
      from = n.from;
      few = n.few;
      none = λ l g s t. n.none l g s
          (bits_contain k (get_or B i 0) (get_or B l 0) (c.fits i h) (λ y v. c.grows i l z y (omega arith) (omega (arith, n.few)) e t v));
      holds = λ l. contains-bits (get_or B i 0) (get_or B (get_or links i 0) 0) z (n.holds l) e;
    })

-- the first side of an image: the last side has them all
pub first_holder : (k : ℕ) (B links : List ℕ) (m z j : ℕ) → Family k B m → Linked B m links → z < k → k ≤ 64 → j ≡ get_or links (128 + z) 0 → Holder B m z 0 j
first_holder k B links zero z j f u h few q = absurd (omega (arith, f.some))
first_holder k B links (suc m) z j f u h few q = rw q (u.first z m (omega arith) (omega arith) (rw (f.whole m refl) (bit_full k z h)))

-- ## The loop that looks for a side, and the loop over all sides

-- no side from place i up to place j contains s
abbrev pub Passed : List ℕ → ℕ → ℕ → ℕ → Type 0
Passed B s i j = (l : ℕ) → i ≤ l → l < j → bit_and s (get_or B l 0) ≡ s → ⊥

pub passed_none : (B : List ℕ) (s i : ℕ) → Passed B s i i
passed_none B s i l a b e = omega arith

pub passed-more : (B : List ℕ) (s i j : ℕ) → Passed B s i j → (bit_and s (get_or B j 0) ≡ s → ⊥) → Passed B s i (j + 1)
passed-more B s i j n o l a b e =
    cases (eqb l j) (λ q. let u = eqb-true l j q in o (rw u at e)) (λ q. n l a (omega (arith, eqb-false l j q)) e)

-- ## The loop over the images of a number

pub marked_none : (m j : ℕ) (links : List ℕ) → PlacesMarked m j m links links
marked_none m j links = record { room = refl; here = λ z h a b. absurd (omega arith); there = λ z h a. refl; front = λ i h. refl }

pub marked_more : (m j rest : ℕ) (links links' : List ℕ) → 0 < rest → rest < 2 ^ 64 → ((z : ℕ) → bit rest z ≤ bit m z) → length links ≡ 192
    → {r x : ℕ} → r ≡ count_trailing_zeros 64 rest → x ≡ bit_and rest (rest - 1)
    → PlacesMarked m j rest links links' → PlacesMarked m j x links (set links' (128 + r) j)
marked_more m j rest links links' some fits within room {r} {x} er ex n = rw (er, ex) (record {
  room = simp length-set n.room;
  here = λ z h a b. go z h a b (drop_lowest 64 rest z some fits);
  there =
      λ z h a. get_or-set_other links' (128 + count_trailing_zeros 64 rest) (128 + z) j 0
      (λ e. let q : z ≡ count_trailing_zeros 64 rest = omega arith in omega (arith, within z, ap (bit rest) q, (lowest_one 64 rest some fits).1)) ∙ n.there z h a;
  front = λ i h. get_or-set_other links' (128 + count_trailing_zeros 64 rest) i j 0 (λ e. omega arith) ∙ n.front i h;
})
  where
    go : (z : ℕ) → z < 64 → bit m z ≡ 1 → bit (bit_and rest (rest - 1)) z ≡ 0
        → ((z ≡ count_trailing_zeros 64 rest) × (bit (bit_and rest (rest - 1)) z ≡ 0)) ⊎
        ((z ≡ count_trailing_zeros 64 rest → ⊥) × (bit (bit_and rest (rest - 1)) z ≡ bit rest z)) → get_or (set links' (128 + count_trailing_zeros 64 rest) j) (128 + z) 0 ≡ j
    go z h a b (inl t) = rw t.0 (get_or-set_same links' (128 + count_trailing_zeros 64 rest) j 0 (omega (arith, n.room, (lowest_one 64 rest some fits).0)))
    go z h a b (inr t) = get_or-set_other links' (128 + count_trailing_zeros 64 rest) (128 + z) j 0 (λ e. t.0 (omega arith)) ∙ n.here z h a (sym t.1 ∙ b)

-- ## The loop over all sides

pub linking_none : (B : List ℕ) (m : ℕ) (links : List ℕ) → length links ≡ 192 → Linking B m 0 0 links
linking_none B m links r = record {
  room = r;
  upper = λ j h. absurd (omega arith);
  first = λ z h a. absurd (omega (arith, bit_none z));
  none = λ z l a h. absurd (omega arith);
}

module _ (B : List ℕ) (m i seen : ℕ) (links : List ℕ) (h : i < m) (few : m ≤ 128) (fits : seen < 2 ^ 64) (u : Linking B m i seen links) where
  both-bit : (z : ℕ) → bit (bit_or seen (get_or B i 0)) z ≡ max (bit seen z) (bit (get_or B i 0) z)
  both-bit z = bit_or_lem z seen (get_or B i 0)

  new_bit : (z : ℕ) → bit (bit_or seen (get_or B i 0) - seen) z ≡ max (bit seen z) (bit (get_or B i 0) z) - bit seen z
  new_bit z = bit_minus z 64 seen (bit_or seen (get_or B i 0)) fits (λ j. omega (arith, both-bit j)) ∙ ap (λ x. x - bit seen z) (both-bit z)

  pub both_less : seen ≤ bit_or seen (get_or B i 0)
  both_less = bits_le 64 seen (bit_or seen (get_or B i 0)) fits (λ j. omega (arith, both-bit j))

  pub linking_more : (v : ℕ) (links' : List ℕ) → FirstContaining B m (get_or B i 0) (i + 1) v
      → PlacesMarked (bit_or seen (get_or B i 0) - seen) i 0 (set links i v) links' → Linking B m (i + 1) (bit_or seen (get_or B i 0)) links'
  linking_more v links' n t = record {
    room = t.room ∙ simp length-set u.room;
    upper = λ j l. cases (eqb j i)
        (λ e. let q = eqb-true j i e in rw (q, t.front i (omega arith), get_or-set_same links i v 0 (omega (arith, u.room))) n)
        (λ e. rw (t.front j (omega arith), get_or-set_other links i j v 0 (eqb-false j i e)) (u.upper j (omega (arith, eqb-false j i e))));
    first = λ z l a. cases (eqb (bit seen z) 1)
        (λ e. let o = eqb-true (bit seen z) 1 e in rw
        (t.there z l (omega (arith, new_bit z, bit_lt (get_or B i 0) z)), get_or-set_other links i (128 + z) v 0 (λ e. omega arith)) (u.first z l o))
        (λ e. let o : bit seen z ≡ 0 = omega (arith, eqb-false (bit seen z) 1 e, bit_lt seen z) in
        let g : bit (get_or B i 0) z ≡ 1 = omega (arith, both-bit z, bit_lt (get_or B i 0) z) in
        rw (t.here z l (omega (arith, new_bit z)) (bit_none z))
        (record { from = omega arith; few = omega arith; none = λ x a b c. u.none z x o b c; holds = λ b. g }));
    none = λ z l a b c. cases (eqb l i)
        (λ e. let q = eqb-true l i e in let g = rw q at c in omega (arith, both-bit z))
        (λ e. u.none z l (omega (arith, both-bit z)) (omega (arith, eqb-false l i e)) c);
  }

pub linking_end : (B : List ℕ) (m seen : ℕ) (links : List ℕ) → Linking B m m seen links → Linked B m links
linking_end B m seen links u = record {
  room = u.room;
  upper = u.upper;
  first = λ z j l h e. cases (eqb (bit seen z) 1) (λ t. u.first z l (eqb-true (bit seen z) 1 t))
      (λ t. absurd (u.none z j (omega (arith, eqb-false (bit seen z) 1 t, bit_lt seen z)) h e));
}
