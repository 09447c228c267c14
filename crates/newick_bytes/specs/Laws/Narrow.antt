-- What the tests say of a byte. Assumes nothing.
use Rattle.std.specs.Prelude.{not, true, ◌&&◌, ◌||◌, List, ◌≡◌, ℕ, ◌≤◌, eqb, leb}
use Rattle.std.proofs.Common.{ap, subst, sym, ◌∙◌, arith, leb-true}
use Rattle.ground.specs.Laws.Tests.{and_l, and_r}
use Rattle.newick_text.specs.Bytes.{is_digit}
use Rattle.newick_bytes.specs.Seen.{Bounded}
use Rattle.newick_allowed.specs.Tests.{begun, first_place}
use Rattle.newick_bytes.specs.Next.{next_seen}
use Rattle.newick_bytes.specs.Outer.{next_outer}
use Rattle.newick_bytes.specs.declared.Seen.{Seen}

pub begun_low : (d k b : ℕ) → begun d k b ≡ true → 48 ≤ b
begun_low d k b e = omega (arith, leb-true 49 b (and_l (leb 49 b) (leb b 57) (and_l (leb 49 b && leb b 57) (not (first_place d k) || eqb b 49) e)))

pub digit_low : (b : ℕ) → is_digit b ≡ true → (48 ≤ b) × (b ≤ 57)
digit_low b e = (leb-true 48 b (and_l (leb 48 b) (leb b 57) e), leb-true b 57 (and_r (leb 48 b) (leb b 57) e))

-- ## What was read, said otherwise

pub bounded_at : {s s' : Seen} → s ≡ s' → Bounded s → Bounded s'
bounded_at e h = subst Bounded e h

pub next-at : {s s' r : Seen} (b : ℕ) (a : List ℕ) → s ≡ s' → r ≡ next_seen s' b a → r ≡ next_seen s b a
next-at b a e h = h ∙ ap (λ (x : Seen). next_seen x b a) (sym e)

pub outer_at : {s s' : Seen} {o : List ℕ} (b : ℕ) (a : List ℕ) → s ≡ s' → o ≡ next_outer s' b a → o ≡ next_outer s b a
outer_at b a e h = h ∙ ap (λ (x : Seen). next_outer x b a) (sym e)
