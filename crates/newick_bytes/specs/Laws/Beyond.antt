-- A number above 255 is no byte: nothing goes on by it, and the counts of the outer brackets stay. Assumes nothing.
use Rattle.std.specs.Prelude.{Bool, false, true, List, refl, ◌≡◌, ℕ, ◌≤◌, eqb, leb}
use Rattle.std.proofs.Common.{arith, le-leb, ne_eqb}
use Rattle.std.proofs.lemmas.Bool.{lt-leb}
use Rattle.newick_text.specs.Bytes.{is_digit}
use Rattle.newick_bytes.specs.Next.{next_seen}
use Rattle.newick_bytes.specs.Outer.{next_outer}
use Rattle.newick_bytes.specs.declared.Seen.{Seen}
use Rattle.newick_bytes.specs.declared.Seen.TheVariants.{Blank, Closed, Cost, Dead, Done, Ended, Image, Start, Vertex}

module _ (b : ℕ) (h : 256 ≤ b) where
  other : (k : ℕ) → k ≤ 255 → eqb b k ≡ false
  other k l = ne_eqb b k (λ e. omega (arith, e, h, l))

  above : leb b 57 ≡ false
  above = lt-leb b 57 (omega (arith, h))

  no-digit : is_digit b ≡ false
  no-digit = rw (le-leb 48 b (omega (arith, h)), above) refl

  pub beyond_seen : (s : Seen) (a : List ℕ) → Dead ≡ next_seen s b a
  beyond_seen Start a = rw (other 40 (omega arith)) refl
  beyond_seen (Vertex d k) a = rw (other 40 (omega arith), le-leb 49 b (omega (arith, h)), above) refl
  beyond_seen (Image x d k) a = rw (other 58 (omega arith), no-digit) refl
  beyond_seen (Closed d k) a = rw (other 58 (omega arith)) refl
  beyond_seen (Blank d k) a = rw no-digit refl
  beyond_seen (Cost x d k) a = rw (other 44 (omega arith), other 41 (omega arith), no-digit) refl
  beyond_seen Ended a = rw (other 59 (omega arith)) refl
  beyond_seen Done a = refl
  beyond_seen Dead a = refl

  pub beyond_outer : (s : Seen) (a : List ℕ) → a ≡ next_outer s b a
  beyond_outer Start a = refl
  beyond_outer (Vertex d k) a = rw (other 40 (omega arith)) refl
  beyond_outer (Image x d k) a = refl
  beyond_outer (Closed d k) a = refl
  beyond_outer (Blank d k) a = refl
  beyond_outer (Cost x d k) a = refl
  beyond_outer Ended a = refl
  beyond_outer Done a = refl
  beyond_outer Dead a = refl
