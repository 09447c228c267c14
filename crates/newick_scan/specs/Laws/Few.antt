-- A byte names at most one image. Assumes nothing.
use Rattle.std.specs.Prelude.{Bool, false, true, refl, ◌≡◌, ℕ, ◌+◌, ◌≤◌, eqb, ltb}
use Rattle.std.proofs.Common.{ap, ◌∙◌, arith}
use borrow.Table.Steps.{cases}
use Rattle.newick_bytes.specs.declared.Seen.{Seen}
use Rattle.newick_bytes.specs.declared.Seen.TheVariants.{Blank, Closed, Cost, Dead, Done, Ended, Image, Start, Vertex}
use Rattle.newick_notes.specs.declared.Noted.{Noted}
use Rattle.newick_notes.specs.Stacks.{Stacks}
use Rattle.newick_notes.specs.Turns.{begun, closed, named_by}
use Rattle.newick_scan.specs.Noting.{EndsBy, Kept, Noting}

names_of : (r w : Noted) → r ≡ w → r.names ≡ w.names
names_of r w e = ap (λ (k : Noted). k.names) e

begun-names : (b p : ℕ) (w : Noted) → (begun b p w).names ≡ w.names
begun-names b p w = cases (eqb b 40) (λ t. rw t refl) (λ t. rw t refl)

named-names : (b i : ℕ) (w : Noted) → (named_by b i w).names ≤ w.names + 1
named-names b i w = cases (eqb b 58) (λ t. rw t (omega arith)) (λ t. rw t (omega arith))

closed-names : (d : ℕ) (a : Stacks) (w : Noted) → (closed d a w).names ≡ w.names
closed-names d a w = cases (ltb d 2) (λ t. rw t refl) (λ t. rw t refl)

module _ (b p : ℕ) (x y : Kept) where
  names_same : y ≡ x → y.noted.names ≤ x.noted.names + 1
  names_same e = rw e (omega arith)

  names_ends : (t u : Bool) (c d : ℕ) → EndsBy t u c d x y → y.noted.names ≤ x.noted.names + 1
  names_ends true u c d n = omega (arith, names_of y.noted _ n.complete.told)
  names_ends false true c d n =
      omega (arith, names_of y.noted _ n.told ∙ closed-names d x.stacks n.inner ∙ names_of n.inner _ n.complete.told)
  names_ends false false c d n = names_same n

  pub few_byte : (s : Seen) → Noting s b p x y → y.noted.names ≤ x.noted.names + 1
  few_byte Start n = names_same n
  few_byte (Vertex d k) n = omega (arith, names_of y.noted (begun b p x.noted) n.0.told, begun-names b p x.noted)
  few_byte (Image i d k) n = rw n (named-names b i x.noted)
  few_byte (Closed d k) n = names_same n
  few_byte (Blank d k) n = names_same n
  few_byte (Cost c d k) n = names_ends (eqb b 44) (eqb b 41) c d n
  few_byte Ended n = names_same n
  few_byte Done n = names_same n
  few_byte Dead n = names_same n
