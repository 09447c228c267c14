-- How code that stops at the first refusal meets the chain of numbered checks. Assumes nothing.
use Rattle.std.specs.Prelude.{List, ◌≡◌, ℕ, eqb}
use Rattle.std.proofs.Common.{◌∙◌, eq-eqb, ne_eqb}
use Rattle.ground.specs.Ascending.{Between}
use Rattle.ground.specs.Laws.Ascending.{between_filter}
use Rattle.ground.specs.Refusals.{refusal, refused_in}
use Rattle.theory.specs.Comparison.{inners}
use Rattle.theory.specs.FarSides.{inner}
use Rattle.choice.specs.Call.{Chosen, images_agree, numbered, taken, takes}
use Rattle.choice.specs.Inclusion.{includes}
use Rattle.choice.specs.Laws.Inclusion.{first-includes, second-includes}
use Rattle.counts.specs.Differ.{differ}
use Rattle.counts.specs.declared.Difference.{Difference}

-- ## Of two tables over the same images, where their difference was counted

module _ (n k : ℕ) (l r : List ℕ) (a : Between 1 l k) (b : Between 1 r k) (i j : ℕ) {d : Difference} (e : d ≡ differ n l r) where
  first_holds : includes (inners n l) (inners n r) ≡ eqb d.common d.second
  first_holds = rw e (first-includes k (inners n l) (inners n r) (between_filter (inner n) 1 k l a) (between_filter (inner n) 1 k r b))

  second_holds : includes (inners n r) (inners n l) ≡ eqb d.common d.first
  second_holds = rw e (second-includes k (inners n l) (inners n r) (between_filter (inner n) 1 k l a) (between_filter (inner n) 1 k r b))

  pub takes_first : d.common ≡ d.second → takes 1 i ≡ taken (inners n l) i (inners n r) j
  takes_first p = let x = first_holds ∙ eq-eqb d.common d.second p in rw x

  pub takes_second : (d.common ≡ d.second → ⊥) → d.common ≡ d.first → takes 2 j ≡ taken (inners n l) i (inners n r) j
  takes_second p q =
      let x = first_holds ∙ ne_eqb d.common d.second p in
      let y = second_holds ∙ eq-eqb d.common d.first q in
      rw (x, y)

  pub takes_none : (d.common ≡ d.second → ⊥) → (d.common ≡ d.first → ⊥) → refused_in 0 (refusal 14 0 0 0 0) ≡ taken (inners n l) i (inners n r) j
  takes_none p q =
      let x = first_holds ∙ ne_eqb d.common d.second p in
      let y = second_holds ∙ ne_eqb d.common d.first q in
      rw (x, y)

pub images-differ : (n m : ℕ) (y : Chosen) → (n ≡ m → ⊥) → refused_in 0 (refusal 15 0 0 0 0) ≡ numbered 0 (images_agree n m) y
images-differ n m y h = rw (ne_eqb n m h)

pub images_same : (n m : ℕ) (y : Chosen) {w : Chosen} → n ≡ m → w ≡ y → w ≡ numbered 0 (images_agree n m) y
images_same n m y h e = rw (eq-eqb n m h) e
