-- The chains of rows: what is written of one, and how they are found row by row. Assumes nothing.
use Rattle.std.specs.Prelude.{false, true, List, ◌++◌, ◌≡◌, suc, zero, ℕ, ◌+◌, ◌-◌, ◌<◌, ◌≤◌, eqb, ltb, get_or, length, replicate, set}
use Rattle.std.proofs.Math.Path.{refl}
use Rattle.std.proofs.Common.{sym, ◌∙◌, add-one, arith, get_or-set_other, get_or-set_same, eqb-true, ne_eqb}
use Rattle.std.proofs.lemmas.List.{get_or-replicate}
use Rattle.std.proofs.lemmas.Bool.{eqb-false}
use borrow.Table.Steps.{cases}
use Rattle.newick_text.specs.Trees.{listed}
use Rattle.newick_rows.specs.Below.{below, cost_text, opening}
use Rattle.newick_rows.specs.Chains.{Chained, Upward, chain, prior}
use Rattle.newick_rows.proofs.Laws.Below.{below_more}

-- ## One row more

module _ (u : List ℕ) where
  prior_here : (k p : ℕ) → eqb (get_or u k 0) p ≡ true → prior u (suc k) p ≡ suc k
  unfolding prior
  prior_here k p e = rw e refl

  prior_past : (k p : ℕ) → eqb (get_or u k 0) p ≡ false → prior u (suc k) p ≡ prior u k p
  unfolding prior
  prior_past k p e = rw e refl

  prior_none : (p : ℕ) → prior u 0 p ≡ 0
  unfolding prior
  prior_none p = refl

  prior-most : (k p : ℕ) → prior u k p ≤ k
  prior-most zero p = omega (arith, prior_none p)
  prior-most (suc k) p =
      cases (eqb (get_or u k 0) p) (λ e. omega (arith, prior_here k p e)) (λ e. omega (arith, prior_past k p e, prior-most k p))

  module _ (l v : List ℕ) where
    below_past : (k p : ℕ) → eqb (get_or u k 0) p ≡ false → below u l v (suc k) p ≡ below u l v k p
    unfolding below
    below_past k p e = rw e refl

    chain_none : (p q : ℕ) → below u l v 0 p ≡ below u l v 0 q
    unfolding below
    chain_none p q = refl

    chain_here : (k p : ℕ) → get_or u k 0 ≡ p → below u l v (suc k) p ≡ chain u l v (suc k)
    chain_here k p e = let z : suc k - 1 ≡ k = omega arith in rw (z, e) refl

    -- the vertices below a row are a chain
    prior-chain : (k p : ℕ) → below u l v k p ≡ chain u l v (prior u k p)
    prior-chain zero p = rw (prior_none p) (chain_none p (get_or u (0 - 1) 0))
    prior-chain (suc k) p =
        let ih = prior-chain k p in
        cases (eqb (get_or u k 0) p)
        (λ e. rw (prior_here k p e) (chain_here k p (eqb-true (get_or u k 0) p e)))
        (λ e. rw (prior_past k p e, below_past k p e) ih)

-- ## What is written of a chain

module _ (u b w : List ℕ) (z : Chained u b w) where
  pub before_most : (k : ℕ) → (k ≡ 0 → ⊥) → k ≤ length u → get_or b (k - 1) 0 ≤ k - 1
  before_most k h m = omega (arith, z.before (k - 1) (omega arith), prior-most u (k - 1) (get_or u (k - 1) 0))

  pub inner-most : (k : ℕ) → (k ≡ 0 → ⊥) → k ≤ length u → get_or w k 0 ≤ k - 1
  inner-most zero h m = absurd (h refl)
  inner-most (suc k) h m = omega (arith, z.inner k (omega arith), prior-most u k (suc k))

  module _ (l v : List ℕ) where
    pub inner-chain : (k : ℕ) → (k ≡ 0 → ⊥) → k ≤ length u → below u l v (k - 1) k ≡ chain u l v (get_or w k 0)
    inner-chain zero h m = absurd (h refl)
    inner-chain (suc k) h m =
        let y : suc k - 1 ≡ k = omega arith in rw (y, z.inner k (omega arith)) (prior-chain u l v k (suc k))

    pub chain_pieces : (k e : ℕ) → (k ≡ 0 → ⊥) → k ≤ length u → listed e (chain u l v k)
        ≡ listed 44 (chain u l v (get_or b (k - 1) 0))
        ++ (opening (ltb 0 (get_or w k 0)) (get_or l (k - 1) 0) ++ (listed 41 (chain u l v (get_or w k 0)) ++ cost_text (get_or v (k - 1) 0) e))
    chain_pieces zero e h m = absurd (h refl)
    chain_pieces (suc k) e h m =
        let y : suc k - 1 ≡ k = omega arith in
        rw (y, z.before k (omega arith), z.inner k (omega arith), ← prior-chain u l v k (get_or u k 0), ← prior-chain u l v k (suc k))
        (below_more u l v k (get_or u k 0) e refl)

-- ## How the chains are found: b and w when the first k rows are done

pub record Linked (u b w : List ℕ) (k : ℕ) : Type 0 where
  pub befores : (i : ℕ) → i < k → get_or b i 0 ≡ prior u i (get_or u i 0)
  pub latests : (p : ℕ) → p < 128 → get_or w p 0 ≡ prior u k p

-- no later row is below a row
prior-stays : (u : List ℕ) → Upward u → (i m : ℕ) → i ≤ m → m ≤ length u → prior u m (suc i) ≡ prior u i (suc i)
prior-stays u g i zero h n = let z : i ≡ 0 = omega arith in rw z refl
prior-stays u g i (suc m) h n =
    let ih = prior-stays u g i m in
    let past : i ≤ m → get_or u m 0 ≡ suc i → ⊥ = λ y d. omega (arith, g.later m (omega arith) (omega arith)) in
    cases (eqb i (suc m))
    (λ e. rw (eqb-true i (suc m) e) refl)
    (λ e. let y : i ≤ m = omega (arith, eqb-false i (suc m) e) in prior_past u m (suc i) (ne_eqb (get_or u m 0) (suc i) (past y)) ∙ ih y (omega arith))

pub linked_none : (u b w : List ℕ) → w ≡ replicate 128 0 → Linked u b w 0
linked_none u b w e = record {
  befores = λ i h. absurd (omega arith);
  latests = λ p h. rw (e, prior_none u p) (get_or-replicate {A = ℕ} 128 p 0 0 h);
}

module _ (u b w : List ℕ) (k : ℕ) (x : Linked u b w k) where
  pub linked_more : k < length b → length w ≡ 128 → get_or u k 0 < 128
      → Linked u (set b k (get_or w (get_or u k 0) 0)) (set w (get_or u k 0) (k + 1)) (k + 1)
  linked_more h m r =
      let q = get_or u k 0 in record {
        befores = λ i y. cases (eqb i k)
            (λ e. rw (eqb-true i k e) (get_or-set_same b k (get_or w q 0) 0 h ∙ x.latests q r))
            (λ e. get_or-set_other b k i (get_or w q 0) 0 (eqb-false i k e) ∙ x.befores i (omega (arith, eqb-false i k e)));
        latests = λ p y. rw (add-one k) (cases (eqb q p)
            (λ e. rw (prior_here u k p e, eqb-true q p e) (get_or-set_same w p (suc k) 0 (omega arith)))
            (λ e. rw (prior_past u k p e) (get_or-set_other w q p (suc k) 0 (λ d. eqb-false q p e (sym d)) ∙ x.latests p y)));
      }

  pub linked_all : Upward u → k ≡ length u → length u ≤ 125 → length b ≡ 128 → length w ≡ 128 → Chained u b w
  linked_all g e f n m = record {
    before = λ i h. x.befores i (omega arith);
    inner = λ i h. x.latests (suc i) (omega arith) ∙ rw e (prior-stays u g i (length u) (omega arith) (omega arith));
    befores = omega arith;
    inners = omega arith;
  }
