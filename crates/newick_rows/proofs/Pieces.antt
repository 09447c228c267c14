-- What `newick_rows::put_below` writes of a row: the vertices before it, how it begins, what is inside it, its cost, and what is left behind each.
-- Assumes nothing.
use Rattle.std.specs.Prelude.{List, [], ◌++◌, ◌∷◌, ◌≡◌, ℕ, ◌+◌, ◌-◌, ◌<◌, ◌≤◌, ltb, get_or, length}
use Rattle.std.proofs.Common.{ap, arith, length-append}
use Rattle.text.specs.Putting.{Rest}
use Rattle.text.specs.Laws.Pieces.{rest_same}
use Rattle.text.specs.Laws.Putting.{rest_begin}
use Rattle.newick_text.specs.Trees.{listed}
use Rattle.newick_rows.specs.Below.{Sized, below, cost_text, opening, tree_text}
use Rattle.newick_rows.specs.Chains.{Chained, chain}
use Rattle.newick_rows.proofs.Laws.Chains.{before_most, chain_pieces, inner-chain, inner-most}

-- u the upper rows, b and w the chains, l the far sides, v the doubled costs; row k, and the byte e behind it
module _ (u b w l v : List ℕ) (k e : ℕ) where
  abbrev pub whole : List ℕ
  whole = listed e (chain u l v k)

  abbrev pub earlier : List ℕ
  earlier = listed 44 (chain u l v (get_or b (k - 1) 0))

  abbrev pub begins : List ℕ
  begins = opening (ltb 0 (get_or w k 0)) (get_or l (k - 1) 0)

  abbrev pub inside : List ℕ
  inside = listed 41 (chain u l v (get_or w k 0))

  abbrev pub cost : List ℕ
  cost = cost_text (get_or v (k - 1) 0) e

  -- all four are still to be written where the call begins
  pub begun : (at : ℕ) (out : List ℕ) → Chained u b w → (k ≡ 0 → ⊥) → k ≤ length u → Rest (earlier ++ (begins ++ (inside ++ cost))) at out whole at out
  begun at out h some known = rest_same (chain_pieces u b w h l v k e some known) (rest_begin whole at out)

  module _ (s : Sized u l v) (z : Chained u b w) (some : k ≡ 0 → ⊥) (known : k ≤ length l) where
    pub row_pieces : listed e (chain u l v k) ≡ earlier ++ (begins ++ (inside ++ cost))
    row_pieces = chain_pieces u b w z l v k e some (omega (arith, s.ruled))

    -- how long they are
    pub row_length : length (listed e (chain u l v k)) ≡ length earlier + (length begins + (length inside + length cost))
    row_length =
        omega (arith, ap length row_pieces, length-append earlier (begins ++ (inside ++ cost)), length-append begins (inside ++ cost), length-append inside cost)

    -- both calls are for earlier rows
    pub earlier_less : get_or b (k - 1) 0 < k
    earlier_less = omega (arith, some, before_most u b w z k some (omega (arith, s.ruled)))

    pub inner_less : get_or w k 0 < k
    inner_less = omega (arith, some, inner-most u b w z k some (omega (arith, s.ruled)))

-- below the last row stand all the others
pub last_inside : (u b w l v : List ℕ) → Sized u l v → Chained u b w → 1 ≤ length l
    → below u l v (length l - 1) (length l) ≡ chain u l v (get_or w (length l) 0)
last_inside u b w l v s z some = inner-chain u b w z l v (length l) (λ q. omega arith) (omega (arith, s.ruled))

-- how long the whole text is
three_more : (a b : List ℕ) → length ((40 ∷ []) ++ ((49 ∷ []) ++ (a ++ (b ++ (59 ∷ []))))) ≡ 3 + (length a + length b)
three_more a b = omega (arith, length-append a (b ++ (59 ∷ [])), length-append b (59 ∷ []))

pub tree_length : (u b w l v : List ℕ) → Sized u l v → Chained u b w → 1 ≤ length l
    → length (tree_text u l v) ≡ 3 + (length (cost_text (get_or v (length l - 1) 0) 44) + length (listed 41 (chain u l v (get_or w (length l) 0))))
unfolding tree_text
tree_length u b w l v s z some = rw (last_inside u b w l v s z some) (three_more (cost_text (get_or v (length l - 1) 0) 44) _)
