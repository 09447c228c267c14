-- The vertices below a row, one row more. Assumes nothing.
use Rattle.std.specs.Prelude.{Bool, false, true, ◌≡◌, eqb, ltb, get_or, length}
use mathlib.Core.List.{List, [], ◌++◌, ◌∷◌, append_assoc, append-nil}
use Rattle.std.proofs.Math.Path.{ap, refl}
use Rattle.std.proofs.Common.{subst, sym, ◌∙◌, arith}
use Prim.Native.Nat.{suc, zero, ℕ, ◌*◌, ◌-◌, ◌<◌, ◌≤◌}
use Rattle.std.proofs.lemmas.List.{length-map}
use borrow.Author.Tests.{eq-eqb, ltb-false, ltb-true}
use borrow.Table.Steps.{cases}
use Rattle.text.specs.Decimal.{decimal}
use Rattle.text.proofs.Laws.Numbers.{decimal_small}
use Rattle.text.specs.Putting.{Fits, Put}
use Rattle.text.specs.Laws.Putting.{rest_begin, rest_end}
use Rattle.newick_text.specs.Spelled.{head_text}
use Rattle.newick_text.specs.Laws.Adding.{listed-add, size-add}
use Rattle.theory.specs.LinkTables.{LinkTable, Row, costs, far, fars}
use Rattle.theory.specs.Routes.{uppers}
use Rattle.newick_text.specs.Laws.LinkTrees.{link_tree_lem}
use Rattle.newick_text.specs.Laws.UpperRows.{root_by_upper_rows}
use Rattle.newick_text.specs.LinkTrees.{head_of, image_of, link_tree, newick}
use Rattle.newick_text.specs.Trees.{Siblings, bracket, image, listed, none, size, text}
use Rattle.newick_text.specs.Trees as trees
use Rattle.newick_rows.specs.Below.{below, below-vertices, cost_text, opening, tree_text}
use Rattle.newick_rows.specs.Chains.{prior}

-- ## Text

pub fits_same : {m m' : List ℕ} (p : ℕ) (o : List ℕ) → m ≡ m' → Fits m p o → Fits m' p o
fits_same p o e h = subst (λ (x : List ℕ). Fits x p o) e h

pub put_none : (p : ℕ) (o : List ℕ) → Put [] p o p o
put_none p o = rest_end (rest_begin [] p o)

-- ## How a row begins

pub opening_bracket : (b : Bool) (S : ℕ) → b ≡ true → opening b S ≡ 40 ∷ []
opening_bracket b S e = rw e refl

pub opening_image : (b : Bool) (S : ℕ) → b ≡ false → opening b S ≡ decimal (image_of S)
opening_image b S e = rw e refl

-- ## One row more

module _ (u l v : List ℕ) where
  below_none : (p e : ℕ) → listed e (below u l v 0 p) ≡ []
  unfolding below listed
  below_none p e = refl

  empty : (k p : ℕ) → prior u k p ≡ 0 → below u l v k p ≡ none
  unfolding below prior
  empty zero p n = refl
  empty (suc k) p n =
      let ih = empty k p in cases (eqb (get_or u k 0) p) (λ t. absurd (let z = rw t at n in omega arith)) (λ t. rw t (ih (rw t at n)))

  filled : (k p : ℕ) → 0 < prior u k p → 1 ≤ size (below u l v k p)
  unfolding below prior
  filled zero p h = absurd (omega arith)
  filled (suc k) p h =
      let ih = filled k p in
      cases (eqb (get_or u k 0) p)
      (λ t. rw t (omega (arith, size-add (below u l v k p) (head_of (get_or l k 0) (below u l v k (suc k))) (get_or v k 0))))
      (λ t. rw t (ih (rw t at h)))

  closed-text : (S : ℕ) (g : Siblings) → 1 ≤ size g → head_text (head_of S g) ≡ 40 ∷ listed 41 g
  closed-text S none h = absurd (omega arith)
  closed-text S (image i c r) h = refl
  closed-text S (bracket g c r) h = refl

  -- a vertex is how it begins, and what stands in its bracket
  vertex_pieces : (k : ℕ) → head_text (head_of (get_or l k 0) (below u l v k (suc k)))
      ≡ opening (ltb 0 (prior u k (suc k))) (get_or l k 0) ++ listed 41 (below u l v k (suc k))
  unfolding listed
  vertex_pieces k =
      let q = prior u k (suc k) in
      cases (ltb 0 q) (λ e. rw e (closed-text (get_or l k 0) (below u l v k (suc k)) (filled k (suc k) (ltb-true 0 q e))))
      (λ e. rw (e, empty k (suc k) (omega (arith, ltb-false 0 q e))) (sym (append-nil (decimal (image_of (get_or l k 0))))))

  pub below_more : (k p e : ℕ) → get_or u k 0 ≡ p → listed e (below u l v (suc k) p)
      ≡ listed 44 (below u l v k p)
      ++ (opening (ltb 0 (prior u k (suc k))) (get_or l k 0) ++ (listed 41 (below u l v k (suc k)) ++ cost_text (get_or v k 0) e))
  unfolding below
  below_more k p e h =
      let g = below u l v k (suc k) in
      let c = cost_text (get_or v k 0) e in
      rw (eq-eqb (get_or u k 0) p h) (listed-add e (below u l v k p) (head_of (get_or l k 0) g) (get_or v k 0)
      ∙ ap (λ (m : List ℕ). listed 44 (below u l v k p) ++ (m ++ c)) (vertex_pieces k)
      ∙ ap (λ (m : List ℕ). listed 44 (below u l v k p) ++ m) (append_assoc (opening (ltb 0 (prior u k (suc k))) (get_or l k 0)) (listed 41 g) c))

  pub zero_at : (k p e : ℕ) → k ≡ 0 → listed e (below u l v k p) ≡ []
  zero_at k p e q = ap (λ (x : ℕ). listed e (below u l v x p)) q ∙ below_none p e

-- ## The whole text

behind-some : (g : Siblings) → 1 ≤ size g → trees.behind 41 g ≡ 44
behind-some none h = absurd (omega arith)
behind-some (image i c r) h = refl
behind-some (bracket g c r) h = refl

-- what is written is the text of the link table
pub tree_text_lem : (L n : ℕ) → n ≤ 64 → (T : List Row) (t : LinkTable L n T) → 3 ≤ n → 2 * L < 100000000 → (M : ℕ) → length T ≡ suc M
    → newick T ≡ tree_text (uppers (fars T)) (fars T) (costs T)
unfolding tree_text listed
tree_text_lem L n few T t some small M e =
    let q = root_by_upper_rows L n few T t some M e in
    let g = below (uppers (fars T)) (fars T) (costs T) M (suc M) in
    let k : link_tree T ≡ image 1 (get_or (costs T) M 0) g = q ∙ ap (image 1 (get_or (costs T) M 0)) (sym (below-vertices (fars T) (costs T) M (suc M))) in
    let three : 3 ≤ size (image 1 (get_or (costs T) M 0) g) = subst (λ (f : Siblings). 3 ≤ size f) k (link_tree_lem L n few T t some small).fine.three in
    let len : length (fars T) ≡ suc M = length-map T far ∙ e in
    let m : length (fars T) - 1 ≡ M = omega arith in
    let d = decimal (get_or (costs T) M 0) in
    let x : List ℕ = listed 41 g in
    ap text k
    ∙ rw (m, len, behind-some g (omega arith), decimal_small 1 (omega arith))
    (ap (λ (z : List ℕ). 40 ∷ 49 ∷ 58 ∷ z) (append_assoc d (44 ∷ x) (59 ∷ []) ∙ sym (append_assoc d (44 ∷ []) (x ++ (59 ∷ [])))))
