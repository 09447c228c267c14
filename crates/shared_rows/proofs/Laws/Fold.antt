-- One tree more at a time gives the consensus; of link tables it is a link table, and of one it is that one. Assumes nothing.
use Rattle.std.specs.Prelude.{true, ◌↔◌, refl, ◌≡◌, ℕ, ◌^◌}
use mathlib.Core.List.{List, Memᴰ, [], map, ◌∷◌}
use Rattle.std.proofs.Math.Path.{ap, sym}
use Rattle.std.proofs.Common.{subst, ◌∙◌}
use Rattle.ground.specs.Laws.Ascending.{between_ext, between_filter}
use Rattle.ground.specs.Filters.{Each, filter}
use Rattle.ground.specs.Laws.Filters.{each_cons, each_nil, filter-mem, mem-filter}
use Rattle.ground.specs.Laws.Maps.{map-mem}
use Rattle.ground.specs.Laws.Members.{is_in-mem, mem-is_in}
use Rattle.ground.specs.Laws.Tests.{and_l, and_r}
use Rattle.ground.specs.Members.{is_in}
use Rattle.theory.specs.FarSides.{FarSide, sides}
use Rattle.theory.specs.Laws.FarSides.{sides_all, sides_between}
use Rattle.theory.proofs.Laws.Paths.{row-far}
use Rattle.theory.specs.LinkTables.{LinkTable, Row, cost_of, far, fars}
use Rattle.shared_rows.specs.Consensus.{consensus, in_every, smallest, smallest_from}
use Rattle.shared_rows.specs.Laws.Meet.{meet-cost, meet-fars, meet_tree}
use Rattle.shared_rows.proofs.Laws.Members.{at_every, every-at}
use Rattle.shared_rows.specs.Laws.Rows.{cost-row, rows_are}
use Rattle.shared_rows.specs.Meet.{meet, meet_all}

module _ (L n : ℕ) where
  -- every tree is a link table
  abbrev pub Trees : List (List Row) → Type 0
  Trees Ts = Each Ts (LinkTable L n)

  rest : (T : List Row) (Ts : List (List Row)) → Trees (T ∷ Ts) → Trees Ts
  rest T Ts h U m = h U (Memᴰ.tail m)

  head : (T : List Row) (Ts : List (List Row)) → Trees (T ∷ Ts) → LinkTable L n T
  head T Ts h = h T (Memᴰ.head refl)

  -- ## One tree more at a time

  pub fold_tree : (T : List Row) (Ts : List (List Row)) → LinkTable L n T → Trees Ts → LinkTable L n (meet_all T Ts)
  fold_tree T [] t h = t
  fold_tree T (U ∷ Ts) t h = fold_tree (meet T U) Ts (meet_tree L n T U t (head U Ts h)) (rest U Ts h)

  fold-cost : (T : List Row) (Ts : List (List Row)) → LinkTable L n T → Trees Ts → (S : ℕ) → cost_of (meet_all T Ts) S ≡ smallest_from (cost_of T S) Ts S
  fold-cost T [] t h S = refl
  fold-cost T (U ∷ Ts) t h S =
      fold-cost (meet T U) Ts (meet_tree L n T U t (head U Ts h)) (rest U Ts h) S
      ∙ ap (λ v. smallest_from v Ts S) (meet-cost 1 (2 ^ n) T U t.ascending S)

  fold_to : (T : List Row) (Ts : List (List Row)) (S : ℕ) → Memᴰ S (fars (meet_all T Ts)) → Memᴰ S (fars T) × (in_every Ts S ≡ true)
  fold_to T [] S m = (m, refl)
  fold_to T (U ∷ Ts) S m =
      let a = fold_to (meet T U) Ts S m in
      let b = filter-mem (λ x. is_in x (fars U)) (fars T) S (subst (Memᴰ S) (meet-fars T U) a.0) in
      (b.1, rw b.0 a.1)

  fold-back : (T : List Row) (Ts : List (List Row)) (S : ℕ) → Memᴰ S (fars T) → in_every Ts S ≡ true → Memᴰ S (fars (meet_all T Ts))
  fold-back T [] S m e = m
  fold-back T (U ∷ Ts) S m e =
      fold-back (meet T U) Ts S
      (subst (Memᴰ S) (sym (meet-fars T U)) (mem-filter (λ x. is_in x (fars U)) S (and_l (is_in S (fars U)) (in_every Ts S) e) (fars T) m))
      (and_r (is_in S (fars U)) (in_every Ts S) e)

  module _ (T : List Row) (Ts : List (List Row)) (h : Trees (T ∷ Ts)) where
    folded : LinkTable L n (meet_all T Ts)
    folded = fold_tree T Ts (head T Ts h) (rest T Ts h)

    far-side : (S : ℕ) → Memᴰ S (fars T) → FarSide n S
    far-side S m = let r = map-mem far T S m in subst (FarSide n) (sym r.1) (row-far L n T (head T Ts h) r.0 r.2)

    fold-fars : fars (meet_all T Ts) ≡ filter (in_every (T ∷ Ts)) (sides n)
    fold-fars =
        between_ext 1 (2 ^ n) (fars (meet_all T Ts)) (filter (in_every (T ∷ Ts)) (sides n)) folded.ascending
        (between_filter (in_every (T ∷ Ts)) 1 (2 ^ n) (sides n) (sides_between n))
        (λ S m. let a = fold_to T Ts S m in
        mem-filter (in_every (T ∷ Ts)) S (rw (mem-is_in S (fars T) a.0) a.1) (sides n) (sides_all n S (far-side S a.0)))
        (λ S m. let a = filter-mem (in_every (T ∷ Ts)) (sides n) S m in
        fold-back T Ts S (is_in-mem S (fars T) (and_l (is_in S (fars T)) (in_every Ts S) a.0)) (and_r (is_in S (fars T)) (in_every Ts S) a.0))

    -- the fold is the consensus
    pub consensus-fold : consensus n (T ∷ Ts) ≡ meet_all T Ts
    unfolding consensus
    consensus-fold =
        ap (map (λ S. (S, smallest (T ∷ Ts) S))) (sym fold-fars)
        ∙ rows_are (smallest (T ∷ Ts)) (meet_all T Ts)
        (λ r m. sym (fold-cost T Ts (head T Ts h) (rest T Ts h) r.0) ∙ cost-row 1 (2 ^ n) (meet_all T Ts) folded.ascending r m)

    -- ## What document 02 asks

    -- the result is a link table
    pub consensus_tree : LinkTable L n (consensus n (T ∷ Ts))
    consensus_tree = subst (LinkTable L n) (sym consensus-fold) folded

    -- a far side is in it exactly when it is in every tree
    pub consensus-mem : (S : ℕ) → Memᴰ S (fars (consensus n (T ∷ Ts))) ↔ Each (T ∷ Ts) (λ U. Memᴰ S (fars U))
    consensus-mem S = (
      λ m U u.
          let a = fold_to T Ts S (subst (λ X. Memᴰ S (fars X)) consensus-fold m) in
          is_in-mem S (fars U) (every-at (T ∷ Ts) S (rw (mem-is_in S (fars T) a.0) a.1) U u),
      λ p.
          subst (λ X. Memᴰ S (fars X)) (sym consensus-fold)
          (fold-back T Ts S (p T (Memᴰ.head refl)) (at_every Ts S (λ U u. mem-is_in S (fars U) (p U (Memᴰ.tail u))))),
    )

    -- its cost there is the smallest of the trees'
    pub consensus-cost : (S : ℕ) → cost_of (consensus n (T ∷ Ts)) S ≡ smallest (T ∷ Ts) S
    consensus-cost S = ap (λ (X : List Row). cost_of X S) consensus-fold ∙ fold-cost T Ts (head T Ts h) (rest T Ts h) S

  -- with one table it is its own tree
  pub consensus-one : (T : List Row) → LinkTable L n T → consensus n (T ∷ []) ≡ T
  consensus-one T t = consensus-fold T [] (each_cons (LinkTable L n) T [] t (each_nil (LinkTable L n)))
