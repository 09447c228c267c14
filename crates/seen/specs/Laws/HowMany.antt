-- How many far sides are seen once a tree more is there. Assumes nothing.
use Rattle.std.specs.Prelude.{Bool, false, true, ◌&&◌, ◌||◌, refl, ◌≡◌, ℕ, ◌+◌, ◌^◌, length}
use Rattle.std.proofs.lemmas.Bool.{false≢true}
use mathlib.Core.List.{List, Memᴰ, [], ◌++◌, ◌∷◌}
use Rattle.std.proofs.Common.{ap, sym, ◌∙◌, arith}
use borrow.Table.Steps.{cases}
use Rattle.ground.specs.Filters.{Each, filter}
use Rattle.ground.specs.Laws.Ascending.{between_ext, between_filter}
use Rattle.ground.specs.Laws.Filters.{filter-mem, mem-filter}
use Rattle.ground.specs.Laws.Maps.{map-mem}
use Rattle.ground.specs.Laws.Members.{is_in-mem, mem-is_in}
use Rattle.ground.specs.Laws.Tests.{and_l, and_r}
use Rattle.ground.specs.Members.{is_in}
use Rattle.theory.specs.Comparison.{common, inners}
use Rattle.theory.specs.FarSides.{inner, sides}
use Rattle.theory.specs.Laws.FarSides.{sides_between}
use Rattle.theory.specs.LinkTables.{LinkTable, Row, far, fars}
use Rattle.seen.specs.Seen.{has, in_some, seen}
use Rattle.seen.specs.Laws.OneMore.{some_more, tree_sides}

filter_again : (g p : ℕ → Bool) (l : List ℕ) → filter g (filter p l) ≡ filter (λ x. p x && g x) l
filter_again g p [] = refl
filter_again g p (x ∷ l) = let ih = filter_again g p l in cases (p x) (λ e. rw e (cases (g x) (λ f. rw (f, ih)) (λ f. rw f ih))) (λ e. rw e ih)

filter_test : (p q : ℕ → Bool) (l : List ℕ) → Each l (λ x. p x ≡ q x) → filter p l ≡ filter q l
filter_test p q [] h = refl
filter_test p q (x ∷ l) h =
    let ih = filter_test p q l (λ y m. h y (Memᴰ.tail m)) in
    let e = h x (Memᴰ.head refl) in
    cases (p x) (λ t. rw (t, sym e ∙ t, ih)) (λ t. rw (t, sym e ∙ t) ih)

filter-both : (p q : ℕ → Bool) (l : List ℕ) → length (filter (λ x. p x || q x) l) + length (filter (λ x. p x && q x) l) ≡ length (filter p l) + length (filter q l)
filter-both p q [] = refl
filter-both p q (x ∷ l) =
    let ih = filter-both p q l in
    cases (p x)
    (λ e. rw e (cases (q x) (λ f. rw f (omega arith)) (λ f. rw f (omega arith))))
    (λ e. rw e (cases (q x) (λ f. rw f (omega arith)) (λ f. rw f ih)))

-- own links are none of them
pub seen-inners : (n : ℕ) (Ts : List (List Row)) → inners n (seen n Ts) ≡ seen n Ts
unfolding seen
seen-inners n Ts =
    filter_again (inner n) (λ S. inner n S && in_some Ts S) (sides n)
    ∙ filter_test _ (λ S. inner n S && in_some Ts S) (sides n) (λ X m. cases (inner n X) (λ e. rw e (end (in_some Ts X))) (λ e. rw e))
  where
    end : (x : Bool) → (x && true) ≡ x
    end true = refl
    end false = refl

inners_test : (L n : ℕ) (T : List Row) → LinkTable L n T → inners n (fars T) ≡ filter (λ X. inner n X && has T X) (sides n)
inners_test L n T t =
    between_ext 1 (2 ^ n) _ _ (between_filter (inner n) 1 (2 ^ n) (fars T) t.ascending)
    (between_filter (λ X. inner n X && has T X) 1 (2 ^ n) (sides n) (sides_between n))
    (λ X m.
    let q = filter-mem (inner n) (fars T) X m in
    let r = map-mem far T X q.1 in
    mem-filter (λ X. inner n X && has T X) X (rw q.0 (mem-is_in X (fars T) q.1)) (sides n) (rw r.1 (tree_sides L n T t r.0 r.2)))
    (λ X m.
    let q = filter-mem (λ X. inner n X && has T X) (sides n) X m in
    mem-filter (inner n) X (and_l (inner n X) (has T X) q.0) (fars T) (is_in-mem X (fars T) (and_r (inner n X) (has T X) q.0)))

-- a tree more adds its inner far sides that were not seen
pub seen_more : (L n : ℕ) (Ts : List (List Row)) (T : List Row) → LinkTable L n T
    → length (seen n (Ts ++ (T ∷ []))) + length (common (inners n (seen n Ts)) (inners n (fars T))) ≡ length (seen n Ts) + length (inners n (fars T))
unfolding seen
seen_more L n Ts T t =
    let p : ℕ → Bool = λ X. inner n X && in_some Ts X in
    let q : ℕ → Bool = λ X. inner n X && has T X in
    let a : filter (λ X. inner n X && in_some (Ts ++ (T ∷ [])) X) (sides n) ≡ filter (λ X. p X || q X) (sides n) =
    filter_test _ _ (sides n) (λ X m. cases (inner n X) (λ e. rw (e, some_more Ts T X)) (λ e. rw e)) in
    let g = inners_test L n T t in
    let c : common (filter p (sides n)) (filter q (sides n)) ≡ filter (λ X. p X && q X) (sides n) =
    filter_again (λ X. is_in X (filter q (sides n))) p (sides n)
    ∙ filter_test _ _ (sides n) (λ X m. ap (λ (b : Bool). p X && b) (in_filter q X (sides n) m)) in
    rw (seen-inners n Ts, g, a, c) (filter-both p q (sides n))
  where
    in_filter : (q : ℕ → Bool) (X : ℕ) (l : List ℕ) → Memᴰ X l → is_in X (filter q l) ≡ q X
    in_filter q X l m =
        cases (is_in X (filter q l))
        (λ e. e ∙ sym (filter-mem q l X (is_in-mem X (filter q l) e)).0)
        (λ e. cases (q X) (λ f. absurd (false≢true (sym e ∙ mem-is_in X (filter q l) (mem-filter q X f l m)))) (λ f. e ∙ sym f))
