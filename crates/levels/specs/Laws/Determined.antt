-- Groups and heights determine the table: the entry of two images is the height of the smallest group that holds both. Assumes nothing.
use mathlib.Core.List.Memᴰ
use mathlib.Core.List.{List, Memᴰ, [], map, ◌∷◌}
use Rattle.std.proofs.Common.{inl, inr, ap, sym, ◌∙◌, eqb-true}
use Rattle.std.specs.Prelude.{◌⊎◌, ◌≡◌, ℕ, ◌<◌, eqb}
use Rattle.std.proofs.lemmas.Bool.{eqb-false}
use borrow.Table.Steps.{cases}
use Rattle.theory.specs.Tables.{WellFormed}
use Rattle.levels.specs.Groups.{Group, height}
use Rattle.levels.specs.Reading.{LevelReading}

-- two functions with the same values on a list have the same at each element of it
same_at : (f g : ℕ → ℕ) (l : List ℕ) → map f l ≡ map g l → (x : ℕ) → Memᴰ x l → f x ≡ g x
same_at f g [] e x m = absurd (Memᴰ.not-nil m)
same_at f g (y ∷ l) e x m = go (Memᴰ.cases_cons m) (same_at f g l (cc) x)
  where
    go : (x ≡ y) ⊎ Memᴰ x l → (Memᴰ x l → f x ≡ g x) → f x ≡ g x
    go (inl q) ih = let h : f y ≡ g y = cc in ap f q ∙ h ∙ ap g (sym q)
    go (inr t) ih = ih t

module _ (L : ℕ) (d e : ℕ → ℕ → ℕ) (n : ℕ) (l v : List ℕ) where
  pub levels_determine : WellFormed L d n → WellFormed L e n → LevelReading L d n l v → LevelReading L e n l v
      → (i j : ℕ) → i < n → j < n → d i j ≡ e i j
  levels_determine c c' p q i j hi hj =
      cases (eqb i j) (λ s. let w = eqb-true i j s in ap (d i) (sym w) ∙ c.self hi ∙ sym (ap (e i) (sym w) ∙ c'.self hi))
      (λ s. apart (eqb-false i j s))
    where
      -- the groups are the same
      over : (S : ℕ) → Group d n S → Group e n S
      over S g = (q.members S).0 ((p.members S).1 g)

      back : (S : ℕ) → Group e n S → Group d n S
      back S g = (p.members S).0 ((q.members S).1 g)

      apart : (i ≡ j → ⊥) → d i j ≡ e i j
      apart ne =
          let s = p.smallest i j hi hj ne in
          let S = s.0 in
          sym (p.entry i j hi hj ne S s.1)
          ∙ same_at (height d n) (height e n) l (sym p.heights ∙ q.heights) S ((p.members S).1 s.1.group)
          ∙ q.entry i j hi hj ne S (record { group = over S s.1.group; both = s.1.both; least = λ R g. s.1.least R (back R g) })
