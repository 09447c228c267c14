-- What the promise of the reading of levels says of a call, which found g and v in its two lent slices and left g' and v': what an accepted
-- one left, when it is accepted, that a refused one altered nothing, and that no second answer meets the promise. Assumes nothing.
use Rattle.std.specs.Prelude.{List, refl, ◌≡◌, ℕ, ◌<◌, drop, length, take, Ok, Err}
use Rattle.std.proofs.Common.{ap, ap₂, sym, ◌∙◌, arith, drop_at, take_at}
use Rattle.std.proofs.lemmas.List.{length-map}
use Rattle.ground.specs.Buffers.{front}
use Rattle.ground.specs.Refusals.{places_if, Check}
use Rattle.ground.specs.declared.Refusal.{Refusal}
use Rattle.theory.specs.Tables.{cost}
use Rattle.leveling.specs.Check.{levels_check}
use Rattle.leveling.specs.Promises.{FirstFailing}
use Rattle.leveling.proofs.Promises.{levels_refused}
use Rattle.leveling.specs.ThreePoint.{ThreePoint}
use Rattle.levels.specs.Groups.{groups, height, heights}
use Rattle.levels.proofs.Laws.Asked.{asked_checks, asked_passed, passed_asked}
use Rattle.levels.specs.Laws.Determined.{levels_determine}
use Rattle.levels.specs.Outcome.{LeftLevels, LevelsAsked, LevelsOutcome, levels_checks, levels_outcome}
use Rattle.levels.specs.Reading.{LevelReading}
use Rattle.levels.proofs.Reading.{level_reading}

module _ (L n : ℕ) (t g v : List ℕ) where
  pub record LevelsAnswer (r : ℕ) (g' v' : List ℕ) : Type 0 where
    pub asked : LevelsAsked L n t (length g) (length v)
    pub condition : ThreePoint (cost t n) n
    -- the first r places hold the groups and their heights, and the rest is as it was
    pub reading : LevelReading L (cost t n) n (take r g') (take r v')
    pub group-rest : drop r g' ≡ drop r g
    pub height-rest : drop r v' ≡ drop r v

  left-answer : LevelsAsked L n t (length g) (length v) → ThreePoint (cost t n) n → (r : ℕ) (g' v' : List ℕ) → r ≡ length (groups (cost t n) n)
      → g' ≡ front (groups (cost t n) n) g → v' ≡ front (heights (cost t n) n) v → LevelsAnswer r g' v'
  left-answer a p r g' v' m x y =
      let l = groups (cost t n) n in
      let h = heights (cost t n) n in
      let k : r ≡ length h = m ∙ sym (length-map l (height (cost t n) n)) in
      record {
        asked = a;
        condition = p;
        reading =
            rw (ap₂ take m x ∙ take_at l _ (length l) refl, ap₂ take k y ∙ take_at h _ (length h) refl)
            (level_reading L (cost t n) n (omega (arith, a.table.some)) a.table.formed p);
        group-rest = ap₂ drop m x ∙ drop_at l _ (length l) refl ∙ ap (λ i. drop i g) (sym m);
        height-rest = ap₂ drop k y ∙ drop_at h _ (length h) refl ∙ ap (λ i. drop i v) (sym k);
      }

  -- accepted, it was asked for a table with levels, and this is what it left
  pub levels_answer : (r : ℕ) (g' v' : List ℕ) → LeftLevels (levels_outcome L n t g v) (Ok r) g' v' → LevelsAnswer r g' v'
  levels_answer r g' v' = go (levels_checks L n t (length g) (length v)) refl
    where
      go : (c : Check) → levels_checks L n t (length g) (length v) ≡ c → LeftLevels (levels_outcome L n t g v) (Ok r) g' v' → LevelsAnswer r g' v'
      go (Err q) e l = absurd (let w = rw e at l.answered in let z : ◌≡◌ {A = ℕ} 0 1 = cc in omega arith)
      go (Ok tt) e l =
          let a = passed_asked L n t (length g) (length v) e in
          let w = rw e at l.answered in
          let counted : r ≡ length (groups (cost t n) n) = cc in
          left-answer a.0 a.1 r g' v' counted (rw e at l.group-left) (rw e at l.height-left)

  -- every table with levels is read
  pub levels_reads : LevelsAsked L n t (length g) (length v) → ThreePoint (cost t n) n
      → (levels_outcome L n t g v).answer ≡ Ok (length (groups (cost t n) n))
  levels_reads a p = rw (asked_passed L n t (length g) (length v) a p)

  -- and every other cost table is refused with the first three images that show why
  pub levels_refuses : (q : Refusal) → LevelsAsked L n t (length g) (length v) → (levels_outcome L n t g v).answer ≡ Err q
      → FirstFailing (cost t n) n q
  levels_refuses q a e = go (levels_check (cost t n) n) refl (rw (asked_checks L n t (length g) (length v) a) at e)
    where
      go : (c : Check) → levels_check (cost t n) n ≡ c → places_if c (length (groups (cost t n) n)) ≡ Err q → FirstFailing (cost t n) n q
      go (Ok tt) w e = absurd (let z : ◌≡◌ {A = ℕ} 0 1 = cc in omega arith)
      go (Err p) w e = let s : p ≡ q = cc in levels_refused (cost t n) n q (w ∙ ap Err s)

  -- refused, nothing is altered
  pub levels_unaltered : (q : Refusal) (g' v' : List ℕ) → LeftLevels (levels_outcome L n t g v) (Err q) g' v' → (g' ≡ g) × (v' ≡ v)
  levels_unaltered q g' v' = go (levels_checks L n t (length g) (length v)) refl
    where
      go : (c : Check) → levels_checks L n t (length g) (length v) ≡ c → LeftLevels (levels_outcome L n t g v) (Err q) g' v'
          → (g' ≡ g) × (v' ≡ v)
      go (Ok tt) e l = absurd (let w = rw e at l.answered in let z : ◌≡◌ {A = ℕ} 0 1 = cc in omega arith)
      go (Err p) e l = (rw e at l.group-left, rw e at l.height-left)

-- no second answer meets the promise
pub left_levels_once : {A : Type 0} {o : LevelsOutcome A} {a b : A} {g h v w : List ℕ} → LeftLevels o a g v → LeftLevels o b h w
    → (a ≡ b) × (g ≡ h) × (v ≡ w)
left_levels_once p q = (p.answered ∙ sym q.answered, p.group-left ∙ sym q.group-left, p.height-left ∙ sym q.height-left)

-- Two tables with the same groups and heights are the same, so calls that left the same were asked about the same table.
pub levels_tell : (L n : ℕ) (t u g v h w : List ℕ) (r s : ℕ) (g' v' h' w' : List ℕ) → LeftLevels (levels_outcome L n t g v) (Ok r) g' v'
    → LeftLevels (levels_outcome L n u h w) (Ok s) h' w' → take r g' ≡ take s h' → take r v' ≡ take s w'
    → (i j : ℕ) → i < n → j < n → cost t n i j ≡ cost u n i j
levels_tell L n t u g v h w r s g' v' h' w' p q e f =
    let a = levels_answer L n t g v r g' v' p in
    let b = levels_answer L n u h w s h' w' q in
    levels_determine L (cost t n) (cost u n) n (take r g') (take r v') a.asked.table.formed b.asked.table.formed
    a.reading (rw (e, f) b.reading)
