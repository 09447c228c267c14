-- What the reading of levels has left in two arrays of 64 places, and the text of it. Assumes nothing.
use Rattle.ground.specs.Refusals.{Check}
use Rattle.std.specs.Prelude.{List, refl, ◌≡◌, ℕ, ◌≤◌, length, take, Ok, Err}
use Rattle.std.proofs.Common.{ap, sym, ◌∙◌, arith, take_at}
use Rattle.std.proofs.lemmas.List.{length-map}
use Rattle.ground.specs.declared.Refusal.{Refusal}
use Rattle.theory.specs.Tables.{CostTable, cost, limit}
use Rattle.leveling.specs.Check.{levels_check}
use Rattle.leveling.proofs.Promises.{levels_passed}
use Rattle.levels.specs.Groups.{groups, height, heights}
use Rattle.levels.proofs.Laws.Asked.{asked_checks}
use Rattle.levels.proofs.Laws.Count.{groups-most}
use Rattle.levels.specs.Outcome.{LeftLevels, levels_checks, levels_outcome, outcome}
use Rattle.listing_lines.specs.Lines.{refused_line}
use Rattle.levels_text.specs.Laws.Lengths.{levels_most}
use Rattle.levels_text.specs.Lines.{groups_text, room}
use Rattle.levels_text.specs.Listing.{table_levels}

-- the first r places of both arrays have the groups and the heights, and their text fits
pub record LevelsRead (n : ℕ) (t : List ℕ) (r : ℕ) (g v : List ℕ) : Type 0 where
  pub few : r ≤ 63
  pub group-length : length (take r g) ≡ r
  pub height-length : length (take r v) ≡ r
  pub same : table_levels n t ≡ groups_text n (take r g) (take r v)
  pub short : length (groups_text n (take r g) (take r v)) ≤ room

module _ (n : ℕ) (t g v : List ℕ) (c : CostTable limit n t) (a : 64 ≤ length g) (b : 64 ≤ length v) where
  -- of the call's refusals 21 alone is given
  only_levels : levels_checks limit n t (length g) (length v) ≡ levels_check (cost t n) n
  only_levels =
      asked_checks limit n t (length g) (length v) (record { table = c; group-room = omega (arith, c.few); height-room = omega (arith, c.few) })

  pub levels_refused : (q : Refusal) (g' v' : List ℕ) → LeftLevels (levels_outcome limit n t g v) (Err q) g' v' → table_levels n t ≡ refused_line q
  levels_refused q g' v' l = go (levels_check (cost t n) n) refl (rw only_levels at l.answered)
    where
      go : (k : Check) → levels_check (cost t n) n ≡ k → Err q ≡ (outcome k (cost t n) n g v).answer → table_levels n t ≡ refused_line q
      go (Ok tt) f e = absurd (let z : ◌≡◌ {A = ℕ} 0 1 = cc in omega arith)
      go (Err p) f e = let s : p ≡ q = cc in rw f (ap refused_line s)

  pub levels_read : (r : ℕ) (g' v' : List ℕ) → LeftLevels (levels_outcome limit n t g v) (Ok r) g' v' → LevelsRead n t r g' v'
  levels_read r g' v' l =
      go (levels_check (cost t n) n) refl (rw only_levels at l.answered) (rw only_levels at l.group-left) (rw only_levels at l.height-left)
    where
      go : (k : Check) → levels_check (cost t n) n ≡ k → Ok r ≡ (outcome k (cost t n) n g v).answer → g' ≡ (outcome k (cost t n) n g v).group_list
          → v' ≡ (outcome k (cost t n) n g v).height_list → LevelsRead n t r g' v'
      go (Ok tt) f e x y =
          let d = cost t n in
          let p = (levels_passed limit d n c.formed).0 f in
          let s : r ≡ length (groups d n) = cc in
          let m : length (heights d n) ≡ r = length-map (groups d n) (height d n) ∙ sym s in
          let u : take r g' ≡ groups d n = ap (take r) x ∙ take_at (groups d n) _ r (sym s) in
          let w : take r v' ≡ heights d n = ap (take r) y ∙ take_at (heights d n) _ r m in
          record {
            few = omega (arith, s, c.few, groups-most limit d n c.formed p);
            group-length = ap length u ∙ sym s;
            height-length = ap length w ∙ m;
            same = rw (f, u, w) refl;
            short = rw (u, w) (levels_most n t c p);
          }
      go (Err p) f e x y = absurd (let z : ◌≡◌ {A = ℕ} 0 1 = cc in omega arith)
