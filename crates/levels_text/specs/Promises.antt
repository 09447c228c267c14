-- What the promise of a listing of levels says: which tables are listed and as what, and what a refusal prints. Assumes nothing.
use Rattle.std.specs.Prelude.{List, ◌++◌, ◌≡◌, ℕ, Ok, Err}
use Rattle.std.proofs.Common.{ap, ◌∙◌, arith}
use Rattle.ground.specs.Laws.Refusals.{then_passed}
use Rattle.ground.specs.Refusals.{◌then◌, Check}
use Rattle.ground.specs.declared.Refusal.{Refusal}
use Rattle.theory.specs.Tables.{CostTable, cost, limit}
use Rattle.leveling.specs.Check.{levels_check}
use Rattle.leveling.proofs.Promises.{levels_passed}
use Rattle.leveling.specs.ThreePoint.{ThreePoint}
use Rattle.levels.specs.Groups.{groups, heights}
use Rattle.levels.specs.Reading.{LevelReading}
use Rattle.levels.proofs.Reading.{level_reading}
use Rattle.bits.specs.declared.Edition.{Edition}
use Rattle.cost_forms.specs.Form.{cost_bytes, cost_form}
use Rattle.stored_costs.proofs.Laws.Enough.{table_said_lem}
use Rattle.listing_lines.specs.Lines.{refused_line}
use Rattle.listing_text.specs.Listing.{images_said, stored_checks, table_said}
use Rattle.listing_text.specs.Promises.{stored_said, text_then}
use Rattle.table_text.specs.TableText.{text_if}
use Rattle.levels_text.specs.Lines.{groups_text}
use Rattle.levels_text.specs.Listing.{levels_text, table_levels}

-- the entries of the table that the bytes say
abbrev pub cost_said : List ℕ → ℕ → ℕ → ℕ
cost_said s = cost (table_said s) (images_said s)

-- the checks of a listing of levels in their order: 9, 1, 9, 11, 4, 20, 21
abbrev pub levels_said : List ℕ → Check
levels_said s = stored_checks s then levels_check (cost_said s) (images_said s)

-- the groups of that table with their heights
abbrev pub groups_said : List ℕ → List ℕ
groups_said s = groups_text (images_said s) (groups (cost_said s) (images_said s)) (heights (cost_said s) (images_said s))

-- the table that the bytes say has levels, and the listing shows all its groups and no other set of images
pub record GroupsListed (s : List ℕ) : Type 0 where
  pub table : CostTable limit (images_said s) (table_said s)
  pub levels : ThreePoint (cost_said s) (images_said s)
  pub reading : LevelReading limit (cost_said s) (images_said s) (groups (cost_said s) (images_said s)) (heights (cost_said s) (images_said s))
  pub shown : levels_text s ≡ groups_said s

module _ (s : List ℕ) where
  -- the listing by its checks
  pub levels_checks_lem : levels_text s ≡ text_if (levels_said s) (groups_said s)
  unfolding levels_text
  levels_checks_lem = text_then (stored_checks s) (levels_check (cost_said s) (images_said s)) (groups_said s)

  -- a table that passes them all is listed
  pub levels_accepted : levels_said s ≡ Ok tt → GroupsListed s
  levels_accepted e =
      let p = then_passed (stored_checks s) (levels_check (cost_said s) (images_said s)) e in
      let c = table_said_lem s p.0 in
      let t = (levels_passed limit (cost_said s) (images_said s) c.formed).0 p.1 in
      record {
        table = c;
        levels = t;
        reading = level_reading limit (cost_said s) (images_said s) (omega (arith, c.some)) c.formed t;
        shown = levels_checks_lem ∙ ap (λ (k : Check). text_if k (groups_said s)) e;
      }

  -- the first refusal prints one line and no other
  pub levels_refused : (q : Refusal) → levels_said s ≡ Err q → levels_text s ≡ refused_line q
  levels_refused q e = levels_checks_lem ∙ ap (λ (k : Check). text_if k (groups_said s)) e

-- a table has the same listing in whichever form it is stored, whatever follows it
pub levels_stored : (e : Edition) (n : ℕ) (t b : List ℕ) → CostTable (cost_form e).limit n t
    → levels_text (cost_bytes (cost_form e) n (cost t n) ++ b) ≡ table_levels n t
unfolding levels_text
levels_stored = stored_said table_levels
