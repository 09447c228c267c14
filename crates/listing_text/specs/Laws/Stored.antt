-- A stored cost table that was read into places enough for every table: its checks are those of a listing, and of whatever is said of the table.
-- Assumes nothing.
use Rattle.ground.specs.Refusals.{Check}
use Rattle.std.specs.Prelude.{List, ◌≡◌, ℕ, ◌*◌, ◌≤◌, length, take, Ok, Err}
use Rattle.std.proofs.Common.{ap, sym, ◌∙◌}
use Rattle.ground.specs.Outcomes.{Left}
use Rattle.ground.specs.declared.Refusal.{Refusal}
use Rattle.theory.specs.Tables.{CostTable, limit}
use Rattle.cost_forms.specs.Form.{cost_form_at}
use Rattle.cost_forms.specs.Said.{stored_table}
use Rattle.stored_costs.proofs.Laws.Enough.{front_read, front-refused}
use Rattle.stored_costs.specs.Outcomes.{read_either}
use Rattle.listing_lines.specs.Lines.{refused_line}
use Rattle.listing_text.specs.Laws.Behind.{text_by}
use Rattle.listing_text.specs.Listing.{stored_text}

module _ (said : ℕ → List ℕ → List ℕ) (s o e : List ℕ) (h : 4096 ≤ length o) where
  pub stored_refused : (q : Refusal) → Left (read_either s 0 o) (Err q) e → stored_text said s ≡ refused_line q
  stored_refused q p = ap (λ (c : Check). text_by said (cost_form_at s 0) c s) (front-refused s o e h q p)

  -- the cost table that was read: what is said of the bytes is said of it
  pub record StoredTable (n : ℕ) : Type 0 where
    pub few : n ≤ 64
    pub table : CostTable limit n (take (n * n) e)
    pub text : stored_text said s ≡ said n (take (n * n) e)

  pub stored_table_lem : (n used : ℕ) → Left (read_either s 0 o) (Ok (record { n = n; used = used })) e → StoredTable n
  stored_table_lem n used p =
      let r = front_read s o e h n used p in
      record {
        few = r.few;
        table = r.table;
        text =
            ap (λ (c : Check). text_by said (cost_form_at s 0) c s) r.passed
            ∙ ap (λ (m : ℕ). said m (stored_table (cost_form_at s 0) m s)) r.images ∙ ap (said n) (sym r.stands);
      }
