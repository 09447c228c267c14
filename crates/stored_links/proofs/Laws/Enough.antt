-- Reading the table that the bytes s begin with into places enough for every table: 3 is never the answer. Assumes nothing.
use Rattle.std.specs.Prelude.{List, ◌++◌, ◌≡◌, min, ℕ, ◌≤◌, length, take, Ok, Err}
use Rattle.std.proofs.Common.{sym, ◌∙◌, arith, le-ltb}
use Rattle.ground.specs.declared.Refusal.{Refusal}
use Rattle.theory.specs.Outcomes.{LeftRows}
use Rattle.bits.specs.Editions.{edition_of}
use Rattle.bits.specs.Laws.Listed.{length-listed}
use Rattle.bits.specs.declared.Edition.{Edition}
use Rattle.bits.specs.declared.Form.{Form}
use Rattle.links.specs.Links.{Links}
use Rattle.link_forms.specs.Form.{link_bytes, link_form, link_form_at}
use Rattle.stored_links.specs.Laws.Outcomes.{front-taken}
use Rattle.stored_links.proofs.Laws.Passed.{head_passed, passed-table, read_passed, room_goes}
use Rattle.stored_links.proofs.Laws.Positions.{enough_room, refused-at, table-at}
use Rattle.stored_links.specs.Laws.ReadBack.{written_costs, written_fars, written_stored}
use Rattle.stored_links.proofs.Laws.Told.{form_fits, told_links}
use Rattle.stored_links.specs.Laws.WriteBack.{read_links}
use Rattle.stored_links.specs.Outcomes.{read_either}
use Rattle.stored_links.specs.Reading.{read_at_checks, table_checks}
use Rattle.link_forms.specs.Said.{cost_at, costs_of, count_of, far_at, fars_of, images_of}
use Rattle.stored_links.specs.Stored.{Stored}

module _ (form : Form) (s : List ℕ) where
  front_checks : (room : ℕ) → 125 ≤ room → read_at_checks form s 0 room ≡ table_checks form s
  front_checks room h = enough_room form s 0 room h ∙ rw (le-ltb (length s) 0 (omega arith))

  -- bytes that pass say a table
  pub table-begins : table_checks form s ≡ Ok tt → Stored form (images_of form s) (count_of form s) s
  table-begins e = (read_passed form s 125 (room_goes form s 125 (λ h. omega (arith, (head_passed form s h).2)) ∙ e)).0

  pub links_said : table_checks form s ≡ Ok tt
      → Links form.limit (images_of form s) (count_of form s) (fars_of form (images_of form s) (count_of form s) s)
      (costs_of form (images_of form s) (count_of form s) s)
  links_said e = read_links form (images_of form s) (count_of form s) s (table-begins e)

-- what was stored, whatever follows it: it tells its form, and passes as the table that it is
pub record LinksStored (e : Edition) (n N : ℕ) (l v s : List ℕ) : Type 0 where
  pub told : edition_of s ≡ e
  pub passed : table_checks (link_form e) s ≡ Ok tt
  pub images : images_of (link_form e) s ≡ n
  pub counted : count_of (link_form e) s ≡ N
  pub far-sides : fars_of (link_form e) n N s ≡ l
  pub doubled : costs_of (link_form e) n N s ≡ v

pub links_stored : (e : Edition) (n N : ℕ) (l v behind : List ℕ) → Links (link_form e).limit n N l v
    → LinksStored e n N l v (link_bytes (link_form e) n l v ++ behind)
links_stored e n N l v behind t =
    let r = written_stored (link_form e) n N l v behind t (form_fits e) in
    record {
      told = told_links e n l v behind t.few;
      passed = passed-table (link_form e) _ n N r;
      images = r.images;
      counted = r.counted;
      far-sides = written_fars (link_form e) n N l v behind t (form_fits e);
      doubled = written_costs (link_form e) n N l v behind t (form_fits e);
    }

-- ## What the call leaves in places enough for every table

module _ (s f v f' v' : List ℕ) (h : 125 ≤ length f) (k : 125 ≤ length v) where
  room : 125 ≤ min (length f) (length v)
  room = omega arith

  pub front-refused : (q : Refusal) → LeftRows (read_either s 0 f v) (Err q) f' v' → table_checks (link_form_at s 0) s ≡ Err q
  front-refused q p =
      sym (front_checks (link_form_at s 0) s (min (length f) (length v)) room)
      ∙ refused-at (link_form_at s 0) s 0 (min (length f) (length v)) q (sym p.answered)

  -- the table that was read stands in front
  pub record LinksRead (n N : ℕ) : Type 0 where
    pub few : N ≤ 125
    pub passed : table_checks (link_form_at s 0) s ≡ Ok tt
    pub images : images_of (link_form_at s 0) s ≡ n
    pub counted : count_of (link_form_at s 0) s ≡ N
    pub far-sides : take N f' ≡ fars_of (link_form_at s 0) n N s
    pub doubled : take N v' ≡ costs_of (link_form_at s 0) n N s

  pub front_read : (n N used : ℕ) → LeftRows (read_either s 0 f v) (Ok (record { n = n; count = N; used = used })) f' v' → LinksRead n N
  front_read n N used p =
      let form = link_form_at s 0 in
      let a = table-at form s 0 (min (length f) (length v)) n N used (sym p.answered) in
      let r = a.1.stored in
      record {
        few = omega (arith, r.most, r.few);
        passed = sym (front_checks form s (min (length f) (length v)) room) ∙ a.0;
        images = r.images;
        counted = r.counted;
        far-sides = front-taken N (fars_of form n N s) f f' (length-listed (far_at form n s) N) (rw (a.0, r.images, r.counted) at p.far-sides);
        doubled = front-taken N (costs_of form n N s) v v' (length-listed (cost_at form n s) N) (rw (a.0, r.images, r.counted) at p.doubled);
      }
