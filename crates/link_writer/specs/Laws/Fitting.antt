-- Link tables within a form's limit: 17 is the answer exactly for the others. Assumes nothing.
use Rattle.std.specs.Prelude.{List, ◌≡◌, ℕ, ◌*◌, ◌≤◌, get_or, length, Ok}
use Rattle.std.proofs.Common.{arith, le-ltb, ltb-false}
use Rattle.links.specs.Laws.FirstChecks.{first-passed, passed_first}
use Rattle.links.specs.Laws.LinkChecks.{link_rows}
use Rattle.links.specs.Laws.RowTests.{rows-mem}
use Rattle.links.specs.Links.{Links}
use Rattle.link_writer.specs.Writing.{fit_check, large}

module _ (L n N : ℕ) (l v : List ℕ) where
  -- a table within the limit passes
  pub passed_fit : Links L n N l v → fit_check L v ≡ Ok tt
  passed_fit t =
      passed_first 17 (large L v) (length v)
      (λ k h. le-ltb (2 * L) (get_or v k 0) (link_rows L n l v (omega (arith, t.counted, t.costed)) t.table k (omega (arith, t.counted, t.costed))).small)

  module _ (M : ℕ) where
    -- a lower limit allows no more tables
    pub links_wide : L ≤ M → Links L n N l v → Links M n N l v
    links_wide h t =
        let c = t.table in
        record {
          some = t.some;
          few = t.few;
          counted = t.counted;
          costed = t.costed;
          table =
              record {
                ascending = c.ascending;
                near = c.near;
                owns = c.owns;
                nested = c.nested;
                drawn = c.drawn;
                small = λ r m. omega (arith, c.small r m);
              };
        }

    -- and allows those whose costs are within it
    pub links_narrow : Links M n N l v → fit_check L v ≡ Ok tt → Links L n N l v
    links_narrow t e =
        let c = t.table in
        let none = first-passed 17 (large L v) (length v) e in
        record {
          some = t.some;
          few = t.few;
          counted = t.counted;
          costed = t.costed;
          table =
              record {
                ascending = c.ascending;
                near = c.near;
                owns = c.owns;
                nested = c.nested;
                drawn = c.drawn;
                small =
                    λ r m. let q = rows-mem l v r m in
                    rw q.2 (ltb-false (2 * L) (get_or v q.0 0) (none q.0 (omega (arith, q.1, t.counted, t.costed))));
              };
        }
