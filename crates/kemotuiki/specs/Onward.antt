-- What the two readings, the consensus and the replay leave goes on as it stands: path costs, upper rows, routes, storage and Newick text take the rows from
-- the front of the two slices, f' and v' after f and v. Assumes nothing.
use Rattle.ground.specs.Refusals.{Check, Written}
use Rattle.std.specs.Prelude.{List, refl, ◌≡◌, ℕ, ◌*◌, ◌-◌, ◌≤◌, length, take, Ok, Err}
use Rattle.std.proofs.Common.{ap, subst, sym, ◌∙◌, arith, length-take}
use Rattle.theory.specs.Laws.JoinedRows.{rows_of-most}
use Rattle.theory.specs.LinkTables.{LinkTable, Row, rows_of}
use Rattle.theory.specs.Outcomes.{LeftRows}
use Rattle.theory.specs.Tables.{cost, limit}
use Rattle.bits.specs.declared.Edition.TheVariants.{New}
use Rattle.links.specs.Laws.LinkChecks.{rows-length}
use Rattle.links.specs.Links.{Links}
use Rattle.routes.specs.Orders.{path_checks, route_checks, upper_checks}
use Rattle.routes.specs.Promises.{path-accepted, route-accepted, upper-accepted}
use Rattle.link_forms.specs.Form.{link_used, new_links}
use Rattle.stored_links.specs.Outcomes.{read_either}
use Rattle.stored_links.specs.Stored.{read_into}
use Rattle.link_writer.specs.Laws.Accepted.{passed_write}
use Rattle.link_writer.specs.RoundTrips.{reading_undoes_writing}
use Rattle.link_writer.specs.Writing.{write_checks, write_outcome}
use Rattle.tree.proofs.Promises.{exact_answer, measured-answer}
use Rattle.tree.specs.Readings.{exact_check, exact_outcome, measured_check, measured_outcome, outcome}
use Rattle.tree.specs.Writing.{RowsStand, rows_left}
use Rattle.consensus.specs.Call.{consensus_outcome}
use Rattle.consensus.proofs.Promises.{consensus-answer}
use Rattle.leaving.specs.Promises.{Replays}
use Rattle.leaving.specs.Replay.{after, table_of}
use Rattle.leaving.specs.declared.Replayed.{Replayed}
use Rattle.newick_text.specs.LinkTrees.{newick}
use Rattle.newick_reader.specs.Outcomes.{read_outcome}
use Rattle.newick_reader.proofs.Promises as newick-read
use Rattle.newick_writer.proofs.Promises as newick-written
use Rattle.newick_writer.specs.Writing as newick-writing

-- the Newick text of the rows T is read as r rows over n images, which are T
abbrev pub TextRead : ℕ → ℕ → List Row → List ℕ → List ℕ → Type 0
TextRead n r T f u =
    let o = read_outcome (newick T) f u in
    (o.answer ≡ Ok (record { n = n; count = r })) × RowsStand T r f u o.far_list o.cost_list

-- the r rows l and v over n images pass every check of the calls over link tables, where these name images and have room
pub record GoesOn (n r : ℕ) (l v : List ℕ) : Type 0 where
  pub path : (i j : ℕ) → 1 ≤ i → i ≤ n → 1 ≤ j → j ≤ n → path_checks limit n r l v i j ≡ Ok tt
  pub upper-rows : (room : ℕ) → 2 * n - 3 ≤ room → upper_checks limit n r l v room ≡ Ok tt
  pub route : (i room : ℕ) → 1 ≤ i → i ≤ n → 2 * n - 3 ≤ room → route_checks limit n r l v i room ≡ Ok tt
  -- in the new form, whose limit is that of link tables
  pub stored : (room : ℕ) → link_used new_links n r ≤ room → write_checks new_links n r l v room ≡ Ok tt
  -- and what is stored is read back as the same rows
  pub read_back : (out f u : List ℕ) → link_used new_links n r ≤ length out → 2 * n - 3 ≤ length f → 2 * n - 3 ≤ length u
      → read_either (write_outcome new_links n r l v out).places 0 f u ≡ read_into n r (link_used new_links n r) l v f u
  -- as Newick text, which is read back as the same rows
  pub as_newick : (room : ℕ) → length (newick (rows_of l v)) ≤ room → newick-writing.write_checks n r l v room ≡ Ok tt
  pub newick-back : (f u : List ℕ) → 2 * n - 3 ≤ length f → 2 * n - 3 ≤ length u → TextRead n r (rows_of l v) f u

links_go_on : (n r : ℕ) (l v : List ℕ) → Links limit n r l v → GoesOn n r l v
links_go_on n r l v t = record {
  path = λ i j a b c d. (path-accepted limit n r l v i j).1 (record { table = t; low = a; high = b; low' = c; high' = d });
  upper-rows = λ room h. (upper-accepted limit n r l v room).1 (record { table = t; spare = h });
  route = λ i room a b h. (route-accepted limit n r l v i room).1 (record { uppers = record { table = t; spare = h }; low = a; high = b });
  stored = λ room h. passed_write new_links n r l v room (omega arith) t (subst (λ x. link_used new_links n x ≤ room) (sym t.counted) h);
  read_back = λ out f u a b c. (reading_undoes_writing New n r l v out f u t a b c).1;
  as_newick = λ room h. (newick-written.write_accepted n r l v room).1 (t, h);
  newick-back = λ f u a b.
      let T = rows_of l v in
      let e : length T ≡ r = rows-length l v (t.counted ∙ sym t.costed) ∙ t.counted in
      subst (λ (m : ℕ). TextRead n m T f u) e
      (newick-read.reading_undoes_writing n T f u t.table t.some t.few a b _ _ _ (record { answered = refl; far-sides = refl; doubled = refl }));
}

rows_go_on : (n r : ℕ) (f' v' : List ℕ) → 3 ≤ n → n ≤ 64 → LinkTable limit n (rows_left r f' v') → r ≡ length (rows_left r f' v')
    → GoesOn n r (take r f') (take r v')
rows_go_on n r f' v' a b t e =
    let m = rows_of-most (take r f') (take r v') in
    links_go_on n r (take r f') (take r v')
    (record { some = a; few = b; counted = omega (arith, e, m, length-take r f'); costed = omega (arith, e, m, length-take r v'); table = t })

-- the links that a team shares
pub consensus_goes_on : (n m : ℕ) (t f v : List ℕ) (r : ℕ) (f' v' : List ℕ) → LeftRows (consensus_outcome limit n m t f v) (Ok r) f' v'
    → GoesOn n r (take r f') (take r v')
consensus_goes_on n m t f v r f' v' l =
    let a = consensus-answer limit n m t f v r f' v' l in
    rows_go_on n r f' v' a.ready.joined.some a.ready.joined.few a.shared.tree.tree a.counted

-- ## The same of the two readings

-- the answer counts the rows that were left
rows-counted : (c : Check) (T : List Row) (f v : List ℕ) (r : ℕ) (f' v' : List ℕ) → LeftRows (outcome c T f v) (Ok r) f' v' → rows_left r f' v' ≡ T
    → r ≡ length (rows_left r f' v')
rows-counted (Ok tt) T f v r f' v' l e = same r (length T) l.answered ∙ sym (ap length e)
  where
    same : (a b : ℕ) → ◌≡◌ {A = Written} (Ok a) (Ok b) → a ≡ b
    same a b e = cc
rows-counted (Err q) T f v r f' v' l e = absurd (let w = l.answered in let z : ◌≡◌ {A = ℕ} 0 1 = cc in omega arith)

pub exact_goes_on : (n : ℕ) (t f v : List ℕ) (r : ℕ) (f' v' : List ℕ) → LeftRows (exact_outcome limit n t f v) (Ok r) f' v'
    → GoesOn n r (take r f') (take r v')
exact_goes_on n t f v r f' v' l =
    let a = exact_answer limit n t f v r f' v' l in
    let c = a.ready.table in
    rows_go_on n r f' v' c.some c.few a.tree.tree (rows-counted (exact_check limit n t (length f) (length v)) _ f v r f' v' l a.left.rows)

pub measured_goes_on : (n : ℕ) (t f v : List ℕ) (r : ℕ) (f' v' : List ℕ) → LeftRows (measured_outcome limit n t f v) (Ok r) f' v'
    → GoesOn n r (take r f') (take r v')
measured_goes_on n t f v r f' v' l =
    let a = measured-answer limit n t f v r f' v' l in
    let c = a.ready.table in
    rows_go_on n r f' v' c.some c.few a.drawn.tree.tree
    (rows-counted (measured_check limit n t (length f) (length v)) _ f v r f' v' l a.left.rows)

-- ## And of a replay, whether it ended with the events or at one that was refused

pub replay_goes_on : (n : ℕ) (t es f v : List ℕ) (r : Replayed) (f' v' : List ℕ) → Replays n t es f v r f' v'
    → GoesOn r.images r.rows (take r.rows f') (take r.rows v')
replay_goes_on n t es f v r f' v' p =
    exact_goes_on r.images (table_of r.images (after (cost t n) p.taken)) f v r.rows f' v' p.anew
