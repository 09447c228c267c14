-- What the promise of the reader is worth. A call is seen from outside: the text t, its answer, and the two lent slices before, f and v, and after,
-- f' and v'. Assumes nothing.
use Rattle.std.specs.Prelude.{Bool, false, true, List, refl, ◌≡◌, suc, ℕ, ◌*◌, ◌-◌, ◌≤◌, drop, length, take, Ok, Err}
use Rattle.std.proofs.lemmas.Bool.{false≢true}
use Rattle.std.proofs.Common.{ap, subst, sym, ◌∙◌, arith, take_at}
use Rattle.std.proofs.lemmas.List.{length-map}
use Rattle.ground.specs.Buffers.{front}
use Rattle.ground.specs.Steps.{FirstRefused, Step}
use Rattle.ground.specs.Refusals.{Check, refusal}
use Rattle.ground.specs.declared.Refusal.{Refusal}
use Rattle.theory.specs.Laws.Outcomes.{left_rows_once}
use Rattle.theory.specs.LinkTables.{LinkTable, Row, costs, far, fars}
use Rattle.theory.specs.Outcomes.{LeftRows}
use Rattle.theory.specs.Tables.{limit}
use Rattle.tree.proofs.Laws.Writing.{written_stand}
use Rattle.tree.specs.Writing.{RowsStand, RowsWritten, rows_left}
use Rattle.links.specs.Links.{Links}
use Rattle.newick_text.specs.Bytes.{run}
use Rattle.newick_text.specs.States.{start}
use Rattle.newick_text.specs.Ends.{is_done, lived, tree_of}
use Rattle.newick_text.specs.Reading.{read_checks, tree_in}
use Rattle.newick_text.specs.Tables.{names, table_of}
use Rattle.newick_text.specs.LinkTrees.{link_tree, newick}
use Rattle.newick_text.specs.Profile.{FirstImpossible, Profile}
use Rattle.newick_text.proofs.Laws.Place.{done_profile, first_impossible, one_place, profile_done}
use Rattle.newick_text.proofs.Laws.ReadLinks.{read_links}
use Rattle.newick_text.proofs.Laws.Reading.{read_written, write_read, written}
use Rattle.newick_text.proofs.Laws.Accepted.{done_is, said}
use Rattle.newick_text.proofs.Laws.Reads.{tree_read}
use Rattle.newick_reader.specs.InOrder.{read_order, read_steps}
use Rattle.newick_reader.specs.Outcomes.{rows_if, NewickTree}
use Rattle.newick_reader.proofs.Laws.Left.{refused-left, table-left}
use Rattle.newick_reader.specs.Laws.Refusing.{order-first, tree_never}
pub use Rattle.newick_reader.specs.Promises.{Answers, room}

-- no second answer, and no second content of the lent places, meets the promise
pub read_once : (t f v : List ℕ) {a b : NewickTree} {g h w u : List ℕ} → Answers t f v a g w → Answers t f v b h u → (a ≡ b) × (g ≡ h) × (w ≡ u)
read_once t f v p q = left_rows_once p q

-- ## Accepted

front-taken : (m d e : List ℕ) (k : ℕ) → k ≡ length m → e ≡ front m d → length (take k e) ≡ k
front-taken m d e k h q = rw q (ap length (take_at m (drop (length m) d) k (sym h)) ∙ sym h)

module _ (t f v : List ℕ) (n N : ℕ) (f' v' : List ℕ) (l : Answers t f v (Ok (record { n = n; count = N })) f' v') where
  -- the checks passed, and the rows stand in front
  accepted : (read_checks limit t (room f v) ≡ Ok tt) × (n ≡ length (names (tree_in t))) × RowsWritten (table_of (tree_in t)) N f v f' v'
  accepted = table-left (read_checks limit t (room f v)) (length (names (tree_in t))) (table_of (tree_in t)) f v n N f' v' l

  -- the rows left are those of the text's tree, and every place behind them is as it was
  pub rows_stand : RowsStand (table_of (tree_in t)) N f v f' v'
  rows_stand = written_stand (table_of (tree_in t)) N f v f' v' accepted.2

  -- the text of the rows left is the text that was read, byte for byte
  pub writing_undoes_reading : newick (rows_left N f' v') ≡ t
  writing_undoes_reading = ap newick rows_stand.rows ∙ write_read limit t (room f v) accepted.0

  -- what was left is a link table over n images
  pub read_is_a_table : Links limit n N (take N f') (take N v')
  read_is_a_table =
      let a = accepted in
      let T = table_of (tree_in t) in
      let s = (said limit t (room f v) a.0).accepted in
      record {
        some = omega (arith, a.1, s.some);
        few = omega (arith, a.1, s.few);
        counted = front-taken (fars T) f f' N (a.2.counted ∙ sym (length-map T far)) a.2.far-front;
        costed = front-taken (costs T) v v' N (a.2.counted ∙ sym (length-map T (λ r. r.1))) a.2.cost-front;
        table = subst (LinkTable limit n) (sym rows_stand.rows) (rw a.1 (read_links limit t (room f v) a.0));
      }

-- one link table has one text: two texts that leave the same rows are equal
pub one-text : (t f v : List ℕ) (n N : ℕ) (f' v' : List ℕ) (u g w : List ℕ) (m M : ℕ) (g' w' : List ℕ) → Answers t f v (Ok (record { n = n; count = N })) f' v'
    → Answers u g w (Ok (record { n = m; count = M })) g' w' → rows_left N f' v' ≡ rows_left M g' w' → t ≡ u
one-text t f v n N f' v' u g w m M g' w' p q e =
    sym (writing_undoes_reading t f v n N f' v' p) ∙ ap newick e ∙ writing_undoes_reading u g w m M g' w' q

-- the text of a link table over 3 to 64 images is read as that table, where there is room for it
pub reading_undoes_writing : (n : ℕ) (T : List Row) (f v : List ℕ) → LinkTable limit n T → 3 ≤ n → n ≤ 64 → 2 * n - 3 ≤ length f → 2 * n - 3 ≤ length v
    → (r : NewickTree) (f' v' : List ℕ) → Answers (newick T) f v r f' v' → (r ≡ Ok (record { n = n; count = (length T) })) × RowsStand T (length T) f v f' v'
reading_undoes_writing n T f v t some few a b r f' v' l =
    let w = read_written limit n T t some few (omega arith) (room f v) (omega arith) in
    let s = written limit n T t some few (omega arith) (room f v) (omega arith) in
    let e : length (names (tree_in (newick T))) ≡ n = ap (λ x. length (names (tree_of x))) (tree_read (link_tree T) s.fine) ∙ s.counted in
    let q : LeftRows (rows_if (Ok tt) n T f v) r f' v' = rw (w.0, w.1, e) at l in
    (q.answered, written_stand T (length T) f v f' v' (record { counted = refl; far-front = q.far-sides; cost-front = q.doubled }))

-- ## Refused

module _ (t f v : List ℕ) (q : Refusal) (f' v' : List ℕ) (l : Answers t f v (Err q) f' v') where
  refused : (read_checks limit t (room f v) ≡ Err q) × (f' ≡ f) × (v' ≡ v)
  refused = refused-left (read_checks limit t (room f v)) (length (names (tree_in t))) (table_of (tree_in t)) f v q f' v' l

  -- a refusal alters nothing
  pub refused_alters_nothing : (f' ≡ f) × (v' ≡ v)
  refused_alters_nothing = (refused.1, refused.2)

  -- it is that of the first check that refuses, of 18, 1, 3, 13, 12, 22 in this order, and has its number
  pub refused_reading : (s : Step) × FirstRefused (read_steps limit t (room f v)) s q × (q.number ≡ s.number)
  refused_reading = order-first (read_steps limit t (room f v)) (read_checks limit t (room f v)) q (read_order limit t (room f v)) refused.0

-- ## 18

-- outside the profile it is refused by 18 with the one place before which the bytes begin a text of the profile, while with the byte there, where there
-- is one, they begin none
pub first_impossible_byte : (t f v : List ℕ) (k : ℕ) → (Profile t → ⊥) → FirstImpossible t k → (r : NewickTree) (f' v' : List ℕ) → Answers t f v r f' v'
    → r ≡ Err (refusal 18 (suc k) 0 0 0)
first_impossible_byte t f v k h p r f' v' l =
    let e : is_done (run start t) ≡ false = not-true (is_done (run start t)) (λ d. h (done_profile t (tree_in t) (done_is (run start t) d))) in
    let z = one_place t (lived start t) k (first_impossible t) p in
    l.answered ∙ rw (e, z) refl
  where
    not-true : (b : Bool) → (b ≡ true → ⊥) → b ≡ false
    not-true true h = absurd (h refl)
    not-true false h = refl

-- and where it is refused by 18 it is outside the profile, and the place, from 1, is that one
pub impossible_byte_first : (t f v : List ℕ) (q : Refusal) (f' v' : List ℕ) → Answers t f v (Err q) f' v' → q.number ≡ 18
    → (Profile t → ⊥) × (k : ℕ) × FirstImpossible t k × (q ≡ refusal 18 (suc k) 0 0 0)
impossible_byte_first t f v q f' v' l e = go (is_done (run start t)) refl (refused t f v q f' v' l).0
  where
    same : (p : Refusal) → ◌≡◌ {A = Check} (Err p) (Err q) → q ≡ p
    same p h = cc

    go : (b : Bool) → is_done (run start t) ≡ b → read_checks limit t (room f v) ≡ Err q
        → (Profile t → ⊥) × (k : ℕ) × FirstImpossible t k × (q ≡ refusal 18 (suc k) 0 0 0)
    go true d h = absurd (tree_never limit (tree_in t) (room f v) q (rw d at h) e)
    go false d h =
        (λ p. false≢true (sym d ∙ ap is_done (profile_done t p)), lived start t, first_impossible t, same (refusal 18 (suc (lived start t)) 0 0 0) (rw d at h))
