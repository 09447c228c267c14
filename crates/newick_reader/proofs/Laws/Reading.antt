-- From what the scan says of a text to what reading it answers. Assumes nothing.
use Rattle.std.specs.Prelude.{false, List, refl, ◌≡◌, suc, ℕ, ◌*◌, ◌+◌, ◌≤◌, length, Err, Ok}
use Rattle.std.proofs.Common.{subst, arith}
use Rattle.ground.specs.Refusals.{refusal}
use Rattle.theory.specs.Outcomes.{LeftRows}
use Rattle.newick_text.specs.Bytes.{run}
use Rattle.newick_text.specs.States.{start}
use Rattle.newick_text.specs.Ends.{is_done, lived}
use Rattle.newick_text.proofs.Laws.Place.{first_impossible}
use Rattle.newick_scan.specs.Says.{Says}
use Rattle.newick_notes.specs.declared.Noted.{Noted}
use Rattle.newick_scan.specs.Says.{Scanned}
use Rattle.newick_reader.specs.Notes.{note_outcome}
use Rattle.newick_reader.specs.Outcomes.{read_outcome, NewickTree}
use Rattle.newick_reader.proofs.Laws.Answer.{note_read, whole-count}

module _ (t : List ℕ) (s : Scanned) (g w : List ℕ) (h : Says t s g w) where
  -- ## Outside the profile

  module _ (k : ℕ) (e : s ≡ Err k) where
    stopped : (is_done (run start t) ≡ false) × (k ≡ lived start t)
    stopped = let q = subst (λ x. Says t x g w) e h in (q.0, q.1)

    pub stopped_within : k ≤ length t
    stopped_within = omega (arith, stopped.1, (first_impossible t).most)

    pub stopped_read : (f v : List ℕ) → LeftRows (read_outcome t f v) (Err (refusal 18 (k + 1) 0 0 0)) f v
    stopped_read f v =
        let a : k + 1 ≡ suc (lived start t) = omega (arith, stopped.1) in
        rw (stopped.0, a) (record { answered = refl; far-sides = refl; doubled = refl })

  -- ## A whole text

  module _ (n : Noted) (e : s ≡ Ok n) where
    pub whole_fits : (1 ≤ n.rows) × (n.rows ≤ 128) × (n.rows + 3 ≤ 2 * n.names) × (length g ≡ 128) × (length w ≡ 128)
    whole_fits =
        let q = subst (λ x. Says t x g w) e h in
        let c = whole-count t q.0 n.rows g w q.1.rows in
        (c.0, c.1, omega (arith, c.2, q.1.names), q.1.far-size, q.1.cost-size)

    pub whole_read : (f v : List ℕ) (r : NewickTree) (f' v' : List ℕ) → LeftRows (note_outcome n.names n.marked n.rows n.fallen g w f v) r f' v'
        → LeftRows (read_outcome t f v) r f' v'
    whole_read f v r f' v' l =
        let q = subst (λ x. Says t x g w) e h in
        subst (λ o. LeftRows o r f' v') (note_read t q.0 n.rows g w q.1.rows f v) (rw (q.1.names, q.1.marked, q.1.fallen) at l)
