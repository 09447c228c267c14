-- Which texts are of the profile, which are beginnings of one, and the first byte that none could have. Assumes nothing.
use Rattle.std.specs.Prelude.{false, true, List, [], ◌++◌, ◌∷◌, refl, ◌≡◌, suc, zero, ℕ, ◌<◌, ◌≤◌, ltb, drop, length, take}
use Rattle.std.proofs.lemmas.Bool.{false≢true}
use Rattle.std.proofs.Common.{append_assoc, ap, subst, sym, ◌∙◌, arith, take-append-drop, take-take, ltb-false, ltb-true}
use borrow.Table.Steps.{cases}
use Rattle.newick_text.specs.Trees.{Siblings, text}
use Rattle.newick_text.specs.Profile.{Begins, FirstImpossible, Profile, Tree}
use Rattle.newick_text.specs.States.{State, costing, dead, done, ended, head, start, vertex}
use Rattle.newick_text.specs.Bytes.{run, step}
use Rattle.newick_text.specs.Ends.{is_dead, is_done, lived, tree_of}
use Rattle.newick_text.specs.Spelled.{spelled}
use Rattle.newick_text.proofs.Laws.Completes.{live_ends}
use Rattle.newick_text.proofs.Laws.Fine.{run_fine}
use Rattle.newick_text.proofs.Laws.Live.{Live, live_before, run-append}
use Rattle.newick_text.proofs.Laws.Reads.{tree_read}
use Rattle.newick_text.proofs.Laws.Steps.{run-spelled}

done_live : (s : State) (f : Siblings) → s ≡ done f → Live s
done_live s f e = ap is_dead e

-- a text that is read to its end is that of the tree that it gives, a tree of the profile
pub done_text : (t : List ℕ) (f : Siblings) → run start t ≡ done f → (t ≡ text f) × Tree f
unfolding spelled
done_text t f e =
    let l = done_live (run start t) f e in
    (sym (run-spelled start t l) ∙ ap spelled e, rw e at (run_fine start t tt l))

pub done_profile : (t : List ℕ) (f : Siblings) → run start t ≡ done f → Profile t
done_profile t f e = let d = done_text t f e in record { tree = f; fine = d.1; spelled = d.0 }

-- and every text of the profile is
pub profile_done : (t : List ℕ) (p : Profile t) → run start t ≡ done p.tree
profile_done t p = ap (run start) p.spelled ∙ tree_read p.tree p.fine

-- a text of the profile has one tree
pub one_tree : (f g : Siblings) → Tree f → Tree g → text f ≡ text g → f ≡ g
one_tree f g p q e = ap tree_of (sym (tree_read f p) ∙ ap (run start) e ∙ tree_read g q)

-- the beginnings of texts of the profile are those that are alive
pub begins_live : (t : List ℕ) → Begins t → Live (run start t)
begins_live t b =
    let w = done_live (run start (t ++ b.rest)) b.whole.tree (profile_done (t ++ b.rest) b.whole) in
    live_before (run start t) b.rest (rw (run-append start t b.rest) at w)

pub live_begins : (t : List ℕ) → Live (run start t) → Begins t
live_begins t l =
    let e = live_ends (run start t) l in
    record { rest = e.rest; whole = done_profile (t ++ e.rest) e.tree (run-append start t e.rest ∙ e.ends) }

-- ## The place

lived-most : (s : State) (t : List ℕ) → lived s t ≤ length t
unfolding lived
lived-most s [] = omega arith
lived-most s (b ∷ t) = let ih = lived-most (step s b) t in cases (is_dead (step s b)) (λ e. rw e (omega arith)) (λ e. rw e (omega arith))

lived-take : (s : State) (t : List ℕ) → Live s → Live (run s (take (lived s t) t))
unfolding lived run
lived-take s [] h = h
lived-take s (b ∷ t) h = let ih = lived-take (step s b) t in cases (is_dead (step s b)) (λ e. rw e h) (λ e. rw e (ih e))

lived_stops : (s : State) (t : List ℕ) → lived s t < length t → Live (run s (take (suc (lived s t)) t)) → ⊥
unfolding lived run
lived_stops s [] h l = absurd (omega arith)
lived_stops s (b ∷ t) h l =
    let ih = lived_stops (step s b) t in
    cases (is_dead (step s b)) (λ e. false≢true (sym (live_before (step s b) [] (rw e at l)) ∙ e))
    (λ e. let k : suc (suc (lived (step s b) t)) ≤ suc (length t) = rw e at h in ih (omega arith) (rw e at l))

-- the place of the first impossible byte is where the reading stops
pub first_impossible : (t : List ℕ) → FirstImpossible t (lived start t)
first_impossible t = record {
  before = live_begins (take (lived start t) t) (lived-take start t refl);
  at = λ h b. lived_stops start t h (begins_live (take (suc (lived start t)) t) b);
  most = lived-most start t;
}

-- a beginning's beginning is one
begins_before : (k : ℕ) (t : List ℕ) → Begins t → Begins (take k t)
begins_before k t b =
    let e = ap (λ (m : List ℕ). m ++ b.rest) (sym (take-append-drop k t)) ∙ append_assoc (take k t) (drop k t) b.rest in
    record { rest = drop k t ++ b.rest; whole = subst Profile e b.whole }

-- so there is one such place
pub one_place : (t : List ℕ) (k j : ℕ) → FirstImpossible t k → FirstImpossible t j → k ≡ j
one_place t k j p q =
    cases (ltb k j) (λ e. let h = ltb-true k j e in absurd (less k j h p q))
    (λ e. cases (ltb j k) (λ u. let h = ltb-true j k u in absurd (less j k h q p)) (λ u. omega (arith, ltb-false k j e, ltb-false j k u)))
  where
    less : (k j : ℕ) → k < j → FirstImpossible t k → FirstImpossible t j → ⊥
    less k j h p q = p.at (omega (arith, q.most)) (subst Begins (take-take (suc k) j t h) (begins_before (suc k) (take j t) q.before))

-- ## Where a text stops

-- the bytes before i are a beginning, and with the next one, where there is one, they are none: i bytes are read
pub lived_is : (s : State) (t : List ℕ) (i : ℕ) → i ≤ length t → Live (run s (take i t))
    → (i < length t → is_dead (run s (take (suc i) t)) ≡ true) → lived s t ≡ i
unfolding lived run
lived_is s [] i h l d = omega arith
lived_is s (b ∷ t) zero h l d = rw (d (omega arith)) refl
lived_is s (b ∷ t) (suc i) h l d =
    rw (live_before (step s b) (take i t) l) (ap suc (lived_is (step s b) t i (omega arith) l (λ q. d (omega arith))))

pub done_alive : (s : State) → is_done s ≡ true → Live s
done_alive start e = refl
done_alive (vertex o) e = refl
done_alive (head o v) e = refl
done_alive (costing o v x) e = refl
done_alive (ended f) e = refl
done_alive (done f) e = refl
done_alive dead e = absurd (false≢true e)

-- a beginning that is none has no text behind it
pub dead_not_done : (t : List ℕ) (i : ℕ) → is_dead (run start (take i t)) ≡ true → is_done (run start t) ≡ false
dead_not_done t i d =
    cases (is_done (run start t))
    (λ e.
    let q = ap (run start) (sym (take-append-drop i t)) ∙ run-append start (take i t) (drop i t) in
    let w : Live (run (run start (take i t)) (drop i t)) = subst Live q (done_alive (run start t) e) in
    absurd (false≢true (sym (live_before (run start (take i t)) (drop i t) w) ∙ d)))
    (λ e. e)
