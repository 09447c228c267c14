-- A text read byte by byte, and where it ends. Assumes nothing.
use Rattle.std.specs.Prelude.{Bool, false, true, List, [], ◌∷◌, refl, ◌≡◌, ℕ, ◌+◌, ◌<◌, ◌≤◌, get_or, length, take}
use Rattle.std.proofs.Common.{ap, sym, ◌∙◌, arith, add-one, take_all, take-suc}
use Rattle.newick_text.specs.Bytes.{run, step}
use Rattle.newick_text.specs.States.{start}
use Rattle.newick_text.specs.Ends.{is_dead, is_done, lived}
use Rattle.newick_text.proofs.Laws.Fine.{run_fine}
use Rattle.newick_text.proofs.Laws.Place.{dead_not_done, lived_is}
use Rattle.newick_text.proofs.Laws.Live.{run-append}
use Rattle.newick_bytes.specs.Seen.{Bounded, is_dead_seen, is_done_seen}
use Rattle.newick_bytes.specs.Next.{next_seen}
use Rattle.newick_bytes.specs.Outer.{next_outer}
use Rattle.newick_bytes.specs.Kept.{Stacked, narrow, stack}
use Rattle.newick_bytes.specs.Laws.Counts.{length-next, stacked_step}
use Rattle.newick_bytes.specs.Laws.Shows.{narrow_step}
use Rattle.newick_bytes.specs.Laws.Small.{fine_bounded, narrow_dead, narrow_done}
use Rattle.newick_bytes.specs.declared.Seen.{Seen}
use Rattle.newick_bytes.specs.declared.Seen.TheVariants.{Start}

-- the first i bytes of t were read: s and a are what is kept of it
pub record Reached (t : List ℕ) (i : ℕ) (s : Seen) (a : List ℕ) : Type 0 where
  pub inside : i ≤ length t
  pub full : length a ≡ 64
  pub kept : s ≡ narrow (run start (take i t))
  pub held : Stacked a (stack (run start (take i t)))
  pub live : is_dead (run start (take i t)) ≡ false

pub reached_none : (t a : List ℕ) → length a ≡ 64 → Reached t 0 Start a
unfolding run
reached_none t a e = record { inside = omega arith; full = e; kept = refl; held = tt; live = refl }

pub reached_bounded : {t : List ℕ} {i : ℕ} {s : Seen} {a : List ℕ} → Reached t i s a → Bounded s
reached_bounded {t} {i} r = rw r.kept (fine_bounded (run start (take i t)) (run_fine start (take i t) tt r.live))

pub run_more : (t : List ℕ) (i : ℕ) → i < length t → run start (take (i + 1) t) ≡ step (run start (take i t)) (get_or t i 0)
unfolding run
run_more t i h = rw (add-one i, take-suc t i 0 h) (run-append start (take i t) (get_or t i 0 ∷ []))

-- one byte more
module _ (t : List ℕ) (i : ℕ) (s : Seen) (a : List ℕ) (r : Reached t i s a) (l : i < length t)
    (s' : Seen) (a' : List ℕ) (p : s' ≡ next_seen s (get_or t i 0) a) (q : a' ≡ next_outer s (get_or t i 0) a) where
  kept_more : s' ≡ narrow (run start (take (i + 1) t))
  kept_more =
      p ∙ ap (λ (x : Seen). next_seen x (get_or t i 0) a) r.kept
      ∙ sym (narrow_step (get_or t i 0) a (run start (take i t)) r.held) ∙ ap narrow (sym (run_more t i l))

  pub dead_here : is_dead_seen s' ≡ is_dead (run start (take (i + 1) t))
  dead_here = ap is_dead_seen kept_more ∙ narrow_dead (run start (take (i + 1) t))

  pub reached-more : is_dead_seen s' ≡ false → Reached t (i + 1) s' a'
  reached-more e = record {
    inside = omega arith;
    full = ap length q ∙ length-next s (get_or t i 0) a ∙ r.full;
    kept = kept_more;
    held = rw (q, run_more t i l, r.kept) (stacked_step (get_or t i 0) a r.full (run start (take i t)) r.held);
    live = sym dead_here ∙ e;
  }

-- ## The end

done_kept : {t : List ℕ} {i : ℕ} {s : Seen} {a : List ℕ} {x : Bool} → Reached t i s a → is_done_seen s ≡ x → is_done (run start (take i t)) ≡ x
done_kept {t} {i} r d = sym (ap is_done_seen r.kept ∙ narrow_done (run start (take i t))) ∙ d

-- the text stops with the byte behind the first i
pub stopped_here : (t : List ℕ) (i : ℕ) → i < length t → is_dead (run start (take i t)) ≡ false → is_dead (run start (take (i + 1) t)) ≡ true
    → (is_done (run start t) ≡ false) × (i ≡ lived start t)
stopped_here t i l e d = (dead_not_done t (i + 1) d, sym (lived_is start t i (omega arith) e (λ h. rw (add-one i) at d)))

-- it was read to its end and is no whole one
pub stopped_end : {t : List ℕ} {i : ℕ} {s : Seen} {a : List ℕ} → Reached t i s a → length t ≤ i → is_done_seen s ≡ false
    → (is_done (run start t) ≡ false) × (i ≡ lived start t)
stopped_end {t} {i} r h d =
    (rw (take_all i t h) at (done_kept r d), sym (lived_is start t i r.inside r.live (λ q. absurd (omega arith))))

-- it is whole
pub whole_end : {t : List ℕ} {i : ℕ} {s : Seen} {a : List ℕ} → Reached t i s a → length t ≤ i → is_done_seen s ≡ true → is_done (run start t) ≡ true
whole_end {t} {i} r h d = rw (take_all i t h) at (done_kept r d)
