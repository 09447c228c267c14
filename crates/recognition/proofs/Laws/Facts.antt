-- Which images can be grafted, by the test and as facts. Assumes nothing.
use Rattle.std.specs.Prelude.{Bool, false, true, ◌≡◌, suc, ℕ, ◌+◌}
use Rattle.std.proofs.Common.{arith, eq-eqb, eqb-true, le-leb, leb-true}
use Rattle.ground.specs.Laws.Tests.{and_l, and_r}
use Rattle.recognition.specs.Laws.Below.{all-below, below_all}
use Rattle.recognition.specs.Recognition.{Recognised, all_below, all_graft, grafts, reaches, recognised}

pub grafts-both : (e : ℕ → ℕ → ℕ) (p : ℕ) (b : Bool) → reaches e p ≡ true → b ≡ all_below (recognised e p) (suc p) → b ≡ grafts e p
grafts-both e p b r q = rw r q

pub grafts_not : (e : ℕ → ℕ → ℕ) (p : ℕ) → reaches e p ≡ false → false ≡ grafts e p
grafts_not e p r = rw r

pub graft_facts : (e : ℕ → ℕ → ℕ) (m : ℕ) → all_graft e m ≡ true → Recognised e m
graft_facts e m t = record {
  own = λ {p} h.
      let g = all-below (grafts e) m t p h in
      leb-true (e 0 p) (e 0 (suc p) + e p (suc p)) (and_l (reaches e p) (all_below (recognised e p) (suc p)) g);
  entry = λ {p} {j} h l.
      let g = all-below (grafts e) m t p h in
      eqb-true _ _ (all-below (recognised e p) (suc p) (and_r (reaches e p) (all_below (recognised e p) (suc p)) g) j (omega arith));
}

pub facts_graft : (e : ℕ → ℕ → ℕ) (m : ℕ) → Recognised e m → all_graft e m ≡ true
facts_graft e m r =
    below_all (grafts e) m (λ p h.
    rw (le-leb (e 0 p) (e 0 (suc p) + e p (suc p)) (r.own h), below_all (recognised e p) (suc p) (λ j l. eq-eqb _ _ (r.entry h (omega arith)))))
