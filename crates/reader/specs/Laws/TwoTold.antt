-- What the answer of the first reading makes of both, and what is read from a part of the bytes. Assumes nothing.
use Rattle.ground.specs.Refusals.{refused_in}
use Rattle.std.specs.Prelude.{List, refl, ◌≡◌, ℕ, ◌*◌, ◌-◌, ◌≤◌, drop, length, take, Ok, Err}
use Rattle.std.proofs.Common.{ap, ◌∙◌}
use Rattle.ground.specs.Laws.Buffers.{rest_part}
use Rattle.ground.specs.Outcomes.{Left, Outcome}
use Rattle.ground.specs.declared.Refusal.{Refusal}
use Rattle.stored_costs.proofs.Laws.Told.{either_rest}
use Rattle.stored_costs.specs.Outcomes.{read_either, StoredCosts}
use Rattle.reader.specs.Outcomes.{TwoLeft}
use Rattle.reader.specs.TwoTables.{first_of, second_of, TwoCosts}

-- ## The first table

pub first-refused : {o : StoredCosts} {r : Refusal} (a : List ℕ) (h : ℕ → Outcome StoredCosts) (f g : List ℕ) → o ≡ Err r
    → TwoLeft (first_of o a h f g) (refused_in 1 r) f g
first-refused a h f g e = rw e (record { answered = refl; first = refl; second = refl })

pub first-accepted : {o : StoredCosts} {m u : ℕ} {x : TwoCosts} {d e : List ℕ} (a : List ℕ) (h : ℕ → Outcome StoredCosts) (f g : List ℕ)
    → o ≡ Ok (record { n = m; used = u }) → TwoLeft (second_of m u a (h u) f g) x d e → TwoLeft (first_of o a h f g) x d e
first-accepted a h f g e p = rw e p

-- ## The second table

-- the part of the bytes behind the first reads as the whole does there
pub rest-left : (bytes : List ℕ) (used : ℕ) {x : StoredCosts} {e : List ℕ} (g : List ℕ) → used ≤ length bytes
    → Left (read_either (take (length bytes - used) (drop used bytes)) 0 g) x e → Left (read_either bytes (8 * used) g) x e
rest-left bytes used {x} {e} g h p =
    let q : read_either (take (length bytes - used) (drop used bytes)) 0 g ≡ read_either bytes (8 * used) g =
    ap (λ (s : List ℕ). read_either s 0 g) (rest_part bytes used) ∙ either_rest bytes used g h in
    record { answered = p.answered ∙ ap (λ (o : Outcome StoredCosts). o.answer) q; left = p.left ∙ ap (λ (o : Outcome StoredCosts). o.places) q }
