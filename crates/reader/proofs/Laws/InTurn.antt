-- A reader takes two cost tables in turn: where it stands after each, and that the second is the one behind the first; and what was
-- written is taken. Assumes nothing.
use Rattle.stored_costs.specs.Outcomes.{StoredCosts}
use Rattle.stored_links.specs.Outcomes.{StoredLinks}
use Rattle.std.specs.Prelude.{List, [], ◌++◌, refl, ◌≡◌, ℕ, ◌*◌, ◌+◌, ◌-◌, ◌/◌, ◌<◌, ◌≤◌, drop, length, Ok}
use Rattle.std.proofs.Common.{ap, subst, sym, ◌∙◌, arith}
use Rattle.std.specs.Borrow.{Bor}
use Rattle.ground.specs.Buffers.{front}
use Rattle.ground.specs.Outcomes.{Left, Outcome}
use Rattle.theory.specs.Outcomes.{RowsOutcome}
use Rattle.theory.specs.Tables.{CostTable, cost}
use Rattle.bits.specs.declared.Edition.{Edition}
use Rattle.links.specs.Links.{Links}
use Rattle.cost_forms.specs.Form.{cost_bytes, cost_form, cost_used}
use Rattle.cost_forms.specs.Laws.Form.{length-costs}
use Rattle.stored_costs.proofs.Laws.Told as costs-told
use Rattle.stored_costs.specs.Outcomes as costs-said
use Rattle.link_forms.specs.Form.{link_bytes, link_form, link_used}
use Rattle.stored_links.proofs.Laws.Told as links-told
use Rattle.positions.proofs.Laws.Stands.{costs-short, stands_behind}
use Rattle.positions.specs.Stands.{after_costs, behind, costs_at, counted_bytes, links_at, links_taken}
use Rattle.reader.specs.InTurn.{costs_in_turn}
use Rattle.reader.proofs.Laws.OneTake.{costs-behind, costs_there}
use Rattle.reader.specs.Moves.{costs_moved, reader_at}
use Rattle.reader.specs.declared.Reader.{Reader}

-- a reader that starts at bit 0 takes two cost tables: it stands behind the first, the second is the one that stands behind the
-- first, and at last the reader stands behind both
pub new_take_take : (s : Bor (List ℕ)) (f g : List ℕ) (d e : Reader) (x y : StoredCosts) (k l : List ℕ) (m u n v : ℕ)
    → Left (costs_moved (reader_at s 0) f) (d, x) k → x ≡ Ok (record { n = m; used = u }) → Left (costs_moved d g) (e, y) l → y ≡ Ok (record { n = n; used = v })
    → length s.now < counted_bytes
    → (d ≡ reader_at s (8 * u)) × Left (costs-said.read_either (drop u s.now) 0 g) y l × (e ≡ reader_at s (8 * (u + v)))
new_take_take s f g d e x y k l m u n v p h q c small =
    let one = costs-behind (reader_at s 0) d f x k m u p h small in
    let zero : 0 / 8 + u ≡ u = omega arith in
    let at : d ≡ reader_at s (8 * u) = one.1 ∙ ap (λ (z : ℕ). reader_at s (8 * z)) zero in
    let q' = subst (λ (z : Reader). Left (costs_moved z g) (e, y) l) at q in
    let two = costs-behind (reader_at s (8 * u)) e g y l n v q' c small in
    let both : 8 * u / 8 + v ≡ u + v = omega arith in
    (at, costs_there (reader_at s (8 * u)) e u g y l q' refl (omega (arith, one.0)), two.1 ∙ ap (λ (z : ℕ). reader_at s (8 * z)) both)

-- so `first_two` takes two tables that were written one after the other, each in either form, whatever stands behind
pub both-taken : (e e' : Edition) (m n : ℕ) (t u rest f g : List ℕ) → CostTable (cost_form e).limit m t → CostTable (cost_form e').limit n u
    → m * m ≤ length f → n * n ≤ length g
    → costs_in_turn (cost_bytes (cost_form e) m (cost t m) ++ (cost_bytes (cost_form e') n (cost u n) ++ rest)) 0 f g
    ≡ record {
      answer = record {
        first = Ok (record { n = m; used = (cost_used (cost_form e) m) });
        between = 8 * cost_used (cost_form e) m;
        second = Ok (record { n = n; used = (cost_used (cost_form e') n) });
        position = 8 * (cost_used (cost_form e) m + cost_used (cost_form e') n);
      };
      first_list = front t f;
      second_list = front u g;
    }
both-taken e e' m n t u rest f g c d room room' =
    let a = cost_bytes (cost_form e) m (cost t m) in
    let b = a ++ (cost_bytes (cost_form e') n (cost u n) ++ rest) in
    let used = cost_used (cost_form e) m in
    let used' = cost_used (cost_form e') n in
    let next = (costs_at b 0 f).answer.position in
    let one : costs-said.read_either b 0 f ≡ record { answer = Ok (record { n = m; used = used }); places = front t f } =
    costs-told.either_written e m t [] (cost_bytes (cost_form e') n (cost u n) ++ rest) f c room in
    let short = costs-short b 0 (length f) m used (ap (λ (o : Outcome StoredCosts). o.answer) one) in
    let zero : 8 * (0 / 8 + used) ≡ 8 * used = omega arith in
    let at : next ≡ 8 * used = ap (λ (o : Outcome StoredCosts). after_costs o.answer 0) one ∙ stands_behind 0 used (omega (arith, short)) ∙ zero in
    let two : costs-said.read_either b next g ≡ record { answer = Ok (record { n = n; used = used' }); places = front u g } =
    ap (λ (z : ℕ). costs-said.read_either b z g) (at ∙ ap (λ (z : ℕ). 8 * z) (sym (length-costs (cost_form e) m (cost t m))))
    ∙ costs-told.either_written e' n u a rest g d room' in
    let short' = costs-short b next (length g) n used' (ap (λ (o : Outcome StoredCosts). o.answer) two) in
    let both : 8 * (8 * used / 8 + used') ≡ 8 * (used + used') = omega arith in
    let last : after_costs (costs-said.read_either b next g).answer next ≡ 8 * (used + used') =
    ap (λ (o : Outcome StoredCosts). after_costs o.answer next) two ∙ ap (λ (z : ℕ). behind z used') at
    ∙ stands_behind (8 * used) used' (omega (arith, short, short')) ∙ both in
    λ i. record {
      answer = record { first = (one i).answer; between = at i; second = (two i).answer; position = last i };
      first_list = (one i).places;
      second_list = (two i).places;
    }

-- and `first_links` takes a link table that was written in either form behind other bytes, and stands behind it
pub links_taken_lem : (e : Edition) (n N : ℕ) (l v ahead rest f u : List ℕ) → Links (link_form e).limit n N l v → 2 * n - 3 ≤ length f → 2 * n - 3 ≤ length u
    → length ahead + link_used (link_form e) n N < counted_bytes
    → links_at (ahead ++ (link_bytes (link_form e) n l v ++ rest)) (8 * length ahead) f u
    ≡ record {
      answer = record { table = Ok (record { n = n; count = N; used = (link_used (link_form e) n N) }); position = 8 * (length ahead + link_used (link_form e) n N) };
      far_list = front l f;
      cost_list = front v u;
    }
links_taken_lem e n N l v ahead rest f u t room room' small =
    let k = length ahead in
    let used = link_used (link_form e) n N in
    let one = links-told.either_written e n N l v ahead rest f u t room room' in
    let byte : 8 * k / 8 + used ≡ k + used = omega arith in
    let at : behind (8 * k) used ≡ 8 * (k + used) = stands_behind (8 * k) used (omega (arith, byte, small)) ∙ ap (λ (z : ℕ). 8 * z) byte in
    ap (λ (o : RowsOutcome StoredLinks). links_taken o (8 * k)) one
    ∙ (λ i. record { answer = record { table = Ok (record { n = n; count = N; used = used }); position = at i }; far_list = front l f; cost_list = front v u })
