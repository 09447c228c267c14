-- `reader::second_costs` meets its contract: the part of the bytes behind the first table reads as the whole does there. Assumes nothing.
use Rattle.std.specs.Prelude.{Ok, MatchResult}
use Rattle.std.proofs.Common.{arith, length, rules, sym, ◌*◌, ◌≡◌, ◌∙◌}
use Rattle.ground.specs.Refusals.{refused_in}
use Rattle.stored_costs.specs.Outcomes.{read_either}
use Rattle.positions.proofs.Laws.Stands.{costs-inside}
use Rattle.reader.specs.Laws.TwoRead.{rest-left, second-accepted, second-refused}
use Rattle.reader.proofs.second_costs.Goals as goal

pub returns-in_err-other : goal.returns-in_err-other
returns-in_err-other c =
    let a = c.args in
    let there = rest-left a.bytes.now (length a.first.now) a.one a.second.now c.requires c.read_costs.ensures in
    let told : MatchResult c.read_costs.result (λ o. ⊥) (λ r. c.from_residual.result ≡ refused_in 2 r) = search rules in
    second-refused a.bytes.now (8 * a.one.used) a.one.n a.one.used (read_either a.bytes.now 0 a.first.now).places a.first.now a.second.now there told

pub overflow_add-result : goal.overflow_add-result
overflow_add-result c =
    let a = c.args in
    let o = c.in_ok-other.other in
    let was : c.read_costs.result ≡ Ok o = search rules in
    let there = rest-left a.bytes.now (length a.first.now) a.one a.second.now c.requires c.read_costs.ensures in
    let inside = costs-inside a.bytes.now (8 * a.one.used) (length a.second.now) o.n o.used (sym there.answered ∙ was) in
    omega (arith, inside, c.well_formed)

pub returns : goal.returns
returns c =
    let a = c.args in
    let was : c.read_costs.result ≡ Ok c.in_ok-other.other = search rules in
    let there = rest-left a.bytes.now (length a.first.now) a.one a.second.now c.requires c.read_costs.ensures in
    second-accepted a.one.n a.one.used (read_either a.bytes.now 0 a.first.now).places a.first.now a.second.now there was c.read_costs-2.ensures.left
