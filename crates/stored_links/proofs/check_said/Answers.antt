-- `stored_links::check_said` meets its contract: the rows stand at the front of the local places, and those are checked. Assumes nothing.
use Rattle.std.proofs.Common.{List, ap₂, ℕ, ◌∙◌}
use Rattle.bits.specs.Laws.Listed.{length-listed}
use Rattle.links.specs.Checks.{row_checks}
use Rattle.link_forms.specs.Said.{cost_at, far_at}
use Rattle.stored_links.specs.Laws.Outcomes.{front-taken}
use Rattle.stored_links.proofs.check_said.Goals as goal

pub returns : goal.returns
returns c =
    let a = c.args in
    c.check_front.ensures
    ∙ ap₂ (λ (l v : List ℕ). row_checks a.form.limit a.n l v)
    (front-taken a.count _ _ _ (length-listed (far_at a.form a.n a.bytes.now) a.count) c.fill.ensures.0)
    (front-taken a.count _ _ _ (length-listed (cost_at a.form a.n a.bytes.now) a.count) c.fill.ensures.1)
