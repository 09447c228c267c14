-- `consensus::consensus` meets its contract: the call's own checks come first. Assumes nothing.
use Rattle.std.specs.Prelude.{Ok}
use Rattle.std.proofs.Common.{◌≡◌, rules, sym, ◌∙◌}
use Rattle.consensus.proofs.Laws.Taking.{team_passed}
use Rattle.consensus.proofs.consensus.Goals as goal

pub write_shared-requires : goal.write_shared-requires
write_shared-requires c =
    let was : c.check_team.result ≡ Ok tt = search rules in
    let y = (team_passed _ _ _ _ _).0 (sym c.check_team.ensures ∙ was) in
    (y.joined, y.far-room, y.cost-room)
