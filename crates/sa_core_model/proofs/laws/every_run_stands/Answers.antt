use Rattle.sa_core_model.proofs.Runs.{stands-opening, stands-move, runs-stand}
use Rattle.sa_core_model.proofs.laws.every_run_stands.Goals as goal

pub returns : goal.returns
returns g c =
    let keep = (g.met.U.UserLevel g.world.𝓛 g.world.𝓜 g.world.𝓡 ((λ s x. x), (λ x. x), (λ x. x), λ x. x)).keeps in record {
      opening = stands-opening g.U.UserLevel.calls g.U.UserLevel.stands keep;
      each = λ m after move. stands-move g.U.UserLevel.calls g.U.UserLevel.stands keep m move after;
      run = runs-stand g.U.UserLevel.calls g.U.UserLevel.stands keep;
    }
