use Rattle.sa_core_model.proofs.Commits.{commits-run, runs-commit, committed-events}
use Rattle.sa_core_model.proofs.laws.a_commit_is_as_many_turns.Goals as goal

pub returns : goal.returns
returns g c =
    let keep = (g.met.U.UserLevel g.world.𝓛 g.world.𝓜 g.world.𝓡 ((λ s x. x), (λ x. x), (λ x. x), λ x. x)).keeps in record {
      event = committed-events g.U.UserLevel.calls g.U.UserLevel.stands keep;
      turns = commits-run g.U.UserLevel.calls g.U.UserLevel.stands keep;
      only = runs-commit g.U.UserLevel.calls g.U.UserLevel.stands keep;
    }
