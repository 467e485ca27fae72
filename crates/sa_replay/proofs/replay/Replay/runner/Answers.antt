use Rattle.std.proofs.Common.{List, Option, ◌∙◌, ap}
use Rattle.sa_laws.specs.State.{Runner, runner_on}
use Rattle.sa_replay.specs.Replayed.{Replayed}
use Rattle.sa_replay.specs.Index.{runner_at}
use Rattle.sa_replay.proofs.IndexLemmas.{index-finds}
use Rattle.sa_replay.proofs.replay.Replay.runner.Goals as goal

pub returns : goal.returns
returns c =
    let i = c.self.inside in
    c.runner_in.ensures ∙ ap (λ (xs : List (Option Runner)). runner_at xs c.args.p) c.deref.ensures.value
    ∙ index-finds c.args.p i.spaces i.runners.items c.self.invariant.0.index ∙ ap (λ (x : Replayed). runner_on x.state c.args.p) c.self.view_is
