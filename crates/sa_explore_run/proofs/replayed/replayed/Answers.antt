use Rattle.std.proofs.Common.{◌≡◌, refl, sym, ap, subst, ◌∙◌}
use Rattle.sa_spaces.specs.Workload.{WorkloadView}
use Rattle.sa_replay.specs.Replayed.{Replayed}
use Rattle.sa_laws.specs.State.{opening_state}
use Rattle.sa_debug.specs.Reached.{CanPlay}
use Rattle.sa_debug.specs.Views.{state_behind}
use Rattle.sa_explore_run.proofs.replayed.replayed.Goals as goal

pub take_items-requires-clause-opens : goal.take_items-requires-clause-opens
take_items-requires-clause-opens c = subst (λ (r : Replayed). r.state ≡ opening_state r.workload) (sym c.in_ok-replay.ensures) refl

pub take_items-requires-clause-plays : goal.take_items-requires-clause-plays
take_items-requires-clause-plays c =
    subst (λ (r : Replayed). CanPlay r.workload (opening_state r.workload) c.args.items.now) (sym c.in_ok-replay.ensures) c.requires

pub returns-in-Ok : goal.returns-in-Ok
returns-in-Ok c =
    c.in-Ok.ensures
    ∙ ap (λ (w : WorkloadView). state_behind w (opening_state w) c.args.items.now) (ap (λ (r : Replayed). r.workload) c.in_ok-replay.ensures)
