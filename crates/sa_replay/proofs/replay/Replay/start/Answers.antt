use Rattle.std.proofs.Common.{◌≡◌, List, None, map, replicate, ap, ◌∙◌, rules}
use Rattle.sa_spaces.specs.Space.{SpaceView}
use Rattle.sa_laws.specs.State.{opening_space}
use Rattle.sa_replay.proofs.ReplayLemmas.{opened_kept}
use Rattle.sa_replay.proofs.replay.Replay.start.Goals as goal

pub invariant_of-result : goal.invariant_of-result
invariant_of-result c =
    let w = c.args.workload.now in
    let spaces : c.in_ok-new.field-0 ≡ map opening_space w.spaces =
    c.in_ok-new.ensures ∙ ap (λ (defs : List SpaceView). map opening_space defs) c.spaces.ensures.value in
    let owners : c.in_ok-owners.owners.items ≡ replicate w.processors None = search rules in
    let runners : c.in_ok-runners.runners.items ≡ replicate w.processors None = search rules in (
      opened_kept w c.in_ok-copy.field-0 c.in_ok-new.field-0 c.in_ok-owners.owners.items c.in_ok-runners.runners.items c.in_ok-copy.ensures spaces owners runners,
      search rules,
    )
