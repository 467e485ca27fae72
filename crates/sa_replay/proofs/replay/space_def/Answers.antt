use Rattle.std.proofs.Common.{◌<◌, List, length, get_or, ap, ◌∙◌, arith}
use Rattle.std.proofs.lemmas.List.{get_or_read}
use Rattle.sa_spaces.specs.Space.{SpaceView}
use Rattle.sa_laws.specs.State.{no_space}
use Rattle.sa_replay.proofs.replay.space_def.Goals as goal

pub returns : goal.returns
returns c =
    let within : c.from.result < length c.spaces.result.now = omega (arith, c.from.ensures, ap length c.spaces.ensures.value) in
    get_or_read c.spaces.result.now c.from.result c.index-spaces-from.result within c.index-spaces-from.is no_space
    ∙ ap (λ (spaces : List SpaceView). get_or spaces c.from.result no_space) c.spaces.ensures.value
    ∙ ap (λ n. get_or c.args.workload.now.spaces n no_space) c.from.ensures
