use Rattle.std.proofs.Common.{◌≡◌, ◌<◌, List, length, map, sym, ap, subst, ◌∙◌, arith}
use Rattle.std.proofs.lemmas.List.{take_all}
use Rattle.sa_spaces.specs.Space.{SpaceView}
use Rattle.sa_laws.specs.State.{SpaceState, opening_space}
use Rattle.sa_replay.specs.Spaces.{IsCounted}
use Rattle.sa_replay.proofs.TotalLemmas.{counted-opening, opening-more}
use Rattle.sa_replay.proofs.spaces.Spaces.new.Goals as goal

pub loop-def-preserved : goal.loop-def-preserved
loop-def-preserved c =
    let i = c.loop-def.def-index in
    let defs = c.args.defs.now in
    let within : i < length defs = omega (arith, c.loop-def-test.true) in
    opening-more defs i c.def-item.result c.in_ok-new.field-0 c.loop-def.spaces.items c.push.new.self.items within c.def-item.is c.in_ok-new.ensures
    c.loop-def.invariant c.in_ok-push.ensures.items

pub invariant_of-result : goal.invariant_of-result
invariant_of-result c =
    let defs = c.args.defs.now in
    let all : c.loop-def.spaces.items ≡ map opening_space defs =
    c.loop-def.invariant ∙ ap (λ (read : List SpaceView). map opening_space read) (take_all c.loop-def.def-index defs c.loop-def-test.false) in
    subst (λ (xs : List SpaceState). IsCounted xs (length defs) (length defs)) (sym all) (counted-opening defs c.requires)
