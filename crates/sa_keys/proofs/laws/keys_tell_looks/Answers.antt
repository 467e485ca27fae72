use Rattle.sa_keys.proofs.Runs.{keys-tell-looks}
use Rattle.sa_keys.proofs.laws.keys_tell_looks.Goals as goal

pub returns : goal.returns
returns g c =
    let level = (g.met.U.UserLevel g.world.𝓛 g.world.𝓜 g.world.𝓡 ((λ s x. x), (λ x. x), (λ x. x), λ x. x)) in
    let keyed = (g.met.U.Keyed g.world.𝓛 g.world.𝓜 g.world.𝓡 ((λ s x. x), (λ x. x), (λ x. x), λ x. x)) in
    keys-tell-looks g.U.UserLevel.calls g.U.Keyed.plain g.U.UserLevel.stands g.U.Keyed.value_key g.U.Keyed.context_key keyed.tells_contexts
    g.U.Keyed.is_made keyed.tells_values keyed.ignores_numbers level.keeps
