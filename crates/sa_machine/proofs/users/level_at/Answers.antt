use Rattle.std.proofs.Common.{refl, ◌∙◌}
use Rattle.sa_machine.proofs.CountLemmas.{user-is}
use Rattle.sa_machine.proofs.users.level_at.Goals as goal

pub returns : goal.returns
returns g c = λ def at.
    let copied = c.in_ok-def.ensures ∙ user-is c.spaces.ensures.value refl c.requires c.index-spaces-s.is at in
    c.in_ok-level.ensures ∙ rw (copied, c.processors.ensures.value, c.fetch.ensures.value) refl
