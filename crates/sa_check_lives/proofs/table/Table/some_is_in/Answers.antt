use Rattle.std.proofs.Common.{◌≡◌, ◌↔◌, sym, ◌∙◌, ap, subst, true}
use Rattle.sa_check_lives.specs.Table.{lives_in, SomeIsIn, some_passes, is_in}
use Rattle.sa_check_lives.proofs.FoundLemmas.{in-iff}
use Rattle.sa_check_lives.proofs.table.Table.some_is_in.Goals as goal

pub returns : goal.returns
returns c = subst (λ lives. (c.some_is_in.result ≡ true) ↔ SomeIsIn lives) (ap lives_in c.self.view_is)
    (subst (λ b. (b ≡ true) ↔ SomeIsIn (lives_in c.self.inside.lives))
    (sym (c.some_is_in.ensures ∙ ap (some_passes is_in (lives_in c.self.inside.lives)) c.as_slice.ensures.value))
    (in-iff (lives_in c.self.inside.lives) c.self.inside.insiders.items c.self.invariant.1))
