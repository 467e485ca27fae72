use Rattle.std.proofs.Common.{◌≡◌, ◌↔◌, sym, ◌∙◌, ap, subst, true}
use Rattle.sa_laws.specs.Locks.{HoldsLock}
use Rattle.sa_check_lives.specs.Table.{lives_in, some_passes, has_thread}
use Rattle.sa_check_lives.proofs.FoundLemmas.{holds-iff}
use Rattle.sa_check_lives.proofs.table.Table.holds_lock.Goals as goal

pub returns : goal.returns
returns c =
    λ r same. subst (λ b. (b ≡ true) ↔ HoldsLock r c.args.s c.args.t)
    (sym (c.some_has_thread.ensures ∙ ap (some_passes (has_thread c.args.s c.args.t) (lives_in c.self.inside.lives)) c.as_slice.ensures.value))
    (holds-iff r (lives_in c.self.inside.lives) c.self.inside.holders.items c.args.s c.args.t c.self.invariant.0 (same ∙ ap lives_in (sym c.self.view_is)))
