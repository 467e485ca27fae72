use Rattle.std.proofs.Common.{◌≡◌, ◌↔◌, sym, ◌∙◌, ap, subst, true, Option}
use Rattle.sa_base.specs.declared.number.ActNo.{ActNo}
use Rattle.sa_laws.specs.Readings.{IsLocked}
use Rattle.sa_laws.specs.Turns.{AnotherHas}
use Rattle.sa_check_lives.specs.Table.{lives_in, some_passes, has_list}
use Rattle.sa_check_lives.proofs.FoundLemmas.{locked-iff, other-iff}
use Rattle.sa_check_lives.proofs.table.Table.is_locked.Goals as goal

pub returns-clause-any : goal.returns-clause-any
returns-clause-any c =
    let passes = λ (but : Option ActNo). some_passes (has_list but c.args.s c.args.l) (lives_in c.self.inside.lives) in
    λ r same none. subst (λ b. (b ≡ true) ↔ IsLocked r c.args.s c.args.l)
    (sym (c.some_has_list.ensures ∙ ap (passes c.args.but) c.as_slice.ensures.value ∙ ap (λ but. passes but c.self.inside.holders.items) none))
    (locked-iff r (lives_in c.self.inside.lives) c.self.inside.holders.items c.args.s c.args.l c.self.invariant.0 (same ∙ ap lives_in (sym c.self.view_is)))

pub returns-clause-other : goal.returns-clause-other
returns-clause-other c =
    let passes = λ (but : Option ActNo). some_passes (has_list but c.args.s c.args.l) (lives_in c.self.inside.lives) in
    λ r a same some. subst (λ b. (b ≡ true) ↔ AnotherHas r a c.args.s c.args.l)
    (sym (c.some_has_list.ensures ∙ ap (passes c.args.but) c.as_slice.ensures.value ∙ ap (λ but. passes but c.self.inside.holders.items) some))
    (other-iff r (lives_in c.self.inside.lives) c.self.inside.holders.items a c.args.s c.args.l c.self.invariant.0 (same ∙ ap lives_in (sym c.self.view_is)))
