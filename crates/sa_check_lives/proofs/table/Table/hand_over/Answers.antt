use Rattle.std.proofs.Common.{◌≡◌, sym, ◌∙◌, ap, subst, Some}
use Rattle.std.specs.Option.{option_copied}
use Rattle.sa_laws.specs.Life.{has_lock}
use Rattle.sa_laws.specs.Record.{handed}
use Rattle.sa_check_lives.specs.Table.{lives_in, AreAmong, IsAddedTo, is_inside}
use Rattle.sa_check_lives.proofs.Among.{among-more, holders-handed, insiders-handed}
use Rattle.sa_check_lives.proofs.table.Table.hand_over.Goals as goal

pub invariant_of-self-in_err-pass_on : goal.invariant_of-self-in_err-pass_on
invariant_of-self-in_err-pass_on c =
    let old = lives_in c.self.inside.lives in (
      subst (λ lives. AreAmong has_lock lives c.add_to.new.holders.items) (sym c.in_err-pass_on.ensures.err)
          (among-more has_lock old c.self.inside.holders.items c.add_to.new.holders.items c.self.invariant.0 c.add_to.ensures.holders),
      subst (λ lives. AreAmong is_inside lives c.self.inside.insiders.items) (sym c.in_err-pass_on.ensures.err) c.self.invariant.1,
    )

pub invariant_of-self-2 : goal.invariant_of-self-2
invariant_of-self-2 c =
    let old = lives_in c.self.inside.lives in
    let from = c.in-Some.life.now in
    let h1 = c.add_to.new.holders.items in
    let is : old c.args.a.0 ≡ Some from = sym c.get.ensures ∙ ap option_copied c.in-Some.is in
    let same : lives_in c.pass_on.new.lives ≡ handed c.args.upped c.args.a (Some from) old =
    c.in_ok-pass_on.ensures.ok ∙ ap (λ o. handed c.args.upped c.args.a o old) is in
    let added : IsAddedTo c.args.upped (has_lock from) h1 = subst (λ b. IsAddedTo c.args.upped b h1) c.has_lock-has_lock.ensures
    c.in_ok-add_to.ensures.there in (
      subst (λ lives. AreAmong has_lock lives c.remove_but.new.holders.items) (sym same)
          (holders-handed c.args.upped c.args.a from old c.self.inside.holders.items h1 c.remove_but.new.holders.items c.self.invariant.0
          c.add_to.ensures.holders added c.remove_but.ensures.others c.remove_but.ensures.upped),
      subst (λ lives. AreAmong is_inside lives c.remove.new.numbers.items) (sym same)
          (insiders-handed c.args.upped c.args.a from old c.self.inside.insiders.items c.remove.new.numbers.items c.self.invariant.1 c.remove.ensures),
    )
