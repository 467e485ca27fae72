use Rattle.std.proofs.Common.{◌≡◌, sym, subst, Some}
use Rattle.sa_laws.specs.Life.{has_lock}
use Rattle.sa_laws.specs.Record.{with_life}
use Rattle.sa_check_lives.specs.Change.{changed_by, adds_lock, enters}
use Rattle.sa_check_lives.specs.Table.{lives_in, AreAmong, IsThere, IsLost, is_inside}
use Rattle.sa_check_lives.proofs.Among.{among-more, holders-changed, insiders-changed}
use Rattle.sa_check_lives.proofs.table.Table.change.Goals as goal

pub invariant_of-self-in_err-lost : goal.invariant_of-self-in_err-lost
invariant_of-self-in_err-lost c =
    let old = lives_in c.self.inside.lives in (
      subst (λ lives. AreAmong has_lock lives c.add_if.new.numbers.items) (sym c.in_err-lost.ensures.err)
          (among-more has_lock old c.self.inside.holders.items c.add_if.new.numbers.items c.self.invariant.0 c.add_if.ensures.others),
      subst (λ lives. AreAmong is_inside lives c.add_if-2.new.numbers.items) (sym c.in_err-lost.ensures.err)
          (among-more is_inside old c.self.inside.insiders.items c.add_if-2.new.numbers.items c.self.invariant.1 c.add_if-2.ensures.others),
    )

pub invariant_of-self-2 : goal.invariant_of-self-2
invariant_of-self-2 c =
    let old = lives_in c.self.inside.lives in
    let change = c.args.change.now in
    let h1 = c.add_if.new.numbers.items in
    let i1 = c.add_if-2.new.numbers.items in
    let after = with_life (changed_by change) (Some c.in-Some.a) old in
    let same : lives_in c.write.new.self ≡ after = c.in_ok-lost.ensures.ok in
    let lost : IsLost c.in_ok-lost.lost (after c.in-Some.a.0) =
    subst (λ lives. IsLost c.in_ok-lost.lost (lives c.in-Some.a.0)) same c.in_ok-lost.ensures.lost in
    let adds : IsThere (adds_lock change) c.in-Some.a.0 h1 = subst (λ b. IsThere b c.in-Some.a.0 h1) c.adds_lock.ensures c.in_ok-add_if.ensures.there in
    let comes : IsThere (enters change) c.in-Some.a.0 i1 = subst (λ b. IsThere b c.in-Some.a.0 i1) c.enters.ensures c.in_ok-add_if-2.ensures.there in (
      subst (λ lives. AreAmong has_lock lives c.remove_if.new.numbers.items) (sym same)
          (holders-changed old change c.in-Some.a c.in_ok-lost.lost c.self.inside.holders.items h1 c.remove_if.new.numbers.items
          c.self.invariant.0 c.add_if.ensures.others adds lost c.remove_if.ensures.others c.remove_if.ensures.itself),
      subst (λ lives. AreAmong is_inside lives c.remove_if-2.new.numbers.items) (sym same)
          (insiders-changed old change c.in-Some.a c.in_ok-lost.lost c.self.inside.insiders.items i1 c.remove_if-2.new.numbers.items
          c.self.invariant.1 c.add_if-2.ensures.others comes lost c.remove_if-2.ensures.others c.remove_if-2.ensures.itself),
    )
