use Rattle.std.proofs.Common.{◌≡◌, sym, subst, None}
use Rattle.sa_lemmas.specs.Function.{put}
use Rattle.sa_laws.specs.Life.{has_lock}
use Rattle.sa_check_lives.specs.Table.{lives_in, AreAmong, is_inside}
use Rattle.sa_check_lives.proofs.Among.{among-ended}
use Rattle.sa_check_lives.proofs.table.Table.end.Goals as goal

pub invariant_of-self : goal.invariant_of-self
invariant_of-self c =
    let old = lives_in c.self.inside.lives in
    let same : lives_in c.remove.new.self ≡ put old c.args.a.0 None = c.remove.ensures in (
      subst (λ lives. AreAmong has_lock lives c.remove-2.new.numbers.items) (sym same)
          (among-ended has_lock old c.self.inside.holders.items c.remove-2.new.numbers.items c.args.a.0 c.self.invariant.0 c.remove-2.ensures),
      subst (λ lives. AreAmong is_inside lives c.remove-3.new.numbers.items) (sym same)
          (among-ended is_inside old c.self.inside.insiders.items c.remove-3.new.numbers.items c.args.a.0 c.self.invariant.1 c.remove-3.ensures),
    )
