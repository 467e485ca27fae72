use Rattle.std.proofs.Common.{◌≡◌, sym, ap, subst, Some}
use Rattle.sa_lemmas.specs.Function.{put}
use Rattle.sa_laws.specs.Life.{has_lock, some_lock}
use Rattle.sa_check_lives.specs.Table.{lives_in, AreAmong, is_inside}
use Rattle.sa_check_lives.proofs.Among.{among-begun}
use Rattle.sa_check_lives.proofs.table.Table.begin.Goals as goal

pub invariant_of-self-2 : goal.invariant_of-self-2
invariant_of-self-2 c =
    let old = lives_in c.self.inside.lives in
    let same : lives_in c.insert.new.self ≡ put old c.args.a.0 (Some c.args.life) = c.in_ok-insert.ensures.ok in (
      subst (λ lives. AreAmong has_lock lives c.remove.new.numbers.items) (sym same)
          (among-begun has_lock old c.self.inside.holders.items c.remove.new.numbers.items c.args.a.0 c.args.life c.self.invariant.0 c.remove.ensures
          (ap some_lock c.requires.locks)),
      subst (λ lives. AreAmong is_inside lives c.remove-2.new.numbers.items) (sym same)
          (among-begun is_inside old c.self.inside.insiders.items c.remove-2.new.numbers.items c.args.a.0 c.args.life c.self.invariant.1 c.remove-2.ensures
          c.requires.out),
    )
