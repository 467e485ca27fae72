use Rattle.std.proofs.Common.{◌++◌, ◌∷◌, ◌+◌, List, map, drop, append_assoc, sym, ap, ◌∙◌, arith}
use Rattle.std.proofs.lemmas.List.{at_drop_more}
use Rattle.sa_laws.specs.Life.{Lock, inherited}
use Rattle.sa_check_lives.proofs.life.add_inherited.Goals as goal

pub loop-lock-preserved : goal.loop-lock-preserved
loop-lock-preserved c =
    let i = c.loop-lock.lock-index in
    let from = c.args.from.now in
    let others = map inherited (drop (i + 1) from) in
    let locks = c.loop-lock.locks.items in
    record {
      items =
          ap (λ (xs : List Lock). xs ++ others) c.push_reserved.ensures.items ∙ append_assoc locks _ others
          ∙ ap (λ (lock : Lock). locks ++ inherited lock ∷ others) (c.copy.view_is ∙ c.lock-item.is)
          ∙ sym (ap (λ (xs : List Lock). locks ++ xs) (at_drop_more (map inherited) from i c.lock-item.result c.loop-lock-test.true))
          ∙ c.loop-lock.invariant.items;
      room = omega (arith, c.push_reserved.ensures.len, c.push_reserved.ensures.capacity, c.loop-lock.invariant.room, c.loop-lock-test.true);
    }
