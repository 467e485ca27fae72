use Rattle.std.proofs.Common.{refl, Some, ap, sym, ◌∙◌}
use Rattle.sa_laws.specs.Life.{has_lock, with_hand}
use Rattle.sa_laws.specs.Record.{with_life}
use Rattle.sa_check_lives.specs.Table.{lives_in, is_inside}
use Rattle.sa_check_lives.proofs.Among.{among-after, among-roused, roused-by-none}
use Rattle.sa_check_lives.proofs.table.Table.rouse.Goals as goal

pub invariant_of-self : goal.invariant_of-self
invariant_of-self c =
    let old = lives_in c.self.inside.lives in
    let new = lives_in c.rouse.new.self in
    let changed = with_life (with_hand c.args.threads.now) (Some c.in-Some.a) old in
    let holders = c.self.inside.holders.items in
    let insiders = c.self.inside.insiders.items in (
      among-after c.rouse.result has_lock holders old changed new c.rouse.ensures.ok c.rouse.ensures.err c.self.invariant.0
          (among-roused has_lock old c.args.threads.now c.in-Some.a holders (λ life. refl) c.self.invariant.0),
      among-after c.rouse.result is_inside insiders old changed new c.rouse.ensures.ok c.rouse.ensures.err c.self.invariant.1
          (among-roused is_inside old c.args.threads.now c.in-Some.a insiders (λ life. refl) c.self.invariant.1),
    )

pub returns-then-is_empty-clause-ok : goal.returns-then-is_empty-clause-ok
returns-then-is_empty-clause-ok c =
    let lives = lives_in c.args.self.now in
    roused-by-none lives c.in-Some.a c.args.threads.now (sym c.is_empty.ensures ∙ c.if-is_empty.true)
    ∙ ap (λ o. with_life (with_hand c.args.threads.now) o lives) (sym c.in-Some.is)
