use Rattle.std.proofs.Common.{◌≡◌, ◌<◌, ℕ, length, set, sym, ap, subst, ◌∙◌, arith, rules}
use Rattle.std.proofs.lemmas.List.Sums.{count_by-le-length}
use Rattle.sa_laws.specs.State.{Thread, is_active}
use Rattle.sa_replay.specs.Counts.{is_ready, is_live, is_restless, IsCounted}
use Rattle.sa_replay.proofs.CountChanges.{count-some, counted-set, counted-same}
use Rattle.sa_replay.proofs.table.Threads.set.Goals as goal

pub moved-self-inside-requires-clause-some : goal.moved-self-inside-requires-clause-some
moved-self-inside-requires-clause-some c =
    let within : c.from.result < length c.self.inside.threads.items = omega (arith, c.from.ensures, ap length c.self.view_is) in
    rw (c.is_active.ensures, c.place-old.ensures)
    (count-some (λ (thread : Thread). is_active thread.place) c.self.inside.threads.items c.from.result c.index.result.now within c.index.ensures
    c.self.inside.active c.self.invariant.0.actives)

pub moved-self-inside-requires-clause-few : goal.moved-self-inside-requires-clause-few
moved-self-inside-requires-clause-few c =
    omega (arith, count_by-le-length (λ (thread : Thread). is_active thread.place) c.self.inside.threads.items, c.self.invariant.0.actives, c.self.invariant.0.few)

pub moved-self-inside-requires-2-clause-some : goal.moved-self-inside-requires-2-clause-some
moved-self-inside-requires-2-clause-some c =
    let within : c.from.result < length c.self.inside.threads.items = omega (arith, c.from.ensures, ap length c.self.view_is) in
    rw (c.is_ready.ensures, c.place-old.ensures)
    (count-some (λ (thread : Thread). is_ready thread.place) c.self.inside.threads.items c.from.result c.index.result.now within c.index.ensures
    c.self.inside.ready c.self.invariant.0.readies)

pub moved-self-inside-requires-2-clause-few : goal.moved-self-inside-requires-2-clause-few
moved-self-inside-requires-2-clause-few c =
    omega (arith, count_by-le-length (λ (thread : Thread). is_ready thread.place) c.self.inside.threads.items, c.self.invariant.0.readies, c.self.invariant.0.few)

pub moved-self-inside-requires-3-clause-some : goal.moved-self-inside-requires-3-clause-some
moved-self-inside-requires-3-clause-some c =
    let within : c.from.result < length c.self.inside.threads.items = omega (arith, c.from.ensures, ap length c.self.view_is) in
    rw (c.is_live.ensures, c.place-old.ensures)
    (count-some (λ (thread : Thread). is_live thread.place) c.self.inside.threads.items c.from.result c.index.result.now within c.index.ensures
    c.self.inside.live c.self.invariant.0.lives)

pub moved-self-inside-requires-3-clause-few : goal.moved-self-inside-requires-3-clause-few
moved-self-inside-requires-3-clause-few c =
    omega (arith, count_by-le-length (λ (thread : Thread). is_live thread.place) c.self.inside.threads.items, c.self.invariant.0.lives, c.self.invariant.0.few)

pub moved-self-inside-requires-4-clause-some : goal.moved-self-inside-requires-4-clause-some
moved-self-inside-requires-4-clause-some c =
    let within : c.from.result < length c.self.inside.threads.items = omega (arith, c.from.ensures, ap length c.self.view_is) in
    rw (c.is_restless.ensures, c.place-old.ensures)
    (count-some (λ (thread : Thread). is_restless thread.place) c.self.inside.threads.items c.from.result c.index.result.now within c.index.ensures
    c.self.inside.restless c.self.invariant.0.restless_ones)

pub moved-self-inside-requires-4-clause-few : goal.moved-self-inside-requires-4-clause-few
moved-self-inside-requires-4-clause-few c =
    omega (arith, count_by-le-length (λ (thread : Thread). is_restless thread.place) c.self.inside.threads.items, c.self.invariant.0.restless_ones, c.self.invariant.0.few)

pub invariant_of-self : goal.invariant_of-self
invariant_of-self c =
    let i = c.self.inside in
    let within : c.from.result < length i.threads.items = omega (arith, c.from.ensures, ap length c.self.view_is) in
    let same : c.place-new.result ≡ c.place-old.result = search rules in (
      subst (λ (k : ℕ). IsCounted (set i.threads.items k c.args.thread.now) i.active i.ready i.live i.restless)
          (c.from.ensures ∙ sym c.from-then-eq.ensures)
          (counted-same i.threads.items c.from.result c.index.result.now within c.index.ensures i.active i.ready i.live i.restless c.self.invariant.0
          c.args.thread.now (sym c.place-old.ensures ∙ sym same ∙ c.place-new.ensures)),
      c.self.invariant.1,
    )

pub invariant_of-self-2 : goal.invariant_of-self-2
invariant_of-self-2 c =
    let i = c.self.inside in
    let within : c.from.result < length i.threads.items = omega (arith, c.from.ensures, ap length c.self.view_is) in
    let actives = rw (c.is_active.ensures, c.place-old.ensures, c.is_active-2.ensures, c.place-new.ensures) at c.moved-self-inside.ensures in
    let readies = rw (c.is_ready.ensures, c.place-old.ensures, c.is_ready-2.ensures, c.place-new.ensures) at c.moved-self-inside-2.ensures in
    let lives = rw (c.is_live.ensures, c.place-old.ensures, c.is_live-2.ensures, c.place-new.ensures) at c.moved-self-inside-3.ensures in
    let others = rw (c.is_restless.ensures, c.place-old.ensures, c.is_restless-2.ensures, c.place-new.ensures) at c.moved-self-inside-4.ensures in
    let set_there =
    counted-set i.threads.items c.from.result c.index.result.now within c.index.ensures i.active i.ready i.live i.restless c.self.invariant.0 c.args.thread.now
    c.moved-self-inside.result c.moved-self-inside-2.result c.moved-self-inside-3.result c.moved-self-inside-4.result actives readies lives others in (
      subst (λ (k : ℕ). IsCounted (set i.threads.items k c.args.thread.now) c.moved-self-inside.result c.moved-self-inside-2.result
          c.moved-self-inside-3.result c.moved-self-inside-4.result) (c.from.ensures ∙ sym c.from-2.ensures) set_there,
      c.self.invariant.1,
    )
