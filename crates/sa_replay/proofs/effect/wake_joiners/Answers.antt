use Rattle.std.proofs.Common.{◌≡◌, ◌<◌, [], ◌∷◌, ◌++◌, length, drop, Some, refl, sym, ap, ◌∙◌, append_assoc, length-append, arith}
use Rattle.std.proofs.lemmas.List.{length-set}
use Rattle.sa_sync.specs.Sync.{Sync, joiners_at, with_joiners}
use Rattle.sa_sync.specs.Calls.{first_joiner, without_joiner}
use Rattle.sa_replay.specs.Space.{named}
use Rattle.sa_replay.proofs.JoinerLemmas.{few_joiners, queue, rest_joins}
use Rattle.sa_sync.proofs.LawLemmas.{joiners_twice}
use Rattle.sa_replay.proofs.effect.wake_joiners.Goals as goal

pub loop-u-init : goal.loop-u-init
loop-u-init c = record {
  capacity = refl;
  room = omega (arith, few_joiners c.args.sync.now c.args.t.0 c.waits_once.ensures, ap length c.requires.room.empty, c.requires.room.room);
  threads = c.requires.joiners;
  rest = ap (λ xs. xs ++ named (joiners_at c.args.sync.now c.args.t.0)) c.requires.room.empty;
  same = refl;
}

pub loop-u-preserved : goal.loop-u-preserved
loop-u-preserved c =
    let s = c.loop-u.sync in let inv = c.loop-u.invariant in
    let t = c.args.t.0 in let u = c.in-Some.u in
    let new = c.next_joiner.new.self in
    let state : new ≡ without_joiner s t = c.next_joiner.ensures.state in
    let first : first_joiner s t ≡ Some u.0 = sym c.in-Some.ensures.first in
    let inside : t < length s.joiners = omega (arith, inv.threads, c.requires.thread) in
    let left : joiners_at new t ≡ drop 1 (joiners_at s t) = ap (λ (x : Sync). joiners_at x t) state ∙ rest_joins s t inside in
    let all : joiners_at s t ≡ u.0 ∷ drop 1 (joiners_at s t) = queue s t u.0 first in
    record {
      capacity = c.push_reserved.ensures.capacity ∙ inv.capacity;
      room =
          omega (
            arith,
            inv.room,
            ap length left,
            ap length all,
            ap length c.push_reserved.ensures.items,
            length-append c.loop-u.roused.items (u ∷ []),
            c.push_reserved.ensures.capacity,
          );
      threads = ap (λ (x : Sync). length x.joiners) state ∙ length-set s.joiners t (drop 1 (joiners_at s t)) ∙ inv.threads;
      rest =
          ap (λ xs. xs ++ named (joiners_at new t)) c.push_reserved.ensures.items
          ∙ ap (λ q. (c.loop-u.roused.items ++ u ∷ []) ++ named q) left
          ∙ append_assoc c.loop-u.roused.items (u ∷ []) (named (drop 1 (joiners_at s t)))
          ∙ ap (λ q. c.loop-u.roused.items ++ named q) (sym all)
          ∙ inv.rest;
      same = ap (λ (x : Sync). with_joiners x t []) state ∙ joiners_twice s t (drop 1 (joiners_at s t)) [] ∙ inv.same;
    }
