use Rattle.std.proofs.Common.{◌≡◌, sym, ap, ◌∙◌, subst, arith, length, drop, Some, ◌<◌, []}
use Rattle.std.proofs.lemmas.List.{length-set}
use Rattle.sa_links.specs.Lists.{count_in_all}
use Rattle.sa_sync.specs.Sync.{Sync, joiners_at, with_joiners, Waits}
use Rattle.sa_sync.specs.Calls.{first_joiner, without_joiner}
use Rattle.sa_fast.specs.Work.{with_name, added, added_all}
use Rattle.sa_fast.proofs.WakeLemmas.{first_waits, still_waits, rest_joins, queue}
use Rattle.sa_sync.proofs.LawLemmas.{joiners_twice}
use Rattle.sa_fast.proofs.instruction.wake_joiners.Goals as goal

pub add-requires-clause-thread : goal.add-requires-clause-thread
add-requires-clause-thread c =
    let s = c.loop-u.sync in let inv = c.loop-u.invariant in
    let inside : c.args.t.0 < length s.joiners = omega (arith, inv.threads, c.requires.thread) in
    inv.once.threads c.in-Some.u.0 (first_waits s c.args.t.0 c.in-Some.u.0 inside (sym c.in-Some.ensures.first))

pub loop-u-preserved : goal.loop-u-preserved
loop-u-preserved c =
    let s = c.loop-u.sync in let inv = c.loop-u.invariant in
    let t = c.args.t.0 in let u = c.in-Some.u in
    let new = c.next_joiner.new.self in
    let state : new ≡ without_joiner s t = c.next_joiner.ensures.state in
    let first : first_joiner s t ≡ Some u.0 = sym c.in-Some.ensures.first in
    let inside : t < length s.joiners = omega (arith, inv.threads, c.requires.thread) in
    record {
      once = c.waits_once-in-Some.ensures;
      threads = ap (λ (x : Sync). length x.joiners) state ∙ length-set s.joiners t (drop 1 (joiners_at s t)) ∙ inv.threads;
      named = c.add.ensures.named;
      waiting = λ v waits.
          let still = still_waits s t u.0 inside first inv.once v (subst (λ (x : Sync). Waits x v) state waits) in
          let before = inv.waiting v still.0 in let counts = c.add.ensures.counts v in let other = still.1 in
          let h : count_in_all v c.add.new.self ≡ 0 = omega arith in h;
      rest =
          ap (λ w. added_all w (joiners_at new t)) c.add.ensures.work
          ∙ ap (added_all (added (with_name c.loop-u.works c.loop-u.work) u)) (ap (λ (x : Sync). joiners_at x t) state ∙ rest_joins s t u.0 inside first)
          ∙ ap (added_all (with_name c.loop-u.works c.loop-u.work)) (sym (queue s t u.0 inside first))
          ∙ inv.rest;
      same = ap (λ (x : Sync). with_joiners x t []) state ∙ joiners_twice s t (drop 1 (joiners_at s t)) [] ∙ inv.same;
    }
