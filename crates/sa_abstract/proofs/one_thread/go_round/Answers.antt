use Rattle.std.proofs.Common.{◌≡◌, ◌+◌, ◌-◌, ◌++◌, length, replicate, ap, ◌∙◌, arith}
use Rattle.std.proofs.lemmas.List.{length_push}
use Rattle.sa_base.specs.Items.{items_from}
use Rattle.sa_abstract.specs.OneThread.{round_in}
use Rattle.sa_abstract.proofs.Rounds.{items-more}
use Rattle.sa_abstract.proofs.one_thread.go_round.Goals as goal

pub loop-done-preserved : goal.loop-done-preserved
loop-done-preserved c =
    let a = c.args in let inv = c.loop-done.invariant in let r = round_in a.space in
    let done = c.loop-done.done in let next = a.seen.now.event + (done + 1) in
    let here : next ≡ a.seen.now.event + c.from.result + 1 = omega (arith, c.from.ensures) in
    let longer : length c.say.new.self.items ≡ length c.loop-done.trace.items + 1 = ap length c.say.ensures.items ∙ length_push c.loop-done.trace.items _ in
    record {
      spare = omega (arith, longer, c.say.ensures.room.same, inv.spare);
      items =
          ap (λ xs. xs ++ items_from next a.seen.now.proc (replicate (a.n - (done + 1)) r)) c.say.ensures.items
          ∙ items-more c.round.result r a.seen.now.proc a.n done
          (a.seen.now.event + c.from.result) next c.loop-done.trace.items c.round.ensures c.loop-done-test.true here
          ∙ ap (λ k. c.loop-done.trace.items ++ items_from (a.seen.now.event + k) a.seen.now.proc (replicate (a.n - done) r)) c.from.ensures
          ∙ inv.items;
    }
