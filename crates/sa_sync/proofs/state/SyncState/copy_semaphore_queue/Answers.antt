use Rattle.std.proofs.Common.{◌≡◌, ◌+◌, ◌++◌, length, ap, sym, arith, ◌∙◌}
use Rattle.std.proofs.lemmas.Result.{on_ok_weaker}
use Rattle.sa_base.specs.declared.limits.TheConstants.{MAX_THREADS}
use Rattle.sa_links.specs.Lists.{list_at}
use Rattle.sa_sync.proofs.Steps.{semaphore_declared, semaphore_read}
use Rattle.sa_sync.proofs.state.SyncState.copy_semaphore_queue.Goals as goal

pub copy_list-requires : goal.copy_list-requires
copy_list-requires c =
    let h = semaphore_declared c.self.inside c.args.self.now c.self.view_is c.self.invariant c.args.k c.requires in
    let all = c.self.invariant.queues in
    omega arith

pub returns : goal.returns
returns c =
    let queue = ap (λ x. x.queue) (semaphore_read c.self.inside c.args.self.now c.self.view_is c.self.invariant c.args.k c.requires) in
    let at : c.semaphore_queue-queue.result ≡ MAX_THREADS + length c.self.inside.holders.items + c.args.k = omega arith in
    let there = ap (list_at c.self.inside.queues.lists) at in
    on_ok_weaker c.copy_list.result (λ e. e ∙ ap (λ z. c.args.out.now.items ++ z) (there ∙ sym queue)) c.copy_list.ensures
