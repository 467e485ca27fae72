use Rattle.std.proofs.Common.{◌+◌, ◌-◌, ap, sym, ◌∙◌, arith}
use Rattle.std.proofs.lemmas.List.{get_or_default}
use Rattle.sa_base.specs.declared.limits.TheConstants.{MAX_THREADS}
use Rattle.sa_sync.proofs.Steps.{semaphore_declared, waits-nowhere, wait_waits, wait_goes, more_than_none}
use Rattle.sa_sync.proofs.state.SyncState.wait.Goals as goal

pub index-count-requires : goal.index-count-requires
index-count-requires c =
    let h = semaphore_declared c.self.inside c.args.self.now c.self.view_is c.self.invariant c.args.k c.requires.declared in omega arith

pub push_back-requires-clause-list : goal.push_back-requires-clause-list
push_back-requires-clause-list c =
    let h = semaphore_declared c.self.inside c.args.self.now c.self.view_is c.self.invariant c.args.k c.requires.declared in omega arith

pub push_back-requires-clause-free : goal.push_back-requires-clause-free
push_back-requires-clause-free c =
    waits-nowhere c.self.inside c.args.self.now c.self.view_is c.self.invariant c.args.t.0 c.requires.free

pub index_mut-requires : goal.index_mut-requires
index_mut-requires c =
    let h = semaphore_declared c.self.inside c.args.self.now c.self.view_is c.self.invariant c.args.k c.requires.declared in omega arith

pub returns-then-count-eq0-clause-state : goal.returns-then-count-eq0-clause-state
returns-then-count-eq0-clause-state c =
    ap (λ x. x.state) (wait_waits c.self.inside c.args.self.now c.self.view_is c.self.invariant c.args.k _ c.args.t _ c.requires.declared
    (get_or_default c.self.inside.counts.items c.args.k 0 _
    (semaphore_declared c.self.inside c.args.self.now c.self.view_is c.self.invariant c.args.k c.requires.declared) ∙ sym c.index-count.ensures
    ∙ c.if-count-eq0.true) (c.semaphore_queue-queue.ensures
    ∙ ap (λ n. MAX_THREADS + n + c.args.k) (c.len.ensures ∙ c.self.inside.holders.ok.0)) c.push_back.ensures)

pub returns-then-count-eq0-clause-answer : goal.returns-then-count-eq0-clause-answer
returns-then-count-eq0-clause-answer c =
    ap (λ x. x.answer) (wait_waits c.self.inside c.args.self.now c.self.view_is c.self.invariant c.args.k _ c.args.t _ c.requires.declared
    (get_or_default c.self.inside.counts.items c.args.k 0 _
    (semaphore_declared c.self.inside c.args.self.now c.self.view_is c.self.invariant c.args.k c.requires.declared) ∙ sym c.index-count.ensures
    ∙ c.if-count-eq0.true) (c.semaphore_queue-queue.ensures
    ∙ ap (λ n. MAX_THREADS + n + c.args.k) (c.len.ensures ∙ c.self.inside.holders.ok.0)) c.push_back.ensures)

pub returns-else-count-eq0-clause-state : goal.returns-else-count-eq0-clause-state
returns-else-count-eq0-clause-state c =
    ap (λ x. x.state) (wait_goes c.self.inside c.args.self.now c.self.view_is c.self.invariant c.args.k
    (c.index-count.result.now - 1) c.args.t c.requires.declared
    (get_or_default c.self.inside.counts.items c.args.k 0 _
    (semaphore_declared c.self.inside c.args.self.now c.self.view_is c.self.invariant c.args.k c.requires.declared) ∙ sym c.index-count.ensures
    ∙ more_than_none c.index-count.result.now c.if-count-eq0.false))

pub returns-else-count-eq0-clause-answer : goal.returns-else-count-eq0-clause-answer
returns-else-count-eq0-clause-answer c =
    ap (λ x. x.answer) (wait_goes c.self.inside c.args.self.now c.self.view_is c.self.invariant c.args.k
    (c.index-count.result.now - 1) c.args.t c.requires.declared
    (get_or_default c.self.inside.counts.items c.args.k 0 _
    (semaphore_declared c.self.inside c.args.self.now c.self.view_is c.self.invariant c.args.k c.requires.declared) ∙ sym c.index-count.ensures
    ∙ more_than_none c.index-count.result.now c.if-count-eq0.false))
