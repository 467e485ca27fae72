use Rattle.std.proofs.Common.{◌+◌, ap, sym, ◌∙◌, arith}
use Rattle.std.proofs.lemmas.List.{get_or_default}
use Rattle.sa_base.specs.declared.limits.TheConstants.{MAX_THREADS}
use Rattle.sa_sync.proofs.Steps.{semaphore_declared, semaphore_read, signal_goes, signal_wakes}
use Rattle.sa_sync.proofs.state.SyncState.signal.Goals as goal

pub pop_front-requires : goal.pop_front-requires
pop_front-requires c =
    let h = semaphore_declared c.self.inside c.args.self.now c.self.view_is c.self.invariant c.args.k c.requires.declared in omega arith

pub index_mut-requires : goal.index_mut-requires
index_mut-requires c =
    let h = semaphore_declared c.self.inside c.args.self.now c.self.view_is c.self.invariant c.args.k c.requires.declared in omega arith

pub overflow_add-index_mut : goal.overflow_add-index_mut
overflow_add-index_mut c =
    let count = (get_or_default c.self.inside.counts.items c.args.k 0 _
    (semaphore_declared c.self.inside c.args.self.now c.self.view_is c.self.invariant c.args.k c.requires.declared) ∙ sym c.index_mut.ensures.value) in
    let same = ap (λ x. x.count) (semaphore_read c.self.inside c.args.self.now c.self.view_is c.self.invariant c.args.k c.requires.declared) in
    omega (arith, count, same, c.requires.count)

pub returns-in-None-clause-state : goal.returns-in-None-clause-state
returns-in-None-clause-state c =
    ap (λ x. x.state) (signal_goes c.self.inside c.args.self.now c.self.view_is c.self.invariant c.args.k _ _ _ c.requires.declared
    (get_or_default c.self.inside.counts.items c.args.k 0 _
    (semaphore_declared c.self.inside c.args.self.now c.self.view_is c.self.invariant c.args.k c.requires.declared) ∙ sym c.index_mut.ensures.value)
    (c.semaphore_queue-queue.ensures ∙ ap (λ n. MAX_THREADS + n + c.args.k) (c.len.ensures ∙ c.self.inside.holders.ok.0))
    (sym c.in-None.is ∙ c.pop_front.ensures.first) c.pop_front.ensures.lists)

pub returns-in-None-clause-answer : goal.returns-in-None-clause-answer
returns-in-None-clause-answer c =
    ap (λ x. x.answer) (signal_goes c.self.inside c.args.self.now c.self.view_is c.self.invariant c.args.k _ _ _ c.requires.declared
    (get_or_default c.self.inside.counts.items c.args.k 0 _
    (semaphore_declared c.self.inside c.args.self.now c.self.view_is c.self.invariant c.args.k c.requires.declared) ∙ sym c.index_mut.ensures.value)
    (c.semaphore_queue-queue.ensures ∙ ap (λ n. MAX_THREADS + n + c.args.k) (c.len.ensures ∙ c.self.inside.holders.ok.0))
    (sym c.in-None.is ∙ c.pop_front.ensures.first) c.pop_front.ensures.lists)

pub returns-in-Some-clause-state : goal.returns-in-Some-clause-state
returns-in-Some-clause-state c =
    ap (λ x. x.state) (signal_wakes c.self.inside c.args.self.now c.self.view_is c.self.invariant c.args.k _ c.in-Some.first _ c.requires.declared
    (c.semaphore_queue-queue.ensures ∙ ap (λ n. MAX_THREADS + n + c.args.k) (c.len.ensures ∙ c.self.inside.holders.ok.0))
    (sym c.in-Some.is ∙ c.pop_front.ensures.first) c.pop_front.ensures.lists)

pub returns-in-Some-clause-answer : goal.returns-in-Some-clause-answer
returns-in-Some-clause-answer c =
    ap (λ x. x.answer) (signal_wakes c.self.inside c.args.self.now c.self.view_is c.self.invariant c.args.k _ c.in-Some.first _ c.requires.declared
    (c.semaphore_queue-queue.ensures ∙ ap (λ n. MAX_THREADS + n + c.args.k) (c.len.ensures ∙ c.self.inside.holders.ok.0))
    (sym c.in-Some.is ∙ c.pop_front.ensures.first) c.pop_front.ensures.lists)
