use Rattle.std.proofs.Common.{ap, sym, ◌∙◌, arith}
use Rattle.sa_sync.proofs.Steps.{mutex_declared, unlock_nothing, unlock_frees, unlock_wakes}
use Rattle.sa_sync.proofs.state.SyncState.unlock.Goals as goal

pub index-requires : goal.index-requires
index-requires c =
    let h = mutex_declared c.self.inside c.args.self.now c.self.view_is c.self.invariant c.args.m c.requires in omega arith

pub returns-then-not-is_held_by-clause-state : goal.returns-then-not-is_held_by-clause-state
returns-then-not-is_held_by-clause-state c =
    ap (λ x. x.state) (unlock_nothing c.self.inside c.args.self.now c.self.view_is c.self.invariant c.args.m c.args.t _ c.requires c.index.ensures
    (sym c.if-not-is_held_by.true ∙ c.is_held_by.ensures))

pub returns-then-not-is_held_by-clause-answer : goal.returns-then-not-is_held_by-clause-answer
returns-then-not-is_held_by-clause-answer c =
    ap (λ x. x.answer) (unlock_nothing c.self.inside c.args.self.now c.self.view_is c.self.invariant c.args.m c.args.t _ c.requires c.index.ensures
    (sym c.if-not-is_held_by.true ∙ c.is_held_by.ensures))

pub pop_front-requires : goal.pop_front-requires
pop_front-requires c =
    let h = mutex_declared c.self.inside c.args.self.now c.self.view_is c.self.invariant c.args.m c.requires in omega arith

pub index_mut-requires : goal.index_mut-requires
index_mut-requires c =
    let h = mutex_declared c.self.inside c.args.self.now c.self.view_is c.self.invariant c.args.m c.requires in omega arith

pub index_mut-requires-in-Some : goal.index_mut-requires-in-Some
index_mut-requires-in-Some c =
    let h = mutex_declared c.self.inside c.args.self.now c.self.view_is c.self.invariant c.args.m c.requires in omega arith

pub returns-in-None-clause-state : goal.returns-in-None-clause-state
returns-in-None-clause-state c =
    ap (λ x. x.state) (unlock_frees c.self.inside c.args.self.now c.self.view_is c.self.invariant c.args.m _ c.args.t _ _ c.requires c.index.ensures
    (sym c.if-not-is_held_by.false ∙ c.is_held_by.ensures) c.mutex_queue.ensures (sym c.in-None.is ∙ c.pop_front.ensures.first) c.pop_front.ensures.lists)

pub returns-in-None-clause-answer : goal.returns-in-None-clause-answer
returns-in-None-clause-answer c =
    ap (λ x. x.answer) (unlock_frees c.self.inside c.args.self.now c.self.view_is c.self.invariant c.args.m _ c.args.t _ _ c.requires c.index.ensures
    (sym c.if-not-is_held_by.false ∙ c.is_held_by.ensures) c.mutex_queue.ensures (sym c.in-None.is ∙ c.pop_front.ensures.first) c.pop_front.ensures.lists)

pub returns-in-Some-clause-state : goal.returns-in-Some-clause-state
returns-in-Some-clause-state c =
    ap (λ x. x.state) (unlock_wakes c.self.inside c.args.self.now c.self.view_is c.self.invariant c.args.m _ c.args.t _ c.in-Some.next _ c.requires
    c.index.ensures (sym c.if-not-is_held_by.false ∙ c.is_held_by.ensures) c.mutex_queue.ensures
    (sym c.in-Some.is ∙ c.pop_front.ensures.first) c.pop_front.ensures.lists)

pub returns-in-Some-clause-answer : goal.returns-in-Some-clause-answer
returns-in-Some-clause-answer c =
    ap (λ x. x.answer) (unlock_wakes c.self.inside c.args.self.now c.self.view_is c.self.invariant c.args.m _ c.args.t _ c.in-Some.next _ c.requires
    c.index.ensures (sym c.if-not-is_held_by.false ∙ c.is_held_by.ensures) c.mutex_queue.ensures
    (sym c.in-Some.is ∙ c.pop_front.ensures.first) c.pop_front.ensures.lists)
