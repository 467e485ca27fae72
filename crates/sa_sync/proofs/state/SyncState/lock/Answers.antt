use Rattle.std.proofs.Common.{ap, arith}
use Rattle.sa_sync.proofs.Steps.{waits-nowhere}
use Rattle.sa_sync.proofs.Steps.{mutex_declared, lock_goes, lock_waits}
use Rattle.sa_sync.proofs.state.SyncState.lock.Goals as goal

pub index-requires : goal.index-requires
index-requires c = let h = mutex_declared c.self.inside c.args.self.now c.self.view_is c.self.invariant c.args.m c.requires.declared in omega arith

pub index_mut-requires : goal.index_mut-requires
index_mut-requires c = let h = mutex_declared c.self.inside c.args.self.now c.self.view_is c.self.invariant c.args.m c.requires.declared in omega arith

pub push_back-requires-clause-list : goal.push_back-requires-clause-list
push_back-requires-clause-list c =
    let h = mutex_declared c.self.inside c.args.self.now c.self.view_is c.self.invariant c.args.m c.requires.declared in omega arith

pub push_back-requires-clause-free : goal.push_back-requires-clause-free
push_back-requires-clause-free c = waits-nowhere c.self.inside c.args.self.now c.self.view_is c.self.invariant c.args.t.0 c.requires.free

pub returns-in-None-clause-state : goal.returns-in-None-clause-state
returns-in-None-clause-state c =
    ap (λ x. x.state) (lock_goes c.self.inside c.args.self.now c.self.view_is c.self.invariant c.args.m c.args.t _ c.requires.declared c.index.ensures
    c.in-None.is)

pub returns-in-None-clause-answer : goal.returns-in-None-clause-answer
returns-in-None-clause-answer c =
    ap (λ x. x.answer) (lock_goes c.self.inside c.args.self.now c.self.view_is c.self.invariant c.args.m c.args.t _ c.requires.declared c.index.ensures
    c.in-None.is)

pub returns-in-Some-clause-state : goal.returns-in-Some-clause-state
returns-in-Some-clause-state c =
    ap (λ x. x.state) (lock_waits c.self.inside c.args.self.now c.self.view_is c.self.invariant c.args.m _ c.args.t _ c.in-Some.field-0 _ c.requires.declared
    c.index.ensures c.in-Some.is c.mutex_queue.ensures c.push_back.ensures)

pub returns-in-Some-clause-answer : goal.returns-in-Some-clause-answer
returns-in-Some-clause-answer c =
    ap (λ x. x.answer) (lock_waits c.self.inside c.args.self.now c.self.view_is c.self.invariant c.args.m _ c.args.t _ c.in-Some.field-0 _ c.requires.declared
    c.index.ensures c.in-Some.is c.mutex_queue.ensures c.push_back.ensures)
