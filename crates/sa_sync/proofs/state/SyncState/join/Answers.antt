use Rattle.std.proofs.Common.{◌≡◌, false, ap, sym, ◌∙◌, arith}
use Rattle.std.proofs.lemmas.List.{get_or_default}
use Rattle.sa_sync.specs.Calls.{goes, joined}
use Rattle.sa_sync.proofs.Steps.{waits-nowhere, join_waits, join_of_done, join_of_none}
use Rattle.sa_sync.proofs.state.SyncState.join.Goals as goal
use Rattle.sa_sync.proofs.state.SyncState.join.Goals.{else-other-made-via-then-other-made+else-not-index, else-other-made-via-else-other-made}

pub push_back-requires-clause-free : goal.push_back-requires-clause-free
push_back-requires-clause-free c =
    waits-nowhere c.self.inside c.args.self.now c.self.view_is c.self.invariant c.args.t.0 c.requires.free

pub returns-then-not-index-clause-state : goal.returns-then-not-index-clause-state
returns-then-not-index-clause-state c =
    ap (λ x. x.state) (join_waits c.self.inside c.args.self.now c.self.view_is c.self.invariant c.args.t c.args.other c.args.made _ c.requires.made
    c.if-other-made.true (get_or_default c.self.inside.done.items c.args.other false _ (omega (arith, c.self.invariant.done)) ∙ sym c.index.ensures
    ∙ c.if-not-index.true) c.push_back.ensures)

-- who need not wait goes on
goes_on : (c : goal.Joined-else-other-made) → goes c.args.self.now ≡ joined c.args.self.now c.args.t.0 c.args.other c.args.made
goes_on c =
    let s = c.self.inside in
    let v = c.args.self.now in elim c.else-other-made.branch [
      | else-other-made-via-then-other-made+else-not-index w ↦
          join_of_done s v c.self.view_is c.self.invariant c.args.t c.args.other c.args.made w.if-other-made.true
          (get_or_default s.done.items c.args.other false _ (omega (arith, c.self.invariant.done, w.if-other-made.true)) ∙ sym w.index.ensures ∙ w.if-not-index.false)
      | else-other-made-via-else-other-made w ↦ join_of_none s v c.self.view_is c.self.invariant c.args.t c.args.other c.args.made w.if-other-made.false
    ]

pub returns-else-other-made-clause-state : goal.returns-else-other-made-clause-state
returns-else-other-made-clause-state c = ap (λ x. x.state) (goes_on c)

pub returns-else-other-made-clause-answer : goal.returns-else-other-made-clause-answer
returns-else-other-made-clause-answer c = ap (λ x. x.answer) (goes_on c)
