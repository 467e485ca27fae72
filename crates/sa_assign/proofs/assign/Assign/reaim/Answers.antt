use Rattle.std.proofs.Common.{◌≤◌, sum, ◌≡◌, ℕ, List, suc, ◌+◌, ◌-◌, ◌<◌, length, sym, ap, ◌∙◌, arith}
use Rattle.std.proofs.lemmas.List.Sums.{sum_by_more, sum_by_more_le, sum_by-take-le}
use Rattle.sa_base.specs.declared.record.Item.{Item}
use Rattle.sa_assign.specs.AssignView.{AssignView}
use Rattle.sa_share.specs.Rounds.{shares_of}
use Rattle.sa_share.proofs.RoundLemmas.{shares_of-share}
use Rattle.sa_assign.specs.Reaim.{reaimed}
use Rattle.sa_assign.proofs.AimLemmas.{met-reaimed}
use Rattle.sa_assign.proofs.ReaimLemmas.{filled_from, filled_from-suc}
use Rattle.sa_assign.proofs.CountLemmas.{nothing-due}
use Rattle.sa_assign.proofs.assign.Assign.reaim.Goals as goal

pub returns-then-have_shares-clause-assign : goal.returns-then-have_shares-clause-assign
returns-then-have_shares-clause-assign c =
    let claims = c.args.claims.now in
    (nothing-due c.args.item.event c.args.item.proc (length claims) c.shares-shares.result _ c.deref.result.now c.args.self.now c.args.trace.now.items
    (c.shares-shares.ensures.function ∙ ap (λ (n : ℕ). shares_of n c.args.first claims) c.processors.ensures.owners)
    (c.deref.ensures.0 ∙ ap (λ (a : AssignView). a.aims) c.self.view_is) (c.have_shares.ensures.0 c.if-have_shares.true)).0

pub returns-then-have_shares-clause-items : goal.returns-then-have_shares-clause-items
returns-then-have_shares-clause-items c =
    let claims = c.args.claims.now in
    (nothing-due c.args.item.event c.args.item.proc (length claims) c.shares-shares.result _ c.deref.result.now c.args.self.now c.args.trace.now.items
    (c.shares-shares.ensures.function ∙ ap (λ (n : ℕ). shares_of n c.args.first claims) c.processors.ensures.owners)
    (c.deref.ensures.0 ∙ ap (λ (a : AssignView). a.aims) c.self.view_is) (c.have_shares.ensures.0 c.if-have_shares.true)).1

pub fill-requires-clause-room : goal.fill-requires-clause-room
fill-requires-clause-room c =
    let shares = c.shares-shares.result in
    let within : c.loop-s.s < length shares = omega arith in
    let total = c.shares-shares.ensures.shares.total in
    let part = sum_by_more_le (λ (x : ℕ). x) shares c.loop-s.s 0 within in
    omega arith

pub loop-s-preserved : goal.loop-s-preserved
loop-s-preserved c =
    let event = c.args.item.event in
    let proc = c.args.item.proc in
    let shares = c.shares-shares.result in
    let s = c.loop-s.s in
    let before : AssignView × List Item = (c.loop-s.self, c.loop-s.trace.items) in
    let left = length c.args.claims.now - (s + 1) in
    let one_less : suc left ≡ length c.args.claims.now - s = omega arith in
    let within : s < length shares = omega arith in
    let more = sum_by_more (λ (x : ℕ). x) shares s 0 within in
    record {
      carried = ap (filled_from event proc (s + 1) left shares) c.fill.ensures.carried
          ∙ sym (filled_from-suc event proc s left shares before)
          ∙ ap (λ (n : ℕ). filled_from event proc s n shares before) one_less
          ∙ c.loop-s.invariant.carried;
      cost = omega arith;
      spare = omega arith;
    }

-- the assignment when all spaces were served
pub returns-clause-assign : goal.returns-clause-assign
returns-clause-assign c =
    let event = c.args.item.event in
    let proc = c.args.item.proc in
    let shares = c.shares-shares.result in
    let s = c.loop-s.s in
    let old = c.args.self.now in
    let claims = c.args.claims.now in
    let last : AssignView × List Item = (c.loop-s.self, c.loop-s.trace.items) in
    let none_left : 0 ≡ length claims - s = omega arith in
    let all : last.0 ≡ reaimed event (length claims) shares old = ap (λ (x : AssignView × List Item). x.0)
    (ap (λ (n : ℕ). filled_from event proc s n shares last) none_left ∙ c.loop-s.invariant.carried) in
    let which : shares ≡ shares_of (length old.owners) c.args.first claims =
    c.shares-shares.ensures.function ∙ ap (λ (n : ℕ). shares_of n c.args.first claims) c.processors.ensures.owners in
    all ∙ ap (λ (xs : List ℕ). reaimed event (length claims) xs old) which

pub returns-clause-met : goal.returns-clause-met
returns-clause-met c =
    let old = c.args.self.now in
    let claims = c.args.claims.now in
    let shares = shares_of (length old.owners) c.args.first claims in
    let given = shares_of-share (length old.owners) c.args.first claims c.requires.spaces c.requires.first in
    let total = given.total in
    let fits : sum shares ≤ length old.aims = omega arith in
    met-reaimed c.args.item.event (length claims) shares old c.loop-s.self fits (returns-clause-assign c)

pub returns-clause-cost : goal.returns-clause-cost
returns-clause-cost c =
    let shares = c.shares-shares.result in
    let total = c.shares-shares.ensures.shares.total in
    let part = sum_by-take-le (λ (x : ℕ). x) shares c.loop-s.s in
    omega arith
