use Rattle.std.proofs.Common.{slice_set, ap, ◌∙◌, arith}
use Rattle.sa_base.specs.declared.number.ProcNo.{ProcNo}
use Rattle.sa_lines.specs.declared.credit.Account.{Account}
use Rattle.sa_lines.specs.Seen.{PollerSeen, with_poller}
use Rattle.sa_seat.proofs.Closings.{join-next}
use Rattle.sa_seat.proofs.machine.join_all.Goals as goal

pub loop-seat-preserved : goal.loop-seat-preserved
loop-seat-preserved g c =
    let old = c.loop-seat in
    let s = c.in-Some.seat in
    let same = c.into_poller-poller.ensures.poller in
    let proc = c.proc.ensures.proc ∙ ap (λ (q : PollerSeen). q.proc) same in
    let account = c.account.ensures ∙ ap (λ (q : PollerSeen). q.account) same in
    let size = c.requires.seats.0 in
    let lanes = c.requires.lanes in
    let few = c.requires.processors in
    join-next c.args.seats.items old.seats.items c.pop.new.self.items s c.args.keeper.now old.keeper c.join.new.self old.turns
    (slice_set old.turns c.proc.result.0 c.account.result.count) 16
    old.invariant c.in-Some.ensures.items (omega (arith, size, lanes)) (omega (arith, size, few)) c.requires.seats.1
    (c.join.ensures ∙ ap (λ (q : PollerSeen). with_poller q old.keeper) same)
    (ap (λ (q : ProcNo). slice_set old.turns q.0 c.account.result.count) proc ∙ ap (λ (a : Account). slice_set old.turns s.poller.proc.0 a.count) account)
