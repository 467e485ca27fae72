use Rattle.std.proofs.Common.{rules, ◌≡◌, ◌<◌, true, sym, ap, subst, arith}
use Rattle.sa_base.specs.declared.limits.TheConstants.{MAX_BURST}
use Rattle.sa_lines.specs.Seen.{PollerSeen}
use Rattle.sa_seat.specs.Seat.{SeatView, IsCode}
use Rattle.sa_seat.proofs.Bursts.{advanced, seat-stepped}
use Rattle.sa_seat.proofs.seat.Seat.go_on.Goals as goal

pub invariant_of-self-2 : goal.invariant_of-self-2
invariant_of-self-2 g c =
    let yes : c.advance.result ≡ true = search rules in
    let w = g.K.Named.workload in
    let s : SeatView = record { poller = c.self.inside.poller; start = c.self.inside.start; copy = c.self.inside.copy; pending = c.self.inside.pending } in
    let code = subst (λ (v : SeatView). IsCode w c.args.code.now v.copy) (sym c.self.view_is) c.requires.code in
    let few : c.self.inside.pending < MAX_BURST = (let e = ap (λ (v : SeatView). v.pending) c.self.view_is in let r = c.requires.few in omega (arith, e, r)) in
    seat-stepped w g.K.Named.table s c.advance.new.state c.poll.new.self c.self.invariant
    (advanced w c.self.inside.copy c.advance.new.state c.args.code.now c.advance.result c.self.invariant.place code c.advance.ensures yes) few
    (ap (λ (q : PollerSeen). q.table) c.poll.ensures) (ap (λ (q : PollerSeen). q.proc) c.poll.ensures)
