use Rattle.std.proofs.Common.{◌≡◌, sym, ◌∙◌, ap, arith}
use Rattle.atomic_table.specs.Seated.{TableId}
use Rattle.sa_lines.specs.Seen.{PollerSeen}
use Rattle.sa_lines.proofs.Steps.{poll_allows}
use Rattle.sa_lines.proofs.poller.Poller.poll.Goals as goal

pub load-requires : goal.load-requires
load-requires c =
    let inside = c.self.inside in
    let seat = inside.seat in
    let table = c.words.inside.table.shared.table_id in
    let own : seat.table_id ≡ table = ap (λ (q : PollerSeen). q.table) c.self.view_is ∙ c.requires ∙ sym c.words.view_is in
    let words = ap (λ (t : TableId). t.words) own in
    let room = c.self.invariant.2 in
    let place = c.line_word.ensures in (
      own,
      omega (arith, room, place, words),
      poll_allows table.slots seat.id seat.me.1 seat.me.0 inside.proc.0 c.line_word.result place c.self.invariant.0,
    )
