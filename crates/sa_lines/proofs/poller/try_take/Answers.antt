use Rattle.std.proofs.Common.{sym, ◌∙◌, ap, arith}
use Rattle.atomic_table.specs.Seated.{TableId}
use Rattle.sa_lines.proofs.Steps.{take_allows}
use Rattle.sa_lines.proofs.poller.try_take.Goals as goal

pub compare_exchange-requires : goal.compare_exchange-requires
compare_exchange-requires c =
    let seat = c.args.seat.now in
    let table = c.words.inside.table.shared.table_id in
    let words = ap (λ (t : TableId). t.words) c.words.view_is in
    let room = c.requires.word in
    let place = c.credit_word.ensures in (
      c.requires.own ∙ sym c.words.view_is,
      omega (arith, room, place, words),
      take_allows table.slots seat.id seat.me.1 seat.me.0 c.args.p.0 c.args.number c.credit_word.result place c.requires.poller c.requires.some,
    )
