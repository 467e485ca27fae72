use Rattle.std.proofs.Common.{◌≡◌, ◌<◌, length, sym, ◌∙◌, ap, arith}
use Rattle.atomic_table.specs.Seated.{TableId}
use Rattle.sa_lines.specs.Words.{lanes_of}
use Rattle.sa_lines.specs.Seen.{KeeperSeen}
use Rattle.sa_lines.proofs.Ends.{joins}
use Rattle.sa_lines.proofs.keeper.Keeper.join.Goals as goal

pub join_seat-requires : goal.join_seat-requires
join_seat-requires c =
    let me = c.self.inside.seat in
    let other = c.into_seat.result in
    let table = c.words.inside.table.shared.table_id in
    let own : me.table_id ≡ table = ap (λ (k : KeeperSeen). k.table) c.self.view_is ∙ c.requires.own ∙ sym c.words.view_is in
    let its = c.into_seat.ensures in
    let same = ap (λ (t : TableId). t.words) own in
    let same' = ap (λ (t : TableId). t.words) (c.requires.poller ∙ sym c.words.view_is) in
    let size = c.self.invariant.0.size in
    let word = its.word in
    let inside : c.args.poller.proc.0 < length (lanes_of me.me.0) = omega (arith, same, same', size, word) in (
      own,
      its.table ∙ c.requires.poller ∙ sym c.words.view_is,
      its.no_slot,
      omega (arith, same', word),
      joins me.id other.id me.me.0 other.me.0 c.args.poller.proc.0 c.self.invariant.0.keeping its.poller inside,
    )
