use Rattle.std.proofs.Common.{◌≡◌, ◌<◌, sym, ◌∙◌, ap, arith}
use Rattle.sa_lines.specs.Words.{lanes_of, credit_word}
use Rattle.sa_lines.specs.Seen.{KeeperSeen}
use Rattle.sa_lines.proofs.Steps.{raise_allows, words_inside}
use Rattle.sa_lines.proofs.keeper.Keeper.raise.Goals as goal

pub store-requires : goal.store-requires
store-requires c =
    let me = c.self.inside.seat in
    let table = c.words.inside.table.shared.table_id in
    let own : me.table_id ≡ table = ap (λ (k : KeeperSeen). k.table) c.self.view_is ∙ c.requires.own ∙ sym c.words.view_is in
    let lanes : lanes_of me.me.0 ≡ c.args.self.now.lanes = ap (λ (k : KeeperSeen). k.lanes) c.self.view_is in
    let room : credit_word c.args.p.0 < table.words =
    words_inside me.table_id table me.me.0 c.args.self.now.lanes c.args.p.0 own lanes c.self.invariant.0 c.requires.processor in
    let place = c.line_word.ensures in (
      own,
      omega (arith, room, place),
      raise_allows table.slots me.id me.me.1 me.me.0 c.args.p.0 c.args.event c.line_word.result place c.self.invariant.0.keeping,
    )
