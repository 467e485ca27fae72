use Rattle.std.proofs.Common.{◌≡◌, ◌<◌, List, length, sym, subst}
use Rattle.std.proofs.lemmas.List.{get_or_default}
use Rattle.sa_lines.specs.declared.view.Lane.{Lane}
use Rattle.sa_lines.specs.Words.{lanes_of, lane_at, fresh_lane}
use Rattle.sa_lines.specs.Seen.{IsSettled}
use Rattle.sa_lines.proofs.Ends.{closes}
use Rattle.sa_lines.proofs.words.LineWords.close.Goals as goal

pub returns : goal.returns
returns c = λ k d lt.
    let seat = c.into_seat.result in
    let keeps = c.into_seat.ensures.keeps in
    let lanes : lanes_of seat.me.0 ≡ c.args.keeper.lanes = c.into_seat.ensures.lanes in
    let there = closes seat.id seat.me.0 _ _ keeps.keeping (λ p. (keeps.quiet p).none_handed) c.close_with.ensures.values.2 k
    (subst (λ (l : List Lane). k < length l) (sym lanes) lt) in
    subst IsSettled (get_or_default c.args.keeper.lanes k fresh_lane d lt) (subst (λ (l : List Lane). IsSettled (lane_at l k)) lanes there)
