use Rattle.std.proofs.Common.{◌≡◌, Some, ap, sym, ◌∙◌, length, arith}
use Rattle.std.specs.Option.{option_and_then}
use Rattle.sa_prio_model.specs.Prio.{Prio, on_at, rank_below, first_rank, lowest_below}
use Rattle.sa_prio.proofs.LowLines.{lowest-between, lowest-next}
use Rattle.sa_prio.proofs.threads.PrioThreads.lowest.Goals as goal

pub loop-q-preserved : goal.loop-q-preserved
loop-q-preserved c =
    let v = c.args.self.now in
    let low = c.in-Some.ensures in
    let rank : c.rank_below-rank.result ≡ rank_below v.base c.in_ok-best.best (on_at v c.in-Some.q) =
    c.rank_below-rank.ensures ∙ ap (rank_below v.base c.in_ok-best.best) c.on_at.ensures in
    let on : length c.self.inside.on.items ≡ length v.on = ap (λ (x : Prio). length x.on) c.self.view_is in (
      omega (arith, low.within, c.len.ensures, on),
      c.lower-lowest.ensures
          ∙ lowest-next v c.args.seen.now c.in_ok-best.best c.loop-q.from c.in-Some.q c.loop-q.lowest c.rank_below-rank.result
          low.from low.low low.between c.loop-q.invariant.1 rank,
    )

pub returns : goal.returns
returns c =
    let v = c.args.self.now in
    let best = c.in_ok-best.best in
    let on : length c.self.inside.on.items ≡ length v.on = ap (λ (x : Prio). length x.on) c.self.view_is in
    let all : lowest_below v c.args.seen.now best (length v.on) ≡ lowest_below v c.args.seen.now best c.loop-q.from =
    lowest-between v c.args.seen.now best c.loop-q.from (length v.on) c.loop-q.invariant.0
    (λ q behind before. c.in_default.ensures.between q behind (omega (arith, before, c.len.ensures, on, c.requires.few))) in
    let some : first_rank v.base ≡ Some best =
    ap (λ (x : Prio). first_rank x.base) (sym c.self.view_is) ∙ sym c.first_rank.ensures ∙ c.in_ok-best.was in
    c.loop-q.invariant.1 ∙ sym all ∙ ap (option_and_then (λ n. lowest_below v c.args.seen.now n (length v.on))) (sym some)
