use Rattle.std.proofs.Common.{◌≡◌, ◌+◌, arith, ap, ◌∙◌, length-set, take, take_all}
use Rattle.std.proofs.lemmas.List.FromFn.{fill_by_all}
use Rattle.sa_trace.specs.declared.kind.TheConstants.{RECORD_KINDS}
use Rattle.sa_trace.specs.TraceText.{counts_of, count_of_kind}
use Rattle.sa_trace.proofs.Counting.{count-more}
use Rattle.sa_trace.proofs.counts.kind_counts.Goals as goal

pub loop-item-preserved : goal.loop-item-preserved
loop-item-preserved c = (
  length-set _ _ _ ∙ c.loop-item.invariant.0,
  λ k in_table. count-more c.args.items.now c.loop-item.item-index c.place.result k c.loop-item.counts _ c.loop-item-test.true
      c.place.ensures.place (omega arith) (c.loop-item.invariant.1 k in_table),
)

pub returns : goal.returns
unfolding counts_of
returns c =
    fill_by_all (λ k. count_of_kind c.args.items.now (k + 1)) c.loop-item.counts RECORD_KINDS 0 c.loop-item.invariant.0
    (λ k in_table. let all : take c.loop-item.item-index c.args.items.now ≡ c.args.items.now = take_all _ _ (omega arith) in
    c.loop-item.invariant.1 k in_table ∙ ap (λ items. count_of_kind items (k + 1)) all)
