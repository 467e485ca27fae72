use Rattle.std.proofs.Common.{List, ltb, sym, ap, ◌∙◌, rules}
use Rattle.std.proofs.lemmas.List.{take_rest}
use Rattle.std.proofs.lemmas.List.Sorted.{IsPartitionPoint-from_clause}
use Rattle.sa_spaces.specs.declared.workload.Evict.{Evict}
use Rattle.sa_devices.specs.Pages.{evicted}
use Rattle.sa_devices.proofs.SoundLemmas.{IsCut-from_point, IsPartitionedBy-event, evicted-skip, evicted-then}
use Rattle.sa_devices.proofs.pages.evict_at.Goals as goal

pub loop-evict-init : goal.loop-evict-init
loop-evict-init c =
    let event = c.args.event in
    let es = c.args.evictions.now in
    let from = c.partition_point-from.result in
    let point =
    IsPartitionPoint-from_clause (λ (e : Evict). ltb e.event event) es from c.partition_point-from.ensures.partitioned
    (IsPartitionedBy-event event es c.requires.order) (λ a r q k. search rules) in
    let cut = IsCut-from_point event es from point in
    ap (λ (xs : List Evict). evicted event xs c.args.pages.now) (take_rest es from) ∙ evicted-skip event from es c.args.pages.now cut.0

pub returns-then-evict-event : goal.returns-then-evict-event
returns-then-evict-event c =
    let event = c.args.event in
    let es = c.args.evictions.now in
    let from = c.partition_point-from.result in
    let point =
    IsPartitionPoint-from_clause (λ (e : Evict). ltb e.event event) es from c.partition_point-from.ensures.partitioned
    (IsPartitionedBy-event event es c.requires.order) (λ a r q k. search rules) in
    let cut = IsCut-from_point event es from point in
    sym (evicted-then event from c.loop-evict.evict-index es c.loop-evict.pages _
    c.requires.order cut c.partition_point-from.ensures.bound c.loop-evict-test.true c.if-evict-event.true)
    ∙ c.loop-evict.invariant
