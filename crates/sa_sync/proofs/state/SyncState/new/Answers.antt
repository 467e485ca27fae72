use Rattle.std.proofs.Common.{rules, ◌≡◌, false, ap, ◌∙◌, replicate, None, arith, length}
use Rattle.std.proofs.lemmas.List.{length-replicate}
use Rattle.sa_base.specs.declared.limits.TheConstants.{MAX_THREADS}
use Rattle.sa_sync.proofs.Start.{shown-new, queues-new}
use Rattle.sa_sync.proofs.state.SyncState.new.Goals as goal

pub overflow_cast-queues-3 : goal.overflow_cast-queues-3
overflow_cast-queues-3 c = omega (arith, c.len.ensures, c.in_ok-counts.ensures.len, c.sems.ensures.few)

pub overflow_add-queues-2 : goal.overflow_add-queues-2
overflow_add-queues-2 c = omega (arith, c.len.ensures, c.in_ok-counts.ensures.len, c.sems.ensures.few, c.mutexes-mutexes.ensures.range)

-- the holders and the counts of the new state
nobody : (c : goal.In_ok-new) → c.in_ok-vec.field-0.items ≡ replicate c.args.def.now.mutexes None
nobody c = c.in_ok-vec.ensures.items_if_clones_equal (λ y h. search rules) ∙ ap (λ n. replicate n None) c.mutexes-mutexes.ensures.value

counts : (c : goal.In_ok-new) → c.in_ok-counts.counts.items ≡ c.args.def.now.sems
counts c = c.in_ok-counts.ensures.items ∙ c.sems.ensures.value

pub invariant_of-result : goal.invariant_of-result
invariant_of-result c =
    let holders = ap length (nobody c) ∙ length-replicate c.args.def.now.mutexes None in
    let starts = ap length c.in_ok-counts.ensures.items in
    record {
      threads = ap (λ x. x.nodes) c.in_ok-new.ensures;
      queues = queues-new _ _ _ _ c.in_ok-new.ensures (omega (arith, holders, starts, c.len.ensures, c.in_ok-counts.ensures.len, c.mutexes-mutexes.ensures.value));
      done = ap length (c.in_ok-vec-2.ensures.items_if_clones_equal (λ y h. h)) ∙ length-replicate MAX_THREADS false;
      mutexes = omega (arith, holders, c.mutexes-mutexes.ensures.value, c.mutexes-mutexes.ensures.range);
      semaphores = omega (arith, starts, c.sems.ensures.few);
    }

pub returns : goal.returns
returns c =
    shown-new c.args.def.now c.in_ok-vec.field-0.items c.in_ok-counts.counts.items c.in_ok-new.field-0 _ c.in_ok-vec-2.field-0.items c.in_ok-vec-3.field-0.items
    (nobody c) (counts c) c.in_ok-new.ensures (omega (arith, ap length (counts c)))
    (c.in_ok-vec-2.ensures.items_if_clones_equal (λ y h. h))
    (c.in_ok-vec-3.ensures.items_if_clones_equal (λ y h. h) ∙ ap (λ n. replicate n 0) c.cells.ensures.value)
