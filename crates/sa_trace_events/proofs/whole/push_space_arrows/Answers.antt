use Rattle.std.proofs.Common.{◌≡◌, ℕ, ◌<◌, List, ◌++◌, length, map, ap, ◌∙◌, arith}
use Rattle.sa_base.specs.declared.record.Item.{Item}
use Rattle.sa_shapes.proofs.Ranges.{one_more}
use Rattle.sa_trace_events.specs.declared.arrows.Arrow.TheVariants.{Ready}
use Rattle.sa_trace_events.specs.declared.touches.Touch.{Touch}
use Rattle.sa_trace_events.specs.Arrows.{ends_of}
use Rattle.sa_trace_events.specs.Touches.{touches_at}
use Rattle.sa_trace_events.specs.Whole.{thread_ends}
use Rattle.sa_trace_events.proofs.OwnEnds.{ends-along}
use Rattle.sa_trace_events.proofs.whole.push_space_arrows.Goals as goal

pub loop-t-preserved : goal.loop-t-preserved
loop-t-preserved c =
    let items = c.args.items.now in
    let s = c.args.s in
    let t = c.loop-t.t in
    let index = c.in_ok-index.index in
    let within : t < length index.lists.items = omega (arith, c.in_ok-index.ensures.count) in
    let own : c.deref.result.now ≡ map (λ (e : Touch). e.item) (touches_at index t) =
    c.deref.ensures.value ∙ c.in_ok-own.ensures
    ∙ ap (λ (list : List Touch). map (λ (e : Touch). e.item) list)
    (c.at.ensures ∙ ap (λ (n : ℕ). touches_at index n) c.from-in-loop-t.ensures) in
    let ends = ap (λ (is : List Item). ends_of is (Ready s (record { 0 = t }))) own ∙ ends-along items s.0 t index c.in_ok-index.ensures.index within in
    one_more (thread_ends items s.0) t _ _ _ c.loop-t.invariant (c.in_ok-push_ends.ensures ∙ ap (λ (text : List ℕ). c.loop-t.out.items ++ text) ends)
