use Rattle.std.proofs.Common.{ℕ, Option, map, ap, sym, ◌∙◌, arith}
use Rattle.sa_trace_events.specs.Touches.{pushed}
use Rattle.sa_trace_events.proofs.Lists.{touch-added}
use Rattle.sa_trace_events.proofs.touches.push.Goals as goal

pub returns-in_ok-push : goal.returns-in_ok-push
returns-in_ok-push c =
    touch-added c.args.lists.now.items c.in-Some.n c.index_mut.result.now c.push.new.self c.args.touch (omega arith) c.index_mut.ensures.value
    c.in_ok-push.ensures.items
    ∙ ap (λ (number : Option ℕ). pushed number c.args.touch (map (λ v. v.items) c.args.lists.now.items)) (sym c.in-Some.is)
