use Rattle.std.proofs.Common.{ℕ, Option, set, ap, ◌∙◌}
use Rattle.sa_lemmas.specs.Function.{put}
use Rattle.sa_trace_events.specs.Touches.{on_at}
use Rattle.sa_trace_events.proofs.Lists.{put-on}
use Rattle.sa_trace_events.proofs.touches.put.Goals as goal

pub returns : goal.returns
returns c =
    ap (λ (p : ℕ). on_at (set c.reach.new.on.items p c.args.number)) c.from.ensures
    ∙ put-on c.reach.new.on.items c.args.p.0 c.args.number c.in_ok-reach.ensures.room
    ∙ ap (λ (on : ℕ → Option ℕ). put on c.args.p.0 c.args.number) c.in_ok-reach.ensures.same
