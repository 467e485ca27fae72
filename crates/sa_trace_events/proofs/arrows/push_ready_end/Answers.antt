use Rattle.std.proofs.Common.{◌≡◌, ℕ, ◌++◌, codes, List, ap, ◌∙◌}
use Rattle.sa_svg.specs.Markup.{numbered}
use Rattle.sa_trace_events.proofs.arrows.push_ready_end.Goals as goal

pub returns : goal.returns
returns c =
    let word : List ℕ = codes "ready in space " in
    let name : c.deref.result.now ≡ numbered word c.args.s.0 =
    c.deref.ensures.value ∙ c.in_ok-push_numbered.ensures ∙ ap (λ (xs : List ℕ). xs ++ numbered word c.from.result) c.new-name.ensures.items
    ∙ ap (λ (n : ℕ). numbered word n) c.from.ensures in
    let thread : c.from-2.result ≡ c.args.t.0 = c.from-2.ensures in
    rw (name, thread) at c.push_arrow.ensures
