use Rattle.std.proofs.Common.{◌≡◌, ℕ, List, [], ◌++◌, length, max, OnOk, ap, ◌∙◌, subst}
use Rattle.sa_trace_events.specs.declared.touches.Touch.{Touch}
use Rattle.sa_trace_events.specs.Slices.{slice_begun}
use Rattle.sa_trace_events.specs.Touches.{touches_at}
use Rattle.sa_trace_events.specs.Along.{text_from}
use Rattle.sa_trace_events.proofs.Along.{along}
use Rattle.sa_trace_events.proofs.events.push_track.Goals as goal

pub returns : goal.returns
returns c =
    let t = c.args.track in
    let len = length c.args.items.now in
    let begun = slice_begun t c.args.span.begin in
    let text =
    ap (λ (end : ℕ). text_from t end len begun [] c.at-touches.result.now) c.max-end.ensures
    ∙ ap (λ (list : List Touch). text_from t (max c.args.index.now.clock c.args.span.end) len begun [] list)
    (c.at-touches.ensures ∙ ap (λ (n : ℕ). touches_at c.args.index.now n) c.number.ensures)
    ∙ along c.args.span c.args.items.now t c.args.index.now c.requires.index c.requires.number in
    subst (λ (more : List ℕ). OnOk c.push_along.result (c.push_along.new.out.items ≡ c.args.out.now.items ++ more)) text c.push_along.ensures
