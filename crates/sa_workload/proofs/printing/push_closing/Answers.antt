use Rattle.std.proofs.Common.{◌++◌, ◌∙◌, ap}
use Rattle.std.specs.List.{flat_map}
use Rattle.std.proofs.lemmas.Result.{on_ok_weaker}
use Rattle.sa_workload.specs.Text.{line_text, evict_line, turn_line}
use Rattle.sa_workload.proofs.calls.PrintedText.{pushed_closing}
use Rattle.sa_workload.proofs.printing.push_closing.Goals as goal

pub returns : goal.returns
returns c =
    on_ok_weaker c.push_line.result
    (pushed_closing c.args.w.now c.args.out.now.items _ _ _
    (c.in_ok-push_evictions.ensures ∙ ap (λ xs. c.args.out.now.items ++ flat_map (λ e. line_text (evict_line e)) xs) c.evictions.ensures.value)
    (c.in_ok-push_turns.ensures ∙ ap (λ xs. c.push_evictions.new.out.items ++ flat_map (λ p. line_text (turn_line p)) xs) c.turns.ensures.value))
    c.push_line.ensures
