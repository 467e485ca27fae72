use Rattle.std.proofs.lemmas.Result.{on_ok_weaker}
use Rattle.toga_explain.proofs.Appended.{two}
use Rattle.toga_explain.specs.Explain.{trace_lines}
use Rattle.toga_explain.proofs.looking.push_trace.Goals as goal

pub returns : goal.returns
unfolding trace_lines
returns c = on_ok_weaker c.push_found-2.result (λ e. two c.args.out.now.items _ _ _ _ c.in_ok-push_found.ensures e) c.push_found-2.ensures
