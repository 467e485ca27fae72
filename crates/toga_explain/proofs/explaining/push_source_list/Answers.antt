use Rattle.std.proofs.lemmas.Result.{on_ok_weaker}
use Rattle.toga_explain.proofs.Appended.{two}
use Rattle.toga_explain.specs.Explain.{source_list}
use Rattle.toga_explain.proofs.explaining.push_source_list.Goals as goal

pub returns : goal.returns
unfolding source_list
returns c = on_ok_weaker c.push_group-2.result (λ e. two c.args.out.now.items _ _ _ _ c.in_ok-push_group.ensures e) c.push_group-2.ensures
