use Rattle.std.proofs.lemmas.Result.{on_ok_weaker}
use Rattle.toga_explain.proofs.Appended.{three}
use Rattle.toga_explain.specs.Explain.{other_list}
use Rattle.toga_explain.proofs.explaining.push_other_list.Goals as goal

pub returns : goal.returns
unfolding other_list
returns c = on_ok_weaker c.push_group-3.result (λ e. three c.args.out.now.items _ _ _ _ _ _ c.in_ok-push_group.ensures c.in_ok-push_group-2.ensures e) c.push_group-3.ensures
