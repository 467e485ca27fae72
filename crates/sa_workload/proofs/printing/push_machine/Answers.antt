use Rattle.std.proofs.Common.{◌∙◌, ap}
use Rattle.std.proofs.lemmas.Result.{on_ok_weaker}
use Rattle.std.specs.Prelude.{length}
use Rattle.sa_workload.proofs.calls.PrintedText.{pushed_machine}
use Rattle.sa_workload.proofs.printing.push_machine.Goals as goal

pub returns : goal.returns
returns c =
    on_ok_weaker c.push_line-4.result
    (pushed_machine c.args.w.now c.version-version.result c.from.result c.from-2.result c.slice.result _ c.args.out.now.items _ _ _ _ _
    c.version-version.ensures (c.from.ensures ∙ c.processors.ensures.value) (c.from-2.ensures ∙ c.fetch.ensures.value)
    c.slice.ensures.value (ap length c.spaces.ensures.value)
    c.in_ok-push_line.ensures c.in_ok-push_line-2.ensures c.in_ok-push_line-3.ensures c.in_ok-push_slice.ensures)
    c.push_line-4.ensures
