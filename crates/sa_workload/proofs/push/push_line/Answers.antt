use Rattle.std.proofs.Common.{decimal}
use Rattle.std.proofs.lemmas.Result.{on_ok_weaker}
use Rattle.sa_workload.proofs.calls.PrintedText.{pushed_line, ok_items}
use Rattle.sa_workload.proofs.push.push_line.Goals as goal

pub returns : goal.returns
returns c =
    on_ok_weaker c.extend_from_slice-2.result
    (pushed_line decimal c.args.out.now.items c.args.word.now c.args.numbers.now _ _ _ c.in_ok-extend_from_slice.ensures.items c.in_ok-push_numbers.ensures)
    (ok_items c.extend_from_slice-2.result _ _ _ c.extend_from_slice-2.ensures.items)
