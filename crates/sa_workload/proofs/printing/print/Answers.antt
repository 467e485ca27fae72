use Rattle.std.proofs.Common.{◌++◌, ◌∙◌, ap}
use Rattle.std.specs.List.{flat_map}
use Rattle.sa_workload.specs.Text.{line_text, machine_lines, space_lines, version_of}
use Rattle.sa_workload.proofs.calls.PrintedText.{pushed_all}
use Rattle.sa_workload.proofs.printing.print.Goals as goal

pub returns : goal.returns
returns c =
    pushed_all c.args.w.now c.push_machine.new.out.items c.push_spaces.new.out.items c.push_closing.new.out.items
    (c.in_ok-push_machine.ensures ∙ ap (λ xs. xs ++ flat_map line_text (machine_lines c.args.w.now)) c.new-out.ensures.items)
    (c.in_ok-push_spaces.ensures
    ∙ (ap (λ v. c.push_machine.new.out.items ++ flat_map (λ s. flat_map line_text (space_lines v s)) c.spaces.result.now) c.version.ensures
    ∙ ap (λ xs. c.push_machine.new.out.items ++ flat_map (λ s. flat_map line_text (space_lines (version_of c.args.w.now) s)) xs) c.spaces.ensures.value))
    c.in_ok-push_closing.ensures
