use Rattle.std.proofs.Common.{◌≡◌, drop}
use Rattle.std.specs.List.{list_any}
use Rattle.sa_kernel.specs.View.{state_of}
use Rattle.sa_kernel_model.specs.Closing.{calls_for}
use Rattle.sa_kernel.proofs.parts.Parts.some_calls.Given as goal

abbrev pub invariant-loop-note : goal.invariant-loop-note
invariant-loop-note g l = list_any (calls_for (state_of l.self)) (drop l.note-index l.notes) ≡ list_any (calls_for (state_of l.self)) l.notes
