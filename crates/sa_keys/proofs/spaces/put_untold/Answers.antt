use Rattle.std.proofs.Common.{◌≡◌, List, ◌++◌, sym, ap, ◌∙◌, arith, ℕ}
use Rattle.sa_base.specs.declared.record.Note.{Note}
use Rattle.sa_kernel_model.specs.State.{KernelState, untold_of}
use Rattle.sa_package_keys.specs.Codes.{list}
use Rattle.sa_core.specs.View.{machine}
use Rattle.sa_outlook.specs.Nameless.{nameless_note}
use Rattle.sa_outlook.specs.Outlook.{held_by, look_in}
use Rattle.sa_keys.specs.Key.{note_key}
use Rattle.sa_keys.specs.Parts.{note_bytes}
use Rattle.sa_keys.proofs.Appends.{list-added, list-map}
use Rattle.sa_keys.proofs.spaces.put_untold.Goals as goal

pub returns : goal.returns
returns g c =
    let m = machine c.args.core.now in
    let s = c.args.s.0 in
    let old = c.args.key.now.items in
    let notes = c.untold-untold.result.now in
    let bytes : Note → List ℕ = note_bytes g.U.Keyed.plain g.U.Keyed.context_key m s in
    let is : notes ≡ untold_of m.kernel s = c.untold-untold.ensures ∙ ap (λ (k : KernelState g.row.U-Ctx.Denot). untold_of k s) c.kernel.ensures in
    list-added bytes notes old c.loop-note.key.items c.loop-note.note-index (omega arith) c.loop-note.invariant
    ∙ ap (λ (ns : List Note). old ++ list bytes ns) is
    ∙ ap (λ (z : List ℕ). old ++ z)
    (sym (list-map (note_key g.U.Keyed.context_key) (nameless_note (look_in g.U.Keyed.plain m.workload) s (held_by m.kernel)) (untold_of m.kernel s)))
