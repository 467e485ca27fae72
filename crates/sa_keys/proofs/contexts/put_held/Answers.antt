use Rattle.std.proofs.Common.{◌≡◌, ◌++◌, Option, None, Some, ap, ◌∙◌}
use Rattle.sa_base.specs.declared.context.Stopped.{Stopped}
use Rattle.sa_package_keys.specs.Codes.{number, optional}
use Rattle.sa_kernel_model.specs.State.{KernelState}
use Rattle.sa_core.specs.View.{machine}
use Rattle.sa_outlook.specs.Nameless.{plain_held}
use Rattle.sa_outlook.specs.Outlook.{held_by, look_in}
use Rattle.sa_keys.specs.Key.{stopped_key}
use Rattle.sa_keys.specs.Parts.{stopped_bytes, held_bytes}
use Rattle.sa_keys.proofs.Appends.{same-added}
use Rattle.sa_keys.proofs.contexts.put_held.Goals as goal

pub returns-in-None : goal.returns-in-None
returns-in-None g c =
    let m = machine c.args.core.now in
    let s = c.args.s.0 in
    let a = c.args.a in
    let is : None ≡ held_by m.kernel a.0 = c.in-None.ensures ∙ ap (λ (k : KernelState g.row.U-Ctx.Denot). held_by k a.0) c.kernel.ensures in
    same-added c.put_number.result c.args.key.now.items c.put_number.new.key.items (number 0) (held_bytes g.U.Keyed.plain g.U.Keyed.context_key m s a)
    (ap (λ (h : Option (Stopped g.row.U-Ctx.Denot)). optional (stopped_key g.U.Keyed.context_key) (plain_held (look_in g.U.Keyed.plain m.workload) s h)) is)
    c.put_number.ensures

pub returns-in-Some : goal.returns-in-Some
returns-in-Some g c =
    let m = machine c.args.core.now in
    let s = c.args.s.0 in
    let a = c.args.a in
    let is : Some c.in-Some.held.now ≡ held_by m.kernel a.0 = c.in-Some.ensures ∙ ap (λ (k : KernelState g.row.U-Ctx.Denot). held_by k a.0) c.kernel.ensures in
    same-added c.put_stopped.result c.args.key.now.items c.put_stopped.new.key.items
    (number 1 ++ stopped_bytes g.U.Keyed.plain g.U.Keyed.context_key m s c.in-Some.held.now) (held_bytes g.U.Keyed.plain g.U.Keyed.context_key m s a)
    (ap (λ (h : Option (Stopped g.row.U-Ctx.Denot)). optional (stopped_key g.U.Keyed.context_key) (plain_held (look_in g.U.Keyed.plain m.workload) s h)) is)
    c.put_stopped.ensures
