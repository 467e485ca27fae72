use Rattle.std.proofs.Common.{◌≡◌, List, ◌++◌, map, length, sym, ap, subst, ◌∙◌, arith, ℕ, All}
use Rattle.sa_devices.specs.declared.under_way.Entry.{Entry}
use Rattle.sa_devices.specs.Ios.{Io}
use Rattle.sa_devices.specs.Kept.{entry_of}
use Rattle.sa_devices.specs.Pages.{IsKind}
use Rattle.sa_kernel_model.specs.State.{KernelState}
use Rattle.sa_package_keys.specs.Codes.{list}
use Rattle.sa_core.specs.View.{machine}
use Rattle.sa_outlook.specs.DueOrder.{in_order}
use Rattle.sa_outlook.specs.Nameless.{nameless_io}
use Rattle.sa_outlook.specs.Outlook.{held_by, look_in}
use Rattle.sa_keys.specs.Key.{io_key}
use Rattle.sa_keys.specs.Parts.{entry_bytes}
use Rattle.sa_keys.proofs.Appends.{list-added, list-map}
use Rattle.sa_keys.proofs.DueOrderLemmas.{due-kinds}
use Rattle.sa_keys.proofs.Standings.{ios-within}
use Rattle.sa_keys.proofs.ios.put_ios.Goals as goal

pub put_io-requires-after_bounds : goal.put_io-requires-after_bounds
put_io-requires-after_bounds g c κs within =
    let m = machine c.args.core.now in
    let spaces = length m.workload.spaces in
    let begun : c.devices.result.now.ios.under_way ≡ m.kernel.under_way = c.devices.ensures.ios
    ∙ ap (λ (k : KernelState g.row.U-Ctx.Denot). k.under_way) c.kernel.ensures in
    let due : c.deref-io-items.result.now ≡ map entry_of (in_order m.kernel.under_way) = c.deref-io-items.ensures.value ∙ c.in_ok-due.ensures
    ∙ ap (λ (ios : List Io). map entry_of (in_order ios)) begun in
    let kinds = subst (λ (ios : List Entry). All (λ (io : Entry). IsKind spaces io.kind) ios) (sym due)
    (due-kinds spaces m.kernel.under_way (ios-within g.U.UserLevel.stands m c.keeps.ensures)) in
    kinds c.loop-io.io-index _ (omega arith)

pub returns : goal.returns
returns g c =
    let m = machine c.args.core.now in
    let old = c.args.key.now.items in
    let order = in_order m.kernel.under_way in
    let bytes : Entry → List ℕ = entry_bytes g.U.Keyed.plain g.U.Keyed.context_key m in
    let begun : c.devices.result.now.ios.under_way ≡ m.kernel.under_way = c.devices.ensures.ios
    ∙ ap (λ (k : KernelState g.row.U-Ctx.Denot). k.under_way) c.kernel.ensures in
    let due : c.deref-io-items.result.now ≡ map entry_of order = c.deref-io-items.ensures.value ∙ c.in_ok-due.ensures
    ∙ ap (λ (ios : List Io). map entry_of (in_order ios)) begun in
    list-added bytes c.deref-io-items.result.now old c.loop-io.key.items c.loop-io.io-index (omega arith) c.loop-io.invariant
    ∙ ap (λ (ios : List Entry). old ++ list bytes ios) due
    ∙ ap (λ (z : List ℕ). old ++ z) (list-map bytes entry_of order
    ∙ sym (list-map (io_key g.U.Keyed.context_key) (nameless_io (look_in g.U.Keyed.plain m.workload) m.event (held_by m.kernel)) order))
