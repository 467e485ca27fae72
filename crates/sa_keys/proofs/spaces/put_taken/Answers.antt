use Rattle.std.proofs.Common.{◌≡◌, ℕ, ◌++◌, length, ap, ◌∙◌}
use Rattle.sa_package_keys.specs.Codes.{number}
use Rattle.sa_kernel_model.specs.State.{KernelState, taken_of}
use Rattle.sa_core.specs.View.{machine}
use Rattle.sa_outlook.specs.Outlook.{outlook}
use Rattle.sa_keys.specs.Key.{taken_key}
use Rattle.sa_keys.proofs.Appends.{range-step}
use Rattle.sa_keys.proofs.spaces.put_taken.Goals as goal

pub loop-s-preserved : goal.loop-s-preserved
loop-s-preserved g c =
    let m = machine c.args.core.now in
    let s = c.loop-s.s in
    let taken : c.taken.result ≡ length (taken_of m.kernel s) = c.taken.ensures
    ∙ ap (λ (k : KernelState g.row.U-Ctx.Denot). length (taken_of k s)) c.kernel.ensures in
    range-step (taken_key (outlook g.U.Keyed.plain m)) c.args.key.now.items c.loop-s.key.items c.put_number.new.key.items s c.loop-s.invariant
    (c.in_ok-put_number.ensures ∙ ap (λ (n : ℕ). c.loop-s.key.items ++ number n) (c.from.ensures ∙ taken))
