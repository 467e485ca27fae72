-- What the spaces see of low lines, processor by processor.
use Rattle.std.proofs.Common.{◌≡◌, ℕ, ◌<◌, List, [], ◌∷◌, sym, subst, Option, Some, None}
use Rattle.std.specs.Prelude.{slice_index}
use Rattle.sa_base.specs.declared.limits.TheConstants.{MAX_SPACES}
use Rattle.sa_base.specs.declared.number.SpaceNo.{SpaceNo}
use Rattle.sa_base.specs.declared.number.ActNo.{ActNo}
use Rattle.sa_base.specs.declared.record.Note.{Note}
use Rattle.sa_base.specs.declared.record.Note.TheVariants.{Preempted, Unblocked}
use Rattle.sa_base.specs.declared.context.Stopped.{Stopped}
use Rattle.sa_acts.specs.Table.{held_of}
use Rattle.sa_kernel.specs.declared.parts.Parts.{Parts}
use Rattle.sa_kernel.specs.View.{state_of}
use Rattle.sa_kernel.specs.Kept.{AreLow}
use Rattle.sa_kernel_model.specs.State.{KernelState}
use Rattle.sa_kernel_model.specs.Closing.{has_low_line}
use Rattle.sa_kernel_model.specs.Entries.{handed_by, after_fetch}
use Rattle.sa_kernel_model.specs.Seen.{bits_where}

module _ {C : Type 0} where
  -- what was read of the processors below this one
  abbrev pub AreLowBelow : KernelState C → ℕ → List ℕ → Type 0
  AreLowBelow k q lows = (s : SpaceNo) → s.0 < MAX_SPACES → slice_index lows s.0 ≡ bits_where (has_low_line k s.0) q

  -- a notice that is fetched changes none
  low-handed : (held : Option (Stopped C)) (a : ActNo) (k : KernelState C) (lows : List ℕ) → AreLow k lows → AreLow (handed_by held a k) lows
  low-handed None a k lows is = is
  low-handed (Some held) a k lows is = is

  low-after_fetch : (notes : List Note) (k : KernelState C) (lows : List ℕ) → AreLow k lows → AreLow (after_fetch notes k) lows
  low-after_fetch (Preempted a ∷ notes) k lows is = low-handed (held_of (k.acts a.0)) a (record k { telling = notes }) lows is
  low-after_fetch (Unblocked a ∷ notes) k lows is = low-handed (held_of (k.acts a.0)) a (record k { telling = notes }) lows is
  low-after_fetch _ k lows is = is

  pub low-fetch : (m new : Parts C) (lows : List ℕ) → state_of new ≡ after_fetch (state_of m).telling (state_of m) → AreLow (state_of m) lows
      → AreLow (state_of new) lows
  low-fetch m new lows is low = subst (λ (k : KernelState C). AreLow k lows) (sym is) (low-after_fetch (state_of m).telling (state_of m) lows low)
