-- By what the calls do, a history goes on.
use Rattle.std.proofs.Common.{◌≡◌, ℕ, ◌<◌, ◌∙◌, sym, ap, subst, arith, Some, None, length}
use Rattle.sa_base.specs.declared.number.ProcNo.{ProcNo}
use Rattle.sa_base.specs.declared.number.ActNo.{ActNo}
use Rattle.sa_base.specs.Recorded.{Recorded}
use Rattle.sa_kernel.specs.declared.parts.Parts.{Parts}
use Rattle.sa_kernel_model.specs.declared.entry.Entry.{Entry}
use Rattle.sa_kernel_model.specs.declared.entry.Given.{Given}
use Rattle.sa_kernel_model.specs.State.{KernelState, Scene}
use Rattle.sa_kernel_model.specs.Closing.{closed}
use Rattle.sa_kernel_model.specs.Entries.{entered, entered_as, after_fetch}
use Rattle.sa_kernel_model.specs.Enters.{Enters}
use Rattle.sa_kernel_model.specs.Entering.{upcalls}
use Rattle.sa_kernel_laws.specs.Histories.{IsHistory, GoesOnLawfully, KeepsHistories}
use Rattle.sa_kernel.specs.View.{state_of, scene_of}
use Rattle.sa_kernel.specs.Kept.{KernelView, kernel_of, processors, scene}
use Rattle.sa_kernel_laws.proofs.histories.Histories.{entry-goes-on, slice-goes-on, history-fetched}

module _ {C : Type 0} where
  pub lawful-entered : (v : KernelView C) (m mid new : Parts C) (t tm tn : Recorded) (event room last : ℕ) (p : ProcNo) (entry : Entry C) (given : Given)
      → record { parts = m; spare = room; last = last } ≡ v → p.0 < processors v → last < event
      → Enters (scene_of m t) (scene_of mid tm) given (upcalls (state_of m) p entry) (λ (a : ActNo). entered_as event p a entry)
      → scene_of new tn ≡ closed event p (scene_of mid tm) → GoesOnLawfully event p (Some entry) (scene v t) (scene_of new tn)
  lawful-entered v m mid new t tm tn event room last p entry given view inside later enters closes =
      let within : p.0 < length m.lives.items = subst (λ (w : KernelView C). p.0 < processors w) (sym view) inside in
      let whole : Enters (scene_of m t) (scene_of new tn) given (upcalls (state_of m) p entry) (λ (a : ActNo). entered event p a entry) = record {
        fresh = enters.fresh;
        unused = enters.unused;
        given = enters.given;
        scene = closes ∙ ap (λ (x : Scene C). closed event p x) enters.scene;
      } in
      subst (λ (w : KernelView C). GoesOnLawfully event p (Some entry) (scene w t) (scene_of new tn)) view
      (entry-goes-on event p entry (scene_of m t) (scene_of new tn) given (upcalls (state_of m) p entry) within (omega arith) whole)

  pub lawful-slice : (v : KernelView C) (m new : Parts C) (t tn : Recorded) (event room last : ℕ) (p : ProcNo)
      → record { parts = m; spare = room; last = last } ≡ v → p.0 < processors v → last < event
      → scene_of new tn ≡ closed event p (scene_of m t) → GoesOnLawfully event p None (scene v t) (scene_of new tn)
  lawful-slice v m new t tn event room last p view inside later closes =
      let within : p.0 < length m.lives.items = subst (λ (w : KernelView C). p.0 < processors w) (sym view) inside in
      subst (λ (w : KernelView C). GoesOnLawfully event p None (scene w t) (scene_of new tn)) view
      (slice-goes-on event p (scene_of m t) (scene_of new tn) within (omega arith) closes)

  pub lawful-fetch : (v : KernelView C) (m new : Parts C) (room final : ℕ) → record { parts = m; spare = room; last = final } ≡ v
      → state_of new ≡ after_fetch (state_of m).telling (state_of m) → KeepsHistories (kernel_of v) (state_of new)
  lawful-fetch v m new room final view is =
      subst (λ (w : KernelView C). KeepsHistories (kernel_of w) (state_of new)) view
      (λ test w events items history. subst (λ (k : KernelState C). IsHistory test w events (record { state = k; items = items })) (sym is)
      (history-fetched test w events (record { state = state_of m; items = items }) history))
