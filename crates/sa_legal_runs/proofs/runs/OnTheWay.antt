-- Where no I/O is under way, each context of a space has an activation that runs, or whose stop or return is untold.
use Rattle.std.proofs.Common.{◌≡◌, ◌==◌, arith, sym, ap, ◌∙◌, subst, refl, Bool, true, false, Option, Some, None, IsSome, List, [], Contains, ◌⊎◌, inl, inr, get_or}
use Rattle.std.specs.Prelude.{if◌then◌else◌, sum_by}
use Rattle.std.proofs.lemmas.Bool.Decides.{nat_tests}
use Rattle.sa_base.specs.declared.context.Stopped.{Stopped}
use Rattle.sa_base.specs.declared.number.ProcNo.{ProcNo}
use Rattle.sa_base.specs.declared.number.SpaceNo.{SpaceNo}
use Rattle.sa_base.specs.declared.number.ActNo.{ActNo}
use Rattle.sa_base.specs.declared.record.Note.{Note}
use Rattle.sa_base.specs.declared.record.Note.TheVariants.{Add, Preempted, Blocked, Unblocked}
use Rattle.sa_spaces.specs.Workload.{WorkloadView}
use Rattle.sa_acts.specs.declared.acts.Act.{Act}
use Rattle.sa_devices.specs.Ios.{Io}
use Rattle.sa_laws.specs.Readings.{Readings, running_of, untold_of}
use Rattle.sa_laws.specs.Event.{Event}
use Rattle.sa_kernel_laws.specs.Overview.{Overview}
use Rattle.sa_kernel_model.specs.State.{KernelState, untold_of as untold_in}
use Rattle.sa_kernel_model.specs.Sound.{IsSound, note_claim, io_claim}
use Rattle.sa_core_model.specs.Standing.{running, context_in, held_or_running, contexts_of}
use Rattle.sa_core_model.specs.Machine.{Machine}
use Rattle.sa_user_laws.specs.Level.{UserLevel}
use Rattle.sa_legal_runs.proofs.matching.Shown.{runs-reads}
use Rattle.sa_legal_runs.proofs.matching.Composed.{IsComposed, read}
use Rattle.sa_legal_runs.proofs.runs.Ending.{find-claim, same-act, zero-if, life-of, running-on, held-one}

module _ {U C : Type 0} (level : UserLevel U C) (w : WorkloadView) (events : List Event) (m : Machine U C) (c : IsComposed level w events m) where
  abbrev r : Readings
  r = read level w events

  abbrev k : KernelState C
  k = m.kernel

  abbrev IsOnItsWay : SpaceNo → ActNo → Type 0
  IsOnItsWay s i = ((p : ProcNo) × (running_of r p ≡ Some i)) ⊎ (Contains (untold_of r s) (Preempted i) ⊎ Contains (untold_of r s) (Unblocked i))

  -- what is untold in the kernel is untold in the history
  untold-here : (s : SpaceNo) (note : Note) → Contains (untold_in k s.0) note → Contains (untold_of r s) note
  untold-here s note has =
      subst (λ (notes : List Note). Contains notes note) (sym (ap (λ (v : Overview). get_or v.untold s.0 []) c.history.kept.reads)) has

  by-claim : (s : SpaceNo) (i : ActNo) (note : Note) → Contains (untold_in k s.0) note → note_claim i.0 note ≡ 1 → IsOnItsWay s i
  by-claim s i (Add q) has one = absurd (omega (arith, one))
  by-claim s i (Blocked b) has one = absurd (omega (arith, one))
  by-claim s i (Preempted b) has one = inr (inl (subst (λ (z : ActNo). Contains (untold_of r s) (Preempted z)) (same-act i b one)
      (untold-here s (Preempted b) has)))
  by-claim s i (Unblocked b) has one = inr (inr (subst (λ (z : ActNo). Contains (untold_of r s) (Unblocked z)) (same-act i b one)
      (untold-here s (Unblocked b) has)))

  module _ (idle : r.under_way ≡ []) (s : SpaceNo) (i : ActNo) where
    sound : IsSound k
    sound = c.between.standing.sound

    -- a context that is held is that of an untold notice
    when-held : (act : Act C) (held : Stopped C) → k.acts i.0 ≡ Some act → act.held ≡ Some held → s.0 ≡ act.space.0 → IsOnItsWay s i
    when-held act held is has mine =
        let count = sound.claimed.once s.0 i.0 in
        let ones = held-one s.0 (k.acts i.0) act held is has mine in
        let under : k.under_way ≡ [] = sym (ap (λ (v : Overview). v.under_way) c.history.kept.reads) ∙ idle in
        let ios : sum_by (io_claim s.0 i.0) k.under_way ≡ 0 = ap (λ (xs : List Io). sum_by (io_claim s.0 i.0) xs) under in
        let told : (if s.0 == sound.claimed.told_to then sum_by (note_claim i.0) k.telling else 0) ≡ 0 =
        zero-if (s.0 == sound.claimed.told_to) (sum_by (note_claim i.0) k.telling)
        (ap (λ (ns : List Note). sum_by (note_claim i.0) ns) c.between.fetched) in
        let claim = find-claim i.0 (untold_in k s.0) (omega (arith, count, ones, ios, told)) in
        by-claim s i claim.0 claim.1 claim.2

    pub on-the-way : IsSome (contexts_of m s.0 i.0) → IsOnItsWay s i
    on-the-way some = by (k.acts i.0) refl some where
      by : (o : Option (Act C)) → k.acts i.0 ≡ o → IsSome (context_in s.0 o (running k.lives m.contexts i.0)) → IsOnItsWay s i
      by None is some = absurd cc
      by (Some act) is some = by-space (act.space.0 == s.0) refl some where
        by-held : s.0 ≡ act.space.0 → (h : Option (Stopped C)) → act.held ≡ h → IsSome (held_or_running h (running k.lives m.contexts i.0)) → IsOnItsWay s i
        by-held mine None free some =
            let on = running-on k.lives m.contexts i.0 some in
            inl (record { 0 = on.0 }, runs-reads level w events m (record { 0 = on.0 }) c.history ∙ life-of i (get_or k.lives on.0 None) on.1)
        by-held mine (Some held) has some = when-held act held is has mine

        by-space : (b : Bool) → (act.space.0 == s.0) ≡ b → IsSome (if b then held_or_running act.held (running k.lives m.contexts i.0) else None)
            → IsOnItsWay s i
        by-space false same some = absurd cc
        by-space true same some = by-held (let e : s.0 ≡ act.space.0 = grind (arith, nat_tests, same) in e) act.held refl some
