-- What stays where the context of a processor was handed over, and what an entry makes of the machine then.
use Rattle.std.proofs.Common.{◌≡◌, ℕ, ◌+◌, ◌<◌, ◌≤◌, Option, Some, None, IsSome, [], length, sym, ap, subst, ◌∙◌, arith}
use Rattle.sa_base.specs.declared.number.ProcNo.{ProcNo}
use Rattle.sa_base.specs.declared.number.ActNo.{ActNo}
use Rattle.sa_base.specs.declared.context.Stopped.{Stopped}
use Rattle.sa_base.specs.declared.limits.TheConstants.{MAX_EVENTS}
use Rattle.sa_base.specs.Recorded.{Recorded}
use Rattle.sa_abstract.specs.Calls.{Calls}
use Rattle.sa_abstract.specs.Keeps.{Standing, Keeps}
use Rattle.sa_abstract.specs.declared.answer.Step.{Step}
use Rattle.sa_abstract.specs.declared.answer.Step.TheVariants.{Block}
use Rattle.sa_kernel_model.specs.declared.entry.TheConstants.{ENTRY_ITEMS}
use Rattle.sa_kernel_model.specs.declared.entry.Entry.TheVariants.{Interrupt, Block as BlockEntry}
use Rattle.sa_kernel_model.specs.State.{owner_of, line_of}
use Rattle.sa_kernel_model.specs.Entering.{MayEnter}
use Rattle.sa_kernel_model.specs.Owed.{owed_items}
use Rattle.sa_kernel.specs.Kept.{KernelView, kernel_of}
use Rattle.sa_core_model.specs.Machine.{Machine, without_context, stopped_in}
use Rattle.sa_core_model.specs.Turn.{entered_on, blocked, blocked_by, interrupted}
use Rattle.sa_core_model.proofs.Phases.{at-owned}
use Rattle.sa_core_model.proofs.Turns.{stopped-is}
use Rattle.sa_machine.specs.declared.machine.MachineParts.{MachineParts}
use Rattle.sa_machine.specs.View.{machine_of}
use Rattle.sa_machine.specs.Room.{owed, Spends}
use Rattle.sa_machine.specs.Needs.{ByFresh, IsNext, Asks}
use Rattle.sa_machine.proofs.EnterLemmas.{asks-within, can-stop, can-hold}

-- the kernel, the trace and the number of the last event stay
module _ {U C : Type 0} (p : ProcNo) (old new : MachineParts U C) (machine : machine_of new ≡ without_context p (machine_of old))
    (kernel : new.kernel ≡ old.kernel) (trace : new.trace ≡ old.trace) where
  pub stays-within : p.0 < length (machine_of old).kernel.lives → p.0 < length (machine_of new).kernel.lives
  stays-within h = subst (λ (k : KernelView C). p.0 < length (kernel_of k).lives) (sym kernel) h

  pub stays-later : old.kernel.last < old.events → new.kernel.last < new.events
  stays-later h =
      subst (λ (z : Machine U C). new.kernel.last < z.event) (sym machine) (subst (λ (k : KernelView C). k.last < old.events) (sym kernel) h)

  pub stays-event : old.events ≤ MAX_EVENTS → new.events ≤ MAX_EVENTS
  stays-event h = subst (λ (z : Machine U C). z.event ≤ MAX_EVENTS) (sym machine) h

  pub stays-fetched : (machine_of old).kernel.telling ≡ [] → (machine_of new).kernel.telling ≡ []
  stays-fetched h = subst (λ (k : KernelView C). (kernel_of k).telling ≡ []) (sym kernel) h

  pub stays-entries : 1 ≤ old.kernel.spare → 1 ≤ new.kernel.spare
  stays-entries h = subst (λ (k : KernelView C). 1 ≤ k.spare) (sym kernel) h

  pub stays-room : ENTRY_ITEMS + owed old ≤ old.trace.spare → ENTRY_ITEMS + owed new ≤ new.trace.spare
  stays-room h =
      subst (λ (t : Recorded). ENTRY_ITEMS + owed new ≤ t.spare) (sym trace)
      (subst (λ (k : KernelView C). ENTRY_ITEMS + owed_items (kernel_of k) ≤ old.trace.spare) (sym kernel) h)

  pub stays-spent : (last : MachineParts U C) (most turns : ℕ) → Spends new last most turns → Spends old last most turns
  stays-spent last most turns spends =
      let room = ap (λ (t : Recorded). t.spare) trace in
      let due = ap (λ (k : KernelView C). owed_items (kernel_of k)) kernel in
      let spare = ap (λ (k : KernelView C). k.spare) kernel in
      let latest = ap (λ (k : KernelView C). k.last) kernel in
      let event = ap (λ (z : Machine U C). z.event) machine in
      record {
        items = omega (arith, spends.items, room, due);
        entries = omega (arith, spends.entries, spare);
        last = omega (arith, spends.last, latest);
        events = omega (arith, spends.events, event);
      }

module _ {U C : Type 0} (f : Calls U C) (p : ProcNo) (m n last : Machine U C) (is : n ≡ without_context p m) where
  pub interrupted-so : (held : Option (Stopped C)) → held ≡ stopped_in f m p (owner_of m.kernel p)
      → ByFresh n last (λ fresh. entered_on f p fresh (Interrupt held) n) → ByFresh m last (λ fresh. interrupted f p fresh m)
  interrupted-so held is_held by = record {
    fresh = by.fresh;
    unused = subst (λ (z : Machine U C). z.kernel.acts by.fresh.0 ≡ None) is by.unused;
    is =
        by.is ∙ ap (λ (z : Machine U C). entered_on f p by.fresh (Interrupt held) z) is
        ∙ ap (λ (h : Option (Stopped C)). entered_on f p by.fresh (Interrupt h) (without_context p m)) is_held;
  }

  pub blocked-so : (len : ℕ) (page : Option ℕ) (held : Stopped C) → stopped_in f m p (owner_of m.kernel p) ≡ Some held
      → ByFresh n last (λ fresh. entered_on f p fresh (BlockEntry held len page) n) → ByFresh m last (λ fresh. blocked f p fresh len page m)
  blocked-so len page held is_held by = record {
    fresh = by.fresh;
    unused = subst (λ (z : Machine U C). z.kernel.acts by.fresh.0 ≡ None) is by.unused;
    is =
        by.is ∙ ap (λ (z : Machine U C). entered_on f p by.fresh (BlockEntry held len page) z) is
        ∙ sym (ap (λ (h : Option (Stopped C)). blocked_by f p by.fresh len page h (without_context p m)) is_held);
  }

module _ {U C : Type 0} (f : Calls U C) (stands : Standing U C) (keep : Keeps f stands) (m n : Machine U C) (p : ProcNo) (a : ActNo)
    (is : n ≡ without_context p m) (unused : m.kernel.acts a.0 ≡ None) where
  pub interrupt-fits : (held : Option (Stopped C)) → IsNext stands m → p.0 < m.workload.processors → IsSome (line_of m.kernel p)
      → held ≡ stopped_in f m p (owner_of m.kernel p) → MayEnter n.kernel p n.event (Interrupt held)
  interrupt-fits held next within raised is_held =
      subst (λ (z : Machine U C). MayEnter z.kernel p z.event (Interrupt held)) (sym is)
      (subst (λ (h : Option (Stopped C)). MayEnter m.kernel p m.event (Interrupt h)) (sym is_held) (can-stop f stands keep m p a next within raised unused).fit)

  pub block-fits : (len : ℕ) (page : Option ℕ) (held : Stopped C) → Asks stands p (Block len page) m
      → stopped_in f m p (owner_of m.kernel p) ≡ Some held → MayEnter n.kernel p n.event (BlockEntry held len page)
  block-fits len page held asks is_held =
      subst (λ (z : Machine U C). MayEnter z.kernel p z.event (BlockEntry held len page)) (sym is)
      (can-hold f stands keep m p a len page held asks unused is_held).fit

module _ {U C : Type 0} (f : Calls U C) (stands : Standing U C) (keep : Keeps f stands) (m : Machine U C) (p : ProcNo) where
  -- a context that asks runs there, so it is handed over
  pub asks-held : (asked : Step) → Asks stands p asked m → stopped_in f m p (owner_of m.kernel p) ≡ None → ⊥
  asks-held asked asks none =
      let here = at-owned f stands keep m.event m p asks.space asks.between.standing asks.owner in
      let held = stopped-is f stands keep m p asks.space here in
      let both = sym none ∙ held in
      cc

  pub asks-place : (asked : Step) → Asks stands p asked m → p.0 < m.workload.processors
  asks-place asked asks =
      let within = asks-within f stands keep m p asked asks in
      omega (arith, within, asks.between.standing.lives)
