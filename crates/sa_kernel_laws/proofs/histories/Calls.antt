-- By what the contracts of the kernel's calls say, a turn comes next, and what is kept is kept.
use Rattle.std.proofs.Common.{◌≡◌, ℕ, refl, sym, ◌∙◌, ap, subst, Some, None, List, ◌++◌}
use Rattle.std.specs.Prelude.{Option}
use Rattle.sa_base.specs.declared.number.ProcNo.{ProcNo}
use Rattle.sa_base.specs.declared.number.ActNo.{ActNo}
use Rattle.sa_base.specs.declared.record.Record.{Record}
use Rattle.sa_base.specs.declared.record.Item.{Item}
use Rattle.sa_base.specs.Items.{items_at}
use Rattle.sa_spaces.specs.Workload.{WorkloadView}
use Rattle.sa_kernel_model.specs.declared.entry.Entry.{Entry}
use Rattle.sa_kernel_model.specs.State.{KernelState, Scene}
use Rattle.sa_laws.specs.Readings.{Readings}
use Rattle.sa_laws.specs.History.{Test, after_event}
use Rattle.sa_kernel_laws.specs.Turn.{Turn, CanTurn, IsUnused, turned, turn_on, event_of}
use Rattle.sa_kernel_laws.specs.Kept.{IsKept}
use Rattle.sa_kernel_laws.specs.Calls.{CanCall, IsContinued, scene_before, EntriesGoOn, SlicesGoOn}
use Rattle.sa_kernel_laws.proofs.rules.Upcalls.{turns-keep}
use Rattle.sa_kernel_laws.proofs.turns.Frames.{adds-its-event}
use Rattle.sa_kernel_laws.proofs.histories.Runs.{all-at-turn}

continued : (C : Type 0) (test : Test) (w : WorkloadView) (k : KernelState C) (r : Readings) (e : ℕ) (p : ProcNo) (says : List Record) (past : List Item)
    (en : Option (Entry C)) (fresh : ActNo) (new : Scene C) → CanCall w k r e p says en → IsUnused k fresh en
    → new ≡ turn_on e p fresh en (scene_before k e p says past) → IsContinued test w r e p past new
continued C test w k r e p says past en fresh new can unused is =
    let t : Turn C = record { number = e; proc = p; says = says; fresh = fresh; entry = en } in
    let turn : CanTurn w k r t = record { within = can.within; later = can.later; unused = unused; fetched = can.fetched; fits = can.fits; says = can.right } in
    let next : new ≡ record { state = (turned t k).state; items = past ++ items_at e p (event_of t k).records } =
    is ∙ adds-its-event C w k r t past can.ok can.kept turn in
    record {
      event = event_of t k;
      number = refl;
      proc = refl;
      items = ap (λ (x : Scene C). x.items) next;
      lawful = all-at-turn C test w k r t can.ok can.kept turn;
      kept = subst (λ (x : Scene C). IsKept w x.state (after_event test w r (event_of t k))) (sym next) (turns-keep C test w k r t can.ok can.kept turn);
    }

pub entries-go-on : (C : Type 0) → EntriesGoOn C
entries-go-on C test w k r e p says past en result upcalls new can enters =
    continued C test w k r e p says past (Some en) enters.fresh new can enters.unused enters.scene

pub slices-go-on : (C : Type 0) → SlicesGoOn C
slices-go-on C test w k r e p says past new can is = continued C test w k r e p says past None (record { 0 = 0 }) new can tt is
