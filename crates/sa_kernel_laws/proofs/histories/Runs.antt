-- The kernel's laws hold along its runs.
use Rattle.std.proofs.Common.{◌≡◌, sym, ◌∙◌, ap, Some, None, List, [], ◌∷◌, ◌++◌, append_assoc}
use Rattle.std.specs.Prelude.{Option}
use Rattle.std.proofs.lemmas.List.{append-nil}
use Rattle.sa_base.specs.declared.record.Item.{Item}
use Rattle.sa_base.specs.Items.{items_at}
use Rattle.sa_spaces.specs.Workload.{WorkloadView, IsWorkload}
use Rattle.sa_kernel_model.specs.State.{KernelState, Scene}
use Rattle.sa_kernel_model.specs.Entries.{after_fetch}
use Rattle.sa_kernel_model.specs.Opening.{opened}
use Rattle.sa_laws.specs.Event.{items_of}
use Rattle.sa_laws.specs.Readings.{Readings, opening_readings}
use Rattle.sa_laws.specs.History.{Test, after_event}
use Rattle.sa_laws.specs.Opening.{opening_event}
use Rattle.sa_kernel_laws.specs.Turn.{Turn, turned, event_of}
use Rattle.sa_kernel_laws.specs.Kept.{IsKept}
use Rattle.sa_kernel_laws.specs.Laws.{AllHold, HoldsAtTurns, HoldsAtOpening}
use Rattle.sa_kernel_laws.specs.Runs.{moved, moved_all, events, CanMove, AllHoldFrom, RunsAreLawful, RunsAreTheirEvents}
use Rattle.sa_kernel_laws.proofs.rules.Upcalls.{told-once, all-told, block-upcalls, in-time, where-owned, interrupt-next, turns-keep}
use Rattle.sa_kernel_laws.proofs.rules.Causes.{want-cause, line-cause}
use Rattle.sa_kernel_laws.proofs.rules.Shares.{cover-shares}
use Rattle.sa_kernel_laws.proofs.turns.Fetches.{fetches-keep}
use Rattle.sa_kernel_laws.proofs.turns.Frames.{adds-its-event}
use Rattle.sa_kernel_laws.proofs.opening.Opened.{opening-is, opening-keeps}
use Rattle.sa_kernel_laws.proofs.opening.Rules as start

pub all-at-turn : (C : Type 0) → HoldsAtTurns C AllHold
all-at-turn C test w k r t ok kept can = record {
  told_once = told-once C test w k r t ok kept can;
  told_in_time = in-time C test w k r t ok kept can;
  where_owned = where-owned C test w k r t ok kept can;
  all_told = all-told C test w k r t ok kept can;
  upcall_given = block-upcalls C test w k r t ok kept can;
  interrupt_next = interrupt-next C test w k r t ok kept can;
  line_cause = line-cause C test w k r t ok kept can;
  want_cause = want-cause C test w k r t ok kept can;
  shares_covered = cover-shares C test w k r t ok kept can;
}

pub all-at-opening : HoldsAtOpening AllHold
all-at-opening test w ok = record {
  told_once = start.told-once test w ok;
  told_in_time = start.in-time test w ok;
  where_owned = start.where-owned test w ok;
  all_told = start.all-told test w ok;
  upcall_given = start.block-upcalls test w ok;
  interrupt_next = start.interrupt-next test w ok;
  line_cause = start.line-cause test w ok;
  want_cause = start.want-cause test w ok;
  shares_covered = start.cover-shares test w ok;
}

lawful-from : (C : Type 0) (test : Test) (w : WorkloadView) (k : KernelState C) (r : Readings) (moves : List (Option (Turn C))) → IsWorkload w → IsKept w k r
    → CanMove test w k r moves → AllHoldFrom test w r (events moves k)
lawful-from C test w k r [] ok kept can = tt
lawful-from C test w k r (None ∷ moves) ok kept can = lawful-from C test w (after_fetch k.telling k) r moves ok (fetches-keep C w k r kept) can
lawful-from C test w k r (Some t ∷ moves) ok kept can = (
  all-at-turn C test w k r t ok kept can.0,
  lawful-from C test w (turned t k).state (after_event test w r (event_of t k)) moves ok (turns-keep C test w k r t ok kept can.0) can.1,
)

items-from : (C : Type 0) (test : Test) (w : WorkloadView) (x : Scene C) (r : Readings) (moves : List (Option (Turn C))) → IsWorkload w → IsKept w x.state r
    → CanMove test w x.state r moves → (moved_all moves x).items ≡ x.items ++ items_of (events moves x.state)
items-from C test w x r [] ok kept can = sym (append-nil x.items)
items-from C test w x r (None ∷ moves) ok kept can =
    items-from C test w (record x { state = after_fetch x.state.telling x.state }) r moves ok (fetches-keep C w x.state r kept) can
items-from C test w x r (Some t ∷ moves) ok kept can =
    let e = event_of t x.state in
    let next : Scene C = record { state = (turned t x.state).state; items = x.items ++ items_at t.number t.proc e.records } in
    let is : moved (Some t) x ≡ next = adds-its-event C w x.state r t x.items ok kept can.0 in
    ap (λ (y : Scene C). (moved_all moves y).items) is
    ∙ items-from C test w next (after_event test w r e) moves ok (turns-keep C test w x.state r t ok kept can.0) can.1
    ∙ append_assoc x.items (items_at t.number t.proc e.records) (items_of (events moves (turned t x.state).state))

pub runs-lawful : (C : Type 0) → RunsAreLawful C
runs-lawful C test w moves ok can = (
  all-at-opening test w ok,
  lawful-from C test w (opened {C = C} w).state (after_event test w (opening_readings w) (opening_event w)) moves ok (opening-keeps C test w ok) can,
)

pub runs-events : (C : Type 0) → RunsAreTheirEvents C
runs-events C test w moves ok can =
    items-from C test w (opened {C = C} w) (after_event test w (opening_readings w) (opening_event w)) moves ok (opening-keeps C test w ok) can
    ∙ ap (λ (xs : List Item). xs ++ items_of (events moves (opened {C = C} w).state)) (opening-is C w ok)
