-- Histories from call to call: they open, go on by an entry, by a slice's end or without the kernel, and a fetch keeps them.
use Rattle.std.proofs.Common.{◌≡◌, ℕ, map, ◌<◌, ◌≤◌, false, sym, ◌∙◌, ap, subst, refl, Some, None, List, [], ◌∷◌, ◌++◌, length}
use Rattle.std.specs.Prelude.{Option, Bool}
use Rattle.std.proofs.lemmas.List.{append-nil, append_cancel_left}
use Rattle.sa_base.specs.declared.number.ProcNo.{ProcNo}
use Rattle.sa_base.specs.declared.number.ActNo.{ActNo}
use Rattle.sa_base.specs.declared.record.Item.{Item}
use Rattle.sa_base.specs.Items.{items_at}
use Rattle.sa_spaces.specs.Workload.{WorkloadView, IsWorkload}
use Rattle.sa_kernel_model.specs.declared.entry.Entry.{Entry}
use Rattle.sa_kernel_model.specs.declared.entry.Given.{Given}
use Rattle.sa_kernel_model.specs.State.{KernelState, Scene}
use Rattle.sa_kernel_model.specs.Closing.{spaces, must_want, shares, closed, NoLineIsDue}
use Rattle.sa_kernel_model.specs.Entries.{entered, entered_as, evicted_at, after_fetch}
use Rattle.sa_kernel_model.specs.Enters.{Enters}
use Rattle.sa_kernel_model.specs.Opening.{opened}
use Rattle.sa_laws.specs.Event.{Event, items_of}
use Rattle.sa_laws.specs.Readings.{Readings, opening_readings}
use Rattle.sa_laws.specs.History.{Test, after_event, after_events}
use Rattle.sa_laws.specs.Opening.{opening_event}
use Rattle.sa_laws.specs.Closing.{first_space, claims_of, shares_at, aims_due, must_want as must_want_in}
use Rattle.sa_laws.proofs.Records.{items-push}
use Rattle.sa_share.specs.Share.{share_at}
use Rattle.sa_share.specs.Rounds.{shares_of}
use Rattle.sa_assign.proofs.AimLemmas.{none-missing}
use Rattle.sa_assign.specs.Aims.{space_no, aimed, changes}
use Rattle.sa_assign.specs.Reaim.{proc_no, changes_in}
use Rattle.sa_kernel_model.specs.Sound.{IsSound}
use Rattle.sa_kernel_laws.specs.Turn.{MayTurn, SaysRightly}
use Rattle.sa_kernel_laws.specs.Kept.{IsKept}
use Rattle.sa_kernel_laws.specs.Laws.{AllHold}
use Rattle.sa_kernel_laws.specs.Runs.{AllHoldFrom}
use Rattle.sa_kernel_laws.specs.Calls.{CanCall, IsContinued, scene_before}
use Rattle.sa_kernel_laws.specs.Histories.{IsHistory, IsUnderWay, IsLonger, GoesOnLawfully, QuietEventsGoOn, last_of, last_number, read_from, read_within}
use Rattle.sa_kernel_laws.proofs.closings.Aims.{due-same}
use Rattle.sa_kernel_laws.proofs.turns.Fetches.{fetches-keep}
use Rattle.sa_kernel_laws.proofs.closings.Rest.{rests-closed, rests-fetched, closing-adds-nothing}
use Rattle.sa_kernel_model.proofs.sound.Sound.{sound-opening, sound-evicted, sound-entered_as}
use Rattle.sa_kernel_laws.proofs.closings.Wants.{must-same}
use Rattle.sa_kernel_laws.proofs.turns.WholeTurn.{records-said}
use Rattle.sa_kernel_laws.specs.Turn.{what_of}
use Rattle.sa_base.specs.declared.record.Record.{Record}
use Rattle.sa_kernel_laws.proofs.opening.Opened.{opening-is, opening-keeps}
use Rattle.sa_kernel_laws.proofs.histories.Runs.{all-at-opening}
use Rattle.sa_kernel_laws.proofs.histories.Calls.{entries-go-on, slices-go-on}

-- one event more
pub after_events-push : (test : Test) (w : WorkloadView) (r : Readings) (es : List Event) (e : Event)
    → after_events test w r (es ++ e ∷ []) ≡ after_event test w (after_events test w r es) e
after_events-push test w r [] e = refl
after_events-push test w r (x ∷ es) e = after_events-push test w (after_event test w r x) es e

pub last_of-push : (e : Event) (es : List Event) (x : Event) → last_of e (es ++ x ∷ []) ≡ x
last_of-push e [] x = refl
last_of-push e (y ∷ es) x = last_of-push y es x

pub hold-push : (test : Test) (w : WorkloadView) (r : Readings) (es : List Event) (e : Event)
    → AllHoldFrom test w r es → AllHold test w (after_events test w r es) e → AllHoldFrom test w r (es ++ e ∷ [])
hold-push test w r [] e past here = (here, tt)
hold-push test w r (x ∷ es) e past here = (past.0, hold-push test w (after_event test w r x) es e past.1 here)

module _ {C : Type 0} where
  longer : (test : Test) (w : WorkloadView) (events : List Event) (before new : Scene C) → IsHistory test w events before → (e : ℕ) (p : ProcNo)
      → IsContinued test w (read_from test w events) e p before.items new → NoLineIsDue new.state → IsLonger test w events e p new
  longer test w events before new h e p go low =
      let past = opening_event w ∷ events in
      let event = go.event in
      let items : items_at e p event.records ≡ items_at event.number event.proc event.records =
      ap (λ (n : ℕ). items_at n p event.records) (sym go.number) ∙ ap (λ (q : ProcNo). items_at event.number q event.records) (sym go.proc) in
      record {
        event = event;
        number = go.number;
        proc = go.proc;
        history = record {
          ok = h.ok;
          items = go.items ∙ ap (λ (xs : List Item). xs ++ items_at e p event.records) h.items
              ∙ ap (λ (xs : List Item). items_of past ++ xs) items ∙ sym (items-push past event);
          lawful = hold-push test w (opening_readings w) past event h.lawful go.lawful;
          kept = subst (λ (r : Readings). IsKept w new.state r) (sym (after_events-push test w (opening_readings w) past event)) go.kept;
          low = low;
        };
      }

  -- the scene of an event that goes on
  scene-is : (test : Test) (w : WorkloadView) (events : List Event) (e : ℕ) (p : ProcNo) (says : List Record) (entry : Option (Entry C)) (x : Scene C)
      → (u : IsUnderWay test w events e p says entry x) → x ≡ scene_before u.before.state e p says u.before.items
  scene-is test w events e p says entry x u = λ i. record { state = u.state i; items = u.items i }

  can-call : (test : Test) (w : WorkloadView) (events : List Event) (e : ℕ) (p : ProcNo) (says : List Record) (entry : Option (Entry C)) (x : Scene C)
      → (u : IsUnderWay test w events e p says entry x) → p.0 < length x.state.lives → 1 ≤ e → CanCall w u.before.state (read_from test w events) e p says entry
  can-call test w events e p says entry x u within later =
      let r = read_from test w events in record {
        ok = u.history.ok;
        kept = u.history.kept;
        within = subst (λ (k : KernelState C). p.0 < length k.lives) u.state within;
        later = later;
        fetched = sym (ap (λ (k : KernelState C). k.telling) u.state) ∙ u.fetched;
        fits = subst (λ (k : KernelState C). MayTurn k p e entry) u.state u.fits;
        right = subst (λ (k : KernelState C). SaysRightly w k p r (read_within w e p r says) says entry) u.state u.right;
      }

  sound-here : (test : Test) (w : WorkloadView) (events : List Event) (e : ℕ) (p : ProcNo) (says : List Record) (entry : Option (Entry C)) (x : Scene C)
      → IsUnderWay test w events e p says entry x → IsSound x.state
  sound-here test w events e p says entry x u =
      subst (λ (k : KernelState C). IsSound k) (sym u.state) (sound-evicted e u.before.state u.history.kept.sound)

  pub entry-goes-on : (e : ℕ) (p : ProcNo) (entry : Entry C) (old new : Scene C) (result : Given) (upcalls : Bool) → p.0 < length old.state.lives → 1 ≤ e
      → Enters old new result upcalls (λ (a : ActNo). entered e p a entry) → GoesOnLawfully e p (Some entry) old new
  entry-goes-on e p entry old new result upcalls within later enters test w events says u =
      let enters_so =
      subst (λ (x : Scene C). Enters x new result upcalls (λ (a : ActNo). entered e p a entry)) (scene-is test w events e p says (Some entry) old u) enters in
      longer test w events u.before new u.history e p
      (entries-go-on C test w u.before.state (read_from test w events) e p says u.before.items entry result upcalls new
      (can-call test w events e p says (Some entry) old u within later) enters_so)
      (subst (λ (x : Scene C). NoLineIsDue x.state) (sym enters.scene) (rests-closed e p (entered_as e p enters.fresh entry old)
      (sound-entered_as e p enters.fresh entry old within u.fits enters.unused u.fetched (sound-here test w events e p says (Some entry) old u))))

  pub slice-goes-on : (e : ℕ) (p : ProcNo) (old new : Scene C) → p.0 < length old.state.lives → 1 ≤ e → new ≡ closed e p old → GoesOnLawfully e p None old new
  slice-goes-on e p old new within later is test w events says u =
      longer test w events u.before new u.history e p
      (slices-go-on C test w u.before.state (read_from test w events) e p says u.before.items new (can-call test w events e p says None old u within later)
      (is ∙ ap (λ (x : Scene C). closed e p x) (scene-is test w events e p says None old u)))
      (subst (λ (x : Scene C). NoLineIsDue x.state) (sym is) (rests-closed e p old (sound-here test w events e p says None old u)))

  pub history-opens : (test : Test) (w : WorkloadView) → IsWorkload w → IsHistory test w [] (opened {C = C} w)
  history-opens test w ok = record {
    ok = ok;
    items = opening-is C w ok ∙ sym (append-nil (items_at (opening_event w).number (opening_event w).proc (opening_event w).records));
    lawful = (all-at-opening test w ok, tt);
    kept = opening-keeps C test w ok;
    low = rests-closed 0 (proc_no 0) _ (sound-opening w ok);
  }

  -- the fetch of a notice adds nothing to a history
  pub history-fetched : (test : Test) (w : WorkloadView) (events : List Event) (x : Scene C) → IsHistory test w events x
      → IsHistory test w events (record x { state = after_fetch x.state.telling x.state })
  history-fetched test w events x h = record {
    ok = h.ok;
    items = h.items;
    lawful = h.lawful;
    kept = fetches-keep C w x.state (read_from test w events) h.kept;
    low = rests-fetched x.state.telling x.state h.low;
  }

-- the laws hold at the last event
record HoldsLast (test : Test) (w : WorkloadView) (r : Readings) (e : Event) (es : List Event) : Type 0 where
  before : Readings
  holds : AllHold test w before (last_of e es)
  after : after_events test w r (e ∷ es) ≡ after_event test w before (last_of e es)

holds-last : (test : Test) (w : WorkloadView) (r : Readings) (e : Event) (es : List Event) → AllHoldFrom test w r (e ∷ es) → HoldsLast test w r e es
holds-last test w r e [] h = record { before = r; holds = h.0; after = refl }
holds-last test w r e (x ∷ xs) h =
    let rest = holds-last test w (after_event test w r e) x xs h.1 in
    record { before = rest.before; holds = rest.holds; after = rest.after }

module _ {C : Type 0} where
  -- after a history a closing adds nothing, while the remainder of the processors begins with the same space
  nothing-closes : (test : Test) (w : WorkloadView) (events : List Event) (e : ℕ) (p : ProcNo) (before : Scene C) (h : IsHistory test w events before)
      (items : List Item) → first_space w e ≡ first_space w (last_number w events)
      → closed e p (record { state = evicted_at e before.state; items = items }) ≡ (record { state = evicted_at e before.state; items = items })
  nothing-closes test w events e p before h items same =
      let k = before.state in
      let r = read_from test w events in
      let last = holds-last test w (opening_readings w) (opening_event w) events h.lawful in
      let n = last_number w events in
      let wanted : (s : ℕ) → must_want k s ≡ false =
      λ s. sym (must-same k r s h.kept.reads h.kept.idle) ∙ ap (λ (c : Readings). must_want_in c (space_no s)) last.after
      ∙ last.holds.want_cause.none (space_no s) in
      let enough : (s : ℕ) → share_at (shares_at w n r) s ≤ aimed s r.aims =
      subst (λ (c : Readings). (s : ℕ) → share_at (shares_at w n c) s ≤ aimed s c.aims) (sym last.after) last.holds.shares_covered.covered in
      let due : aims_due w e r ≡ [] =
      ap (λ first. changes (length w.spaces) (shares_of w.processors first (claims_of w r)) r.marks r.aims) same
      ∙ none-missing 0 (length w.spaces) (shares_at w n r) r.marks r.aims enough in
      let aimed_all : changes_in (spaces k) (shares k e) k.assign ≡ [] =
      sym (due-same w k r e h.kept.of (h.kept.sound.formed.sizes.owners ∙ h.kept.of.processors) h.kept.reads) ∙ due in
      closing-adds-nothing e p (record { state = evicted_at e k; items = items }) wanted aimed_all h.low

same-event : (event : Event) (e : ℕ) (p : ProcNo) (says : List Record) (past items : List Item) → event.number ≡ e → event.proc ≡ p
    → items ≡ past ++ items_at e p event.records → items ≡ past ++ items_at e p says → event ≡ (record { number = e; proc = p; records = says })
same-event event e p says past items number proc one other =
    let same : items_at e p event.records ≡ items_at e p says = append_cancel_left past (items_at e p event.records) (items_at e p says) (sym one ∙ other) in
    let records : event.records ≡ says = sym (records-said e p event.records) ∙ ap (map what_of) same ∙ records-said e p says in
    λ i. record { number = number i; proc = proc i; records = records i }

pub quiet-goes-on : (C : Type 0) → QuietEventsGoOn C
quiet-goes-on C test w events e p says x u within later same =
    let is = scene-is test w events e p says None x u in
    let nothing : closed e p x ≡ x =
    ap (λ (y : Scene C). closed e p y) is ∙ nothing-closes test w events e p u.before u.history (u.before.items ++ items_at e p says) same ∙ sym is in
    let next = slice-goes-on e p x x within later (sym nothing) test w events says u in
    let past = opening_event w ∷ events in
    let event = next.event in
    let items : items_at event.number event.proc event.records ≡ items_at e p event.records =
    ap (λ (n : ℕ). items_at n event.proc event.records) next.number ∙ ap (λ (q : ProcNo). items_at e q event.records) next.proc in
    let here = next.history.items ∙ items-push past event ∙ ap (λ (xs : List Item). items_of past ++ xs) items in
    let said = u.items ∙ ap (λ (xs : List Item). xs ++ items_at e p says) u.history.items in
    subst (λ (ev : Event). IsHistory test w (events ++ ev ∷ []) x)
    (same-event event e p says (items_of past) x.items next.number next.proc here said) next.history
