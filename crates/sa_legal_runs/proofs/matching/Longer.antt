-- A history is longer by the event of a turn, or by a quiet one.
use Rattle.sa_kernel_laws.proofs.turns.WholeTurn.{turn-is}
use Rattle.sa_kernel_laws.proofs.histories.Histories.{after_events-push, hold-push}
use Rattle.std.proofs.Common.{◌≡◌, ◌≢◌, ℕ, ◌<◌, sym, ◌∙◌, ap, subst, Option, Some, None, List, [], ◌∷◌, ◌++◌, length, map, drop}
use Rattle.sa_base.specs.declared.number.ProcNo.{ProcNo}
use Rattle.sa_base.specs.declared.number.ActNo.{ActNo}
use Rattle.sa_base.specs.declared.record.Item.{Item}
use Rattle.sa_base.specs.declared.record.Record.{Record}
use Rattle.sa_base.specs.Items.{items_at}
use Rattle.sa_spaces.specs.Workload.{WorkloadView, IsWorkload}
use Rattle.sa_laws.specs.Event.{Event}
use Rattle.sa_laws.specs.Readings.{Readings, opening_readings}
use Rattle.sa_laws.specs.History.{Test, after_event, after_events}
use Rattle.sa_laws.specs.Opening.{opening_event}
use Rattle.sa_laws.specs.Shape.{own_part, closing_part, others_of}
use Rattle.sa_laws.specs.Turns.{IsClosing}
use Rattle.sa_laws.proofs.Records.{items-push}
use Rattle.sa_laws.proofs.Closings.{AreClosing}
use Rattle.sa_kernel_model.specs.declared.entry.Entry.{Entry}
use Rattle.sa_kernel_model.specs.State.{KernelState, Scene}
use Rattle.sa_kernel_model.specs.Closing.{closed, NoLineIsDue}
use Rattle.sa_kernel_model.specs.Entries.{entered_as, evicted_at}
use Rattle.sa_kernel_laws.specs.Turn.{Turn, CanTurn, MayTurn, IsUnused, turned, turn_on, event_of, before_entry, ShapeOf}
use Rattle.sa_kernel_laws.specs.Kept.{IsKept}
use Rattle.sa_kernel_laws.specs.Laws.{AllHold}
use Rattle.sa_kernel_laws.specs.Runs.{AllHoldFrom}
use Rattle.sa_kernel_laws.specs.Histories.{IsHistory, read_from}
use Rattle.sa_kernel_laws.proofs.rules.Upcalls.{turns-keep}
use Rattle.sa_kernel_laws.proofs.histories.Runs.{all-at-turn}
use Rattle.sa_kernel_laws.proofs.turns.Frames.{adds-its-event}
use Rattle.sa_kernel_laws.proofs.turns.Parts.{turns-parts, own-is}
use Rattle.sa_kernel_laws.proofs.closings.Rest.{rests-closed}
use Rattle.sa_kernel_model.proofs.sound.Sound.{sound-evicted, sound-entered_as}
use Rattle.sa_kernel_laws.proofs.turns.Shapes.{drop-front}
use Rattle.sa_kernel_laws.proofs.entries.EachEntry.{before_closing}
use Rattle.sa_kernel_laws.proofs.entries.Walks.{AreOwn}
use Rattle.sa_user_laws.specs.Steps.{IsClosed, event_with}
use Rattle.sa_legal_runs.proofs.matching.Closings.{closed-adds, records-are, Closes}

hold-last : (test : Test) (w : WorkloadView) (r : Readings) (es : List Event) (e : Event) → AllHoldFrom test w r (es ++ e ∷ [])
    → AllHold test w (after_events test w r es) e
hold-last test w r [] e all = all.0
hold-last test w r (x ∷ es) e all = hold-last test w (after_event test w r x) es e all.1

module _ {C : Type 0} where
  -- What the kernel's laws say of the last event of a history.
  pub last-holds : (test : Test) (w : WorkloadView) (events : List Event) (e : Event) (x : Scene C)
      → IsHistory test w (events ++ e ∷ []) x → AllHold test w (read_from test w events) e
  last-holds test w events e x h = hold-last test w (opening_readings w) (opening_event w ∷ events) e h.lawful

  pub last-kept : (test : Test) (w : WorkloadView) (events : List Event) (e : Event) (x : Scene C)
      → IsHistory test w (events ++ e ∷ []) x → IsKept w x.state (after_event test w (read_from test w events) e)
  last-kept test w events e x h =
      subst (λ (r : Readings). IsKept w x.state r) (after_events-push test w (opening_readings w) (opening_event w ∷ events) e) h.kept

  low-turn : (w : WorkloadView) (k : KernelState C) (r : Readings) (e : ℕ) (p : ProcNo) (fresh : ActNo) (en : Option (Entry C))
      (items : List Item) → IsKept w k r → p.0 < length k.lives → IsUnused k fresh en → k.telling ≡ [] → MayTurn (evicted_at e k) p e en
      → NoLineIsDue (turn_on e p fresh en (record { state = evicted_at e k; items = items })).state
  low-turn w k r e p fresh None items kept within unused empty fits =
      rests-closed e p (record { state = evicted_at e k; items = items }) (sound-evicted e k kept.sound)
  low-turn w k r e p fresh (Some en) items kept within unused empty fits =
      let x : Scene C = record { state = evicted_at e k; items = items } in
      rests-closed e p (entered_as e p fresh en x) (sound-entered_as e p fresh en x within fits unused empty (sound-evicted e k kept.sound))

  -- A turn makes a history longer by its event.
  pub history-turn : (test : Test) (w : WorkloadView) (events : List Event) (k : KernelState C) (items : List Item) (t : Turn C)
      → IsHistory test w events (record { state = k; items = items })
      → CanTurn w k (read_from test w events) t
      → IsHistory test w (events ++ event_of t k ∷ [])
      (turn_on t.number t.proc t.fresh t.entry (record { state = evicted_at t.number k; items = items ++ items_at t.number t.proc t.says }))
  history-turn test w events k items t h can =
      let r = read_from test w events in
      let ev = event_of t k in
      let past = opening_event w ∷ events in
      let is = adds-its-event C w k r t items h.ok h.kept can in
      subst (λ (x : Scene C). IsHistory test w (events ++ ev ∷ []) x) (sym is) (record {
        ok = h.ok;
        items = ap (λ (xs : List Item). xs ++ items_at t.number t.proc ev.records) h.items ∙ sym (items-push past ev);
        lawful = hold-push test w (opening_readings w) past ev h.lawful (all-at-turn C test w k r t h.ok h.kept can);
        kept = subst (λ (c : Readings). IsKept w (turned t k).state c) (sym (after_events-push test w (opening_readings w) past ev))
            (turns-keep C test w k r t h.ok h.kept can);
        low = low-turn w k r t.number t.proc t.fresh t.entry
            (items_at t.number t.proc t.says) h.kept can.within can.unused can.fetched can.fits;
      })

  -- The event of a turn consists of its own part and its closing.
  pub record Parted (t : Turn C) (k : KernelState C) (own : List Record) : Type 0 where
    pub closing : List Record
    pub is : event_of t k ≡ event_with t.number t.proc own closing
    pub parts : IsClosed own closing
    pub closes : AreClosing closing
    pub shape : ShapeOf (evicted_at t.number k) t.proc t.says t.entry own

  pub parted : (w : WorkloadView) (k : KernelState C) (r : Readings) (t : Turn C) (own : List Record) → IsWorkload w → IsKept w k r
      → CanTurn w k r t → own ≢ [] → AreOwn (others_of own)
      → (before_closing t.number t.proc t.fresh t.entry (before_entry t k)).items ≡ items_at t.number t.proc own → Parted t k own
  parted w k r t own ok kept can some are items =
      let y = before_closing t.number t.proc t.fresh t.entry (before_entry t k) in
      let turn_is : turned t k ≡ closed t.number t.proc y = turn-is t.number t.proc t.fresh t.entry (before_entry t k) in
      let cl = subst (λ (xs : List Item). Closes t.number t.proc xs (closed t.number t.proc y)) items (closed-adds t.number t.proc y) in
      let records : (event_of t k).records ≡ own ++ cl.closing =
      ap (λ (x : Scene C). map Rattle.sa_kernel_laws.specs.Turn.what_of x.items) turn_is
      ∙ records-are t.number t.proc own (closed t.number t.proc y) cl in
      let part : own_part (own ++ cl.closing) ≡ own = own-is own cl.closing some are cl.closes in
      let behind : closing_part (event_of t k).records ≡ cl.closing =
      ap closing_part records ∙ ap (λ (xs : List Record). drop (length xs) (own ++ cl.closing)) part ∙ drop-front own cl.closing in
      record {
        closing = cl.closing;
        is = λ i. record { number = t.number; proc = t.proc; records = records i };
        parts = record { closes = subst (λ (xs : List Record). IsClosing xs) behind (turns-parts C w k r t ok kept can).closing; is_own = part };
        closes = cl.closes;
        shape = subst (λ (xs : List Record). ShapeOf (evicted_at t.number k) t.proc t.says t.entry xs)
            (ap own_part records ∙ part) (turns-parts C w k r t ok kept can).own;
      }
