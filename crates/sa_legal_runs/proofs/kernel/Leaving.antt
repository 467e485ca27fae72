-- An interrupt that leaves the processor for want of an upcall page.
use Rattle.sa_base.proofs.Items.{items_at-append}
use Rattle.sa_legal_runs.proofs.frames.Idle.{is_stop}
use Rattle.sa_legal_runs.proofs.kernel.Interrupts.{stops-shape, Stops, stops-own}
use Rattle.std.proofs.lemmas.List.{append-nil}
use Rattle.std.proofs.Common.{is_some, ◌≡◌, ◌≢◌, ℕ, ◌+◌, sym, ◌∙◌, ap, subst, refl, Bool, true, false, Option, Some, None, List, [], ◌∷◌, ◌++◌, slice_set, inl, append_assoc}
use Rattle.std.specs.List.{list_all, list_any}
use Rattle.sa_base.specs.declared.record.Item.{Item}
use Rattle.sa_base.specs.declared.number.ProcNo.{ProcNo}
use Rattle.sa_base.specs.declared.number.SpaceNo.{SpaceNo}
use Rattle.sa_base.specs.declared.number.ActNo.{ActNo}
use Rattle.sa_base.specs.declared.context.Stopped.{Stopped}
use Rattle.sa_base.specs.declared.record.Record.{Record}
use Rattle.sa_base.specs.declared.record.Record.TheVariants.{Move, Aim}
use Rattle.sa_base.specs.Items.{items_at}
use Rattle.sa_spaces.specs.Workload.{WorkloadView}
use Rattle.sa_acts.specs.declared.acts.Act.{Act}
use Rattle.sa_assign.specs.Aims.{space_no}
use Rattle.sa_laws.specs.Turns.{IsTurn, IsInterrupt, IsPassage}
use Rattle.sa_laws.specs.State.{runner_on}
use Rattle.sa_laws.specs.Life.{Life}
use Rattle.sa_laws.specs.Readings.{Readings, owner_of as owner_in, line_of as line_in}
use Rattle.sa_laws.specs.History.{after_records, is_up}
use Rattle.sa_laws.specs.Event.{Event}
use Rattle.sa_laws.specs.Step.{AreSteps}
use Rattle.sa_laws.specs.Upcalls.{fetch_records, leave_records}
use Rattle.sa_laws.proofs.Records.{records-append}
use Rattle.sa_histories.proofs.Appended.{steps-append}
use Rattle.sa_kernel_model.specs.Entries.{entered, entered_as}
use Rattle.sa_kernel_model.specs.State.{KernelState, Scene, owner_of, is_fetching}
use Rattle.sa_kernel_laws.proofs.entries.OwnPart.{own-others, append-some}
use Rattle.sa_kernel_laws.proofs.entries.Walks.{AreOwn, not-empty}
use Rattle.sa_kernel_model.specs.Parts.{leave, fetch_page}
use Rattle.sa_kernel_model.specs.declared.entry.Entry.{Entry}
use Rattle.sa_kernel_model.specs.declared.entry.Entry.TheVariants.{Interrupt}
use Rattle.sa_kernel_model.specs.Closing.{closed}
use Rattle.sa_kernel_model.specs.Entering.{upcalls}
use Rattle.sa_kernel_laws.specs.Histories.{IsHistory}
use Rattle.sa_kernel_laws.specs.Turn.{Turn, CanTurn, event_of}
use Rattle.sa_core_model.specs.Machine.{Machine, without_context, scene_of}
use Rattle.sa_core_model.specs.Standing.{contexts_of, contexts_in, IsBetween}
use Rattle.sa_core_model.specs.Turn.{next_event, entered_on, kernel_entered, welcomed_if}
use Rattle.sa_core_model.proofs.Effects.{same-closed, same-again, same-leave}
use Rattle.sa_core_model.proofs.Phases.{contexts-same}
use Rattle.sa_user_laws.specs.Scene.{event_begun_at}
use Rattle.sa_user_laws.specs.Steps.{begins_step, event_with}
use Rattle.sa_user_laws.specs.Level.{UserLevel}
use Rattle.sa_legal_runs.proofs.matching.Composed.{strict-raised, IsComposed, Goes, read}
use Rattle.sa_legal_runs.proofs.kernel.Interrupts.Stops.{none, one}
use Rattle.sa_legal_runs.proofs.frames.Moments.{same-for, StaysPut, is_plain, plains-stay}
use Rattle.sa_legal_runs.proofs.frames.Lives.{AreMatched}
use Rattle.sa_legal_runs.proofs.matching.Spaces.{AreFit, fit-contexts, fit-same}
use Rattle.sa_legal_runs.proofs.kernel.Halted.{IsHalted, nobody-halted}
use Rattle.sa_legal_runs.proofs.matching.Longer.{Parted, parted, history-turn}
use Rattle.sa_legal_runs.proofs.kernel.Ticks.{kernel-goes, begins_line}

module _ {C : Type 0} where
  -- The records of a leave.
  pub leave-items : (g : ℕ) (p : ProcNo) (s : SpaceNo) (x : Scene C)
      → (leave g p s x).items ≡ x.items ++ items_at g p (leave_records p (owner_of x.state p) s (is_fetching x.state s.0))
  leave-items g p s x =
      let two = items_at g p (Move (owner_of x.state p) None ∷ Aim p None ∷ []) in
      fetch-items (is_fetching x.state s.0) _
      ∙ ap (λ (xs : List Item). xs ++ items_at g p (fetch_records s (is_fetching x.state s.0)))
      (append_assoc x.items (items_at g p (Move (owner_of x.state p) None ∷ [])) (items_at g p (Aim p None ∷ [])))
      ∙ append_assoc x.items two (items_at g p (fetch_records s (is_fetching x.state s.0)))
    where
      fetch-items : (b : Bool) (y : Scene C) → (fetch_page g p s b y).items ≡ y.items ++ items_at g p (fetch_records s b)
      fetch-items true y = sym (append-nil y.items)
      fetch-items false y = refl

pub leave-own : (p : ProcNo) (o : Option SpaceNo) (s : SpaceNo) (b : Bool) → AreOwn (leave_records p o s b)
leave-own p o s true = refl
leave-own p o s false = refl

pub leave-plain : (p : ProcNo) (o : Option SpaceNo) (s : SpaceNo) (b : Bool) → list_all is_plain (leave_records p o s b) ≡ true
leave-plain p o s true = refl
leave-plain p o s false = refl

pub leave-no_up : (p : ProcNo) (o : Option SpaceNo) (s : SpaceNo) (b : Bool) → list_any is_up (leave_records p o s b) ≡ false
leave-no_up p o s true = refl
leave-no_up p o s false = refl

pub leave-no_stop : (p : ProcNo) (o : Option SpaceNo) (s : SpaceNo) (b : Bool) → list_any is_stop (leave_records p o s b) ≡ false
leave-no_stop p o s true = refl
leave-no_stop p o s false = refl

pub leave-passage : (p : ProcNo) (o : Option SpaceNo) (s : SpaceNo) (b : Bool) → IsPassage (leave_records p o s b)
leave-passage p o s true = tt
leave-passage p o s false = tt

pub leave-steps : (w : WorkloadView) (e : ℕ) (p : ProcNo) (r : Readings) (o : Option SpaceNo) (s : SpaceNo) (b : Bool)
    → owner_in r p ≡ o → runner_on r.state p ≡ None → AreSteps w e p r (leave_records p o s b)
leave-steps w e p r o s true is nobody = ((is, nobody), (tt, tt))
leave-steps w e p r o s false is nobody = ((is, nobody), (tt, (tt, tt)))

stops-no_step : (own rest : List Record) → Stops own → begins_step rest ≡ false → begins_step (own ++ rest) ≡ false
stops-no_step _ rest none is = is
stops-no_step _ rest (one s t a) is = refl

stops-no_line : (own rest : List Record) → Stops own → begins_line rest ≡ false → begins_line (own ++ rest) ≡ false
stops-no_line _ rest none is = is
stops-no_line _ rest (one s t a) is = refl

stops-no_up : (own rest : List Record) → Stops own → list_any is_up rest ≡ false → list_any is_up (own ++ rest) ≡ false
stops-no_up _ rest none is = is
stops-no_up _ rest (one s t a) is = is

stops-interrupt : (own : List Record) (p : ProcNo) (o : Option SpaceNo) (s : SpaceNo) (b : Bool) → Stops own
    → IsInterrupt (own ++ leave_records p o s b)
stops-interrupt _ p o s true none = tt
stops-interrupt _ p o s false none = tt
stops-interrupt _ p o s b (one t u a) = leave-passage p o s b

module _ {U C : Type 0} (level : UserLevel U C) where
  -- AN INTERRUPT THAT LEAVES, since the upcall page is absent.
  pub interrupt-leave : (w : WorkloadView) (events : List Event) (m : Machine U C) (p : ProcNo) (n : ActNo) (s : SpaceNo)
      (held : Option (Stopped C)) (own : List Record) (y : KernelState C)
      → (c : IsComposed level w events m) → Stops own
      → let g = m.event + 1 in
      let x : Machine U C = next_event m in
      let r = read level w events in
      let b = event_begun_at w g p r in
      let entry : Entry C = Interrupt held in
      let t : Turn C = record { number = g; proc = p; says = []; fresh = n; entry = Some entry } in
      let after : Machine U C = entered_on level.calls p n entry (without_context p x) in
      CanTurn w m.kernel r t
      → ((items : List Item) → entered_as g p n entry (record { state = x.kernel; items = items }) ≡ leave g p s
      (record { state = y; items = items ++ items_at g p own }))
      → IsHalted level w m.event p n x y (after_records w g p b own) → AreSteps w g p b own
      → upcalls x.kernel p entry ≡ false → is_some (line_in r p) ≡ true
      → IsBetween level.stands after → after.workload ≡ w → after.event ≡ g
      → (ev : Event) × Goes level w events m p after ev
  interrupt-leave w events m p n s held own y c stops can entering halted steps up raised between workload event =
      let g = m.event + 1 in
      let x : Machine U C = next_event m in
      let r = read level w events in
      let b = event_begun_at w g p r in
      let entry : Entry C = Interrupt held in
      let t : Turn C = record { number = g; proc = p; says = []; fresh = n; entry = Some entry } in
      let o = owner_of y p in
      let still = is_fetching y s.0 in
      let rest = leave_records p o s still in
      let all = own ++ rest in
      let none : List Item = [] in
      let items : (entered_as g p n entry (record { state = x.kernel; items = none })).items ≡ items_at g p all =
      ap (λ (z : Scene C). z.items) (entering none) ∙ leave-items g p s (record { state = y; items = none ++ items_at g p own })
      ∙ sym (items_at-append g p own rest) in
      let some : all ≢ [] = append-some own rest (not-empty (Move o None) (Aim p None ∷ fetch_records s still)) in
      let are : AreOwn all = stops-own own rest stops (leave-own p o s still) in
      let part : Parted t m.kernel all = parted w m.kernel r t all c.history.ok c.history.kept can some (own-others all are) items in
      let cl = part.closing in
      let ev : Event = event_with g p all cl in
      let z : Scene C = leave g p s (record { state = y; items = x.items ++ items_at g p own }) in
      let k = closed g p z in
      let now : entered g p n entry (scene_of (without_context p x)) ≡ k = ap (λ (v : Scene C). closed g p v) (entering x.items) in
      let past = history-turn level.rules.inside w events m.kernel m.items t c.history can in
      let history : IsHistory level.rules.inside w (events ++ ev ∷ []) k =
      subst (λ (e : Event). IsHistory level.rules.inside w (events ++ e ∷ []) k) part.is
      (subst (λ (v : Scene C). IsHistory level.rules.inside w (events ++ event_of t m.kernel ∷ []) v) now
      (subst (λ (xs : List Item). IsHistory level.rules.inside w (events ++ event_of t m.kernel ∷ [])
      (entered g p n entry (record { state = x.kernel; items = xs }))) (append-nil m.items) past)) in
      let front = after_records w g p b own in
      let first = after_records w g p b all in
      let both : first ≡ after_records w g p front rest = records-append w g p b own rest in
      let put : StaysPut front first =
      subst (λ (v : Readings). StaysPut front v) (sym both) (plains-stay w g p front rest (leave-plain p o s still)) in
      let done : Machine U C = record (without_context p x) { kernel = k.state; items = k.items } in
      let after : Machine U C = entered_on level.calls p n entry (without_context p x) in
      let is : after ≡ done = ap (λ (v : Bool). welcomed_if level.calls p v (kernel_entered p n entry (without_context p x))) up
      ∙ ap (λ (v : Scene C). let q : Machine U C = record (without_context p x) { kernel = v.state; items = v.items } in q) now in
      let runs = same-again y z.state k.state (same-leave g p s (record { state = y; items = x.items ++ items_at g p own }))
      (same-closed g p z) in
      let turn : IsTurn level.rules.Steps (is_some (line_in r p)) g w b p all =
      subst (λ (l : Bool). IsTurn level.rules.Steps l g w b p all) (sym raised) (stops-interrupt own p o s still stops) in
      let matched : AreMatched done.kernel.acts first.lives =
      subst (λ (fs : ℕ → Option (Act C)). AreMatched fs first.lives) (sym runs.acts)
      (subst (λ (ls : ℕ → Option Life). AreMatched y.acts ls) (sym put.lives) halted.matched) in
      let fit : AreFit level.fits w first done.users (contexts_of done) =
      fit-contexts level w first x.users (contexts_in y.lives y.acts (slice_set x.contexts p.0 None)) (contexts_of done)
      (contexts-same y.lives k.state.lives y.acts k.state.acts (slice_set x.contexts p.0 None) runs.lives runs.acts)
      (fit-same level w front first x.users (contexts_in y.lives y.acts (slice_set x.contexts p.0 None)) c.history.ok
      (λ i. same-for front first put (space_no i)) halted.fit) in (
        ev,
        kernel-goes level w events m after p all cl c can.within some
            (stops-no_step own rest stops refl) (stops-no_line own rest stops refl)
            (stops-no_up own rest stops (leave-no_up p o s still))
            (stops-shape own rest stops (leave-no_stop p o s still)) part.parts part.closes
            (subst (λ (q : Machine U C). IsHistory level.rules.inside w (events ++ ev ∷ []) (scene_of q)) (sym is) history)
            (steps-append w g p b own rest steps
            (leave-steps w g p front o s still halted.owner (nobody-halted level w m.event p n x y front halted)))
            (inl (stops-interrupt own p o s still stops)) turn (strict-raised w r ev raised)
            (subst (λ (q : Machine U C). AreMatched q.kernel.acts first.lives) (sym is) matched)
            (subst (λ (q : Machine U C). AreFit level.fits w first q.users (contexts_of q)) (sym is) fit)
            between workload event,
      )
