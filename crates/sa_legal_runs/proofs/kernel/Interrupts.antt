-- An interrupt that upcalls the aim.
use Rattle.std.proofs.lemmas.List.{append-nil}
use Rattle.std.proofs.Common.{◌≡◌, ◌≢◌, ℕ, ◌+◌, ◌<◌, sym, ◌∙◌, ap, subst, refl, Bool, true, false, not, Option, Some, None, is_some, List, [], ◌∷◌, ◌++◌, map, length, append_assoc, inl, Contains}
use Rattle.std.specs.List.{list_any}
use Rattle.std.proofs.lemmas.List.Elements.{Contains-append_right}
use Rattle.sa_base.specs.declared.number.ProcNo.{ProcNo}
use Rattle.sa_base.specs.declared.number.SpaceNo.{SpaceNo}
use Rattle.sa_base.specs.declared.number.ActNo.{ActNo}
use Rattle.sa_base.specs.declared.context.Stopped.{Stopped}
use Rattle.sa_base.specs.declared.record.Item.{Item}
use Rattle.sa_base.specs.declared.record.Note.{Note}
use Rattle.sa_base.specs.declared.record.Record.{Record}
use Rattle.sa_base.specs.declared.record.Record.TheVariants.{Stop, Up, Told, Move}
use Rattle.sa_base.specs.Items.{items_at}
use Rattle.sa_base.proofs.Items.{items_at-append}
use Rattle.sa_lemmas.proofs.Membership.{contains-head}
use Rattle.sa_spaces.specs.Workload.{WorkloadView}
use Rattle.sa_batch.specs.Notices.{notes_told}
use Rattle.sa_laws.specs.Event.{Event}
use Rattle.sa_laws.specs.State.{runner_on}
use Rattle.sa_laws.specs.Readings.{Readings, owner_of as owner_in, line_of as line_in}
use Rattle.sa_laws.specs.Record.{after_record}
use Rattle.sa_laws.specs.History.{after_records, behind_all, with_step}
use Rattle.sa_laws.specs.Rules.{UserRules}
use Rattle.sa_laws.specs.Step.{AreSteps}
use Rattle.sa_laws.specs.Turns.{IsTurn}
use Rattle.sa_laws.specs.Upcalls.{FirstLineIsAsked}
use Rattle.sa_laws.proofs.Records.{records-append}
use Rattle.sa_histories.proofs.Appended.{steps-append}
use Rattle.sa_kernel_model.specs.declared.entry.Entry.{Entry}
use Rattle.sa_kernel_model.specs.declared.entry.Entry.TheVariants.{Interrupt}
use Rattle.sa_kernel_model.specs.State.{KernelState, Scene, owner_of, untold_of}
use Rattle.sa_kernel_model.specs.Parts.{moved, upcall, go_to_by}
use Rattle.sa_kernel_model.specs.Closing.{closed}
use Rattle.sa_kernel_model.specs.Entries.{entered, entered_as}
use Rattle.sa_kernel_model.specs.Entering.{upcalls}
use Rattle.sa_kernel_laws.specs.Histories.{IsHistory}
use Rattle.sa_kernel_laws.specs.Turn.{Turn, CanTurn, event_of}
use Rattle.sa_kernel_laws.proofs.entries.Walks.{AreOwn, own-told}
use Rattle.sa_kernel_laws.proofs.entries.OwnPart.{append-some, own-others}
use Rattle.sa_core_model.specs.Machine.{Machine, without_context, scene_of}
use Rattle.sa_core_model.specs.Turn.{next_event, entered_on, kernel_entered, welcomed_in, welcomed_if}
use Rattle.sa_core_model.specs.Standing.{IsBetween}
use Rattle.sa_core_model.proofs.Turns.{Welcomed}
use Rattle.sa_user_laws.specs.Steps.{begins_step, event_with}
use Rattle.sa_user_laws.specs.Moments.{AlikeButEnds}
use Rattle.sa_user_laws.specs.Scene.{event_begun_at}
use Rattle.sa_user_laws.specs.Level.{UserLevel}
use Rattle.sa_legal_runs.proofs.matching.Shown.{lawful-by}
use Rattle.sa_legal_runs.proofs.frames.Idle.{is_stop, StopsFirst, no-stops, stops-first_both}
use Rattle.sa_legal_runs.proofs.matching.Composed.{strict-raised, IsComposed, Goes, read, moment, traced-of}
use Rattle.sa_legal_runs.proofs.matching.EventLaws.{no-step}
use Rattle.sa_legal_runs.proofs.matching.Longer.{Parted, parted, history-turn}
use Rattle.sa_legal_runs.proofs.kernel.Halted.{IsHalted, nobody-halted}
use Rattle.sa_legal_runs.proofs.kernel.Passes.{up_records, move_records, upped-items, passes-up}
use Rattle.sa_legal_runs.proofs.kernel.Upcalled.{Upcalled}

-- The told records of an upcall need nothing.
pub told-steps : (w : WorkloadView) (e : ℕ) (p : ProcNo) (r : Readings) (notes : List Note) → AreSteps w e p r (map Told notes)
told-steps w e p r [] = tt
told-steps w e p r (n ∷ ns) = (tt, told-steps w e p (after_record w e p r (Told n)) ns)

up-steps : (w : WorkloadView) (e : ℕ) (p : ProcNo) (r : Readings) (s : SpaceNo) (n : ActNo) (owned : Bool) (old : Option SpaceNo)
    (notes : List Note) → owner_in r p ≡ old → runner_on r.state p ≡ None
    → AreSteps w e p r (move_records owned old s ++ up_records s n notes)
up-steps w e p r s n true old notes is nobody = (tt, told-steps w e p (after_record w e p r (Up s n)) notes)
up-steps w e p r s n false old notes is nobody =
    let m = after_record w e p r (Move old (Some s)) in
    ((is, nobody), (tt, told-steps w e p (after_record w e p m (Up s n)) notes))

up-own : (s : SpaceNo) (n : ActNo) (owned : Bool) (old : Option SpaceNo) (notes : List Note)
    → AreOwn (move_records owned old s ++ up_records s n notes)
up-own s n true old notes = own-told notes
up-own s n false old notes = own-told notes

pub told-no_stop : (notes : List Note) → list_any is_stop (map Told notes) ≡ false
told-no_stop [] = refl
told-no_stop (n ∷ ns) = told-no_stop ns

up-no_stop : (s : SpaceNo) (n : ActNo) (owned : Bool) (old : Option SpaceNo) (notes : List Note)
    → list_any is_stop (move_records owned old s ++ up_records s n notes) ≡ false
up-no_stop s n true old notes = told-no_stop notes
up-no_stop s n false old notes = told-no_stop notes

-- the stop with which an interrupt begins, if there is one
pub data Stops : List Record → Type 0 where
  none : Stops []
  one : (s : SpaceNo) (t : Option Rattle.sa_base.specs.declared.number.ThreadNo.ThreadNo) (a : ActNo) → Stops (Stop s t a ∷ [])

pub stops-shape : (own : List Record) (rest : List Record) → Stops own → list_any is_stop rest ≡ false → StopsFirst (own ++ rest)
stops-shape _ rest none no_stop = no-stops rest no_stop
stops-shape _ rest (one s t a) no_stop = no_stop

pub stops-own : (own : List Record) (rest : List Record) → Stops own → AreOwn rest → AreOwn (own ++ rest)
stops-own _ rest none are = are
stops-own _ rest (one s t a) are = are

stops-step : (own : List Record) (s : SpaceNo) (n : ActNo) (owned : Bool) (old : Option SpaceNo) (notes cl : List Record)
    → Stops own → begins_step (own ++ ((move_records owned old s ++ (Up s n ∷ notes)) ++ cl)) ≡ false
stops-step _ s n true old notes cl none = refl
stops-step _ s n false old notes cl none = refl
stops-step _ s n owned old notes cl (one t u a) = refl

stops-first : (rules : UserRules) (w : WorkloadView) (r : Readings) (p : ProcNo) (own : List Record) (s : SpaceNo) (n : ActNo)
    (owned : Bool) (old : Option SpaceNo) (notes cl : List Record) → Stops own
    → FirstLineIsAsked rules.Lines w r p (own ++ ((move_records owned old s ++ (Up s n ∷ notes)) ++ cl))
stops-first rules w r p _ s n true old notes cl none = tt
stops-first rules w r p _ s n false old notes cl none = tt
stops-first rules w r p _ s n owned old notes cl (one t u a) = tt

rest-some : (s : SpaceNo) (n : ActNo) (owned : Bool) (old : Option SpaceNo) (notes : List Note)
    → move_records owned old s ++ up_records s n notes ≢ []
rest-some s n true old notes is = cc
rest-some s n false old notes is = cc

module _ {U C : Type 0} (level : UserLevel U C) where
  -- AN INTERRUPT THAT UPCALLS.
  pub interrupt-up : (w : WorkloadView) (events : List Event) (m : Machine U C) (p : ProcNo) (n : ActNo) (s : SpaceNo)
      (held : Option (Stopped C)) (first : List Record) (y : KernelState C) (owned : Bool)
      → (c : IsComposed level w events m) → Stops first
      → let g = m.event + 1 in
      let x : Machine U C = next_event m in
      let r = read level w events in
      let b = event_begun_at w g p r in
      let entry : Entry C = Interrupt held in
      let t : Turn C = record { number = g; proc = p; says = []; fresh = n; entry = Some entry } in
      let after : Machine U C = entered_on level.calls p n entry (without_context p x) in
      CanTurn w m.kernel r t
      → ((items : List Item) → entered_as g p n entry (record { state = x.kernel; items = items }) ≡ go_to_by g p s n owned true
      (record { state = y; items = items ++ items_at g p first }))
      → IsHalted level w m.event p n x y (after_records w g p b first) → AreSteps w g p b first
      → (owned ≡ true → owner_of y p ≡ Some s) → s.0 < length y.untold → p.0 < length y.assign.owners
      → length (after_records w g p b first).state.owners ≡ length y.assign.owners
      → Welcomed level.calls level.stands level.keep w m.event g p (kernel_entered p n entry (without_context p x))
      → upcalls x.kernel p entry ≡ true → is_some (line_in r p) ≡ true
      → IsBetween level.stands after → after.workload ≡ w → after.event ≡ g
      → (ev : Event) × Goes level w events m p after ev
  interrupt-up w events m p n s held first y owned c stops can entering halted steps own inside place owners new up raised between workload event =
      let g = m.event + 1 in
      let x : Machine U C = next_event m in
      let r = read level w events in
      let b = event_begun_at w g p r in
      let entry : Entry C = Interrupt held in
      let t : Turn C = record { number = g; proc = p; says = []; fresh = n; entry = Some entry } in
      let notes = notes_told (not owned) p (untold_of y s.0) in
      let rest = move_records owned (owner_of y p) s ++ up_records s n notes in
      let all = first ++ rest in
      let none : List Item = [] in
      let y0 : Scene C = record { state = y; items = none ++ items_at g p first } in
      let items : (entered_as g p n entry (record { state = x.kernel; items = none })).items ≡ items_at g p all =
      ap (λ (z : Scene C). z.items) (entering none) ∙ upped-items g p s n owned y0
      ∙ sym (items_at-append g p first rest) in
      let some : all ≢ [] = append-some first rest (rest-some s n owned (owner_of y p) notes) in
      let part : Parted t m.kernel all =
      parted w m.kernel r t all c.history.ok c.history.kept can some
      (own-others all (stops-own first rest stops (up-own s n owned (owner_of y p) notes))) items in
      let cl = part.closing in
      let ev : Event = event_with g p all cl in
      let yx : Scene C = record { state = y; items = x.items ++ items_at g p first } in
      let z = upcall g p s n (not owned) (moved g p s owned yx) in
      let k = closed g p z in
      let here : entered g p n entry (scene_of (without_context p x)) ≡ k = ap (λ (v : Scene C). closed g p v) (entering x.items) in
      let past = history-turn level.rules.inside w events m.kernel m.items t c.history can in
      let history : IsHistory level.rules.inside w (events ++ ev ∷ []) k =
      subst (λ (e : Event). IsHistory level.rules.inside w (events ++ e ∷ []) k) part.is
      (subst (λ (v : Scene C). IsHistory level.rules.inside w (events ++ event_of t m.kernel ∷ []) v) here
      (subst (λ (xs : List Item). IsHistory level.rules.inside w (events ++ event_of t m.kernel ∷ [])
      (entered g p n entry (record { state = x.kernel; items = xs }))) (append-nil m.items) past)) in
      let front = after_records w g p b first in
      let last = behind_all w ev r in
      let close = after_records w g p front (move_records owned (owner_of y p) s ++ (up_records s n notes ++ cl)) in
      let records : ev.records ≡ first ++ (move_records owned (owner_of y p) s ++ (up_records s n notes ++ cl)) =
      append_assoc first rest cl
      ∙ ap (λ (xs : List Record). first ++ xs) (append_assoc (move_records owned (owner_of y p) s) (up_records s n notes) cl) in
      let same : last ≡ close =
      ap (λ (xs : List Record). after_records w g p b xs) records
      ∙ records-append w g p b first (move_records owned (owner_of y p) s ++ (up_records s n notes ++ cl)) in
      let no_step : begins_step ev.records ≡ false =
      subst (λ (xs : List Record). begins_step xs ≡ false) (sym (append_assoc first rest cl))
      (stops-step first s n owned (owner_of y p) (map Told notes) cl stops) in
      let ends : AlikeButEnds last close = subst (λ (v : Readings). AlikeButEnds last v) same (record { lives = λ a. refl; is = refl }) in
      let stepped : close.lives ≡ with_step level.rules.inside w r ev last ev.records last.lives =
      ap (λ (v : Readings). v.lives) (sym same) ∙ sym (no-step level.rules.inside w r ev last ev.records last.lives no_step) in
      let has : Contains ev.records (Up s n) = subst (λ (xs : List Record). Contains xs (Up s n)) (sym records)
      (Contains-append_right first (move_records owned (owner_of y p) s ++ (up_records s n notes ++ cl)) (Up s n)
      (Contains-append_right (move_records owned (owner_of y p) s) (up_records s n notes ++ cl) (Up s n)
      (contains-head (Up s n) (map Told notes ++ cl)))) in
      let new_k = subst (λ (v : Scene C). Welcomed level.calls level.stands level.keep w m.event g p
      (record (without_context p x) { kernel = v.state; items = v.items })) here new in
      let done = passes-up level w events m.event g p s n
      owned x yx front cl ev halted own inside place owners new_k history refl refl has part.closes ends stepped in
      let is : entered_on level.calls p n entry (without_context p x) ≡ welcomed_in level.calls p (owner_of k.state p)
      (record (without_context p x) { kernel = k.state; items = k.items }) =
      ap (λ (v : Bool). welcomed_if level.calls p v (kernel_entered p n entry (without_context p x))) up
      ∙ ap (λ (v : Scene C). welcomed_in level.calls p (owner_of v.state p)
      (record (without_context p x) { kernel = v.state; items = v.items })) here in
      let done_after = subst (λ (v : Machine U C). Upcalled level w events v ev) (sym is) done in
      let turn : IsTurn level.rules.Steps (is_some (line_in r p)) g w b p all =
      subst (λ (l : Bool). IsTurn level.rules.Steps l g w b p all) (sym raised) part.shape in (
        ev,
        record {
          between = between;
          workload = workload;
          event = event;
          number = refl;
          proc = refl;
          history = done_after.history;
          strict = strict-raised w r ev raised;
          stops = stops-first_both all cl (stops-shape first rest stops (up-no_stop s n owned (owner_of y p) notes)) part.closes;
          lawful = lawful-by level w events m _ p all cl (traced-of level w events m c) done_after.history (record {
            within = can.within;
            some = some;
            parts = part.parts;
            closes = part.closes;
            steps = steps-append w g p b first rest steps
                (up-steps w g p front s n owned (owner_of y p) notes halted.owner (nobody-halted level w m.event p n x y front halted));
            first = subst (λ (xs : List Record). FirstLineIsAsked level.rules.Lines w r p xs) (sym (append_assoc first rest cl))
                (stops-first level.rules w r p first s n owned (owner_of y p) (map Told notes) cl stops);
            turn = turn;
            rules = level.laws.kernels w r g p all cl c.history.ok (moment level w events m c) (inl part.shape) part.parts;
          });
          matched = done_after.matched;
          fit = done_after.fit;
        },
      )
