-- An event of the user level's records, or a tick, at which a slice may end.
use Rattle.sa_kernel_laws.proofs.turns.Parts.{own-is}
use Rattle.std.proofs.Common.{◌*◌, ◌-◌, div-add-mod', ◌≡◌, ◌≢◌, ℕ, zero, suc, ◌+◌, ◌/◌, ◌%◌, ◌<◌, arith, sym, ◌∙◌, ap, subst, refl, Bool, true, false, not, ◌&&◌, Option, Some, None, List, [], ◌∷◌, ◌++◌, length}
use Rattle.std.proofs.lemmas.Nat.{mod_below, div-mul-add}
use Rattle.std.proofs.lemmas.Bool.Decides.{nat_tests}
use Rattle.std.specs.Prelude.{if◌then◌else◌, ◌==◌}
use Rattle.std.proofs.lemmas.List.{append-nil}
use Rattle.sa_base.specs.declared.number.ProcNo.{ProcNo}
use Rattle.sa_base.specs.declared.record.Record.{Record}
use Rattle.sa_base.specs.Items.{items_at}
use Rattle.sa_spaces.specs.Workload.{WorkloadView}
use Rattle.sa_assign.specs.Aims.{space_no}
use Rattle.sa_laws.specs.Event.{Event}
use Rattle.sa_laws.specs.Readings.{Readings}
use Rattle.sa_laws.specs.History.{after_records}
use Rattle.sa_laws.specs.Closing.{first_space}
use Rattle.sa_laws.specs.Shape.{own_part}
use Rattle.sa_laws.proofs.Closings.{AreClosing}
use Rattle.sa_kernel_model.specs.State.{Scene, line_of}
use Rattle.sa_kernel_model.specs.Closing.{closed, wants, aims, want_for, want_one, must_want, interrupt, interrupt_one, interrupt_for, must_interrupt, for_spaces, spaces}
use Rattle.sa_kernel_model.specs.Entries.{evicted_at}
use Rattle.sa_kernel_laws.specs.Turn.{Turn, CanTurn, AreUsers}
use Rattle.sa_kernel_laws.specs.Histories.{IsHistory, IsUnderWay}
use Rattle.sa_kernel_laws.specs.Overview.{Overview, overview, read_off}
use Rattle.sa_kernel_laws.proofs.histories.Histories.{quiet-goes-on}
use Rattle.sa_kernel_laws.proofs.closings.Wants.{must-same}
use Rattle.sa_kernel_model.proofs.parts.Placed.{for_spaces-keeps}
use Rattle.sa_kernel_laws.proofs.overview.Records.{overview-ended, users-records}
use Rattle.sa_kernel_laws.proofs.entries.OwnPart.{users-are_own, own-others}
use Rattle.sa_core_model.specs.Machine.{Machine, scene_of}
use Rattle.sa_core_model.specs.Turn.{next_event, sliced, sliced_if, ends_slice}
use Rattle.sa_core_model.proofs.Effects.{SameRuns, same-closed}
use Rattle.sa_user_laws.specs.Scene.{event_begun_at}
use Rattle.sa_user_laws.specs.Steps.{IsClosed, event_with}
use Rattle.sa_user_laws.specs.Level.{UserLevel}
use Rattle.sa_legal_runs.proofs.matching.Composed.{IsTraced, read}
use Rattle.sa_legal_runs.proofs.matching.Longer.{Parted, parted, history-turn, last-kept}
use Rattle.sa_legal_runs.proofs.matching.Overviews.{begun-reads}

-- While no slice ends, the remainder of the processors begins with the same space.
same-first : (w : WorkloadView) (e : ℕ) → (not (w.slice == 0) && ((e + 1) % w.slice == 0)) ≡ false → first_space w (e + 1) ≡ first_space w e
same-first w e none = go (w.slice == 0) refl
  where
    go : (b : Bool) → (w.slice == 0) ≡ b → first_space w (e + 1) ≡ first_space w e
    go true is = ap (λ (b : Bool). if b then 0 else ((e + 1) / w.slice) % length w.spaces) is
        ∙ sym (ap (λ (b : Bool). if b then 0 else (e / w.slice) % length w.spaces) is)
    go false is =
        let some : w.slice ≢ 0 = grind (arith, nat_tests, is) in
        let off : ((e + 1) % w.slice == 0) ≡ false = sym (ap (λ (b : Bool). not b && ((e + 1) % w.slice == 0)) is) ∙ none in
        let rest : (e + 1) % w.slice ≢ 0 = grind (arith, nat_tests, off) in
        let whole = div-add-mod' (e + 1) w.slice in
        let small : (e + 1) % w.slice < w.slice = mod_below (e + 1) w.slice (omega (arith, some)) in
        let q = (e + 1) / w.slice in
        let z = (e + 1) % w.slice - 1 in
        let product = q * w.slice in
        let is_e : product + z ≡ e = omega (arith, whole, rest) in
        let quotient : e / w.slice ≡ q = ap (λ (i : ℕ). i / w.slice) (sym is_e) ∙ div-mul-add q w.slice z (omega (arith, small, rest)) in
        ap (λ (i : ℕ). if w.slice == 0 then 0 else i % length w.spaces) (sym quotient)

module _ {C : Type 0} where
  no-wants : (e : ℕ) (p : ProcNo) (x : Scene C) → ((s : ℕ) → must_want x.state s ≡ false) → (s n : ℕ) → for_spaces (want_for e p) s n x ≡ x
  no-wants e p x none s zero = refl
  no-wants e p x none s (suc n) =
      ap (λ (b : Bool). for_spaces (want_for e p) (s + 1) n (want_one e p b s x)) (none s) ∙ no-wants e p x none (s + 1) n

  -- Where no space must want a processor, a closing changes no demand.
  same-demands : (e : ℕ) (p : ProcNo) (x : Scene C) → ((s : ℕ) → must_want x.state s ≡ false)
      → (closed e p x).state.demands ≡ x.state.demands
  same-demands e p x none =
      let P : Scene C → Type 0 = λ y. y.state.demands ≡ x.state.demands in
      let is : wants e p x ≡ x = no-wants e p x none 0 (spaces x.state) in
      let y : Scene C = aims e p (wants e p x) in
      for_spaces-keeps P (interrupt_for e p) (λ s z h. one (must_interrupt z.state s) s z h) 0 (spaces y.state) y
      (ap (λ (z : Scene C). z.state.demands) is)
    where
      line : (q : Option ℕ) (z : Scene C) → z.state.demands ≡ x.state.demands → (interrupt e p q z).state.demands ≡ x.state.demands
      line None z h = h
      line (Some q) z h = h

      one : (b : Bool) (s : ℕ) (z : Scene C) → z.state.demands ≡ x.state.demands → (interrupt_one e p b s z).state.demands ≡ x.state.demands
      one false s z h = h
      one true s z h = line _ z h

module _ {U C : Type 0} (level : UserLevel U C) where
  -- the machine in the event, in which the user level has said this
  abbrev pub said : Machine U C → ProcNo → List Record → List U → List (Option C) → Machine U C
  said m p says users contexts =
      record (next_event m) { users = users; contexts = contexts; items = m.items ++ items_at (m.event + 1) p says }

  -- The event of what a user level says, with its closing if a slice ends.
  pub record Sliced (w : WorkloadView) (events : List Event) (m : Machine U C) (p : ProcNo) (says : List Record) (users : List U)
      (contexts : List (Option C)) : Type 0 where
    pub closing : List Record
    pub history : IsHistory level.rules.inside w (events ++ event_with (m.event + 1) p says closing ∷ [])
        (scene_of (sliced p (said m p says users contexts)))
    pub parts : IsClosed says closing
    pub closes : AreClosing closing
    pub none : ends_slice (next_event m) ≡ false → closing ≡ []
    pub demands : let c = event_begun_at w (m.event + 1) p (read level w events) in
        (after_records w (m.event + 1) p c (says ++ closing)).demands ≡ (after_records w (m.event + 1) p c says).demands
    pub same : SameRuns m.kernel (sliced p (said m p says users contexts)).kernel
    pub users_are : (sliced p (said m p says users contexts)).users ≡ users
    pub contexts_are : (sliced p (said m p says users contexts)).contexts ≡ contexts
    pub event : (sliced p (said m p says users contexts)).event ≡ m.event + 1
    pub workload : (sliced p (said m p says users contexts)).workload ≡ m.workload

  pub sliced-goes : (w : WorkloadView) (events : List Event) (m : Machine U C) (p : ProcNo) (says : List Record) (users : List U)
      (contexts : List (Option C)) → IsTraced level w events m
      → line_of m.kernel p ≡ None → p.0 < length m.kernel.lives → says ≢ [] → AreUsers says → Sliced w events m p says users contexts
  sliced-goes w events m p says users contexts c low within some are = go (ends_slice y) refl
    where
      y : Machine U C
      y = said m p says users contexts

      r : Readings
      r = read level w events

      x : Scene C
      x = record { state = evicted_at (m.event + 1) m.kernel; items = m.items ++ items_at (m.event + 1) p says }

      turn_of : Turn C
      turn_of = record { number = m.event + 1; proc = p; says = says; fresh = record { 0 = 0 }; entry = None }

      can : CanTurn w m.kernel r turn_of
      can = record { within = within; later = omega arith; unused = tt; fetched = c.fetched; fits = low; says = (some, are) }

      part : Parted turn_of m.kernel says
      part = parted w m.kernel r turn_of says c.history.ok c.history.kept can some (own-others says (users-are_own says are)) refl

      calm : (s : ℕ) → must_want m.kernel s ≡ false
      calm s = sym (must-same m.kernel r s c.history.kept.reads c.history.kept.idle) ∙ c.calm (space_no s)

      own : own_part (says ++ []) ≡ says
      own = own-is says [] some (own-others says (users-are_own says are)) refl

      go : (b : Bool) → ends_slice y ≡ b → Sliced w events m p says users contexts
      go false is =
          let none : sliced p y ≡ y = ap (λ (b : Bool). sliced_if p b y) is in
          let ends : (not (w.slice == 0) && ((m.event + 1) % w.slice == 0)) ≡ false =
          subst (λ (v : WorkloadView). (not (v.slice == 0) && ((m.event + 1) % v.slice == 0)) ≡ false) c.workload is in
          let under : IsUnderWay level.rules.inside w events (m.event + 1) p says None x = record {
            before = scene_of m;
            history = c.history;
            state = refl;
            items = refl;
            fetched = c.fetched;
            fits = low;
            right = (some, are);
          } in
          let quiet = quiet-goes-on C level.rules.inside w events (m.event + 1) p says x under within (omega arith)
          (same-first w m.event ends ∙ ap (first_space w) (sym c.last)) in
          record {
            closing = [];
            history = subst (λ (z : Machine U C). IsHistory level.rules.inside w
                (events ++ event_with (m.event + 1) p says [] ∷ []) (scene_of z)) (sym none)
                (subst (λ (xs : List Record). IsHistory level.rules.inside w
                (events ++ (let ev : Event = record { number = m.event + 1; proc = p; records = xs } in ev) ∷ []) x)
                (sym (append-nil says)) quiet);
            parts = record { closes = tt; is_own = own };
            closes = refl;
            none = λ same. refl;
            demands = ap (λ (xs : List Record). (after_records w (m.event + 1) p (event_begun_at w (m.event + 1) p r) xs).demands)
                (append-nil says);
            same = subst (λ (z : Machine U C). SameRuns m.kernel z.kernel) (sym none)
                (record { lives = refl; acts = refl; telling = refl; demands = refl });
            users_are = ap (λ (z : Machine U C). z.users) none;
            contexts_are = ap (λ (z : Machine U C). z.contexts) none;
            event = ap (λ (z : Machine U C). z.event) none;
            workload = ap (λ (z : Machine U C). z.workload) none;
          }
      go true is =
          let done : sliced p y ≡ sliced_if p true y = ap (λ (b : Bool). sliced_if p b y) is in
          let ev : Event = event_with (m.event + 1) p says part.closing in
          let history = subst (λ (e : Event). IsHistory level.rules.inside w (events ++ e ∷ [])
          (closed (m.event + 1) p x)) part.is (history-turn level.rules.inside w events m.kernel m.items turn_of c.history can) in
          let kept = last-kept level.rules.inside w events ev (closed (m.event + 1) p x) history in
          let b = event_begun_at w (m.event + 1) p r in
          let reads : overview (after_records w (m.event + 1) p b says) ≡ read_off (evicted_at (m.event + 1) m.kernel) =
          users-records w (m.event + 1) p b says are ∙ begun-reads w m.kernel r (m.event + 1) p c.history.kept low in
          let last : overview (after_records w (m.event + 1) p b (says ++ part.closing)) ≡ read_off (closed (m.event + 1) p x).state =
          sym (overview-ended level.rules.inside w r ev (after_records w (m.event + 1) p b (says ++ part.closing))) ∙ kept.reads in
          record {
            closing = part.closing;
            history = subst (λ (z : Machine U C). IsHistory level.rules.inside w (events ++ ev ∷ []) (scene_of z)) (sym done) history;
            parts = part.parts;
            closes = part.closes;
            none = λ same. absurd (let z = sym is ∙ same in cc);
            demands = ap (λ (v : Overview). v.demands) last ∙ same-demands (m.event + 1) p x calm
                ∙ sym (ap (λ (v : Overview). v.demands) reads);
            same = subst (λ (z : Machine U C). SameRuns m.kernel z.kernel) (sym done)
                (let h = same-closed (m.event + 1) p x in record { lives = h.lives; acts = h.acts; telling = h.telling; demands = h.demands });
            users_are = ap (λ (z : Machine U C). z.users) done;
            contexts_are = ap (λ (z : Machine U C). z.contexts) done;
            event = ap (λ (z : Machine U C). z.event) done;
            workload = ap (λ (z : Machine U C). z.workload) done;
          }
