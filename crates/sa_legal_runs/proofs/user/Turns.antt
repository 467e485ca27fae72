-- A turn, whatever comes of it.
use Rattle.sa_lemmas.proofs.Membership.{contains-head, contains-tail}
use Rattle.sa_legal_runs.proofs.kernel.Completes.{complete-goes}
use Rattle.sa_legal_runs.proofs.user.Steps.{did-goes}
use Rattle.sa_legal_runs.proofs.matching.OwnRecords.{mine-of}
use Rattle.sa_legal_runs.proofs.frames.Idle.{is_stop}
use Rattle.sa_core_model.proofs.Turns.{none-taken, Rests, step-law, rests-turned, between-rests, stepped-is}
use Rattle.sa_core_model.proofs.Running.{contexts-back}
use Rattle.std.proofs.Common.{◌-◌, slice_index, get_or, ◌≡◌, ◌≢◌, ℕ, ◌+◌, ◌<◌, ◌≤◌, arith, sym, ◌∙◌, ap, subst, refl, Bool, true, false, Option, Some, None, List, [], ◌∷◌, ◌++◌, length, inl, inr, ◌||◌, map, Contains}
use Rattle.std.proofs.lemmas.Bool.{cases_eq}
use Rattle.std.proofs.lemmas.Option.{none-some}
use Rattle.std.specs.List.{list_any}
use Rattle.std.specs.Option.{option_map}
use Rattle.sa_base.specs.declared.record.Record.TheVariants.{Line, Want, GiveBack as GiveBackRecord}
use Rattle.sa_base.specs.declared.record.Item.{Item}
use Rattle.sa_base.specs.declared.number.ProcNo.{ProcNo}
use Rattle.sa_base.specs.declared.number.SpaceNo.{SpaceNo}
use Rattle.sa_base.specs.declared.number.ActNo.{ActNo}
use Rattle.sa_base.specs.declared.record.Record.{Record}
use Rattle.sa_base.specs.declared.limits.TheConstants.{MAX_EVENTS}
use Rattle.sa_base.specs.Items.{items_at}
use Rattle.sa_lemmas.specs.Function.{put}
use Rattle.sa_lemmas.proofs.FunctionUpdates.{put-other, put-at}
use Rattle.sa_spaces.specs.Workload.{WorkloadView}
use Rattle.sa_abstract.specs.Keeps.{IsStepped, IsAsked}
use Rattle.sa_abstract.specs.Calls.{Stepped}
use Rattle.sa_abstract.specs.declared.answer.Step.TheVariants.{Did, Block as BlockAsked, More, Idle as IdleAsked, GiveBack as GiveBackAsked, InterruptOwn}
use Rattle.sa_abstract.specs.declared.answer.Step.{Step}
use Rattle.sa_abstract.specs.Setting.{Setting}
use Rattle.sa_acts.specs.declared.acts.Act.{Act}
use Rattle.sa_devices.specs.Ios.{Io, due_of, io_no}
use Rattle.sa_laws.specs.Step.{Needs, AreSteps}
use Rattle.sa_laws.specs.Upcalls.{FirstLineIsAsked}
use Rattle.sa_laws.specs.Record.{after_record}
use Rattle.sa_laws.specs.Life.{Life}
use Rattle.sa_laws.specs.Readings.{Readings, running_of, taken_of as taken_in, demand_of as demand_in}
use Rattle.sa_laws.specs.Rules.{UserRules}
use Rattle.sa_laws.specs.History.{after_records, is_up}
use Rattle.sa_laws.specs.Event.{Event}
use Rattle.sa_laws.specs.Shape.{others_of}
use Rattle.sa_kernel_model.specs.Sound.{IsSound}
use Rattle.sa_kernel_model.specs.Entries.{entered_as, more, idled, gave_back, without_acts}
use Rattle.sa_kernel_model.specs.State.{KernelState, Scene, owner_of, line_of, demand_of, taken_of}
use Rattle.sa_kernel_laws.proofs.entries.Walks.{AreOwn, not-empty}
use Rattle.sa_kernel_laws.specs.Overview.{Overview}
use Rattle.sa_kernel_model.specs.declared.entry.Entry.{Entry}
use Rattle.sa_kernel_model.specs.declared.entry.Entry.TheVariants.{Complete, More as MoreEntry, Idle as IdleEntry, GiveBack as GiveBackEntry, InterruptOwn as InterruptOwnEntry}
use Rattle.sa_kernel_laws.specs.Turn.{AreUsers}
use Rattle.sa_kernel_model.specs.Entering.{Asks}
use Rattle.sa_kernel_model.proofs.parts.Seen.{low-bit}
use Rattle.sa_core_model.proofs.Phases.{IsAt, at-owned, contexts-same}
use Rattle.sa_core_model.specs.Machine.{Machine, step_to, seen_on}
use Rattle.sa_core_model.specs.Run.{setting, CanTurn as CanTurnOn}
use Rattle.sa_core_model.specs.Standing.{contexts_of, contexts_in, IsBetween}
use Rattle.sa_core_model.specs.Turn.{next_event, entered_on, sliced, turned, turned_raised, ticked, asked, turned_due, turned_owned}
use Rattle.sa_core_model.proofs.Effects.{SameRuns, same-more, same-idled, same-own}
use Rattle.sa_user_laws.specs.Moments.{SameFor}
use Rattle.sa_user_laws.specs.Scene.{event_begun_at}
use Rattle.sa_user_laws.specs.Steps.{IsLegalAnswer, IsLegalStep, IsLegalAsk, records_asked}
use Rattle.sa_user_laws.specs.Level.{UserLevel}
use Rattle.sa_legal_runs.proofs.matching.Overviews.{taken-reads}
use Rattle.sa_legal_runs.proofs.frames.Moments.{same-refl, same-trans, same-for, plain-stays, is_plain}
use Rattle.sa_legal_runs.proofs.frames.Foreign.{AreLivesOf, foreign, IsLifeOf}
use Rattle.sa_legal_runs.proofs.frames.Lives.{AreMatched, leaves_lives, matched-put, matched-record}
use Rattle.sa_legal_runs.proofs.matching.EventBegins.{IsBegun, begins-now, Acts, acts-at, steps-legally}
use Rattle.sa_legal_runs.proofs.kernel.Telling.{matched-of}
use Rattle.sa_legal_runs.proofs.matching.Composed.{IsComposed, Goes, read}
use Rattle.sa_legal_runs.proofs.user.Asks.{Entering, asked-goes}
use Rattle.sa_legal_runs.proofs.user.Blocking.{block-goes}
use Rattle.sa_legal_runs.proofs.kernel.Ticks.{tick-goes}
use Rattle.sa_legal_runs.proofs.kernel.Raising.{raised-goes}

life-put : (s : SpaceNo) (a : ActNo) (lives : ℕ → Option Life) (c : ActNo) → IsLifeOf s lives c → IsLifeOf s (put lives a.0 None) c
life-put s a lives c of life is = elim (cases_eq c.0 a.0) [
  | inl y ↦ absurd (none-some life (sym (put-at lives a.0 c.0 None y) ∙ is))
  | inr y ↦ of life (sym (put-other lives a.0 c.0 None y) ∙ is)
]

-- The records with which activations are given back.
back-foreign : (w : WorkloadView) (e : ℕ) (p : ProcNo) (s t : SpaceNo) (r : Readings) (list : List ActNo)
    → ((a : ActNo) → Contains list a → IsLifeOf s r.lives a) → t.0 ≢ s.0
    → SameFor t r (after_records w e p r (map GiveBackRecord list))
back-foreign w e p s t r [] of apart = same-refl t r
back-foreign w e p s t r (a ∷ list) of apart =
    let next = after_record w e p r (GiveBackRecord a) in
    same-trans t r next (after_records w e p next (map GiveBackRecord list))
    (foreign w e p s t r (GiveBackRecord a) (of a (contains-head a list)) apart)
    (back-foreign w e p s t next list (λ c has. life-put s a r.lives c (of c (contains-tail a list c has))) apart)

back-lives : (w : WorkloadView) (e : ℕ) (p : ProcNo) (s : SpaceNo) (r : Readings) (list : List ActNo) (c : ActNo)
    → IsLifeOf s r.lives c → IsLifeOf s (after_records w e p r (map GiveBackRecord list)).lives c
back-lives w e p s r [] c of = of
back-lives w e p s r (a ∷ list) c of = back-lives w e p s (after_record w e p r (GiveBackRecord a)) list c (life-put s a r.lives c of)

back-own : (list : List ActNo) → AreOwn (others_of (map GiveBackRecord list))
back-own [] = refl
back-own (a ∷ list) = all-own list
  where
    all-own : (list : List ActNo) → AreOwn (map GiveBackRecord list)
    all-own [] = refl
    all-own (a ∷ list) = all-own list

back-no_up : (list : List ActNo) → list_any is_up (map GiveBackRecord list) ≡ false
back-no_up [] = refl
back-no_up (a ∷ list) = back-no_up list

back-no_stop : (list : List ActNo) → list_any is_stop (map GiveBackRecord list) ≡ false
back-no_stop [] = refl
back-no_stop (a ∷ list) = back-no_stop list

back-steps : (w : WorkloadView) (e : ℕ) (p : ProcNo) (r : Readings) (list : List ActNo) → AreSteps w e p r (map GiveBackRecord list)
back-steps w e p r [] = tt
back-steps w e p r (a ∷ list) = (tt, back-steps w e p (after_record w e p r (GiveBackRecord a)) list)

back-first : (rules : UserRules) (w : WorkloadView) (r : Readings) (p : ProcNo) (list : List ActNo)
    → FirstLineIsAsked rules.Lines w r p (map GiveBackRecord list)
back-first rules w r p [] = tt
back-first rules w r p (a ∷ list) = tt

map-some : (list : List ActNo) → 1 ≤ length list → map GiveBackRecord list ≢ []
map-some [] some is = absurd (omega (arith, some))
map-some (a ∷ list) some is = cc

module _ {C : Type 0} where
  back-matched : (w : WorkloadView) (e : ℕ) (p : ProcNo) (r : Readings) (list : List ActNo) (acts : ℕ → Option (Act C))
      → AreMatched acts r.lives → AreMatched (without_acts list acts) (after_records w e p r (map GiveBackRecord list)).lives
  back-matched w e p r [] acts h = h
  back-matched w e p r (a ∷ list) acts h =
      back-matched w e p (after_record w e p r (GiveBackRecord a)) list (put acts a.0 None) (matched-put a.0 None None acts r.lives tt h)

module _ {U C : Type 0} (level : UserLevel U C) where
  -- An entry that writes one plain record changes neither owners nor activations.
  entering-one : (w : WorkloadView) (events : List Event) (m : Machine U C) (p : ProcNo) (n : ActNo) (s : SpaceNo)
      (entry : Entry C) (x : Record) → (c : IsComposed level w events m)
      → (here : IsAt level.calls level.stands level.keep (next_event m) p s) → is_plain x ≡ true → is_up x ≡ false
      → is_stop x ≡ false → leaves_lives x ≡ true
      → let k = (next_event m).kernel in
      let g = m.event + 1 in
      let r = read level w events in
      Needs w p (event_begun_at w g p r) x
      → ((items : List Item) → (entered_as g p n entry (record { state = k; items = items })).items ≡ items ++ items_at g p (x ∷ []))
      → ((items : List Item) → SameRuns k (entered_as g p n entry (record { state = k; items = items })).state)
      → ((items : List Item) → owner_of (entered_as g p n entry (record { state = k; items = items })).state p ≡ owner_of k p)
      → Entering level w r g p n s k entry (x ∷ [])
  entering-one w events m p n s entry x c here plain up stop leaves needs items same owner =
      let k = (next_event m).kernel in
      let g = m.event + 1 in
      let r = read level w events in
      let b0 = event_begun_at w g p r in
      let at = acts-at level w events m p s c here in
      let put = plain-stays w g p b0 x plain in
      let first = after_record w g p b0 x in
      let mine_of = mine-of s r p here.act at.life (contexts_of m s.0) here.ctx at.on in
      record {
        items = items;
        some = not-empty x [];
        are = refl;
        no_up = ap (λ (q : Bool). q || false) up;
        no_stop = ap (λ (q : Bool). q || false) stop;
        steps = (needs, tt);
        owner = λ xs. owner xs ∙ here.owner;
        telling = λ xs. (same xs).telling;
        others = λ t apart. same-for b0 first put t;
        spaces = subst (λ (ls : ℕ → Option Life). AreLivesOf s ls (running_of r p)) (sym put.lives) mine_of;
        matched = λ xs. subst (λ (fs : ℕ → Option (Act C)). AreMatched fs first.lives) (sym (same xs).acts)
            (matched-record w g p b0 x k.acts leaves c.matched);
        contexts = λ xs cs t i. contexts-same k.lives _ k.acts _ cs (same xs).lives (same xs).acts t i;
      }

  -- A STEP, and what it asks for.
  step-goes : (w : WorkloadView) (events : List Event) (m : Machine U C) (p : ProcNo) (n : ActNo) (s : SpaceNo)
      → (c : IsComposed level w events m)
      → line_of m.kernel p ≡ None → due_of (m.event + 1) m.kernel.under_way ≡ None → m.event + 1 ≤ MAX_EVENTS
      → m.kernel.acts n.0 ≡ None → (here : IsAt level.calls level.stands level.keep (next_event m) p s)
      → let x : Machine U C = next_event m in
      let st = level.calls.stepped here.user (seen_on x p s) here.ctx in
      (answer : Step) → st.answer ≡ answer
      → let after : Machine U C = asked level.calls p n answer (step_to level.calls p s st x) in
      IsBetween level.stands after → after.workload ≡ w → after.event ≡ m.event + 1
      → (ev : Event) × Goes level w events m p after ev
  step-goes w events m p n s c low due few unused here answer is between workload event = go answer is between workload event
    where
      x : Machine U C
      x = next_event m

      g : ℕ
      g = m.event + 1

      k : KernelState C
      k = x.kernel

      r : Readings
      r = read level w events

      b0 : Readings
      b0 = event_begun_at w g p r

      b : IsBegun level w m.event g p x b0
      b = begins-now level w events m p c

      at : Acts level w events m p s here
      at = acts-at level w events m p s c here

      st : Stepped U C
      st = level.calls.stepped here.user (seen_on x p s) here.ctx

      set : Setting
      set = setting w s.0 here.def

      sound : IsSound k
      sound = b.rest.standing.sound

      below : s.0 < length k.demands
      below = sound.formed.owners p.0 s here.owner

      good : IsLegalStep level.calls level.rules level.fits w set r p g here.act (contexts_of m s.0) st
      good = steps-legally level w events m p s c low few here

      law : IsStepped level.stands (setting m.workload s.0 here.def) (seen_on x p s) (contexts_of x s.0) here.act.0 st
      law = step-law level.calls level.stands level.keep m.event x p s b.rest.standing here (omega arith) few

      asks : Asks k p s
      asks = record { owner = here.owner; low = low }

      demand : demand_in r s ≡ demand_of k s.0
      demand = ap (λ (v : Overview). slice_index v.demands s.0) c.history.kept.reads

      taken : taken_in r s ≡ taken_of k s.0
      taken = taken-reads m.kernel r s c.between.standing.sound c.history.kept.reads c.between.fetched below

      -- A hint announces a demand.
      hint : (entry : Entry C) (v u : ℕ) (a : Step) → u ≡ v → records_asked r s a ≡ Want s u ∷ [] → st.answer ≡ a
          → ((items : List Item) → (entered_as g p n entry (record { state = k; items = items })).items ≡ items ++ items_at g p
          (Want s v ∷ []))
          → ((items : List Item) → SameRuns k (entered_as g p n entry (record { state = k; items = items })).state)
          → ((items : List Item) → owner_of (entered_as g p n entry (record { state = k; items = items })).state p ≡ owner_of k p)
          → Entering level w r g p n s k entry (records_asked r s st.answer)
      hint entry v u a same own is items runs owner =
          subst (λ (xs : List Record). Entering level w r g p n s k entry xs)
          (sym (ap (records_asked r s) is ∙ own ∙ ap (λ (i : ℕ). Want s i ∷ []) same))
          (entering-one w events m p n s entry (Want s v) c here refl refl refl refl tt items runs owner)

      go : (answer : Step) → st.answer ≡ answer
          → let after : Machine U C = asked level.calls p n answer (step_to level.calls p s st x) in
          IsBetween level.stands after → after.workload ≡ w → after.event ≡ m.event + 1
          → (ev : Event) × Goes level w events m p after ev
      go Did is between workload event = did-goes level w events m p s c low due few here is between
      go (BlockAsked len page) is between workload event =
          block-goes level w events m p n s len page c low due few unused here is between workload event
      go (More i) is between workload event =
          let answered : IsLegalAsk level.calls level.rules level.fits w set r p g here.act (contexts_of m s.0) st =
          subst (λ (q : Step). IsLegalAnswer level.calls level.rules level.fits w set r p g here.act
          (contexts_of m s.0) st q) is good.answer in
          let ask = subst (λ (q : Step). IsAsked (setting m.workload s.0 here.def) (seen_on x p s) q) is law.asked in
          asked-goes level w events m p n s (MoreEntry i) c low due few here answered
          (record {
            within = here.within;
            later = omega arith;
            unused = unused;
            fetched = c.between.fetched;
            fits = record { space = s; asks = asks; some = ask.0; few = (let z = ask.1 in omega (arith, z, b.rest.standing.lives)) };
            says = answered.none;
          })
          (hint (MoreEntry i) (demand_of k s.0 + i) (demand_in r s + i) (More i) (ap (λ (z : ℕ). z + i) demand) refl is
          (λ items. ap (λ (o : Option SpaceNo). (more g p i o (record { state = k; items = items })).items) here.owner)
          (λ items. same-more g p i (owner_of k p) (record { state = k; items = items }))
          (λ items. ap (λ (o : Option SpaceNo). owner_of (more g p i o (record { state = k; items = items })).state p) here.owner))
          (subst (λ (q : Step). FirstLineIsAsked level.rules.Lines w r p (records_asked r s q)) (sym is) tt) between workload event
      go IdleAsked is between workload event =
          let answered : IsLegalAsk level.calls level.rules level.fits w set r p g here.act (contexts_of m s.0) st =
          subst (λ (q : Step). IsLegalAnswer level.calls level.rules level.fits w set r p g here.act
          (contexts_of m s.0) st q) is good.answer in
          let ask = subst (λ (q : Step). IsAsked (setting m.workload s.0 here.def) (seen_on x p s) q) is law.asked in
          asked-goes level w events m p n s IdleEntry c low due few here answered
          (record {
            within = here.within;
            later = omega arith;
            unused = unused;
            fetched = c.between.fetched;
            fits = record { space = s; asks = asks; some = ask };
            says = answered.none;
          })
          (hint IdleEntry (demand_of k s.0 - 1) (demand_in r s - 1) IdleAsked (ap (λ (z : ℕ). z - 1) demand) refl is
          (λ items. ap (λ (o : Option SpaceNo). (idled g p o (record { state = k; items = items })).items) here.owner)
          (λ items. same-idled g p (owner_of k p) (record { state = k; items = items }))
          (λ items. ap (λ (o : Option SpaceNo). owner_of (idled g p o (record { state = k; items = items })).state p) here.owner))
          (subst (λ (q : Step). FirstLineIsAsked level.rules.Lines w r p (records_asked r s q)) (sym is) tt) between workload event
      go GiveBackAsked is between workload event =
          let answered : IsLegalAsk level.calls level.rules level.fits w set r p g here.act (contexts_of m s.0) st =
          subst (λ (q : Step). IsLegalAnswer level.calls level.rules level.fits w set r p g here.act
          (contexts_of m s.0) st q) is good.answer in
          let ask = subst (λ (q : Step). IsAsked (setting m.workload s.0 here.def) (seen_on x p s) q) is law.asked in
          let list = taken_of k s.0 in
          let own = map GiveBackRecord list in
          let own_is : records_asked r s st.answer ≡ own =
          ap (records_asked r s) is ∙ ap (λ (xs : List ActNo). map GiveBackRecord xs) taken in
          let of_list : (a : ActNo) → Contains list a → IsLifeOf s r.lives a = λ a has.
          let t = sound.formed.taken s.0 a has in
          matched-of s k.acts r.lives a t.here c.matched t.is t.space in
          let mine_of = mine-of s r p here.act at.life (contexts_of m s.0) here.ctx at.on in
          let gave : (items : List Item)
          → entered_as g p n GiveBackEntry (record { state = k; items = items }) ≡ gave_back g p (Some s)
          (record { state = k; items = items }) =
          λ items. ap (λ (o : Option SpaceNo). gave_back g p o (record { state = k; items = items })) here.owner in
          let enter : Entering level w r g p n s k GiveBackEntry own = record {
            items = λ items. ap (λ (z : Scene C). z.items) (gave items);
            some = map-some list ask;
            are = back-own list;
            no_up = back-no_up list;
            no_stop = back-no_stop list;
            steps = back-steps w g p b0 list;
            owner = λ items. ap (λ (z : Scene C). owner_of z.state p) (gave items) ∙ here.owner;
            telling = λ items. ap (λ (z : Scene C). z.state.telling) (gave items);
            others = λ t apart. back-foreign w g p s t b0 list of_list apart;
            spaces = λ a is. back-lives w g p s b0 list a (mine_of a is);
            matched = λ items. subst (λ (fs : ℕ → Option (Act C)). AreMatched fs (after_records w g p b0 own).lives)
                (sym (ap (λ (z : Scene C). z.state.acts) (gave items))) (back-matched w g p b0 list k.acts c.matched);
            contexts = λ items cs t i. contexts-back k.lives cs list k.acts
                (λ a has u. none-taken level.calls level.stands level.keep k cs s sound a has u) t i
                ∙ ap (λ (z : Scene C). contexts_in z.state.lives z.state.acts cs t i) (sym (gave items));
          } in
          asked-goes level w events m p n s GiveBackEntry c low due few here answered
          (record {
            within = here.within;
            later = omega arith;
            unused = unused;
            fetched = c.between.fetched;
            fits = record { space = s; asks = asks; some = ask };
            says = subst (λ (xs : List Record). AreUsers xs) (sym answered.none) refl;
          })
          (subst (λ (xs : List Record). Entering level w r g p n s k GiveBackEntry xs) (sym own_is) enter)
          (subst (λ (xs : List Record). FirstLineIsAsked level.rules.Lines w r p xs) (sym own_is)
          (back-first level.rules w r p list)) between workload event
      go (InterruptOwn q) is between workload event =
          let both = subst (λ (a : Step). IsLegalAnswer level.calls level.rules level.fits w set r p g here.act
          (contexts_of m s.0) st a) is good.answer in
          let answered : IsLegalAsk level.calls level.rules level.fits w set r p g here.act (contexts_of m s.0) st = both.0 in
          let ask = subst (λ (a : Step). IsAsked (setting m.workload s.0 here.def) (seen_on x p s) a) is law.asked in
          let other = (low-bit k s q sound.formed.sizes).0 ask.2 in
          asked-goes level w events m p n s (InterruptOwnEntry q) c low due few here answered
          (record {
            within = here.within;
            later = omega arith;
            unused = unused;
            fetched = c.between.fetched;
            fits =
                record {
                  space = s;
                  asks = asks;
                  other = λ same. ask.0 (sym (ap (λ i. record { 0 = i }) same));
                  within = (let z = ask.1 in omega (arith, z, b.rest.standing.lives));
                  owned = record { owner = other.owner; low = other.line };
                };
            says = answered.none;
          })
          (subst (λ (xs : List Record). Entering level w r g p n s k (InterruptOwnEntry q) xs) (sym (ap (records_asked r s) is))
          (entering-one w events m p n s (InterruptOwnEntry q) (Line q) c here refl refl refl refl tt (λ items. refl)
          (λ items. same-own g p q (record { state = k; items = items })) (λ items. refl)))
          (subst (λ (a : Step). FirstLineIsAsked level.rules.Lines w r p (records_asked r s a)) (sym is)
          (record {
            apart = ask.0;
            space = s;
            owned = at.on.owner;
            other = ap (λ (v : Overview). get_or v.assign.owners q.0 None) c.history.kept.reads ∙ other.owner;
            asked = both.1;
          })) between workload event

  -- ONE TURN.
  pub composed-turn : (w : WorkloadView) (events : List Event) (m : Machine U C) (p : ProcNo) (n : ActNo)
      → IsComposed level w events m → CanTurnOn level.calls m p → m.kernel.acts n.0 ≡ None
      → (ev : Event) × Goes level w events m p (turned level.calls p n m) ev
  composed-turn w events m p n c can unused = by-line (line_of m.kernel p) refl
    where
      x : Machine U C
      x = next_event m

      g : ℕ
      g = m.event + 1

      few : m.event + 1 ≤ MAX_EVENTS
      few = let z = can.event in omega (arith, z)

      rest : Rests level.calls level.stands level.keep m.workload g g (turned level.calls p n m)
      rest = rests-turned level.calls level.stands level.keep m p n c.between few can.within unused

      inside : p.0 < length m.kernel.lives
      inside = omega (arith, can.within, c.between.standing.lives)

      -- It is enough to go on to the machine that the turn leads to.
      to : (after : Machine U C) → turned level.calls p n m ≡ after
          → (IsBetween level.stands after → after.workload ≡ w → after.event ≡ g → (ev : Event) × Goes level w events m p after ev)
          → (ev : Event) × Goes level w events m p (turned level.calls p n m) ev
      to after is made =
          let q = subst (λ (z : Machine U C). Rests level.calls level.stands level.keep m.workload g g z) is rest in
          subst (λ (z : Machine U C). (ev : Event) × Goes level w events m p z ev) (sym is)
          (made (between-rests level.calls level.stands level.keep m.workload g after q) (q.workload ∙ c.workload) q.event)

      by-owner : (o : Option SpaceNo) → owner_of m.kernel p ≡ o → line_of m.kernel p ≡ None → due_of g m.kernel.under_way ≡ None
          → turned level.calls p n m ≡ turned_owned level.calls p n (owner_of x.kernel p) x
          → (ev : Event) × Goes level w events m p (turned level.calls p n m) ev
      by-owner None owner low due is =
          to (sliced p (ticked p x)) (is ∙ ap (λ (o : Option SpaceNo). turned_owned level.calls p n o x) owner)
          (λ between workload event. tick-goes level w events m p c low due owner inside between)
      by-owner (Some s) owner low due is =
          let b = begins-now level w events m p c in
          let here = at-owned level.calls level.stands level.keep m.event x p s b.rest.standing owner in
          let st = level.calls.stepped here.user (seen_on x p s) here.ctx in
          to (asked level.calls p n st.answer (step_to level.calls p s st x))
          (is ∙ ap (λ (o : Option SpaceNo). turned_owned level.calls p n o x) owner
          ∙ ap (λ (z : Machine U C × Step). asked level.calls p n z.1 z.0) (stepped-is level.calls level.stands level.keep x p s here))
          (λ between workload event. step-goes w events m p n s c low due few unused here st.answer refl between workload event)

      by-due : (o : Option Io) → due_of g m.kernel.under_way ≡ o → line_of m.kernel p ≡ None
          → turned level.calls p n m ≡ turned_due level.calls p n (option_map io_no (due_of g x.kernel.under_way)) x
          → (ev : Event) × Goes level w events m p (turned level.calls p n m) ev
      by-due None due low is = by-owner (owner_of m.kernel p) refl low due
          (is ∙ ap (λ (o : Option Io). turned_due level.calls p n (option_map io_no o) x) due)
      by-due (Some io) due low is =
          to (entered_on level.calls p n (Complete (io_no io)) x)
          (is ∙ ap (λ (o : Option Io). turned_due level.calls p n (option_map io_no o) x) due)
          (λ between workload event. complete-goes level w events m p n io c low due inside unused between workload event)

      by-line : (o : Option ℕ) → line_of m.kernel p ≡ o → (ev : Event) × Goes level w events m p (turned level.calls p n m) ev
      by-line (Some raised) line = raised-goes level w events m p n raised c can.within few unused line
      by-line None line = by-due (due_of g m.kernel.under_way) refl line (ap (λ (l : Option ℕ). turned_raised level.calls p n l x) line)
