-- Moves of a running life: a step that asks for nothing, and one that asks the kernel for a hint, for the return of activations or
-- for a line. Each is legal where its records are, and where its life is in as its context says.
use Rattle.std.proofs.Common.{◌≡◌, ℕ, true, false, List, [], ◌∷◌, ◌++◌, length, Option, Some, None, slice_index_or, slice_index, refl, sym, ap, ◌∙◌, subst}
use Rattle.std.specs.List.{list_any}
use Rattle.sa_base.specs.declared.context.Seen.{Seen}
use Rattle.sa_base.specs.declared.number.ActNo.{ActNo}
use Rattle.sa_base.specs.declared.number.ProcNo.{ProcNo}
use Rattle.sa_base.specs.declared.number.SpaceNo.{SpaceNo}
use Rattle.sa_base.specs.declared.record.Record.{Record}
use Rattle.sa_lemmas.proofs.FunctionUpdates.{put-same, put-self, put-put}
use Rattle.sa_lemmas.specs.Function.{put}
use Rattle.sa_spaces.specs.Workload.{WorkloadView}
use Rattle.sa_abstract.specs.Calls.{Contexts, Stepped}
use Rattle.sa_abstract.specs.Keeps.{IsStepped}
use Rattle.sa_abstract.specs.Setting.{Setting}
use Rattle.sa_abstract.specs.declared.answer.Step.{Step}
use Rattle.sa_abstract.specs.declared.answer.Step.TheVariants as asked
use Rattle.sa_driven_model.specs.declared.context.DrivenContext.{DrivenContext}
use Rattle.sa_driven_model.specs.declared.space.DrivenSpace.{DrivenSpace}
use Rattle.sa_driven_model.specs.Stands.{IsStanding, driven_stands}
use Rattle.sa_driven_model.specs.Step.{asks_for, answered_by, driven_calls}
use Rattle.sa_laws.specs.Any.{any, is_inside_any, AnyStepIn, AnyStepBy, NamesHeard}
use Rattle.sa_laws.specs.Event.{Event}
use Rattle.sa_laws.specs.History.{is_step, is_up, settles, event_begun, after_records, after_event}
use Rattle.sa_laws.specs.Life.{Life}
use Rattle.sa_laws.specs.Readings.{Readings, running_of, life_of, life_if, life_on, carried_by, demand_of, taken_of}
use Rattle.sa_laws.specs.State.{space_at}
use Rattle.sa_laws.specs.Step.{AreSteps}
use Rattle.sa_user_laws.proofs.Runners.{all-elsewhere}
use Rattle.sa_user_laws.specs.Moments.{Alike, AlikeButDemands, Sees}
use Rattle.sa_user_laws.specs.Scene.{event_begun_at}
use Rattle.sa_user_laws.specs.Steps.{event_with, IsClosed, RulesHold, IsLegalStep, IsLegalAsk, records_asked}
use Rattle.sa_fast_laws.proofs.relation.EventEnds.{closing-ups}
use Rattle.sa_fast_laws.proofs.steps.Turns.{any-ups}
use Rattle.sa_fast_laws.specs.Stage.{Runs, is_running, stage_of}
use Rattle.sa_driven_laws.specs.DrivenFits.{Holds, RestBut, DrivenFits, driven_fits}
use Rattle.sa_driven_laws.proofs.Changed.{changed-holds, changed-others}
use Rattle.sa_driven_laws.proofs.Frames.{SameHeld, begun-held, alike-held, held-holds, held-others}
use Rattle.sa_driven_laws.proofs.Scenes.{IsScene, runs-there}
use Rattle.sa_driven_laws.proofs.Turned.{IsTurned, turned, IsLike, ended-fits}

abbrev pub IsLegal : WorkloadView → Setting → Readings → ProcNo → ℕ → ActNo → Contexts DrivenContext → Stepped DrivenSpace DrivenContext → Type 0
IsLegal w set r p n a cs st = IsLegalStep driven_calls any driven_fits w set r p n a cs st

-- what is known after the records and the closing
pub record IsBehind (set : Setting) (n : ℕ) (v : DrivenSpace) (ds : Contexts DrivenContext) (a : ActNo) (new : DrivenContext) (now : Life) (seen : Seen)
    (q last : Readings) : Type 0 where
  pub stands : IsStanding set n v ds
  pub holds : Holds set.space last v.base.shared ds
  pub mine : ds a.0 ≡ Some new
  pub there : life_of last a ≡ Some now
  pub carries : carried_by last now ≡ new.thread
  pub demand : seen.demand ≡ demand_of last set.space
  pub taken : seen.taken ≡ length (taken_of last set.space)
  pub stage : stage_of last set.space a now ≡ Runs
  pub state : last.state ≡ q.state

-- THE RULES of an event of a life, with a closing after it
pub rules-of : (w : WorkloadView) (r : Readings) (ev : Event) (a : ActNo) (life : Life) (x : Record) (xs behind : List Record)
    → running_of r ev.proc ≡ Some a → life_of r a ≡ Some life → ev.records ≡ x ∷ behind
    → AnyStepBy w (event_begun w ev r) ev.proc life x xs → NamesHeard (event_begun w ev r) (x ∷ behind)
    → RulesHold any w r ev (x ∷ xs)
rules-of w r ev a life x xs behind runs there records table heard =
    let on : life_on r ev.proc ≡ Some life = ap (life_if r) runs ∙ there in
    record {
      steps = subst (λ o. AnyStepIn w (event_begun w ev r) ev.proc o (x ∷ xs)) (sym on) table;
      demand = tt;
      locks = record { heard = subst (NamesHeard (event_begun w ev r)) (sym records) heard };
      order = tt;
    }

module _ (set : Setting) (e : ℕ) (u : DrivenSpace) (cs : Contexts DrivenContext) (w : WorkloadView) (r : Readings) (p : ProcNo) (a : ActNo) (life : Life)
    (c : DrivenContext) (seen : Seen) (i : IsScene set e u cs w r p a life c seen) where
  abbrev r0 : Readings
  r0 = event_begun_at w seen.event p r

  begun : SameHeld set.space r r0
  begun = begun-held set.space w (record { number = seen.event; proc = p; records = [] }) r

  pub k0 : Holds set.space (event_begun_at w seen.event p r) u.base.shared cs
  k0 = held-holds set.space r r0 begun u.base.shared cs i.fits.holds

  pub rest0 : RestBut set.space (event_begun_at w seen.event p r) a cs
  rest0 = held-others set.space r r0 begun a cs (λ x d l ne at is. i.fits.rest x d l at is)

  -- A STEP THAT ASKS FOR NOTHING says x and then xs, and leads to the value v and the context new.
  pub record IsMove (x : Record) (xs : List Record) (v : DrivenSpace) (new : DrivenContext) (now : Life) : Type 0 where
    pub first : is_step x ≡ true
    pub no_up : list_any is_up (x ∷ xs) ≡ false
    pub needs : AreSteps w seen.event p (event_begun_at w seen.event p r) (x ∷ xs)
    pub turned_so : IsTurned set.space (event_begun_at w seen.event p r) (after_records w seen.event p (event_begun_at w seen.event p r) (x ∷ xs))
        u.base.shared v.base.shared a c new now
    pub table : AnyStepBy w (event_begun_at w seen.event p r) p life x xs
    pub heard : (behind : List Record) → NamesHeard (event_begun_at w seen.event p r) (x ∷ behind)
    pub demands : (after_records w seen.event p (event_begun_at w seen.event p r) (x ∷ xs)).demands ≡ r.demands
    pub taken : (after_records w seen.event p (event_begun_at w seen.event p r) (x ∷ xs)).taken ≡ r.taken
    pub lowers : new.lowers ≡ false
    pub inside : (closing : List Record) (last : Readings)
        → IsBehind set seen.event v (put cs a.0 (Some new)) a new now seen
        (after_records w seen.event p (event_begun_at w seen.event p r) (x ∷ xs)) last
        → is_inside_any w r (event_with seen.event p (x ∷ xs) closing) last (settles r last x) now ≡ new.inside

  module _ (x : Record) (xs : List Record) (v : DrivenSpace) (new : DrivenContext) (now : Life) (m : IsMove x xs v new now)
      (well : IsStepped driven_stands set seen cs a.0 (asks_for v new (x ∷ xs) asked.Did)) where
    abbrev q : Readings
    q = after_records w seen.event p (event_begun_at w seen.event p r) (x ∷ xs)

    abbrev ds : Contexts DrivenContext
    ds = put cs a.0 (Some new)

    mine : ds a.0 ≡ Some new
    mine = put-same cs a.0 (Some new)

    q-holds : Holds set.space q v.base.shared ds
    q-holds = changed-holds set.space r0 q u.base.shared v.base.shared cs ds a now new
        (turned set e u cs i.stands set.space r0 q v.base.shared k0 a c new i.on.mine now m.turned_so) k0

    q-others : RestBut set.space q a ds
    q-others = changed-others set.space r0 q u.base.shared v.base.shared cs ds a now new
        (turned set e u cs i.stands set.space r0 q v.base.shared k0 a c new i.on.mine now m.turned_so) rest0

    behind-is : (last : Readings) → Alike q last → IsBehind set seen.event v ds a new now seen q last
    behind-is last same =
        let holds = held-holds set.space q last (alike-held set.space q last same.kernel) v.base.shared ds q-holds in
        let there : life_of last a ≡ Some now = ap (λ (f : ℕ → Option Life). f a.0) (same.kernel.lives ∙ m.turned_so.lives)
        ∙ put-same r.lives a.0 (Some now) in
        let runs : running_of last p ≡ Some a = ap (λ ps. slice_index_or ps p.0 None) (same.kernel.running ∙ m.turned_so.running) ∙ i.on.runs in
        let of : now.space ≡ set.space = m.turned_so.own.space in
        record {
          stands = well.value;
          holds = holds;
          mine = mine;
          there = there;
          carries = runs-there set seen.event v ds well.value r last i.moment holds p a new now i.on.owner runs there of mine
              (λ z ne. ap (λ y. space_at y z) same.kernel.state ∙ all-elsewhere w seen.event p r0 set.space z (x ∷ xs) well.own ne);
          demand = i.sees.demand ∙ sym (ap (λ ns. slice_index ns set.space.0) (same.demands ∙ m.demands));
          taken = i.sees.taken ∙ sym (ap (λ ns. length (slice_index_or ns set.space.0 [])) (same.kernel.taken ∙ m.taken));
          stage = (holds.runs p a now runs there of).2;
          state = same.kernel.state;
        }

    pub move-legal : IsLegal w set r p seen.event a cs (asks_for v new (x ∷ xs) asked.Did)
    move-legal = record {
      steps = m.needs;
      answer = record {
        some = λ none. cc;
        rules_hold = λ closing closed.
            rules-of w r (event_with seen.event p (x ∷ xs) closing) a life x xs (xs ++ closing) i.on.runs i.on.is refl m.table (m.heard (xs ++ closing));
        after = λ closing closed same.
            let ev = event_with seen.event p (x ∷ xs) closing in
            let last = after_records w seen.event p r0 ((x ∷ xs) ++ closing) in
            let b = behind-is last same in
            subst (DrivenFits set.space (after_event is_inside_any w r ev) v.base.shared) (ap (put ds a.0) (sym mine) ∙ put-self ds a.0)
            (ended-fits a w r ev i.on.runs last now b.there x (xs ++ closing) refl m.first is_inside_any
            (any-ups (x ∷ xs) closing m.no_up (closing-ups closing closed.closes)) set.space v.base.shared ds new new b.holds mine
            (record { thread = refl; locks = refl; continues = refl; hand = refl })
            (held-others set.space q last (alike-held set.space q last same.kernel) a ds q-others)
            (record {
              lowers = m.lowers;
              inside = λ yes. m.inside closing last b;
              busy = λ no. absurd (let yes = ap is_running b.stage in cc);
            }));
      };
    }

  -- ONE THAT ASKS, with the context asking: the kernel writes x and then xs, and the context goes on by what it sees after them.
  pub record IsAsking (answer : Step) (asking : DrivenContext) (x : Record) (xs : List Record) : Type 0 where
    pub like : IsLike c asking
    pub records : records_asked r set.space answer ≡ x ∷ xs
    pub first : is_step x ≡ true
    pub no_up : list_any is_up (x ∷ xs) ≡ false
    pub table : AnyStepBy w (event_begun_at w seen.event p r) p life x xs
    pub heard : (behind : List Record) → NamesHeard (event_begun_at w seen.event p r) (x ∷ behind)
    -- after them its own life is what it was, and so are those of other contexts
    pub holds : Holds set.space (after_records w seen.event p (event_begun_at w seen.event p r) (x ∷ xs)) u.base.shared cs
    pub others : RestBut set.space (after_records w seen.event p (event_begun_at w seen.event p r) (x ∷ xs)) a cs
    pub running : (after_records w seen.event p (event_begun_at w seen.event p r) (x ∷ xs)).running ≡ r.running
    pub there : life_of (after_records w seen.event p (event_begun_at w seen.event p r) (x ∷ xs)) a ≡ Some life
    pub elsewhere : (z : SpaceNo) → space_at (after_records w seen.event p (event_begun_at w seen.event p r) (x ∷ xs)).state z ≡ space_at r.state z
    pub lowers : (later : Seen) → (answered_by u later asking asking.lowers).lowers ≡ false
    pub still : (later : Seen) → IsLike c (answered_by u later asking asking.lowers)
    pub inside : (closing : List Record) (last : Readings) (later : Seen)
        → IsBehind set e u cs a c life later (after_records w seen.event p (event_begun_at w seen.event p r) (x ∷ xs)) last
        → is_inside_any w r (event_with seen.event p (x ∷ xs) closing) last (settles r last x) life
        ≡ (answered_by u later asking asking.lowers).inside

  module _ (answer : Step) (asking : DrivenContext) (x : Record) (xs : List Record) (m : IsAsking answer asking x xs) where
    abbrev asked_at : Readings
    asked_at = after_records w seen.event p (event_begun_at w seen.event p r) (x ∷ xs)

    put-twice : (f : Contexts DrivenContext) (one two : DrivenContext) → put (put f a.0 (Some one)) a.0 (Some two) ≡ put f a.0 (Some two)
    put-twice f one two = put-put f a.0 (Some one) (Some two)

    pub ask-legal : IsLegalAsk driven_calls any driven_fits w set r p seen.event a cs (asks_for u asking [] answer)
    ask-legal = record {
      none = refl;
      rules_hold =
          subst (λ own. (closing : List Record) → IsClosed own closing → RulesHold any w r (event_with seen.event p own closing) own) (sym m.records)
          (λ closing closed.
          rules-of w r (event_with seen.event p (x ∷ xs) closing) a life x xs (xs ++ closing) i.on.runs i.on.is refl m.table (m.heard (xs ++ closing)));
      after = subst (λ own. (closing : List Record) (later : Seen) → IsClosed own closing
          → AlikeButDemands (after_records w seen.event p (event_begun_at w seen.event p r) own)
          (after_records w seen.event p (event_begun_at w seen.event p r) (own ++ closing))
          → Sees set.space (after_records w seen.event p (event_begun_at w seen.event p r) (own ++ closing)) p seen.event later
          → driven_fits w set (after_event is_inside_any w r (event_with seen.event p own closing)) u
          (put (put cs a.0 (Some asking)) a.0 (Some (answered_by u later asking asking.lowers))))
          (sym m.records)
          (λ closing later closed same sees.
          let ev = event_with seen.event p (x ∷ xs) closing in
          let last = after_records w seen.event p r0 ((x ∷ xs) ++ closing) in
          let new = answered_by u later asking asking.lowers in
          let held = alike-held set.space asked_at last same in
          let holds = held-holds set.space asked_at last held u.base.shared cs m.holds in
          let there : life_of last a ≡ Some life = ap (λ (f : ℕ → Option Life). f a.0) same.lives ∙ m.there in
          let runs : running_of last p ≡ Some a = ap (λ ps. slice_index_or ps p.0 None) (same.running ∙ m.running) ∙ i.on.runs in
          let stage = (holds.runs p a life runs there i.on.space).2 in
          let b : IsBehind set e u cs a c life later asked_at last = record {
            stands = i.stands;
            holds = holds;
            mine = i.on.mine;
            there = there;
            carries = runs-there set e u cs i.stands r last i.moment holds p a c life i.on.owner runs there i.on.space i.on.mine
                (λ z ne. ap (λ y. space_at y z) same.state ∙ m.elsewhere z);
            demand = sees.demand;
            taken = sees.taken;
            stage = stage;
            state = same.state;
          } in
          subst (driven_fits w set (after_event is_inside_any w r ev) u) (sym (put-twice cs asking new))
          (ended-fits a w r ev i.on.runs last life there x (xs ++ closing) refl m.first is_inside_any
          (any-ups (x ∷ xs) closing m.no_up (closing-ups closing closed.closes)) set.space u.base.shared cs c new holds i.on.mine (m.still later)
          (held-others set.space asked_at last held a cs m.others)
          (record {
            lowers = m.lowers later;
            inside = λ yes. m.inside closing last later b;
            busy = λ no. absurd (let yes = ap is_running stage in cc);
          })));
    }
