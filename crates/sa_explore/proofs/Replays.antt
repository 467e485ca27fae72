-- The turns of a run, one after another: each can be made, and leads on.
use Rattle.std.proofs.Common.{◌≡◌, ℕ, ◌+◌, ◌<◌, ◌≤◌, false, Option, Some, None, List, [], ◌∷◌, ◌++◌, length, take, drop, get_or, refl, sym, subst, ◌∙◌, arith}
use Rattle.std.proofs.Math.ListN.{drop_of_length-le}
use Rattle.std.proofs.lemmas.List.{take-append-drop, length-take-le, take_more}
use Rattle.std.proofs.lemmas.List.Elements.{All-get_or}
use Rattle.std.specs.Option.{is_some}
use Rattle.sa_base.specs.declared.number.ProcNo.{ProcNo}
use Rattle.sa_base.specs.declared.record.End.{End}
use Rattle.sa_base.specs.declared.limits.TheConstants.{MAX_EVENTS}
use Rattle.sa_spaces.specs.Space.{SpaceView}
use Rattle.sa_spaces.specs.Workload.{WorkloadView, IsWorkload}
use Rattle.sa_abstract.specs.Calls.{Calls}
use Rattle.sa_abstract.specs.Keeps.{Standing, Keeps}
use Rattle.sa_core_model.specs.Machine.{Machine}
use Rattle.sa_core_model.specs.End.{end_of}
use Rattle.sa_core_model.specs.Run.{opening, CanTurn, IsTurn}
use Rattle.sa_outlook.specs.UserLevels.{IgnoresNumbers}
use Rattle.sa_explore_runs.specs.Runs.{end, IsOpenTurn, LeadTo, IsBegun, IsOpen, CanBeRun}
use Rattle.sa_explore_runs.proofs.Ends.{not-ended, ended-not, not-spent}
use Rattle.sa_explore_runs.proofs.Turns.{turns-join, turns-one, of-lead}
use Rattle.sa_explore_runs.proofs.Schedules.{same-end, few-turns}

pub none-of : (o : Option End) → is_some o ≡ false → o ≡ None
none-of None absent = refl
none-of (Some e) absent = absurd cc

module _ {U C : Type 0} (f : Calls U C) where
  -- one turn more
  pub one-more : (w : WorkloadView) (done : List ProcNo) (m after : Machine U C) (p : ProcNo) → LeadTo f w done m → IsOpenTurn f m p after
      → LeadTo f w (done ++ p ∷ []) after
  one-more w done m after p lead turn = turns-join f done (p ∷ []) (opening f w) m after lead (turns-one f m after p turn)

  -- A TURN CAN BE MADE
  pub record IsReady (m : Machine U C) (p : ProcNo) : Type 0 where
    pub goes : end f m ≡ None
    pub can : CanTurn f m p
    pub not_ended : end_of f MAX_EVENTS m ≡ None

  pub ready-to : (m : Machine U C) (p : ProcNo) → end f m ≡ None → CanTurn f m p → IsReady m p
  ready-to m p goes can = record { goes = goes; can = can; not_ended = not-ended f MAX_EVENTS m goes can.event }

  -- FROM A LIST OF TURNS: the next one, and the machine after it
  pub ready-at : (w : WorkloadView) (turns : List ProcNo) → CanBeRun f w turns → (i : ℕ) (d : ProcNo) (m : Machine U C) → i < length turns
      → LeadTo f w (take i turns) m → m.workload ≡ w → m.event ≡ i → IsReady m (get_or turns i d)
  ready-at w turns can i d m below lead same event =
      let few = can.few in
      ready-to m (get_or turns i d) (can.open_before i below m lead) (record {
        within = subst (λ (v : WorkloadView). (get_or turns i d).0 < v.processors) (sym same)
            (All-get_or (λ (p : ProcNo). p.0 < w.processors) turns i d below can.within);
        event = omega (arith, few, event, below);
      })

  pub more-at : (w : WorkloadView) (turns : List ProcNo) (i : ℕ) (d : ProcNo) (m after : Machine U C) → i < length turns → LeadTo f w (take i turns) m
      → IsReady m (get_or turns i d) → IsTurn f m (get_or turns i d) after → LeadTo f w (take (i + 1) turns) after
  more-at w turns i d m after below lead ready turn =
      subst (λ (ps : List ProcNo). LeadTo f w ps after) (sym (take_more turns i d below))
      (one-more w (take i turns) m after (get_or turns i d) lead (record { goes = ready.goes; can = ready.can; is = turn }))

module _ {U C D : Type 0} (f : Calls U C) (plain : Option SpaceView → C → D) (IsMade : Option SpaceView → U → Type 0) (laws : IgnoresNumbers f plain IsMade)
    (stands : Standing U C) (keep : Keeps f stands) (w : WorkloadView) (ok : IsWorkload w) where
  pub open-all : (turns : List ProcNo) (m : Machine U C) → LeadTo f w turns m → end f m ≡ None → IsOpen f w turns
  open-all turns m lead goes n other = same-end f plain IsMade laws stands keep w ok turns n m other lead ∙ goes

  pub event-of : (turns : List ProcNo) (m : Machine U C) → LeadTo f w turns m → (m.event ≡ length turns) × (m.workload ≡ w)
  event-of turns m lead = let of = of-lead f plain IsMade laws stands keep w ok turns m lead in (of.event, of.workload)

  -- a turn line can be done where there is no end
  pub ready-first : (turns : List ProcNo) (i : ℕ) (d : ProcNo) (m : Machine U C) → i < length turns → length turns ≤ MAX_EVENTS
      → (get_or turns i d).0 < w.processors → LeadTo f w (take i turns) m → end_of f MAX_EVENTS m ≡ None → IsReady f m (get_or turns i d)
  ready-first turns i d m below few within lead none =
      let of = event-of (take i turns) m lead in
      let event = of.0 in
      let size = length-take-le i turns (omega (arith, below)) in
      ready-to f m (get_or turns i d) (ended-not f MAX_EVENTS m none) (record {
        within = subst (λ (v : WorkloadView). (get_or turns i d).0 < v.processors) (sym of.1) within;
        event = omega (arith, event, size, below, few);
      })

  -- a turn after turns where runs go on
  pub open-ready : (turns : List ProcNo) (p : ProcNo) (m : Machine U C) → length turns < MAX_EVENTS → p.0 < w.processors → IsOpen f w turns
      → LeadTo f w turns m → IsReady f m p
  open-ready turns p m few within goes lead =
      let of = event-of turns m lead in
      let event = of.0 in
      ready-to f m p (goes m lead) (record {
        within = subst (λ (v : WorkloadView). p.0 < v.processors) (sym of.1) within;
        event = omega (arith, event, few);
      })

  -- a turn more, where the run has no end
  pub ready-on : (turns : List ProcNo) (p : ProcNo) (m : Machine U C) → LeadTo f w turns m → end_of f MAX_EVENTS m ≡ None → p.0 < w.processors
      → IsReady f m p
  ready-on turns p m lead none within =
      let of = event-of turns m lead in
      let event = of.0 in
      let few = few-turns f plain IsMade laws stands keep w ok turns m lead in
      let apart = not-spent f MAX_EVENTS m none in
      ready-to f m p (ended-not f MAX_EVENTS m none) (record {
        within = subst (λ (v : WorkloadView). p.0 < v.processors) (sym of.1) within;
        event = grind (arith, event, few, apart);
      })

  -- THE TURN LINES: where there is no end, all were done
  pub not-over : (i : ℕ) (m : Machine U C) → i ≤ length w.turns → LeadTo f w (take i w.turns) m → end f m ≡ None → end_of f MAX_EVENTS m ≡ None
  not-over i m within lead goes =
      let of = event-of (take i w.turns) m lead in
      let event = of.0 in
      let size = length-take-le i w.turns within in
      let few = ok.few_turns in
      not-ended f MAX_EVENTS m goes (omega (arith, event, size, within, few))

  pub begun-of : (i : ℕ) (m : Machine U C) → LeadTo f w (take i w.turns) m → (end f m ≡ None → length w.turns ≤ i) → IsBegun f w (take i w.turns)
  begun-of i m lead whole = record {
    rest = drop i w.turns;
    are = sym (take-append-drop i w.turns);
    machine = m;
    lead = lead;
    whole = λ goes. drop_of_length-le w.turns (whole goes);
  }
