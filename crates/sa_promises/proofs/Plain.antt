-- What the kernel's rules ask of a step of one record in a calm moment, by any user level's rules.
use Rattle.std.proofs.Common.{◌≡◌, ℕ, ◌<◌, ◌≤◌, refl, sym, ◌∙◌, ap, arith, None, [], ◌∷◌, map, true, false}
use Rattle.std.specs.Prelude.{Option, Bool, is_some}
use Rattle.sa_base.specs.declared.number.ProcNo.{ProcNo}
use Rattle.sa_base.specs.declared.record.Record.{Record}
use Rattle.sa_base.specs.declared.record.Record.TheVariants.{Ins, Run, Ready, Back, Take, Free, Idle}
use Rattle.sa_spaces.specs.Workload.{WorkloadView}
use Rattle.sa_share.specs.Share.{share_at}
use Rattle.sa_assign.specs.Aims.{aimed}
use Rattle.sa_laws.specs.declared.rule.Rule.TheVariants.{ToldInTime, WhereOwned, AllTold, UpcallGiven, InterruptNext, LineCause, WantCause, SharesCovered, DemandAnnounced, TurnsTaken, LocksKept, OrderKept}
use Rattle.sa_laws.specs.Event.{Event}
use Rattle.sa_laws.specs.Readings.{Readings, line_of, space_of_life}
use Rattle.sa_laws.specs.History.{after_event, event_begun, behind}
use Rattle.sa_laws.specs.Step.{AreSteps}
use Rattle.sa_laws.specs.Shape.{before_aims, before_wants, aims_in}
use Rattle.sa_laws.specs.Closing.{shares_at, aims_due, lines_due, wants_due}
use Rattle.sa_laws.specs.Opening.{IsNumbered}
use Rattle.sa_laws.specs.Upcalls.{InterruptIsNext, LineHasCause, WantHasCause, SharesAreCovered, TellsOnce, NamesTheLife, TellsAllThen, GivesUpcallThen, RaisesLine, FirstLineIsAsked, BeginsAsInterrupt}
use Rattle.sa_laws.specs.Turns.{TurnsAreTaken}
use Rattle.sa_laws.specs.Ends.{LastLine}
use Rattle.sa_laws.specs.Rules.{UserRules, IsLawful, HoldEach, rules_before}
use Rattle.sa_histories.proofs.Legality.{hold-more}
use Rattle.sa_promises.proofs.Calm.{prompt-calm, no-wants}

-- records that are a step each, and of which the kernel's rules say nothing more
abbrev pub is_plain : Record → Bool
is_plain (Ins s t i) = true
is_plain (Run s t) = true
is_plain (Ready s t) = true
is_plain (Back s t) = true
is_plain (Take s l t) = true
is_plain (Free s l t) = true
is_plain Idle = true
is_plain _ = false

abbrev pub alone : ℕ → ProcNo → Record → Event
alone n p x = record { number = n; proc = p; records = x ∷ [] }

-- at its event nothing is untold afterwards, each processor is owned by the space of its running life, no line is raised
-- there, and the closing is empty
abbrev pub ReadsCalm : UserRules → WorkloadView → Readings → Event → Readings → Type 0
ReadsCalm u w r e after =
    (e.number ≡ r.number)
    × (after.untold ≡ [] ∷ [])
    × (after.state.owners ≡ map (space_of_life after) after.running)
    × (line_of r e.proc ≡ None)
    × (lines_due w (behind w e r e.records) ≡ [])
    × (wants_due w (behind w e r (before_wants e.records)) ≡ [])
    × (aims_in e.records ≡ aims_due w e.number (behind w e r (before_aims e.records)))

pub record IsCalm (u : UserRules) (w : WorkloadView) (r : Readings) (e : Event) : Type 0 where
  pub later : 1 ≤ e.number
  pub proc : e.proc.0 < w.processors
  pub steps : AreSteps w e.number e.proc (event_begun w e r) e.records
  pub reads : ReadsCalm u w r e (after_event u.inside w r e)
  pub covered : (s : ℕ) → share_at (shares_at w e.number (after_event u.inside w r e)) s ≤ aimed s (after_event u.inside w r e).aims

-- of a plain record the kernel's rules of records say nothing more
record SaysNothing (u : UserRules) (w : WorkloadView) (r : Readings) (p : ProcNo) (x : Record) : Type 0 where
  pub told : TellsOnce r x []
  pub named : NamesTheLife p r x []
  pub all : TellsAllThen p r x []
  pub blocks : GivesUpcallThen p r x []
  pub heard : RaisesLine r x []
  pub first : FirstLineIsAsked u.Lines w r p (x ∷ [])
  pub calm : BeginsAsInterrupt (x ∷ []) → ⊥

says-nothing : (u : UserRules) (w : WorkloadView) (r : Readings) (p : ProcNo) (x : Record) → is_plain x ≡ true → SaysNothing u w r p x
says-nothing u w r p (Ins s t i) is = record { told = tt; named = tt; all = tt; blocks = tt; heard = tt; first = tt; calm = λ no. no }
says-nothing u w r p (Run s t) is = record { told = tt; named = tt; all = tt; blocks = tt; heard = tt; first = tt; calm = λ no. no }
says-nothing u w r p (Ready s t) is = record { told = tt; named = tt; all = tt; blocks = tt; heard = tt; first = tt; calm = λ no. no }
says-nothing u w r p (Back s t) is = record { told = tt; named = tt; all = tt; blocks = tt; heard = tt; first = tt; calm = λ no. no }
says-nothing u w r p (Take s l t) is = record { told = tt; named = tt; all = tt; blocks = tt; heard = tt; first = tt; calm = λ no. no }
says-nothing u w r p (Free s l t) is = record { told = tt; named = tt; all = tt; blocks = tt; heard = tt; first = tt; calm = λ no. no }
says-nothing u w r p Idle is = record { told = tt; named = tt; all = tt; blocks = tt; heard = tt; first = tt; calm = λ no. no }
says-nothing u w r p x is = absurd (cc)

-- so the kernel's rules hold of a step of one record in a calm moment
pub before-demand : (u : UserRules) (w : WorkloadView) (r : Readings) (n : ℕ) (p : ProcNo) (x : Record) (last : Option LastLine) → is_plain x ≡ true
    → IsCalm u w r (alone n p x) → HoldEach u w (rules_before DemandAnnounced) r (alone n p x) last
before-demand u w r n p x last plain calm =
    let e = alone n p x in
    let after = after_event u.inside w r e in
    let says = says-nothing u w (event_begun w e r) p x plain in
    let first = says-nothing u w r p x plain in
    let numbered : IsNumbered w r e =
    record { number = calm.reads.0; proc = calm.proc; some = λ no. cc; opening = λ no. absurd (let later = calm.later in omega arith) } in
    let interrupt : InterruptIsNext w r e = record {
      interrupt = λ raised. absurd (let clash = sym (ap is_some calm.reads.3) ∙ raised in cc);
      calm = λ begins. absurd (first.calm begins);
    } in
    let lines : LineHasCause u.Lines w r e = record { heard = (says.heard, tt); first = first.first; order = refl; due = sym calm.reads.4 } in
    let wants : WantHasCause u.inside w r e = record { due = λ later. sym calm.reads.5; none = no-wants after calm.reads.1 } in
    let aims : SharesAreCovered u.inside w r e = record { covered = calm.covered; due = calm.reads.6 } in
    let closing : HoldEach u w (LineCause ∷ WantCause ∷ SharesCovered ∷ []) r e last = (lines, (wants, (aims, tt))) in
    let upcalls : HoldEach u w (AllTold ∷ UpcallGiven ∷ InterruptNext ∷ LineCause ∷ WantCause ∷ SharesCovered ∷ []) r e last =
    (record { told = (says.all, tt) }, (record { blocks = (says.blocks, tt) }, (interrupt, closing))) in
    let owned : HoldEach u w (ToldInTime ∷ WhereOwned ∷ AllTold ∷ UpcallGiven ∷ InterruptNext ∷ LineCause ∷ WantCause ∷ SharesCovered ∷ []) r e last =
    (record { prompt = prompt-calm after calm.reads.1 }, (record { named = (says.named, tt); owned = calm.reads.2 }, upcalls)) in
    (numbered, (record { steps = calm.steps }, (record { told = (says.told, tt) }, owned)))

pub before-turns : (u : UserRules) (w : WorkloadView) (r : Readings) (n : ℕ) (p : ProcNo) (x : Record) (last : Option LastLine) → is_plain x ≡ true
    → IsCalm u w r (alone n p x) → u.Demand w r (alone n p x) → HoldEach u w (rules_before TurnsTaken) r (alone n p x) last
before-turns u w r n p x last plain calm demand =
    hold-more u w r (alone n p x) last (rules_before DemandAnnounced) DemandAnnounced (before-demand u w r n p x last plain calm) demand

pub before-locks : (u : UserRules) (w : WorkloadView) (r : Readings) (n : ℕ) (p : ProcNo) (x : Record) (last : Option LastLine) → is_plain x ≡ true
    → IsCalm u w r (alone n p x) → u.Demand w r (alone n p x) → TurnsAreTaken u.Steps w r (alone n p x)
    → HoldEach u w (rules_before LocksKept) r (alone n p x) last
before-locks u w r n p x last plain calm demand turns =
    hold-more u w r (alone n p x) last (rules_before TurnsTaken) TurnsTaken (before-turns u w r n p x last plain calm demand) turns

pub before-order : (u : UserRules) (w : WorkloadView) (r : Readings) (n : ℕ) (p : ProcNo) (x : Record) (last : Option LastLine) → is_plain x ≡ true
    → IsCalm u w r (alone n p x) → u.Demand w r (alone n p x) → TurnsAreTaken u.Steps w r (alone n p x) → u.Locks w r (alone n p x)
    → HoldEach u w (rules_before OrderKept) r (alone n p x) last
before-order u w r n p x last plain calm demand turns locks =
    hold-more u w r (alone n p x) last (rules_before LocksKept) LocksKept (before-locks u w r n p x last plain calm demand turns) locks

-- and with a user level's own rules all laws do
pub plain-lawful : (u : UserRules) (w : WorkloadView) (r : Readings) (n : ℕ) (p : ProcNo) (x : Record) → is_plain x ≡ true
    → IsCalm u w r (alone n p x) → u.Demand w r (alone n p x) → TurnsAreTaken u.Steps w r (alone n p x) → u.Locks w r (alone n p x)
    → u.Order w r (alone n p x) → IsLawful u w r (alone n p x)
plain-lawful u w r n p x plain calm demand turns locks order =
    let k = before-demand u w r n p x None plain calm in record {
      numbered = k.0;
      stepwise = k.1.0;
      told_once = k.1.1.0;
      told_in_time = k.1.1.1.0;
      where_owned = k.1.1.1.1.0;
      all_told = k.1.1.1.1.1.0;
      upcall_given = k.1.1.1.1.1.1.0;
      interrupt_next = k.1.1.1.1.1.1.1.0;
      line_cause = k.1.1.1.1.1.1.1.1.0;
      want_cause = k.1.1.1.1.1.1.1.1.1.0;
      shares_covered = k.1.1.1.1.1.1.1.1.1.1.0;
      demand_announced = demand;
      turns_taken = turns;
      locks_kept = locks;
      order_kept = order;
    }
