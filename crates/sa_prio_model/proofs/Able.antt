-- Where all stand, the calls can do what is asked of them.
use Rattle.std.proofs.Common.{◌≡◌, ℕ, ◌<◌, Bool, true, false, Option, Some, ap, arith}
use Rattle.std.specs.Prelude.{if◌then◌else◌}
use Rattle.std.specs.Option.{option_map}
use Rattle.sa_base.specs.declared.limits.TheConstants.{MAX_PROCESSORS}
use Rattle.sa_base.specs.declared.context.Seen.{Seen}
use Rattle.sa_base.specs.declared.context.Stopped.{Stopped}
use Rattle.sa_base.specs.declared.record.Note.{Note}
use Rattle.sa_abstract.specs.declared.answer.SeatState.TheVariants.{Away}
use Rattle.sa_abstract.specs.Keeps.{IsOf, IsSeenOf, IsStep, IsTelling, IsGoing, StaysLocal}
use Rattle.sa_lemmas.specs.Function.{put}
use Rattle.sa_lemmas.proofs.FunctionUpdates.{put-same}
use Rattle.sa_fast.specs.Work.{IsWork}
use Rattle.sa_package_model.specs.Context.{carried_by}
use Rattle.sa_package_model.specs.Conditions.{IsThread, CanBeDue, CanBeTold, CanGo, CanStep}
use Rattle.sa_package_model.specs.Rules.{settled}
use Rattle.sa_package_model.specs.Step.{local_at}
use Rattle.sa_package_model.proofs.Able as base
use Rattle.sa_package_model.proofs.Holding.{own_work}
use Rattle.sa_prio_model.specs.declared.context.PrioContext.{PrioContext}
use Rattle.sa_prio_model.specs.Prio.{Prio}
use Rattle.sa_prio_model.specs.Conditions.{CanRank}
use Rattle.sa_prio_model.specs.Urge.{unmarked}
use Rattle.sa_prio_model.specs.Step.{base_of, again, goes, prio_calls}
use Rattle.sa_prio_model.specs.Stands.{unmarked_of, bases, prio_stands}
use Rattle.sa_prio_model.proofs.Contexts.{ranks_can, built}
use Rattle.sa_prio_model.proofs.Way.{way_due, settled_stands}
use Rattle.sa_prio_model.proofs.Calling.{out-no-section, well-unmarked, base_handed}
use Rattle.sa_prio_model.proofs.Stepping.{base_stands, goes_well, again_stands_well}

module _ (v : Prio) (seen : Seen) (c : PrioContext) (r : IsStep prio_stands v seen c) where
  base_mine : bases r.others r.act ≡ Some c.base
  base_mine = ap (option_map unmarked_of) r.mine

  pub step_ranks : CanRank v
  step_ranks = ranks_can r.setting r.event v r.others r.value

  pub step_proc : seen.proc.0 < MAX_PROCESSORS
  step_proc = let few = r.value.base.made.setting.few_processors in let sees = r.sees in omega arith

  pub step_base : CanStep v.base seen c.base
  step_base = base.step_can r.setting r.event v.base (bases r.others) r.value.base r.act c.base base_mine seen.event r.later r.within seen r.sees

  -- after a step of FastThreads the threads still have their ranks
  pub step_gone : CanRank (goes v seen c.base).user
  step_gone =
      let stands = base_stands r.setting r.event v r.others r.value r.act seen r.sees r.later r.within c r.mine in
      let well = goes_well r.setting r.event v r.others r.value r.act seen r.sees r.later r.within c.base stands in
      ranks_can r.setting seen.event (goes v seen c.base).user (put r.others r.act (Some (goes v seen c.base).ctx)) well.value

  -- the context that settled again can do a step
  pub step_again : IsStep prio_stands v seen (again v seen c)
  step_again =
      let d = again v seen c in
      let well = again_stands_well r.setting r.event v r.others r.value r.act seen r.sees r.later r.within c r.mine in
      record {
        setting = r.setting;
        event = r.event;
        others = put r.others r.act (Some d);
        act = r.act;
        value = built r.setting r.event v r.others r.value r.event r.act v d well.0 well.1 r.value.processors r.value.threads;
        mine = put-same r.others r.act (Some d);
        sees = r.sees;
        later = r.later;
        within = r.within;
      }

  -- a context with the mark can give its thread away, and settle
  module _ (mark : c.urge ≡ true) where
    pub step_work : IsWork v.base.shared.works c.base.work
    step_work = own_work r.setting r.event v.base (bases r.others) r.value.base r.act c.base base_mine

    pub step_due : CanBeDue v.base.shared (carried_by c.base.state)
    step_due =
        way_due r.setting r.event v.base (bases r.others) r.value.base r.act c.base base_mine
        (out-no-section c.base.state (r.value.marks r.act c r.mine mark)) seen

    pub step_settled : IsStep prio_stands v seen (unmarked (settled v.base seen c.base (carried_by c.base.state)))
    step_settled =
        let d = settled v.base seen c.base (carried_by c.base.state) in
        let there = settled_stands r.setting r.event v.base (bases r.others) r.value.base r.act c.base base_mine
        (out-no-section c.base.state (r.value.marks r.act c r.mine mark)) seen in
        record {
          setting = r.setting;
          event = r.event;
          others = put r.others r.act (Some (unmarked d));
          act = r.act;
          value = built r.setting r.event v r.others r.value r.event r.act v (unmarked d) there (well-unmarked d) r.value.processors r.value.threads;
          mine = put-same r.others r.act (Some (unmarked d));
          sees = r.sees;
          later = r.later;
          within = r.within;
        }

-- THE OTHER CALLS
pub answered_ranks : (v : Prio) (seen : Seen) (c : PrioContext) → IsSeenOf prio_stands v seen c → CanRank v
answered_ranks v seen c r = ranks_can r.setting r.event v r.others r.value

pub local_thread : (v : Prio) (c : PrioContext) → IsOf prio_stands v c → IsThread (carried_by c.base.state)
local_thread v c r = base.seat_can r.setting r.event v.base (bases r.others) r.value.base r.act c.base (ap (option_map unmarked_of) r.mine)

pub told_base : (v : Prio) (c : PrioContext) (note : Note) (held : Option (Stopped PrioContext)) → IsTelling prio_stands v c note held
    → CanBeTold v.base c.base note (option_map base_of held)
told_base v c note held r =
    base.told_can r.setting r.event v.base (bases r.others) r.value.base r.act c.base (ap (option_map unmarked_of) r.mine) note (option_map base_of held)
    (base_handed r.setting r.event v r.others r.value r.act c r.mine note held r.handed)

pub went_base : (v : Prio) (seen : Seen) (c : PrioContext) (n : ℕ) → IsGoing prio_calls prio_stands v seen c n → CanGo v.base c.base
went_base v seen c n r =
    base.go_can r.setting r.event v.base (bases r.others) r.value.base r.act c.base (ap (option_map unmarked_of) r.mine) n (by c.urge r.goes) where
      by : (urge : Bool) → StaysLocal r.setting n (if urge then Away else local_at v.base c.base.state) → StaysLocal r.setting n (local_at v.base c.base.state)
      by true goes = absurd goes
      by false goes = goes
