-- What is known before a step of a running life of the package with priorities.
use Rattle.std.proofs.Common.{◌≡◌, ℕ, ◌<◌, ◌≤◌, ◌&&◌, ◌==◌, length, length-set, true, List, [], Option, Some, None, Contains, is_none, slice_set, slice_index_or, refl, sym, ap, ◌∙◌, inl, inr, arith}
use Rattle.std.proofs.lemmas.Bool.{cases_eq, cases_lt, and_parts}
use Rattle.std.proofs.lemmas.List.{get_or_past, get_or-set_same, get_or-set_other}
use Rattle.std.proofs.lemmas.Option.{slice_get_within}
use Rattle.sa_base.specs.declared.context.Seen.{Seen}
use Rattle.sa_base.specs.declared.limits.TheConstants.{MAX_EVENTS}
use Rattle.sa_base.specs.declared.number.ActNo.{ActNo}
use Rattle.sa_base.specs.declared.number.ProcNo.{ProcNo}
use Rattle.sa_spaces.specs.Workload.{WorkloadView}
use Rattle.sa_abstract.specs.Calls.{Contexts}
use Rattle.sa_abstract.specs.Setting.{Setting}
use Rattle.sa_package_model.specs.Context.{carried_by}
use Rattle.sa_laws.specs.Life.{Life}
use Rattle.sa_laws.specs.Readings.{Readings, ready_of, taken_of, line_of}
use Rattle.sa_laws.specs.State.{Runner, space_at, runner_on, runner_of}
use Rattle.sa_user_laws.specs.Moments.{IsMoment, AreSized, Sees}
use Rattle.sa_user_laws.specs.Scene.{IsOfSpace, IsOn, IsActing, event_begun_at}
use Rattle.sa_fast_laws.proofs.relation.EventEnds.{begun-holds}
use Rattle.sa_fast_laws.specs.FastFits.{Holds}
use Rattle.sa_fast_laws.specs.View.{looks_of, is_lone}
use Rattle.sa_fast_laws.proofs.steps.Scenes.{IsOwnMarked}
use Rattle.sa_fast_laws.specs.Rests.{RestBut}
use Rattle.sa_ranks.specs.Pairs.{rank_in, rank_if, is_outranked, outranked_by, outranked_on, has_pair, IsLowest}
use Rattle.sa_prio_model.specs.Prio.{Prio, outranked, lowest, has_pair as prio_pair}
use Rattle.sa_prio_model.specs.Stands.{bases, IsPrioStanding, prio_stands}
use Rattle.sa_prio_model.specs.Step.{prio_calls}
use Rattle.sa_prio_model.specs.declared.context.PrioContext.{PrioContext}
use Rattle.sa_prio_model.specs.declared.pair.Outranked.{Outranked}
use Rattle.sa_prio_laws.proofs.relation.Fresh.{fresh-is}
use Rattle.sa_prio_laws.proofs.relation.Pairs.{outranked-alike, lowest-alike, pairs-alike, is-near, sees-lines}
use Rattle.sa_prio_laws.specs.PrioFits.{is_fresh, prio_view, prio_fits, KeepsOn}
use Rattle.sa_prio_laws.specs.Ready.{FitsRanked}

pub record IsPrioScene (set : Setting) (e : ℕ) (v : Prio) (cs : Contexts PrioContext) (w : WorkloadView) (r : Readings) (p : ProcNo) (a : ActNo) (life : Life)
    (c : PrioContext) (seen : Seen) : Type 0 where
  pub of : IsOfSpace w set
  pub moment : IsMoment r
  pub sizes : AreSized w r
  pub stands : IsPrioStanding set e v cs
  pub holds : Holds set.space r v.base (bases cs)
  pub ranked : FitsRanked v.base (ready_of r set.space)
  pub kept : KeepsOn r v cs
  pub others : RestBut prio_view set.space r a cs
  pub own : IsOwnMarked c.base life
  pub fresh : c.urge ≡ true → looks_of c.base.state ≡ 0
  pub on : IsOn set.space r p a life cs c
  pub runner : runner_on r.state p ≡ runner_of set.space (carried_by c.base.state)
  pub sees : Sees set.space (event_begun_at w seen.event p r) p seen.event seen
  pub low : line_of r p ≡ None
  -- who was taken was handed over
  pub given : (b : ActNo) → Contains (taken_of r set.space) b → cs b.0 ≡ None
  pub later : e < seen.event
  pub within : seen.event ≤ MAX_EVENTS

-- So it is before a step.
pub the-scene : (w : WorkloadView) (s : Setting) (e : ℕ) (r : Readings) (v : Prio) (cs : Contexts PrioContext) (p : ProcNo) (a : ActNo) (life : Life)
    (c : PrioContext) (seen : Seen)
    → IsActing prio_calls prio_stands prio_fits w s e r v cs p a life c
    → Sees s.space (event_begun_at w seen.event p r) p seen.event seen → line_of r p ≡ None → e < seen.event → seen.event ≤ MAX_EVENTS
    → IsPrioScene s e v cs w r p a life c seen
the-scene w s e r v cs p a life c seen i sees low later within =
    let mark = (i.fit.lives.rest a c life i.on.mine i.on.is).marks in
    record {
      of = i.holds.of;
      moment = i.holds.moment;
      sizes = i.holds.sizes;
      stands = i.holds.value;
      holds = i.fit.lives.holds;
      ranked = i.fit.ranked;
      kept = i.fit.on;
      others = λ x d l ne at is. i.fit.lives.rest x d l at is;
      own =
          record {
            back = mark.back;
            scans = mark.scans;
            left = mark.left;
            lone = (and_parts (is_fresh c.urge (looks_of c.base.state)) (is_lone c.base.state c.base.sections) mark.lone).1;
          };
      fresh = fresh-is c.urge (looks_of c.base.state) (is_lone c.base.state c.base.sections) mark.lone;
      on = i.on;
      runner = i.runner;
      sees = sees;
      low = low;
      given = i.holds.taken;
      later = later;
      within = within;
    }

-- THE PAIRS before a step, as they are read after its beginning, which lowers no line
module _ (set : Setting) (e : ℕ) (v : Prio) (cs : Contexts PrioContext) (w : WorkloadView) (r : Readings) (p : ProcNo) (a : ActNo) (life : Life)
    (c : PrioContext) (seen : Seen) (i : IsPrioScene set e v cs w r p a life c seen) where
  abbrev r0 : Readings
  r0 = event_begun_at w seen.event p r

  -- the space is one of those that are read
  pub known : set.space.0 < length r.state.spaces
  known = let less = slice_get_within w.spaces set.space.0 set.def i.of.def in let same = i.sizes.spaces in omega arith

  moment0 : IsMoment r0
  moment0 = record { lives = i.moment.lives; apart = i.moment.apart; owned = i.moment.owned; alone = i.moment.alone }

  pub holds0 : Holds set.space r0 v.base (bases cs)
  holds0 = begun-holds set.space r v.base (bases cs) w (record { number = seen.event; proc = p; records = [] }) i.holds

  line-same : (q : ProcNo) → line_of r0 q ≡ line_of r q
  line-same q = elim (cases_eq q.0 p.0) [
    | inr ne ↦ get_or-set_other r.lines p.0 q.0 None None ne
    | inl same ↦ set-low r.lines p.0 q.0 same i.low
  ] where
    set-low : (xs : List (Option ℕ)) (n k : ℕ) → k ≡ n → slice_index_or xs n None ≡ None
        → slice_index_or (slice_set xs n None) k None ≡ slice_index_or xs k None
    set-low xs n k same none = elim (cases_lt n (length xs)) [
      | inl below ↦
          ap (λ j. slice_index_or (slice_set xs n None) j None) same ∙ get_or-set_same xs n None None below ∙ sym none
          ∙ sym (ap (λ j. slice_index_or xs j None) same)
      | inr past ↦ get_or_past (slice_set xs n None) k None (let size = length-set xs n None in omega arith) ∙ sym (get_or_past xs k None (omega arith))
    ]

  pub outranked-same : (q : ProcNo) → outranked_on r0 set.space q ≡ outranked_on r set.space q
  outranked-same q = by (runner_on r.state q) where
    by : (o : Option Runner) → outranked_by r0 set.space q o ≡ outranked_by r set.space q o
    by None = refl
    by (Some runner) =
        let x = space_at r.state set.space in
        ap (λ l. rank_if (runner.space.0 == set.space.0 && is_none l && is_outranked x (rank_in x runner.thread)) (rank_in x runner.thread)) (line-same q)

  pub seen-pair : (q : ProcNo) → outranked v seen q ≡ outranked_on r0 set.space q
  seen-pair q = outranked-alike set e v cs i.stands.base r0 moment0 r0 (is-near set.space (bases cs) r0) seen (sees-lines set.space r0 p seen.event seen i.sees)
      holds0 (ready_of r set.space) i.ranked i.kept q

  pub seen-lowest : (other : Outranked) → lowest v seen ≡ Some other → IsLowest r0 set.space other.proc
  seen-lowest other found =
      lowest-alike set e v cs i.stands.base r0 moment0 r0 (is-near set.space (bases cs) r0) seen (sees-lines set.space r0 p seen.event seen i.sees)
      holds0 (ready_of r set.space) i.ranked i.kept w i.sizes.running (i.stands.processors ∙ i.of.processors) other found

  pub seen-pairs : prio_pair v seen ≡ has_pair w r0 set.space
  seen-pairs =
      pairs-alike set e v cs i.stands.base r0 moment0 r0 (is-near set.space (bases cs) r0) seen (sees-lines set.space r0 p seen.event seen i.sees)
      holds0 (ready_of r set.space) i.ranked i.kept w i.sizes.running (i.stands.processors ∙ i.of.processors)
