-- The calls but the step keep all standing.
use Rattle.std.proofs.Common.{◌≡◌, ℕ, suc, ◌+◌, ◌-◌, ◌≤◌, ◌<◌, Bool, true, false, replicate, Option, Some, None, refl, sym, ap, ◌∙◌, subst, arith}
use Rattle.std.specs.Prelude.{◌||◌, if◌then◌else◌, is_none}
use Rattle.std.specs.Option.{option_map}
use Rattle.std.proofs.lemmas.List.{length-set, length-replicate}
use Rattle.sa_base.specs.declared.number.ThreadNo.{ThreadNo}
use Rattle.sa_base.specs.declared.context.Seen.{Seen}
use Rattle.sa_base.specs.declared.context.Stopped.{Stopped}
use Rattle.sa_base.specs.declared.record.Note.{Note}
use Rattle.sa_base.specs.declared.record.Note.TheVariants.{Add, Preempted, Blocked, Unblocked}
use Rattle.sa_abstract.specs.declared.answer.SeatState.TheVariants.{Away}
use Rattle.sa_abstract.specs.Setting.{Setting, IsSetting}
use Rattle.sa_abstract.specs.Calls.{Contexts}
use Rattle.sa_abstract.specs.Keeps.{IsSeen, IsHandedOver, IsHanded, IsSeat, IsGone, StaysLocal, is_away, told_contexts}
use Rattle.sa_lemmas.specs.Function.{put}
use Rattle.sa_lemmas.proofs.FunctionUpdates.{put-self}
use Rattle.sa_lists.specs.declared.ranks.Ranks.TheVariants.{Many}
use Rattle.std.specs.Prelude.{slice_index_or}
use Rattle.sa_package_model.specs.declared.context.Context.{Context}
use Rattle.sa_package_model.specs.declared.context.ContextState.{ContextState}
use Rattle.sa_package_model.specs.declared.context.ContextState.TheVariants.{Code, User, Look}
use Rattle.sa_package_model.specs.Conditions.{IsThread}
use Rattle.sa_package_model.specs.Context.{fresh, carried_by, section_in, stands_inside, stands_between}
use Rattle.sa_package_model.specs.Rules.{settled}
use Rattle.sa_package_model.specs.Step as fast
use Rattle.sa_package_model.specs.Stands.{IsStanding}
use Rattle.sa_package_model.proofs.BeginRule.{starts-with, begins, later}
use Rattle.sa_package_model.proofs.StepRule.{told_stands}
use Rattle.sa_package_model.proofs.GoRule as go
use Rattle.sa_prio_model.specs.declared.context.PrioContext.{PrioContext}
use Rattle.sa_prio_model.specs.Prio.{Prio, with_base, with_on}
use Rattle.sa_prio_model.specs.Urge.{unmarked, marked, is_out, settles}
use Rattle.sa_prio_model.specs.Step.{started, begun, base_of, told, answered, went, local, prio_calls}
use Rattle.sa_prio_model.specs.Stands.{unmarked_of, bases, IsMarkedWell, IsPrioStanding, prio_stands}
use Rattle.sa_prio_model.proofs.Contexts.{bases-put, marks-put, marks-gone, threads-with, built}
use Rattle.sa_prio_model.proofs.Way.{settled_stands}

-- THE OPENING
abbrev nobody : Option ThreadNo
nobody = None

none_on : (n q : ℕ) → slice_index_or (replicate n nobody) q nobody ≡ nobody
none_on (suc n) (suc q) = none_on n q
none_on _ _ = refl

pub prio_starts : (s : Setting) → IsSetting s → IsPrioStanding s 0 (started s) (λ a. None)
prio_starts s h = record {
  base = starts-with Many s h;
  marks = λ a c is. absurd cc;
  processors = length-replicate s.processors None;
  threads = λ q. subst IsThread (sym (none_on s.processors q)) tt;
}

pub prio_later : (s : Setting) (e f : ℕ) (v : Prio) (cs : Contexts PrioContext) → IsPrioStanding s e v cs → e ≤ f → IsPrioStanding s f v cs
prio_later s e f v cs h after = record { base = later s e f v.base (bases cs) h.base after; marks = h.marks; processors = h.processors; threads = h.threads }

-- the mark of a context that came out, and no mark
pub well-marked : (v : Prio) (seen : Seen) (came : Bool) (c : Context) → (came ≡ true → is_out c.state ≡ true) → IsMarkedWell (marked v seen came c)
well-marked v seen true c out = λ e. out refl
well-marked v seen false c out = λ e. absurd cc

pub well-unmarked : (c : Context) → IsMarkedWell (unmarked c)
well-unmarked c = λ e. absurd cc

-- a context that is out, or between routines, is in no section
pub out-no-section : (state : ContextState) → is_out state ≡ true → section_in state ≡ None
out-no-section (User t) e = refl
out-no-section (Look looks) e = refl
out-no-section _ e = absurd cc

between-no-section : (state : ContextState) → stands_between state ≡ true → section_in state ≡ None
between-no-section (Code f) e = absurd cc
between-no-section _ e = refl

module _ (s : Setting) (e : ℕ) (v : Prio) (cs : Contexts PrioContext) (h : IsPrioStanding s e v cs) where
  -- A FRESH CONTEXT
  pub prio_begins : (a : ℕ) (seen : Seen) → cs a ≡ None → IsSeen s seen → IsPrioStanding s e (begun v seen).0 (put cs a (Some (begun v seen).1))
  prio_begins a seen none sees =
      let w = with_on v seen.proc None in
      built s e v cs h e a w (unmarked fresh) (begins s e v.base (bases cs) a h.base (ap (option_map unmarked_of) none)) (well-unmarked fresh)
      (length-set v.on seen.proc.0 None ∙ h.processors)
      (threads-with v seen.proc None (let processors = h.processors in omega arith) tt h.threads)

  module _ (a : ℕ) (c : PrioContext) (is : cs a ≡ Some c) where
    base_at : bases cs a ≡ Some c.base
    base_at = ap (option_map unmarked_of) is

    -- A NOTICE
    handed_base : (b : ℕ) (held : Option (Stopped PrioContext)) → IsHandedOver cs a b held → IsHandedOver (bases cs) a b (option_map base_of held)
    handed_base b held handed = record {
      stopped = base_of handed.stopped;
      is = ap (option_map base_of) handed.is;
      theirs = ap (option_map unmarked_of) handed.theirs;
      differ = handed.differ;
    }

    pub base_handed : (note : Note) (held : Option (Stopped PrioContext)) → IsHanded cs a note held → IsHanded (bases cs) a note (option_map base_of held)
    base_handed (Preempted b) held handed = handed_base b.0 held handed
    base_handed (Unblocked b) held handed = handed_base b.0 held handed
    base_handed _ held handed = ap (option_map base_of) handed

    gone_bases : (b : ℕ) (d : PrioContext) → bases (put (put cs a (Some d)) b None) ≡ put (put (bases cs) a (Some d.base)) b None
    gone_bases b d = bases-put (put cs a (Some d)) b None ∙ ap (λ xs. put xs b None) (bases-put cs a (Some d))

    told_bases : (note : Note) (d : PrioContext) → bases (told_contexts cs a d note) ≡ told_contexts (bases cs) a d.base note
    told_bases (Preempted b) d = gone_bases b.0 d
    told_bases (Unblocked b) d = gone_bases b.0 d
    told_bases _ d = bases-put cs a (Some d)

    -- a context that is told is inside, or is marked as it was
    told_marks : (note : Note) (d : PrioContext) → IsMarkedWell d → (b : ℕ) (x : PrioContext) → told_contexts cs a d note b ≡ Some x → IsMarkedWell x
    told_marks (Preempted n) d well = marks-gone (put cs a (Some d)) n.0 (marks-put cs a d h.marks well)
    told_marks (Unblocked n) d well = marks-gone (put cs a (Some d)) n.0 (marks-put cs a d h.marks well)
    told_marks _ d well = marks-put cs a d h.marks well

    same_state : (note : Note) (held : Option (Stopped Context)) → (fast.told v.base c.base note held).1.state ≡ c.base.state
    same_state (Add p) held = refl
    same_state (Blocked b) held = refl
    same_state (Preempted b) None = refl
    same_state (Preempted b) (Some d) = refl
    same_state (Unblocked b) None = refl
    same_state (Unblocked b) (Some d) = refl

    pub prio_tells : (note : Note) (held : Option (Stopped PrioContext)) → IsHanded cs a note held
        → IsPrioStanding s e (told v c note held).0 (told_contexts cs a (told v c note held).1 note)
    prio_tells note held handed =
        let d = (told v c note held).1 in
        record {
          base = subst (IsStanding s e (told v c note held).0.base) (sym (told_bases note d))
              (told_stands s e v.base (bases cs) h.base a c.base base_at note (option_map base_of held) (base_handed note held handed));
          marks = told_marks note d (λ mark. ap is_out (same_state note (option_map base_of held)) ∙ h.marks a c is mark);
          processors = h.processors;
          threads = h.threads;
        }

    -- BEHIND NOTICES AND ANSWERS
    settles_stands : (seen : Seen) → section_in c.base.state ≡ None → IsPrioStanding s e v (put cs a (Some (settles v seen c.base)))
    settles_stands seen outside =
        let d = settled v.base seen c.base (carried_by c.base.state) in
        built s e v cs h e a v (settles v seen c.base) (settled_stands s e v.base (bases cs) h.base a c.base base_at outside seen)
        (well-marked v seen (is_out d.state) d (λ out. out)) h.processors h.threads

    stays_stands : IsPrioStanding s e v (put cs a (Some c))
    stays_stands = subst (λ xs. IsPrioStanding s e v xs) (sym (ap (put cs a) (sym is) ∙ put-self cs a)) h

    answered_by : (seen : Seen) (urge between : Bool) → (urge ≡ true → section_in c.base.state ≡ None) → (between ≡ true → section_in c.base.state ≡ None)
        → IsPrioStanding s e v (put cs a (Some (if urge || between then settles v seen c.base else c)))
    answered_by seen true between marked none = settles_stands seen (marked refl)
    answered_by seen false true marked none = settles_stands seen (none refl)
    answered_by seen false false marked none = stays_stands

    pub prio_answers : (seen : Seen) → IsPrioStanding s e (answered v seen c).0 (put cs a (Some (answered v seen c).1))
    prio_answers seen =
        answered_by seen c.urge (stands_between c.base.state) (λ mark. out-no-section c.base.state (h.marks a c is mark)) (between-no-section c.base.state)

    -- WHERE IT STANDS
    away_or : (state : ContextState) → (is_away (fast.local_at v.base state) ≡ (stands_inside state || is_none (carried_by state))) → (urge : Bool)
        → is_away (if urge then Away else fast.local_at v.base state) ≡ ((stands_inside state || urge) || is_none (carried_by state))
    away_or state is true = tests (stands_inside state) (is_none (carried_by state)) where
      tests : (inside none : Bool) → true ≡ ((inside || true) || none)
      tests true none = refl
      tests false none = refl
    away_or state is false = is ∙ tests (stands_inside state) (is_none (carried_by state)) where
      tests : (inside none : Bool) → (inside || none) ≡ ((inside || false) || none)
      tests true none = refl
      tests false none = refl

    seat_or : IsSeat s (fast.local_at v.base c.base.state) → (urge : Bool) → IsSeat s (if urge then Away else fast.local_at v.base c.base.state)
    seat_or seat true = tt
    seat_or seat false = seat

    pub prio_seats : IsSeat s (local v c) × (is_away (local v c) ≡ ((stands_inside c.base.state || c.urge) || is_none (carried_by c.base.state)))
    prio_seats =
        let base = go.seats s e v.base (bases cs) h.base a c.base base_at in
        (seat_or base.0 c.urge, away_or c.base.state base.1 c.urge)

    -- A RUN OF LOCAL INSTRUCTIONS
    goes_by : (seen : Seen) (n : ℕ) (urge : Bool) → c.urge ≡ urge → e < seen.event → StaysLocal s n (if urge then Away else fast.local_at v.base c.base.state)
        → IsGone prio_calls prio_stands s seen cs a n (if urge then Away else fast.local_at v.base c.base.state) (went v seen c n)
    goes_by seen n true mark after on = absurd on
    goes_by seen n false mark after on =
        let r = fast.went v.base seen c.base n in
        let base = go.goes s e v.base (bases cs) h.base a c.base base_at seen n after on in
        let w = with_base v r.user in
        let d : PrioContext = (went v seen c n).ctx in
        record {
          value = built s e v cs h (seen.event + n - 1) a w d base.value (λ m. absurd (let both : true ≡ false = sym m ∙ mark in cc)) h.processors h.threads;
          says = base.says;
          state = ap (λ b. if b then Away else fast.local_at r.user r.ctx.state) mark ∙ base.state;
        }

    pub prio_goes : (seen : Seen) (n : ℕ) → e < seen.event → StaysLocal s n (local v c) → IsGone prio_calls prio_stands s seen cs a n (local v c) (went v seen c n)
    prio_goes seen n after on = goes_by seen n c.urge refl after on
