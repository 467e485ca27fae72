-- What a track shows is the same as itself.
use Rattle.std.proofs.Common.{◌≡◌, Bool, true, ◌==◌, ◌&&◌, Option, Some, None, refl}
use Rattle.std.proofs.lemmas.Bool.{eq-eqb, and_from}
use Rattle.sa_base.specs.declared.number.ActNo.{ActNo}
use Rattle.sa_base.specs.declared.number.SpaceNo.{SpaceNo}
use Rattle.sa_shapes.specs.declared.look.Look.{Look}
use Rattle.sa_shapes.specs.declared.look.Look.TheVariants as look
use Rattle.sa_shapes.specs.Look.{owner, same_look}
use Rattle.sa_trace_events.specs.declared.track.Level.{Level}
use Rattle.sa_trace_events.specs.declared.track.Level.TheVariants.{Owner, Activation, Work}
use Rattle.sa_trace_events.specs.declared.track.Track.{Track}
use Rattle.sa_trace_events.specs.declared.state.Context.{Context}
use Rattle.sa_trace_events.specs.declared.state.Doing.{Doing}
use Rattle.sa_trace_events.specs.declared.state.Doing.TheVariants.{Unseen, Ready, Runs, Section, Stopped, Blocked, Returned, Hand, Away}
use Rattle.sa_trace_events.specs.declared.state.Holder.{Holder}
use Rattle.sa_trace_events.specs.declared.state.Holder.TheVariants.{Nobody, Handler, Thread}
use Rattle.sa_trace_events.specs.declared.slices.State.{State}
use Rattle.sa_trace_events.specs.declared.slices.State.TheVariants as state
use Rattle.sa_trace_events.specs.State.{same_space, same_act, same_context, same_doing, same_holder}
use Rattle.sa_trace_events.specs.Slices.{level_of, same_state}

look-itself : (a : Look) → same_look a a ≡ true
look-itself look.Unowned = refl
look-itself (look.Thread s t) = and_from (s.0 == s.0) (t.0 == t.0) (eq-eqb s.0 s.0 refl) (eq-eqb t.0 t.0 refl)
look-itself (look.Package s) = eq-eqb s.0 s.0 refl
look-itself (look.Placed s) = eq-eqb s.0 s.0 refl
look-itself (look.GoesOn s) = eq-eqb s.0 s.0 refl
look-itself (look.List s l) = and_from (s.0 == s.0) (l.0 == l.0) (eq-eqb s.0 s.0 refl) (eq-eqb l.0 l.0 refl)
look-itself (look.Idle s) = eq-eqb s.0 s.0 refl
look-itself (look.Section s) = eq-eqb s.0 s.0 refl

pub space-itself : (a : Option SpaceNo) → same_space a a ≡ true
space-itself None = refl
space-itself (Some s) = eq-eqb s.0 s.0 refl

pub act-itself : (a : Option ActNo) → same_act a a ≡ true
act-itself None = refl
act-itself (Some a) = eq-eqb a.0 a.0 refl

abbrev both_itself : Context → Bool
both_itself c = same_space (owner c.look) (owner c.look) && same_act c.act c.act

both-itself : (c : Context) → both_itself c ≡ true
both-itself c = and_from (same_space (owner c.look) (owner c.look)) (same_act c.act c.act) (space-itself (owner c.look)) (act-itself c.act)

context-itself : (l : Level) (c : Context) → same_context l c c ≡ true
context-itself Owner c = space-itself (owner c.look)
context-itself Activation c = both-itself c
context-itself Work c = and_from (both_itself c) (same_look c.look c.look) (both-itself c) (look-itself c.look)

doing-itself : (d : Doing) → same_doing d d ≡ true
doing-itself Unseen = refl
doing-itself Ready = refl
doing-itself (Runs p) = eq-eqb p.0 p.0 refl
doing-itself (Section p) = eq-eqb p.0 p.0 refl
doing-itself Stopped = refl
doing-itself (Blocked io) = eq-eqb io.0 io.0 refl
doing-itself Returned = refl
doing-itself Hand = refl
doing-itself Away = refl

holder-itself : (h : Holder) → same_holder h h ≡ true
holder-itself Nobody = refl
holder-itself (Handler p) = eq-eqb p.0 p.0 refl
holder-itself (Thread p t) = and_from (p.0 == p.0) (t.0 == t.0) (eq-eqb p.0 p.0 refl) (eq-eqb t.0 t.0 refl)

pub itself : (t : Track) (v : State) → same_state t v v ≡ true
itself t (state.Context c) = context-itself (level_of t) c
itself t (state.Doing d) = doing-itself d
itself t (state.Holder h) = holder-itself h
itself t (state.Tally y) = eq-eqb y.n y.n refl
