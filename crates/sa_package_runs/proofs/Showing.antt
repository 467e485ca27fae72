-- What commands do over one thing, they do over another that shows the same.
use Rattle.std.proofs.Common.{◌≡◌, ℕ, zero, suc, ◌+◌, Bool, true, false, List, [], ◌∷◌, Option, Some, None, inl, inr, refl, sym, ap, ◌∙◌, subst}
use Rattle.std.specs.Prelude.{◌%◌, ◌==◌, nat_le, if◌then◌else◌, length, find, MatchOption}
use Rattle.sa_base.specs.declared.number.ProcNo.{ProcNo}
use Rattle.sa_base.specs.declared.number.SpaceNo.{SpaceNo}
use Rattle.sa_base.specs.declared.number.ThreadNo.{ThreadNo}
use Rattle.sa_base.specs.declared.record.End.{End}
use Rattle.sa_debug.specs.declared.script.command.Point.{Point}
use Rattle.sa_debug.specs.declared.script.command.DebugCommand.{DebugCommand}
use Rattle.sa_debug.specs.declared.script.command.DebugCommand.TheVariants.{Break, Clear, Step, Run, Show}
use Rattle.sa_debug.specs.declared.script.reply.View.{View}
use Rattle.sa_debug.specs.declared.script.reply.Reply.{Reply}
use Rattle.sa_debug.specs.declared.script.reply.Reply.TheVariants.{Event, AtBreak}
use Rattle.sa_debug.specs.declared.points.TheConstants.{MAX_POINTS}
use Rattle.sa_debug.specs.Order.{goes, in_order}
use Rattle.sa_debug.specs.Session.{Watched, Session, Gives, shown, with_point, without_point, has_point, with_halt, first, next, point_if, point_at}
use Rattle.sa_debug.specs.Session.{SaysEnded, Turns, Steps, IsHeld, Stops, Passes, IsOver, RunsTo, RunsSoFar, Does, DoesSoFar, DoAll}
use Rattle.sa_package_runs.proofs.Keeping.{does, turned}

-- From a thing of which P holds, the other is seen: it makes the same turns, ends in the same way, and the same is read of it.
pub record Shows {M N : Type 0} (o : Watched M) (q : Watched N) (f : M → N) (P : M → Type 0) : Type 0 where
  pub keeps : (m : M) (p : ProcNo) (after : M) → P m → o.IsTurn m p after → P after
  pub turns : (m : M) (p : ProcNo) (after : M) → P m → o.IsTurn m p after → q.IsTurn (f m) p (f after)
  pub ends : (m : M) (end : Option End) → P m → o.HasEnded m end → q.HasEnded (f m) end
  pub processors : (m : M) → P m → q.processors (f m) ≡ o.processors m
  pub event : (m : M) → P m → q.event (f m) ≡ o.event m
  pub last : (m : M) → P m → q.last (f m) ≡ o.last m
  pub stands : (m : M) (p : ProcNo) → P m → q.stands (f m) p ≡ o.stands m p
  pub view : (m : M) (s : SpaceNo) (t : ThreadNo) → P m → q.view (f m) s t ≡ o.view m s t

-- the same halts and breakpoints, over what is seen
abbrev pub seen_as : {M N : Type 0} → (M → N) → Session M → Session N
seen_as f s = record { machine = f s.machine; halted = s.halted; points = s.points }

module _ {M N : Type 0} (o : Watched M) (q : Watched N) (f : M → N) (P : M → Type 0) (shows : Shows o q f P) where
  abbrev seen : Session M → Session N
  seen s = seen_as f s

  -- BREAKPOINTS
  point-seen : (s t : Session M) (point : Point) (reply : Reply) (there full : Bool) → Gives (with_point s point there full) t reply
      → Gives (with_point (seen s) point there full) (seen t) reply
  point-seen s t point reply true full gives = (ap seen gives.0, gives.1)
  point-seen s t point reply false true gives = (ap seen gives.0, gives.1)
  point-seen s t point reply false false gives = (ap seen gives.0, gives.1)

  clear-seen : (s t : Session M) (point : Point) (reply : Reply) (there : Bool) → Gives (without_point s point there) t reply
      → Gives (without_point (seen s) point there) (seen t) reply
  clear-seen s t point reply true gives = (ap seen gives.0, gives.1)
  clear-seen s t point reply false gives = (ap seen gives.0, gives.1)

  -- WHO IS NEXT, AND WHERE
  first-seen : (m : M) → P m → first q (f m) ≡ first o m
  first-seen m held =
      ap (λ (n : ℕ). if n == 0 then 0 else ((q.last (f m)).0 + 1) % q.processors (f m)) (shows.event m held)
      ∙ ap (λ (p : ProcNo). if o.event m == 0 then 0 else (p.0 + 1) % q.processors (f m)) (shows.last m held)
      ∙ ap (λ (n : ℕ). if o.event m == 0 then 0 else ((o.last m).0 + 1) % n) (shows.processors m held)

  next-seen : (s : Session M) → P s.machine → next q (seen s) ≡ next o s
  next-seen s held =
      ap (λ (n : ℕ). find (goes s.halted) (in_order n (q.processors (f s.machine)))) (first-seen s.machine held)
      ∙ ap (λ (n : ℕ). find (goes s.halted) (in_order (first o s.machine) n)) (shows.processors s.machine held)

  if-seen : (s : Session M) (point : Option Point) → point_if q (seen s) point ≡ point_if o s point
  if-seen s None = refl
  if-seen s (Some point) = refl

  at-seen : (s : Session M) (p : ProcNo) → P s.machine → point_at q (seen s) p ≡ point_at o s p
  at-seen s p held = ap (point_if q (seen s)) (shows.stands s.machine p held) ∙ if-seen s (o.stands s.machine p)

  -- TURNS
  ended-seen : (s t : Session M) (reply : Reply) → SaysEnded o s t reply → P s.machine → SaysEnded q (seen s) (seen t) reply
  ended-seen s t reply says held =
      record { end = says.end; ended = shows.ends s.machine (Some says.end) held says.ended; answer = says.answer; same = ap seen says.same }

  turns-seen : (s t : Session M) (p : ProcNo) → Turns o s p t → P s.machine → Turns q (seen s) p (seen t)
  turns-seen s t p turns held = record {
    not_ended = shows.ends s.machine None held turns.not_ended;
    machine = f turns.machine;
    turn = shows.turns s.machine p turns.machine held turns.turn;
    is = ap seen turns.is;
  }

  keeps-turns : (s t : Session M) (p : ProcNo) → Turns o s p t → P s.machine → P t.machine
  keeps-turns s t p turns held = turned o P shows.keeps s t p turns held

  steps-seen : (s t : Session M) (p : ProcNo) (reply : Reply) → Steps o s p t reply → P s.machine → Steps q (seen s) p (seen t) reply
  steps-seen s t p reply steps held = record {
    turns = turns-seen s t p steps.turns held;
    answer = steps.answer ∙ ap Event (sym (shows.event t.machine (keeps-turns s t p steps.turns held)));
  }

  break-seen : (s t : Session M) (p : ProcNo) (reply : Reply) (point : Option Point)
      → MatchOption point ⊥ (λ x. (reply ≡ AtBreak p x) × (t ≡ with_halt s p true))
      → MatchOption point ⊥ (λ x. (reply ≡ AtBreak p x) × (seen t ≡ with_halt (seen s) p true))
  break-seen s t p reply None at = absurd at
  break-seen s t p reply (Some point) at = (at.0, ap seen at.1)

  held-seen : (s t : Session M) (reply : Reply) (who : Option ProcNo) → P s.machine → IsHeld o s who t reply → IsHeld q (seen s) who (seen t) reply
  held-seen s t reply None held at = (at.0, ap seen at.1)
  held-seen s t reply (Some p) held at =
      subst (λ (point : Option Point). MatchOption point ⊥ (λ x. (reply ≡ AtBreak p x) × (seen t ≡ with_halt (seen s) p true)))
      (sym (at-seen s p held))
      (break-seen s t p reply (point_at o s p) at)

  stops-seen : (s t : Session M) (reply : Reply) → Stops o s t reply → P s.machine → Stops q (seen s) (seen t) reply
  stops-seen s t reply stops held = record {
    not_ended = shows.ends s.machine None held stops.not_ended;
    held = subst (λ (who : Option ProcNo). IsHeld q (seen s) who (seen t) reply) (sym (next-seen s held))
        (held-seen s t reply (next o s) held stops.held);
  }

  passes-seen : (s t : Session M) (p : ProcNo) → Passes o s p t → P s.machine → Passes q (seen s) p (seen t)
  passes-seen s t p passes held = record {
    has = record {
      not_ended = shows.ends s.machine None held passes.has.not_ended;
      is = next-seen s held ∙ passes.has.is;
      free = at-seen s p held ∙ passes.has.free;
    };
    turns = turns-seen s t p passes.turns held;
  }

  over-seen : (s t : Session M) (reply : Reply) → IsOver o s t reply → P s.machine → IsOver q (seen s) (seen t) reply
  over-seen s t reply over held = record {
    not_ended = shows.ends s.machine None held over.not_ended;
    answer = over.answer ∙ ap Event (sym (shows.event s.machine held));
    same = ap seen over.same;
  }

  runs-seen : (n : ℕ) (s t : Session M) (reply : Reply) → RunsTo o n s t reply → P s.machine → RunsTo q n (seen s) (seen t) reply
  runs-seen zero s t reply runs held = elim runs [
    | inl says ↦ inl (ended-seen s t reply says held)
    | inr over ↦ inr (over-seen s t reply over held)
  ]
  runs-seen (suc n) s t reply runs held = elim runs [
    | inl says ↦ inl (ended-seen s t reply says held)
    | inr other ↦ elim other [
      | inl stops ↦ inr (inl (stops-seen s t reply stops held))
      | inr more ↦ inr (inr (
        more.0,
        seen more.1,
        passes-seen s more.1 more.0 more.2 held,
        runs-seen n more.1 t reply more.3 (keeps-turns s more.1 more.0 more.2.turns held),
      ))
    ]
  ]

  came-seen : (n : ℕ) (s t : Session M) → RunsSoFar o n s t → P s.machine → RunsSoFar q n (seen s) (seen t)
  came-seen zero s t comes held = ap seen comes
  came-seen (suc n) s t comes held = elim comes [
    | inl here ↦ inl (ap seen here)
    | inr more ↦ inr (
      more.0,
      seen more.1,
      passes-seen s more.1 more.0 more.2 held,
      came-seen n more.1 t more.3 (keeps-turns s more.1 more.0 more.2.turns held),
    )
  ]

  -- COMMANDS
  pub does-seen : (c : DebugCommand) (s t : Session M) (reply : Reply) → Does o c s t reply → P s.machine → Does q c (seen s) (seen t) reply
  does-seen (Break point) s t reply done held = point-seen s t point reply (has_point s point) (nat_le MAX_POINTS (length s.points)) done
  does-seen (Clear point) s t reply done held = clear-seen s t point reply (has_point s point) done
  does-seen (Step p) s t reply done held = elim done [
    | inl says ↦ inl (ended-seen s t reply says held)
    | inr steps ↦ inr (steps-seen s t p reply steps held)
  ]
  does-seen (Run n) s t reply done held = runs-seen n s t reply done held
  does-seen (Show space thread) s t reply done held =
      (ap seen done.0, done.1 ∙ ap (λ (v : Option View). shown v) (sym (shows.view s.machine space thread held)))
  does-seen _ s t reply done held = (ap seen done.0, done.1)

  pub so-far-seen : (c : DebugCommand) (s t : Session M) → DoesSoFar o c s t → P s.machine → DoesSoFar q c (seen s) (seen t)
  so-far-seen (Run n) s t comes held = came-seen n s t comes held
  so-far-seen _ s t comes held = ap seen comes

  pub all-seen : (cs : List DebugCommand) (s t : Session M) (replies : List Reply) → DoAll o cs s t replies → P s.machine
      → DoAll q cs (seen s) (seen t) replies
  all-seen [] s t replies done held = (ap seen done.0, done.1)
  all-seen (c ∷ cs) s t replies done held = (
    seen done.0,
    done.1,
    done.2,
    done.3,
    does-seen c s done.0 done.1 done.4 held,
    all-seen cs done.0 t done.2 done.5 (does o P shows.keeps c s done.0 done.1 done.4 held),
  )
