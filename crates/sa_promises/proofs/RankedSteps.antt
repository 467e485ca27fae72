-- What is thread priorities' own: a thread that gives way, and a line that a user level asks for.
use Rattle.std.proofs.Common.{◌≡◌, ℕ, refl, sym, ◌∙◌, ap, arith, Some, None, List, [], ◌∷◌, map, true, false}
use Rattle.std.specs.Prelude.{Option, Bool, slice_index_or, nat_lt, is_some}
use Rattle.std.specs.Option.{option_map}
use Rattle.std.proofs.lemmas.Bool.{false≢true, ltb-true}
use Rattle.std.proofs.lemmas.Option.{same_Some}
use Rattle.sa_base.specs.declared.number.ProcNo.{ProcNo}
use Rattle.sa_base.specs.declared.number.SpaceNo.{SpaceNo}
use Rattle.sa_base.specs.declared.number.ThreadNo.{ThreadNo}
use Rattle.sa_base.specs.declared.record.Note.{Note}
use Rattle.sa_base.specs.declared.record.Record.TheVariants.{Back, Line}
use Rattle.sa_spaces.specs.Workload.{WorkloadView}
use Rattle.sa_laws.specs.declared.rule.Rule.TheVariants.{LineCause, TurnsTaken}
use Rattle.sa_laws.specs.Event.{Event}
use Rattle.sa_laws.specs.Life.{Life, Lock}
use Rattle.sa_laws.specs.Readings.{Readings, line_of, life_on, space_of_life}
use Rattle.sa_laws.specs.History.{after_event, event_begun}
use Rattle.sa_laws.specs.Step.{AreSteps}
use Rattle.sa_laws.specs.Ends.{LastLine}
use Rattle.sa_laws.specs.Turns.{IsTurn}
use Rattle.sa_laws.specs.Rules.{HoldEach, rules_before}
use Rattle.sa_ranks.specs.Rules.{prio_threads}
use Rattle.sa_ranks.specs.Inside.{is_inside_or_urged}
use Rattle.sa_ranks.specs.Steps.{IsRankedStep}
use Rattle.sa_ranks.specs.Locks.{KeepsTheLockIf}
use Rattle.sa_base.specs.declared.package.PackageName.TheVariants.{Priorities}
use Rattle.sa_promises.proofs.Plain.{alone, before-turns}
use Rattle.sa_promises.proofs.Calm.{prompt-calm}
use Rattle.sa_promises.proofs.Right.{IsRightAt, ◌&◌}
use Rattle.sa_promises.proofs.Seen.{Covers, SeemsCalm, is-calm}
use Rattle.sa_promises.proofs.OwnRules.{Stand, stand, stands, standing, unbound, in-demand}
use Rattle.sa_promises.proofs.Steps.{with-order}

abbrev GivesWayIn : WorkloadView → Readings → Event → Type 0
GivesWayIn w r e = IsTurn IsRankedStep (is_some (line_of r e.proc)) e.number w (event_begun w e r) e.proc e.records

-- the back of a thread that gives way
pub gives_way : {w : WorkloadView} {r : Readings} {n : ℕ} {p : ProcNo} {s : SpaceNo} {t thread : Option ThreadNo} {locks : List Lock} {due : List ThreadNo}
    {hand : Bool}
    → Covers prio_threads w r (alone n p (Back s t)) → SeemsCalm prio_threads w r (alone n p (Back s t))
    → standing r p ≡ Some (stands s locks due hand thread)
    → AreSteps w n p (event_begun w (alone n p (Back s t)) r) (Back s t ∷ [])
    → GivesWayIn w r (alone n p (Back s t)) → IsRightAt prio_threads w r (alone n p (Back s t))
gives_way {w} {r} {n} {p} {s} {t} {thread} {locks} {due} {hand} covered seems is steps turn =
    let allowed = unbound w r (Back s t) (life_on r p) (stands s locks due hand thread) is (λ life same. refl) in
    with-order Priorities (record {
      plain = refl;
      seems = seems;
      calm = is-calm seems covered steps;
      demand = in-demand Priorities _ _ _ (λ _. allowed.free) (λ _. allowed.unurged);
      turns = record { turn = λ _. turn; closing = λ _. tt };
      locks = record { step = λ _. (keeps (life_on r p) is, refl) };
    }) (record { run = tt })
  where
    keeps : (life : Option Life) → option_map (stand r) life ≡ Some (stands s locks due hand thread)
        → KeepsTheLockIf true w (event_begun w (alone n p (Back s t)) r) p life (Back s t)
    keeps None none = absurd (cc)
    keeps (Some life) some =
        let same = same_Some (stand r life) (stands s locks due hand thread) some in
        let shut : life.cont ≡ false = ap (λ (z : Stand). z.cont) same in
        record {
          keeps = sym (ap (λ (z : Stand). z.space) same);
          due = λ due. refl;
          back = λ back is_open. absurd (false≢true (sym shut ∙ is_open));
        }

-- what comes before the law of turns at a back
pub back-but-turns : {w : WorkloadView} {r : Readings} {n : ℕ} {p : ProcNo} {s : SpaceNo} {t : Option ThreadNo} {y : Stand} (last : Option LastLine)
    → Covers prio_threads w r (alone n p (Back s t)) → SeemsCalm prio_threads w r (alone n p (Back s t)) → standing r p ≡ Some y
    → AreSteps w n p (event_begun w (alone n p (Back s t)) r) (Back s t ∷ [])
    → HoldEach prio_threads w (rules_before TurnsTaken) r (alone n p (Back s t)) last
back-but-turns {w} {r} {n} {p} {s} {t} {y} last covered seems is steps =
    let allowed = unbound w r (Back s t) (life_on r p) y is (λ life same. refl) in
    before-turns prio_threads w r n p (Back s t) last refl (is-calm seems covered steps) (in-demand Priorities _ _ _ (λ _. allowed.free) (λ _. allowed.unurged))

-- What is seen at a line that is asked for.
abbrev SeenOfLine : Type 0
SeenOfLine = List (List Note) × List (Option SpaceNo) × Option ℕ × List Bool × ℕ

abbrev seen_of_line : WorkloadView → Readings → Event → Readings → SeenOfLine
seen_of_line w r e after = (after.untold, after.state.owners, line_of r e.proc, nat_lt 0 e.number ∷ nat_lt e.proc.0 w.processors ∷ [], e.number)

abbrev calm_of_line : Readings → Readings → SeenOfLine
calm_of_line r after = ([] ∷ [], map (space_of_life after) after.running, None, true ∷ true ∷ [], r.number)

abbrev SeemsCalmAtLine : WorkloadView → Readings → Event → Type 0
SeemsCalmAtLine w r e = seen_of_line w r e (after_event is_inside_or_urged w r e) ≡ calm_of_line r (after_event is_inside_or_urged w r e)

-- what comes before the causes of lines there
pub before-line : {w : WorkloadView} {r : Readings} {n : ℕ} {p q : ProcNo} (last : Option LastLine) → SeemsCalmAtLine w r (alone n p (Line q))
    → HoldEach prio_threads w (rules_before LineCause) r (alone n p (Line q)) last
before-line {w} {r} {n} {p} {q} last is =
    let test = λ (k : ℕ). ap (λ (y : SeenOfLine). slice_index_or y.3 k true) is in
    let line : line_of r p ≡ None = ap (λ (y : SeenOfLine). y.2) is in
    let after = after_event is_inside_or_urged w r (alone n p (Line q)) in
    record {
      number = ap (λ (y : SeenOfLine). y.4) is;
      proc = ltb-true p.0 w.processors (test 1);
      some = λ no. cc;
      opening = λ no. absurd (let later = ltb-true 0 n (test 0) in omega arith);
    }
    & record { steps = (tt, tt) }
    & record { told = (tt, tt) }
    & record { prompt = prompt-calm after (ap (λ (y : SeenOfLine). y.0) is) }
    & record { named = (tt, tt); owned = ap (λ (y : SeenOfLine). y.1) is }
    & record { told = (tt, tt) }
    & record { blocks = (tt, tt) }
    & record { interrupt = λ raised. absurd (false≢true (ap is_some (sym line) ∙ raised)); calm = λ no. absurd no }
    & tt
