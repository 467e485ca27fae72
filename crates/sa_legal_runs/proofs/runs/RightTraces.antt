-- A run that was driven until its end: its trace is right, with the last line that tells this end.
use Rattle.std.proofs.Common.{◌≡◌, ◌≢◌, ℕ, zero, suc, ◌+◌, ◌<◌, arith, sym, ◌∙◌, ap, subst, Bool, true, false, Option, Some, None, List, [], ◌∷◌, ◌++◌, length, slice_get, take, inl, inr}
use Rattle.std.specs.Prelude.{if◌then◌else◌, ◌==◌}
use Rattle.std.proofs.lemmas.Option.{same_Some, none-some}
use Rattle.std.proofs.lemmas.Bool.{cases_eq}
use Rattle.std.proofs.lemmas.Bool.Decides.{nat_tests}
use Rattle.sa_base.specs.declared.record.End.{End}
use Rattle.sa_base.specs.declared.record.End.TheVariants.{Budget}
use Rattle.sa_spaces.specs.Workload.{WorkloadView, IsWorkload}
use Rattle.sa_laws.specs.Event.{Event, events_of}
use Rattle.sa_laws.specs.Ends.{GoesOn, LastLine, IsToldEnd, EndsWith}
use Rattle.sa_laws.specs.History.{Test, after_event, after_events}
use Rattle.sa_laws.specs.Opening.{opening_event}
use Rattle.sa_laws.specs.Readings.{Readings, opening_readings}
use Rattle.sa_laws.specs.Rules.{UserRules, HoldEach, rules as all_rules}
use Rattle.sa_laws.specs.Legal.{IsRight, HoldsBefore, before}
use Rattle.sa_histories.specs.Lawful.{AreLawful}
use Rattle.sa_histories.proofs.Legality.{with-end}
use Rattle.sa_histories.proofs.Numbers.{number-next}
use Rattle.sa_kernel_laws.proofs.entries.Walks.{not-empty}
use Rattle.sa_core_model.specs.Machine.{Machine}
use Rattle.sa_core_model.specs.End.{end_of}
use Rattle.sa_core_model.specs.Run.{opening, Move, IsMove, IsRun}
use Rattle.sa_user_laws.specs.Level.{UserLevel}
use Rattle.sa_legal_runs.proofs.matching.Composed.{read}
use Rattle.sa_legal_runs.proofs.user.GoingOn.{GoOn, go-on-cons}
use Rattle.sa_legal_runs.specs.Moves.{NotEnded}
use Rattle.sa_legal_runs.proofs.runs.Ending.{ends-with}
use Rattle.sa_legal_runs.proofs.runs.LegalRuns.{IsReached, reached-move, reached-opening, events-are, numbers-count}

go-on-append : (test : Test) (w : WorkloadView) (r : Readings) (es more : List Event) → GoOn test w r es
    → GoesOn (after_events test w r es) → GoOn test w (after_events test w r es) more → GoOn test w r (es ++ more)
go-on-append test w r [] more on goes rest = rest
go-on-append test w r (e ∷ []) more on goes rest = go-on-cons test w r e more goes rest
go-on-append test w r (e ∷ x ∷ es) more on goes rest = (on.0, go-on-append test w (after_event test w r e) (x ∷ es) more on.1 goes rest)

abbrev last_at : ℕ → ℕ → LastLine → Option LastLine
last_at n count line = if n + 1 == count then Some line else None

last-later : (n count : ℕ) (line : LastLine) → last_at (suc n) (suc count) line ≡ last_at n count line
last-later n count line = ap (λ (b : Bool). if b then Some line else None) (elim (cases_eq (n + 1) count) [
  | inl same ↦ (let one : (suc n + 1 == suc count) ≡ true = grind (arith, nat_tests, same) in let two :
      (n + 1 == count) ≡ true = grind (arith, nat_tests, same) in one ∙ sym two)
  | inr other ↦ (let one : (suc n + 1 == suc count) ≡ false = grind (arith, nat_tests, other) in let two :
      (n + 1 == count) ≡ false = grind (arith, nat_tests, other) in one ∙ sym two)
])

rights : (u : UserRules) (w : WorkloadView) (r : Readings) (es : List Event) (line : LastLine) → AreLawful u w r es
    → GoOn u.inside w r es → IsToldEnd (after_events u.inside w r es) line.end → line.events + 1 ≡ r.number + length es
    → (n : ℕ) (e : Event) → slice_get es n ≡ Some e
    → HoldEach u w all_rules (after_events u.inside w r (take n es)) e (last_at n (length es) line)
rights u w r (x ∷ []) line law on end count zero e is =
    let numbered = law.0.numbered.number in
    subst (λ (y : Event). HoldEach u w all_rules r y (last_at 0 1 line)) (same_Some x e is)
    (with-end u w r x (Some line) law.0 (omega (arith, count, numbered), end))
rights u w r (x ∷ y ∷ es) line law on end count zero e is =
    let no : (0 + 1 == length (x ∷ y ∷ es)) ≡ false = grind (arith, nat_tests) in
    subst (λ (z : Event). HoldEach u w all_rules r z (last_at 0 (length (x ∷ y ∷ es)) line)) (same_Some x e is)
    (subst (λ (b : Bool). HoldEach u w all_rules r x (if b then Some line else None)) (sym no) (with-end u w r x None law.0 on.0))
rights u w r (x ∷ y ∷ es) line law on end count (suc n) e is =
    let next = number-next u w r x in
    subst (λ (o : Option LastLine). HoldEach u w all_rules
    (after_events u.inside w (after_event u.inside w r x) (take n (y ∷ es))) e o) (sym (last-later n (length (y ∷ es)) line))
    (rights u w (after_event u.inside w r x) (y ∷ es) line law.1 on.1 end (omega (arith, count, next)) n e is)
rights u w r _ line law on end count _ e is = absurd (none-some e is)

told-end : (budget n : ℕ) (r : Readings) (e : End) → EndsWith budget r n (Some e) → IsToldEnd r e
told-end budget n r Budget h = h.0
told-end budget n r _ h = h

-- Where the run goes on after each event but the last, it does so after the one at a place.
go-on-at : (test : Test) (w : WorkloadView) (r : Readings) (es : List Event) (n : ℕ) → GoOn test w r es → suc n < length es
    → GoesOn (after_events test w r (take (suc n) es))
go-on-at test w r [] n on inside = absurd (omega (arith, inside))
go-on-at test w r (e ∷ []) n on inside = absurd (omega (arith, inside))
go-on-at test w r (e ∷ x ∷ es) zero on inside = on.0
go-on-at test w r (e ∷ x ∷ es) (suc n) on inside = go-on-at test w (after_event test w r e) (x ∷ es) n on.1 (omega (arith, inside))

module _ {U C : Type 0} (level : UserLevel U C) where
  -- WHAT MOVES HAVE REACHED before which the machine had not ended: the run goes on after each event but the last.
  pub record IsDriven (w : WorkloadView) (events : List Event) (m : Machine U C) : Type 0 where
    pub reached : IsReached level w events m
    pub on : GoOn level.rules.inside w (opening_readings w) (opening_event w ∷ events)

  pub driven-opening : (w : WorkloadView) → IsWorkload w → IsDriven w [] (opening level.calls w)
  driven-opening w ok = record { reached = reached-opening level w ok; on = tt }

  pub driven-move : (w : WorkloadView) (events : List Event) (budget : ℕ) (m : Machine U C) (move : Move) (after : Machine U C)
      → IsDriven w events m → end_of level.calls budget m ≡ None → IsMove level.calls m move after
      → (more : List Event) × IsDriven w (events ++ more) after
  driven-move w events budget m move after c none made =
      let go = reached-move level w events m move after c.reached made in
      let goes : GoesOn (read level w events) =
      (subst (λ (o : Option End). EndsWith budget (read level w events) m.event o) none
      (ends-with level w events m budget c.reached.composed c.reached.home)).0 in (
        go.0,
        record {
          reached = go.1;
          on = go-on-append level.rules.inside w (opening_readings w) (opening_event w ∷ events) go.0 c.on goes go.2;
        },
      )

  pub go-on-of : (w : WorkloadView) (events : List Event) (m : Machine U C) → IsDriven w events m
      → (n : ℕ) → n + 1 < length (events_of m.items) → GoesOn (before level.rules w (events_of m.items) (n + 1))
  go-on-of w events m c n inside =
      let is = events-are level w events m c.reached.composed in
      let next : suc n ≡ n + 1 = omega arith in
      subst (λ (es : List Event). GoesOn (before level.rules w es (n + 1))) (sym is)
      (subst (λ (k : ℕ). GoesOn (before level.rules w (opening_event w ∷ events) k)) next
      (go-on-at level.rules.inside w (opening_readings w) (opening_event w ∷ events) n c.on
      (let below = subst (λ (es : List Event). n + 1 < length es) is inside in omega (arith, below))))

  pub right-of : (w : WorkloadView) (events : List Event) (budget : ℕ) (m : Machine U C) (end : End) → IsDriven w events m
      → end_of level.calls budget m ≡ Some end → IsRight level.rules w m.items (record { end = end; events = m.event })
  right-of w events budget m end driven ended =
      let all = opening_event w ∷ events in
      let c = driven.reached.composed in
      let line : LastLine = record { end = end; events = m.event } in
      let told : IsToldEnd (read level w events) end =
      told-end budget m.event (read level w events) end
      (subst (λ (o : Option End). EndsWith budget (read level w events) m.event o) ended
      (ends-with level w events m budget c driven.reached.home)) in
      let number = c.number in
      let counted = numbers-count level.rules w (opening_readings w) all in
      let is = events-are level w events m c in
      record {
        some = subst (λ (es : List Event). es ≢ []) (sym is) (not-empty (opening_event w) events);
        each = subst (λ (es : List Event). HoldsBefore level.rules w es line (length es)) (sym is)
            (λ n e below at. rights level.rules w (opening_readings w) all line c.lawful driven.on told
            (omega (arith, number, counted)) n e at);
      }

  driven-run : (w : WorkloadView) (events : List Event) (budget : ℕ) (m : Machine U C) (moves : List Move) (after : Machine U C)
      (run : IsRun level.calls m moves after) → IsDriven w events m → NotEnded level.calls budget m moves after run
      → (all : List Event) × IsDriven w all after
  driven-run w events budget m [] after run c none = (events, subst (λ (z : Machine U C). IsDriven w events z) (sym run) c)
  driven-run w events budget m (move ∷ moves) after run c none =
      let go = driven-move w events budget m move run.0 c none.0 run.1 in
      driven-run w (events ++ go.0) budget run.0 moves after run.2 go.1 none.1

  -- THE RUN GOES ON after each event but the last.
  pub runs-go-on : (w : WorkloadView) (budget : ℕ) (moves : List Move) (after : Machine U C) → IsWorkload w
      → (run : IsRun level.calls (opening level.calls w) moves after) → NotEnded level.calls budget (opening level.calls w) moves after run
      → (n : ℕ) → n + 1 < length (events_of after.items) → GoesOn (before level.rules w (events_of after.items) (n + 1))
  runs-go-on w budget moves after ok run none n inside =
      let done = driven-run w [] budget (opening level.calls w) moves after run (driven-opening w ok) none in
      go-on-of w done.0 after done.1 n inside

  -- THE TRACE IS RIGHT, with its last line.
  pub runs-are-right : (w : WorkloadView) (budget : ℕ) (moves : List Move) (after : Machine U C) (end : End) → IsWorkload w
      → (run : IsRun level.calls (opening level.calls w) moves after) → NotEnded level.calls budget (opening level.calls w) moves after run
      → end_of level.calls budget after ≡ Some end → IsRight level.rules w after.items (record { end = end; events = after.event })
  runs-are-right w budget moves after end ok run none ended =
      let done = driven-run w [] budget (opening level.calls w) moves after run (driven-opening w ok) none in
      right-of w done.0 budget after end done.1 ended
