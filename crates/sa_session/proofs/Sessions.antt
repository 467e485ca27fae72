-- What a session reached, in the words of the laws.
use Rattle.std.proofs.Common.{◌≡◌, ℕ, zero, suc, ◌+◌, List, [], ◌∷◌, ◌++◌, length, Some, None, slice_get, Option, refl, sym, ap, ◌∙◌, subst, append-nil, arith}
use Rattle.std.specs.Option.{option_map}
use Rattle.std.proofs.lemmas.Option.{same_Some, slice_get-map, slice_get_within}
use Rattle.std.proofs.lemmas.List.{length-map}
use Rattle.sa_base.specs.declared.number.ProcNo.{ProcNo}
use Rattle.sa_base.specs.declared.record.End.{End}
use Rattle.sa_base.specs.declared.record.Item.{Item}
use Rattle.sa_base.specs.Items.{items_at}
use Rattle.sa_spaces.specs.Workload.{WorkloadView, IsWorkload}
use Rattle.sa_assign.specs.Reaim.{proc_no}
use Rattle.sa_laws.specs.Any.{any}
use Rattle.sa_laws.specs.Event.{Event, events_of}
use Rattle.sa_laws.specs.Legal.{EndOf, IsRight}
use Rattle.sa_laws.specs.Opening.{opening_event}
use Rattle.sa_laws.specs.Readings.{opening_readings}
use Rattle.sa_laws.specs.State.{opening_state}
use Rattle.sa_laws.proofs.Records.{items-push}
use Rattle.sa_sched.specs.Order.{Order, processor_at}
use Rattle.sa_core_model.specs.End.{end_of}
use Rattle.sa_core_model.specs.Run.{opening, IsMove, Move}
use Rattle.sa_core_model.specs.Run.Move.{turn}
use Rattle.sa_legal_runs.specs.Moves.{AreTurns, processors_of, procs_of}
use Rattle.sa_legal_runs.proofs.matching.Composed.{IsComposed}
use Rattle.sa_asked.specs.Questions.{put_reply}
use Rattle.sa_driven.specs.Replies.{driven_replies, are_alike}
use Rattle.sa_driven.specs.RepliesKeep.{driven_keeps_replies}
use Rattle.sa_driven_model.specs.Stands.{driven_stands}
use Rattle.sa_driven_model.specs.Step.{driven_calls}
use Rattle.sa_driven_laws.proofs.DrivenLaws.{driven_level}
use Rattle.sa_driven_runs.specs.Sessions.{DrivenMoves, IsSessionFrom}
use Rattle.sa_driven_runs.proofs.Alike.{driven-alike}
use Rattle.sa_session_runs.specs.Sessions.{NotEnded, moves_of}
use Rattle.sa_session_runs.specs.Sessions.SessionMove.{does, puts}
use Rattle.sa_session_runs.proofs.Asked.{question-of}
use Rattle.sa_session_runs.proofs.Growing.{session-push, not-ended-push, moves-push}
use Rattle.sa_session_runs.proofs.Sessions.{session-reached, session-is-legal, session-ends, session-is-strict, session-follows, session-numbers, session-counts, session-is-right}
use Rattle.sa_session_runs.proofs.Turns.{reply-is-put}
use Rattle.sa_debug.specs.Reached.{CanPlay}
use Rattle.sa_package_runs.specs.Whole.{IsTurnByTurn, IsEnded}
use Rattle.sa_package_runs.proofs.Leading.{turns_by, are-turns, many-processors, processor-at}
use Rattle.sa_package_runs.proofs.Playable.{events-play}
use Rattle.sa_package_runs.proofs.Reaching.{turn-goes}
use Rattle.sa_driven_runs.specs.Sessions.{DrivenMachine}
use Rattle.sa_session.specs.Machines.{proc_after}
use Rattle.sa_session.specs.Moments.{Moment, IsAnswered, IsEvent, GoesOn, Reaches}
use Rattle.sa_session.proofs.Puts.{put-end}

-- moves from the opening lead to the machine, none of the machine's after an end, and those are these turns
pub record IsLed (w : WorkloadView) (budget : ℕ) (turns : List Move) (m : DrivenMachine) : Type 0 where
  pub moves : DrivenMoves
  pub session : IsSessionFrom w moves m
  pub open_still : NotEnded driven_calls are_alike budget (opening driven_calls w) moves m session
  pub turns_are : moves_of moves ≡ turns

module _ (w : WorkloadView) (budget : ℕ) where
  led-on : (turns : List Move) (m : DrivenMachine) (p : ProcNo) (after : DrivenMachine) → IsLed w budget turns m
      → end_of driven_calls budget m ≡ None → IsMove driven_calls m (turn p) after → IsLed w budget (turns ++ turn p ∷ []) after
  led-on turns m p after led none made = record {
    moves = led.moves ++ does (turn p) ∷ [];
    session = session-push driven_calls are_alike (opening driven_calls w) led.moves m (does (turn p)) after led.session made;
    open_still =
        not-ended-push driven_calls are_alike budget (opening driven_calls w) led.moves m (does (turn p)) after led.session made led.open_still none;
    turns_are = moves-push led.moves (does (turn p) ∷ []) ∙ ap (λ (xs : List Move). xs ++ turn p ∷ []) led.turns_are;
  }

  -- what an answer makes of the machine, before its turn
  record IsReady (turns : List Move) (m : DrivenMachine) (p : ProcNo) (after : DrivenMachine) : Type 0 where
    between : DrivenMachine
    led : IsLed w budget turns between
    none : end_of driven_calls budget between ≡ None
    made : IsMove driven_calls between (turn p) after
    items : between.items ≡ m.items

  answered : (turns : List Move) (m : DrivenMachine) (p : ProcNo) (line : List ℕ) (after : DrivenMachine) → IsLed w budget turns m
      → end_of driven_calls budget m ≡ None → IsAnswered m p line after → IsReady turns m p after
  answered turns m p line after led none done =
      let q = done.asked in
      let of = question-of driven_calls m p q done.is_asked in
      let put = reply-is-put driven_calls driven_stands driven_replies are_alike driven_keeps_replies m q.space done.puts.reply of.user of.is_user in
      let u = driven_replies.put of.user done.puts.reply in
      record {
        between = put_reply driven_replies q.space done.puts.reply m;
        led = record {
          moves = led.moves ++ puts q.space u ∷ [];
          session = session-push driven_calls are_alike (opening driven_calls w) led.moves m (puts q.space u)
              (put_reply driven_replies q.space done.puts.reply m) led.session put;
          open_still = not-ended-push driven_calls are_alike budget (opening driven_calls w) led.moves m (puts q.space u)
              (put_reply driven_replies q.space done.puts.reply m) led.session put led.open_still tt;
          turns_are = moves-push led.moves (puts q.space u ∷ []) ∙ append-nil (moves_of led.moves) ∙ led.turns_are;
        };
        none = put-end budget m q.space done.puts.reply ∙ none;
        made = subst (λ (z : DrivenMachine). IsMove driven_calls z (turn p) after) done.puts.is done.made;
        items = ap (λ (z : DrivenMachine). z.items) put.is;
      }

  led-event : (turns : List Move) (x y : Moment) (p : ProcNo) → IsLed w budget turns x.machine → end_of driven_calls budget x.machine ≡ None
      → GoesOn p x y → IsLed w budget (turns ++ turn p ∷ []) y.machine
  led-event turns x y p led none go = by go.line go.event where
    by : (line : Option (List ℕ)) → IsEvent x.machine p line y.machine → IsLed w budget (turns ++ turn p ∷ []) y.machine
    by None event = led-on turns x.machine p y.machine led none event.1
    by (Some line) event =
        let ready = answered turns x.machine p line y.machine led none event in
        led-on turns ready.between p y.machine ready.led ready.none ready.made

  -- A SESSION IS LED by the turns of the order.
  pub reaches-led : (order : Order) (n : ℕ) (x : Moment) → Reaches w order budget n x → IsLed w budget (turns_by order w.processors n) x.machine
  reaches-led order zero x is = record {
    moves = [];
    session = ap (λ (y : Moment). y.machine) is;
    open_still = tt;
    turns_are = refl;
  }
  reaches-led order (suc n) y is =
      led-event (turns_by order w.processors n) is.0 y (proc_after w order n) (reaches-led order n is.0 is.1) is.2 is.3

-- the processor of an event is at its place among those of all events
proc-at : (es : List Event) (k : ℕ) (e : Event) → slice_get es k ≡ Some e → slice_get (procs_of es) k ≡ Some e.proc
proc-at es k e is = slice_get-map (λ (x : Event). x.proc) es k ∙ ap (option_map (λ (x : Event). x.proc)) is

module _ (w : WorkloadView) (order : Order) (budget n : ℕ) (x : Moment) (ok : IsWorkload w) (is : Reaches w order budget n x) where
  led : IsLed w budget (turns_by order w.processors n) x.machine
  led = reaches-led w budget order n x is

  procs : procs_of (events_of x.machine.items) ≡ proc_no 0 ∷ processors_of (turns_by order w.processors n)
  procs =
      session-follows driven_level are_alike driven-alike w led.moves x.machine ok led.session
      ∙ ap (λ (ms : List Move). proc_no 0 ∷ processors_of ms) led.turns_are

  count : length (events_of x.machine.items) ≡ n + 1
  count =
      let all : length (procs_of (events_of x.machine.items)) ≡ suc (length (processors_of (turns_by order w.processors n))) = ap length procs in
      let each = length-map (events_of x.machine.items) (λ (e : Event). e.proc) in
      let many = many-processors order w.processors n in
      omega (arith, all, each, many)

  -- ITS MACHINE counts its events.
  pub event-is : x.machine.event ≡ n
  event-is =
      let counted = session-counts driven_level are_alike driven-alike w led.moves x.machine ok led.session in
      let all = count in
      omega (arith, counted, all)

  follows : (k : ℕ) (e : Event) → slice_get (events_of x.machine.items) (k + 1) ≡ Some e → e.proc ≡ proc_no (processor_at order w.processors (k + 1))
  follows k e at =
      let all = count in
      let within = slice_get_within (events_of x.machine.items) (k + 1) e at in
      let here : slice_get (procs_of (events_of x.machine.items)) (k + 1) ≡ Some e.proc = proc-at (events_of x.machine.items) (k + 1) e at in
      let there : slice_get (proc_no 0 ∷ processors_of (turns_by order w.processors n)) (k + 1) ≡ Some (proc_no (processor_at order w.processors (k + 1))) =
      next k ∙ processor-at order w.processors n k (omega (arith, all, within)) in
      same_Some e.proc (proc_no (processor_at order w.processors (k + 1))) (sym here ∙ ap (λ ps. slice_get ps (k + 1)) procs ∙ there)
    where
      next : (k : ℕ) → slice_get (proc_no 0 ∷ processors_of (turns_by order w.processors n)) (k + 1)
          ≡ slice_get (processors_of (turns_by order w.processors n)) k
      next k = let one : k + 1 ≡ suc k = omega arith in ap (slice_get (proc_no 0 ∷ processors_of (turns_by order w.processors n))) one

  -- AS FAR AS IT CAME it is a legal run, turn by turn.
  pub reached-legal : IsTurnByTurn any w order x.machine.items n
  reached-legal = record {
    run = record {
      legal = session-is-legal driven_level are_alike driven-alike w led.moves x.machine ok led.session;
      numbers = session-numbers driven_level are_alike driven-alike w led.moves x.machine ok led.session;
    };
    strict = session-is-strict driven_level are_alike driven-alike w led.moves x.machine ok led.session
        (subst AreTurns (sym led.turns_are) (are-turns order w.processors n));
    count = count;
    follows = follows;
  }

  -- ITS END is as it is defined,
  pub reached-ends : EndOf any w budget x.machine.items (end_of driven_calls budget x.machine)
  reached-ends = session-ends driven_level are_alike driven-alike w led.moves x.machine ok led.session budget

  -- and it is right with it.
  pub reached-ended : (end : End) → end_of driven_calls budget x.machine ≡ Some end → IsEnded any w budget x.machine.items end n
  reached-ended end ended = record {
    ends = subst (EndOf any w budget x.machine.items) ended reached-ends;
    right = subst (λ (k : ℕ). IsRight any w x.machine.items (record { end = end; events = k })) event-is
        (session-is-right driven_level are_alike driven-alike w led.moves x.machine ok led.session budget led.open_still end ended);
  }

  composed : (events : List Event) × IsComposed driven_level w events x.machine
  composed =
      let all = session-reached driven_level are_alike driven-alike w led.moves x.machine ok led.session in
      (all.0, all.1.composed)

  -- ITS ITEMS can be played,
  pub reached-plays : CanPlay w (opening_state w) x.machine.items
  reached-plays =
      let all = composed in
      subst (λ (items : List Item). CanPlay w (opening_state w) items) (sym all.1.history.items)
      (events-play any w (opening_readings w) (opening_event w ∷ all.0) all.1.lawful)

-- and a turn of what was reached by moves adds some.
adds : (w : WorkloadView) (budget : ℕ) (turns : List Move) (m : DrivenMachine) (p : ProcNo) (after : DrivenMachine) → IsWorkload w
    → IsLed w budget turns m → IsMove driven_calls m (turn p) after → (more : List Item) × (after.items ≡ m.items ++ more)
adds w budget turns m p after ok led made =
    let all = session-reached driven_level are_alike driven-alike w led.moves m ok led.session in
    let go = turn-goes driven_level w all.0 m p after all.1.composed made in
    let ev = go.0 in (
      items_at ev.number ev.proc ev.records,
      go.3.history.items ∙ items-push (opening_event w ∷ all.0) ev
          ∙ ap (λ (xs : List Item). xs ++ items_at ev.number ev.proc ev.records) (sym all.1.composed.history.items),
    )

pub adds-event : (w : WorkloadView) (order : Order) (budget n : ℕ) (x : Moment) (p : ProcNo) (line : Option (List ℕ)) (after : DrivenMachine) → IsWorkload w
    → Reaches w order budget n x → end_of driven_calls budget x.machine ≡ None → IsEvent x.machine p line after
    → (more : List Item) × (after.items ≡ x.machine.items ++ more)
adds-event w order budget n x p None after ok is none event =
    adds w budget (turns_by order w.processors n) x.machine p after ok (reaches-led w budget order n x is) event.1
adds-event w order budget n x p (Some line) after ok is none event =
    let turns = turns_by order w.processors n in
    let ready = answered w budget turns x.machine p line after (reaches-led w budget order n x is) none event in
    let more = adds w budget turns ready.between p after ok ready.led ready.made in
    (more.0, more.1 ∙ ap (λ (items : List Item). items ++ more.0) ready.items)
