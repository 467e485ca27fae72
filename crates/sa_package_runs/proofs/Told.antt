-- A session of a machine with FastThreads is one of its history.
use Rattle.std.proofs.Common.{◌≡◌, ℕ, ◌+◌, List, [], ◌∷◌, ◌++◌, length, take, inl, inr, sym, ap, ◌∙◌, subst, refl, arith}
use Rattle.std.specs.Prelude.{Option}
use Rattle.sa_base.specs.declared.number.ProcNo.{ProcNo}
use Rattle.sa_base.specs.declared.record.End.{End}
use Rattle.sa_base.specs.declared.record.Item.{Item}
use Rattle.sa_spaces.specs.Workload.{WorkloadView, IsWorkload}
use Rattle.sa_laws.specs.Event.{Event, events_of}
use Rattle.sa_laws.specs.History.{readings}
use Rattle.sa_laws.specs.Legal.{EndOf}
use Rattle.sa_laws.specs.Opening.{opening_event}
use Rattle.sa_laws.specs.Readings.{Readings, opening_readings}
use Rattle.sa_laws.specs.Rules.{fast_threads}
use Rattle.sa_laws.specs.State.{State, opening_state}
use Rattle.sa_core_model.specs.Run.{opening, IsMove}
use Rattle.sa_core_model.specs.Run.Move.{turn}
use Rattle.sa_package_model.specs.Step.{fast_calls}
use Rattle.sa_legal_runs.proofs.matching.Composed.{IsComposed, read}
use Rattle.sa_legal_runs.proofs.runs.Opening.{composed-opening}
use Rattle.sa_legal_runs.proofs.runs.LegalRuns.{reached-run, reached-opening, events-are, runs-count}
use Rattle.sa_fast_laws.proofs.FastLaws.{fast_level}
use Rattle.sa_package_runs.specs.Runs.{FastMachine}
use Rattle.sa_package_runs.specs.Calls.{IsReachedByTurns}
use Rattle.sa_package_runs.proofs.Calls.{start-reaches, reached-legal, reached-strict, reached-ends}
use Rattle.sa_debug.specs.declared.script.command.DebugCommand.{DebugCommand}
use Rattle.sa_debug.specs.declared.script.reply.Reply.{Reply}
use Rattle.sa_debug.specs.OverHistories.{AddsTurn, over_histories, opening_items, stands_on, read as read_of}
use Rattle.sa_debug.specs.OverMachines.{over_machines}
use Rattle.sa_debug.specs.Session.{Session, fresh, DoAll, DoesSoFar}
use Rattle.sa_debug.specs.Views.{state_behind, view_in}
use Rattle.sa_package_runs.specs.Sessions.{IsSession}
use Rattle.sa_package_runs.specs.Told.{Leads, IsTold, CameSoFar, LeadsSoFar, IsToldSoFar, by_history}
use Rattle.sa_package_runs.proofs.Legal.{reached, reached-keeps, by-moves}
use Rattle.sa_package_runs.proofs.OneWay.{Begins, histories-go}
use Rattle.sa_package_runs.proofs.Only.{only}
use Rattle.sa_package_runs.proofs.Partly.{only-partly, common-replies}
use Rattle.sa_package_runs.proofs.Playable.{events-state}
use Rattle.sa_package_runs.proofs.Reaching.{turn-goes}
use Rattle.sa_package_runs.proofs.Showing.{Shows, all-seen, so-far-seen}
use Rattle.sa_package_runs.proofs.Standing.{stands-same}

module _ (w : WorkloadView) (budget : ℕ) (ok : IsWorkload w) where
  -- the events after the opening
  pub composed-at : (m : FastMachine) → IsReachedByTurns w m → (events : List Event) × IsComposed fast_level w events m
  composed-at m is =
      let done = reached-run fast_level w [] (opening fast_calls w) is.moves m (reached-opening fast_level w ok) is.run in
      (done.0, done.1.composed)

  count : (m : FastMachine) → IsReachedByTurns w m → length (events_of m.items) ≡ m.event + 1
  count m is = runs-count fast_level w is.moves m ok is.run

  -- a turn of the machine is one more event
  turns-tell : (m : FastMachine) (p : ProcNo) (after : FastMachine) → IsReachedByTurns w m → IsMove fast_calls m (turn p) after
      → AddsTurn fast_threads w m.items p after.items
  turns-tell m p after is made =
      let here = composed-at m is in
      let go = turn-goes fast_level w here.0 m p after here.1 made in
      let next = reached-keeps w m p after is made in
      record {
        event = go.0;
        proc = go.1;
        number = go.2 ∙ sym (count m is);
        adds = events-are fast_level w (here.0 ++ go.0 ∷ []) after go.3
            ∙ sym (ap (λ (es : List Event). es ++ go.0 ∷ []) (events-are fast_level w here.0 m here.1));
        legal = (reached-legal w after ok (by-moves w after next)).legal;
        strict = reached-strict w after ok next;
      }

  -- what is read of its history
  reads : (m : FastMachine) (is : IsReachedByTurns w m) → read_of fast_threads w m.items ≡ read fast_level w (composed-at m is).0
  reads m is = let here = composed-at m is in ap (readings fast_threads.inside w) (events-are fast_level w here.0 m here.1)

  state-reads : (m : FastMachine) → IsReachedByTurns w m
      → (read_of fast_threads w m.items).state ≡ state_behind m.workload (opening_state m.workload) m.items
  state-reads m is =
      let here = composed-at m is in
      ap (λ (r : Readings). r.state) (reads m is)
      ∙ events-state fast_threads.inside w (opening_readings w) (opening_event w ∷ here.0)
      ∙ ap (state_behind w (opening_state w)) (sym here.1.history.items)
      ∙ ap (λ (v : WorkloadView). state_behind v (opening_state v) m.items) (sym here.1.workload)

  pub fast-shows : Shows (over_machines fast_calls budget) (over_histories fast_threads w budget) (λ (m : FastMachine). m.items) (IsReachedByTurns w)
  fast-shows = record {
    keeps = reached-keeps w;
    turns = turns-tell;
    ends = λ m end is same. subst (λ (e : Option End). EndOf fast_threads w budget m.items e) same (reached-ends w m budget ok (by-moves w m is));
    processors = λ m is. sym (ap (λ (v : WorkloadView). v.processors) (composed-at m is).1.workload);
    event = λ m is. (let all = count m is in omega arith);
    last = λ m is. refl;
    stands = λ m p is. ap (λ (r : Readings). stands_on r p) (reads m is) ∙ stands-same w (composed-at m is).0 m p (composed-at m is).1;
    view = λ m s t is. ap (λ (a : State). view_in a s t) (state-reads m is);
  }

  leads : (cs : List DebugCommand) (s : Session FastMachine) (replies : List Reply)
      → IsSession w budget cs s replies → Leads w budget cs (by_history s) replies
  leads cs s replies done =
      let opens : (opening fast_calls w).items ≡ opening_items w = (composed-opening fast_level w ok).history.items in
      subst (λ (items : List Item). DoAll (over_histories fast_threads w budget) cs (fresh items) (by_history s) replies) opens
      (all-seen (over_machines fast_calls budget) (over_histories fast_threads w budget) (λ (m : FastMachine). m.items)
      (IsReachedByTurns w) fast-shows cs (fresh (opening fast_calls w)) s replies done (start-reaches w))

  pub session-told : (cs : List DebugCommand) (s : Session FastMachine) (replies : List Reply)
      → IsSession w budget cs s replies → IsTold w budget cs (by_history s) replies
  session-told cs s replies done = record {
    done = leads cs s replies done;
    only = λ t others led same.
        only (over_histories fast_threads w budget) Begins (histories-go fast_threads w budget) cs (fresh (opening_items w)) (by_history s) t
        replies others (leads cs s replies done) led same;
  }

  pub so-far-told : (cs : List DebugCommand) (s t : Session FastMachine) (replies : List Reply) (c : DebugCommand)
      → IsSession w budget cs s replies → DoesSoFar (over_machines fast_calls budget) c s t
      → DoesSoFar (over_histories fast_threads w budget) c (by_history s) (by_history t)
  so-far-told cs s t replies c done comes =
      so-far-seen (over_machines fast_calls budget) (over_histories fast_threads w budget) (λ (m : FastMachine). m.items)
      (IsReachedByTurns w) fast-shows c s t comes (reached w budget cs s replies done)

  -- what came so far is told of its history too
  came-told : (cs : List DebugCommand) (s : Session FastMachine) (came : CameSoFar (over_machines fast_calls budget) cs (fresh (opening fast_calls w)) s)
      → LeadsSoFar w budget cs (by_history s)
  came-told cs s came = record {
    count = came.count;
    between = by_history came.between;
    replies = came.replies;
    done = leads (take came.count cs) came.between came.replies came.done;
    last = elim came.last [
      | inl same ↦ inl (ap (λ (x : Session FastMachine). by_history x) same)
      | inr part ↦ inr (part.0, part.1, so-far-told (take came.count cs) came.between s came.replies part.0 came.done part.2)
    ];
  }

  pub part-told : (cs : List DebugCommand) (s : Session FastMachine) (came : CameSoFar (over_machines fast_calls budget) cs (fresh (opening fast_calls w)) s)
      → IsToldSoFar w budget cs came.count came.replies (by_history s)
  unfolding came-told
  part-told cs s came = record {
    came = came-told cs s came;
    count = refl;
    answers = refl;
    only = λ t other same as_many.
        only-partly (over_histories fast_threads w budget) Begins (histories-go fast_threads w budget) cs (fresh (opening_items w)) (by_history s) t
        (came-told cs s came) other same as_many;
    common = λ t other same n less also.
        common-replies (over_histories fast_threads w budget) Begins (histories-go fast_threads w budget) cs (fresh (opening_items w)) (by_history s) t
        (came-told cs s came) other same n less also;
  }
