-- Whole runs in the words of the laws.
use Rattle.std.proofs.Common.{◌≡◌, ℕ, suc, ◌+◌, List, ◌∷◌, length, Some, slice_get, sym, ap, ◌∙◌, subst, arith}
use Rattle.std.specs.Option.{option_map}
use Rattle.std.proofs.lemmas.Option.{same_Some, slice_get-map, slice_get_within}
use Rattle.std.proofs.lemmas.List.{length-map}
use Rattle.sa_base.specs.declared.record.End.{End}
use Rattle.sa_base.specs.declared.record.Item.{Item}
use Rattle.sa_spaces.specs.Workload.{WorkloadView, IsWorkload}
use Rattle.sa_assign.specs.Reaim.{proc_no}
use Rattle.sa_laws.specs.Event.{Event, events_of}
use Rattle.sa_laws.specs.Legal.{EndOf, IsRight}
use Rattle.sa_sched.specs.Order.{Order, processor_at}
use Rattle.sa_core_model.specs.Machine.{Machine}
use Rattle.sa_core_model.specs.End.{end_of}
use Rattle.sa_core_model.specs.Run.{opening}
use Rattle.sa_legal_runs.specs.Moves.{processors_of, procs_of}
use Rattle.sa_legal_runs.proofs.runs.LegalRuns.{turns-are-strict, runs-follow}
use Rattle.sa_seat.specs.Chain.{IsChain}
use Rattle.sa_run.specs.Run.{TurnsTo, RunsTo, RunsSoFar}
use Rattle.sa_package_runs.specs.Whole.{IsTurnByTurn, IsEnded}
use Rattle.sa_user_laws.specs.Level.{UserLevel}
use Rattle.sa_package_runs.proofs.Chains.{chain-legal, chain-ends, chain-counts, chain-right}
use Rattle.sa_package_runs.proofs.Leading.{turns_by, are-turns, many-processors, processor-at, turns-lead, leads-run}

-- the processor of an event is at its place among those of all events
proc-at : (es : List Event) (k : ℕ) (e : Event) → slice_get es k ≡ Some e → slice_get (procs_of es) k ≡ Some e.proc
proc-at es k e is = slice_get-map (λ (x : Event). x.proc) es k ∙ ap (option_map (λ (x : Event). x.proc)) is

-- of any user level that keeps its laws
module _ {V C : Type 0} (level : UserLevel V C) where
  module _ (w : WorkloadView) (ok : IsWorkload w) (order : Order) (budget n : ℕ) (m : Machine V C) (turns : TurnsTo level.calls w order budget n m) where
    chain : IsChain level.calls budget w (turns_by order w.processors n) m
    chain = turns-lead level.calls budget w order n m turns

    procs : procs_of (events_of m.items) ≡ proc_no 0 ∷ processors_of (turns_by order w.processors n)
    procs =
        runs-follow level w (turns_by order w.processors n) m ok (leads-run level.calls budget (opening level.calls w) (turns_by order w.processors n) m chain)

    count : length (events_of m.items) ≡ n + 1
    count =
        let all : length (procs_of (events_of m.items)) ≡ suc (length (processors_of (turns_by order w.processors n))) = ap length procs in
        let each = length-map (events_of m.items) (λ (x : Event). x.proc) in
        let many = many-processors order w.processors n in
        omega arith

    pub event-is : m.event ≡ n
    event-is = let counted = chain-counts level w ok budget (turns_by order w.processors n) m chain in let all = count in omega arith

    follows : (k : ℕ) (e : Event) → slice_get (events_of m.items) (k + 1) ≡ Some e → e.proc ≡ proc_no (processor_at order w.processors (k + 1))
    follows k e is =
        let all = count in
        let within = slice_get_within (events_of m.items) (k + 1) e is in
        let here : slice_get (procs_of (events_of m.items)) (k + 1) ≡ Some e.proc = proc-at (events_of m.items) (k + 1) e is in
        let there : slice_get (proc_no 0 ∷ processors_of (turns_by order w.processors n)) (k + 1) ≡ Some (proc_no (processor_at order w.processors (k + 1))) =
        next k ∙ processor-at order w.processors n k (omega arith) in
        same_Some e.proc (proc_no (processor_at order w.processors (k + 1))) (sym here ∙ ap (λ ps. slice_get ps (k + 1)) procs ∙ there)
      where
        next : (k : ℕ) → slice_get (proc_no 0 ∷ processors_of (turns_by order w.processors n)) (k + 1)
            ≡ slice_get (processors_of (turns_by order w.processors n)) k
        next k = let one : k + 1 ≡ suc k = omega arith in ap (slice_get (proc_no 0 ∷ processors_of (turns_by order w.processors n))) one

    pub turn-by-turn : IsTurnByTurn level.rules w order m.items n
    turn-by-turn = record {
      run = chain-legal level w ok budget (turns_by order w.processors n) m chain;
      strict = turns-are-strict level w (turns_by order w.processors n) m ok (are-turns order w.processors n)
          (leads-run level.calls budget (opening level.calls w) (turns_by order w.processors n) m chain);
      count = count;
      follows = follows;
    }

    pub ended : (end : End) → end_of level.calls budget m ≡ Some end → IsEnded level.rules w budget m.items end n
    ended end is = record {
      ends = subst (EndOf level.rules w budget m.items) is (chain-ends level w ok budget (turns_by order w.processors n) m chain);
      right = subst (λ (k : ℕ). IsRight level.rules w m.items (record { end = end; events = k })) event-is
          (chain-right level w ok budget (turns_by order w.processors n) m chain end is);
    }

  pub so-far-legal : (w : WorkloadView) (order : Order) (budget : ℕ) (items : List Item) → IsWorkload w
      → (run : RunsSoFar level.calls w order budget items) → IsTurnByTurn level.rules w order items run.events
  so-far-legal w order budget items ok run =
      subst (λ (xs : List Item). IsTurnByTurn level.rules w order xs run.events) (sym run.shows)
      (turn-by-turn w ok order budget run.events run.machine run.turns)

  pub whole-legal : (w : WorkloadView) (order : Order) (budget : ℕ) (items : List Item) (end : End) (events : ℕ) → IsWorkload w
      → RunsTo level.calls w order budget items end events → IsTurnByTurn level.rules w order items events × IsEnded level.rules w budget items end events
  whole-legal w order budget items end events ok run = (
    subst (λ (xs : List Item). IsTurnByTurn level.rules w order xs events) (sym run.shows) (turn-by-turn w ok order budget events run.machine run.turns),
    subst (λ (xs : List Item). IsEnded level.rules w budget xs end events) (sym run.shows) (ended w ok order budget events run.machine run.turns end run.ends),
  )
