-- Runs by a schedule, and chains of turns and commits, are runs from the opening that made no move after an end.
use Rattle.std.proofs.Common.{◌≡◌, ℕ, zero, suc, ◌+◌, ◌<◌, List, [], ◌∷◌, ◌++◌, length, Some, None, slice_get, refl, sym, ap, ◌∙◌, subst, inl, inr, arith, length-append}
use Rattle.std.proofs.lemmas.Bool.{cases_lt}
use Rattle.sa_base.specs.declared.number.ProcNo.{ProcNo}
use Rattle.sa_spaces.specs.Workload.{WorkloadView}
use Rattle.sa_abstract.specs.Calls.{Calls}
use Rattle.sa_assign.specs.Reaim.{proc_no}
use Rattle.sa_sched.specs.Order.{Order, processor_at}
use Rattle.sa_core_model.specs.Machine.{Machine}
use Rattle.sa_core_model.specs.End.{end_of}
use Rattle.sa_core_model.specs.Run.{opening, Move, IsMove, IsRun}
use Rattle.sa_core_model.specs.Run.Move.{turn, commit}
use Rattle.sa_seat.specs.Chain.{Leads, IsChain}
use Rattle.sa_legal_runs.specs.Moves.{AreTurns, NotEnded, processors_of}
use Rattle.sa_run.specs.Run.{TurnsTo}

-- the turns of the order's first n processors
abbrev pub turns_by : Order → ℕ → ℕ → List Move
turns_by order processors zero = []
turns_by order processors (suc n) = turns_by order processors n ++ turn (proc_no (processor_at order processors (n + 1))) ∷ []

pub turns-push : (moves : List Move) (p : ProcNo) → AreTurns moves → AreTurns (moves ++ turn p ∷ [])
turns-push [] p all = tt
turns-push (turn q ∷ moves) p all = turns-push moves p all
turns-push (commit q n ∷ moves) p all = absurd all

pub are-turns : (order : Order) (processors n : ℕ) → AreTurns (turns_by order processors n)
are-turns order processors zero = tt
are-turns order processors (suc n) = turns-push (turns_by order processors n) (proc_no (processor_at order processors (n + 1))) (are-turns order processors n)

processors-push : (moves : List Move) (p : ProcNo) → AreTurns moves → processors_of (moves ++ turn p ∷ []) ≡ processors_of moves ++ p ∷ []
processors-push [] p all = refl
processors-push (turn q ∷ moves) p all = ap (λ ps. q ∷ ps) (processors-push moves p all)
processors-push (commit q n ∷ moves) p all = absurd all

pub many-processors : (order : Order) (processors n : ℕ) → length (processors_of (turns_by order processors n)) ≡ n
many-processors order processors zero = refl
many-processors order processors (suc n) =
    let p = proc_no (processor_at order processors (n + 1)) in
    let more = processors-push (turns_by order processors n) p (are-turns order processors n) in
    let size = length-append (processors_of (turns_by order processors n)) (p ∷ []) in
    let rest = many-processors order processors n in
    ap length more ∙ omega (arith, size, rest)

-- what is at a place of a list with one more
get-push : (ps : List ProcNo) (p : ProcNo) (k : ℕ) → k < length ps → slice_get (ps ++ p ∷ []) k ≡ slice_get ps k
get-push [] p k inside = absurd (omega arith)
get-push (q ∷ ps) p zero inside = refl
get-push (q ∷ ps) p (suc k) inside = get-push ps p k (omega arith)

get-last : (ps : List ProcNo) (p : ProcNo) (k : ℕ) → k ≡ length ps → slice_get (ps ++ p ∷ []) k ≡ Some p
get-last [] p zero is = refl
get-last (q ∷ ps) p (suc k) is = get-last ps p k (omega arith)
get-last _ p _ is = absurd (omega arith)

pub processor-at : (order : Order) (processors n k : ℕ) → k < n
    → slice_get (processors_of (turns_by order processors n)) k ≡ Some (proc_no (processor_at order processors (k + 1)))
processor-at order processors zero k inside = absurd (omega arith)
processor-at order processors (suc n) k inside =
    let p = proc_no (processor_at order processors (n + 1)) in
    let more = processors-push (turns_by order processors n) p (are-turns order processors n) in
    let size = many-processors order processors n in
    ap (λ ps. slice_get ps k) more ∙ elim (cases_lt k n) [
      | inl less ↦ get-push (processors_of (turns_by order processors n)) p k (omega arith) ∙ processor-at order processors n k less
      | inr past ↦
          let same : k ≡ n = omega arith in
          get-last (processors_of (turns_by order processors n)) p k (omega arith) ∙ ap (λ j. Some (proc_no (processor_at order processors (j + 1)))) (sym same)
    ]

module _ {U C : Type 0} (f : Calls U C) (budget : ℕ) where
  leads-push : (m : Machine U C) (moves : List Move) (b : Machine U C) (move : Move) (after : Machine U C)
      → Leads f budget m moves b → end_of f budget b ≡ None → IsMove f b move after → Leads f budget m (moves ++ move ∷ []) after
  leads-push m [] b move after leads none made =
      (after, ap (end_of f budget) (sym leads) ∙ none, subst (λ (x : Machine U C). IsMove f x move after) leads made, refl)
  leads-push m (first ∷ moves) b move after leads none made =
      (leads.0, leads.1, leads.2, leads-push leads.0 moves b move after leads.3 none made)

  -- a run by a schedule
  pub turns-lead : (w : WorkloadView) (order : Order) (n : ℕ) (m : Machine U C) → TurnsTo f w order budget n m
      → IsChain f budget w (turns_by order w.processors n) m
  turns-lead w order zero m run = run
  turns-lead w order (suc n) m run =
      leads-push (opening f w) (turns_by order w.processors n) run.0 (turn (proc_no (processor_at order w.processors (n + 1)))) m
      (turns-lead w order n run.0 run.1) run.2 run.3

  -- a chain is a run, and none of its moves came after an end
  abbrev pub leads-run : (m : Machine U C) (moves : List Move) (after : Machine U C) → Leads f budget m moves after → IsRun f m moves after
  leads-run m [] after leads = leads
  leads-run m (move ∷ moves) after leads = (leads.0, leads.2, leads-run leads.0 moves after leads.3)

  pub leads-open : (m : Machine U C) (moves : List Move) (after : Machine U C) (leads : Leads f budget m moves after)
      → NotEnded f budget m moves after (leads-run m moves after leads)
  leads-open m [] after leads = tt
  leads-open m (move ∷ moves) after leads = (leads.1, leads-open leads.0 moves after leads.3)
