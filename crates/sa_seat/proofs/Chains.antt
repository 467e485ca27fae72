-- What holds of a machine to which a chain of turns and commits leads.
use Rattle.std.proofs.Common.{◌≡◌, ℕ, zero, suc, ◌+◌, ◌-◌, ◌%◌, ◌<◌, ◌≤◌, ◌==◌, ◌++◌, if◌then◌else◌, Bool, true, false, inl, inr, min, Option, Some, None, List, [], ◌∷◌, length, slice_get, refl, sym, ap, subst, ◌∙◌, arith}
use Rattle.std.specs.Prelude.{Contains}
use Rattle.std.proofs.lemmas.Option.{slice_get_within}
use Rattle.sa_base.specs.declared.number.ProcNo.{ProcNo}
use Rattle.sa_base.specs.declared.number.SpaceNo.{SpaceNo}
use Rattle.sa_base.specs.declared.limits.TheConstants.{MAX_EVENTS}
use Rattle.sa_base.specs.declared.record.Item.{Item}
use Rattle.sa_base.specs.Items.{items_at}
use Rattle.sa_spaces.specs.Space.{SpaceView}
use Rattle.sa_spaces.specs.Workload.{WorkloadView, IsWorkload}
use Rattle.sa_instr.specs.declared.instr.Instr.{Instr}
use Rattle.sa_lemmas.proofs.ListReads.{all-same}
use Rattle.sa_abstract.specs.Calls.{Calls}
use Rattle.sa_abstract.specs.Keeps.{Standing, Keeps, IsSeat}
use Rattle.sa_abstract.specs.Walk.{program_at}
use Rattle.sa_abstract.specs.declared.answer.SeatState.{SeatState}
use Rattle.sa_abstract.specs.declared.answer.SeatState.TheVariants.{Local, Away}
use Rattle.sa_assign.specs.Reaim.{proc_no, line_at}
use Rattle.sa_kernel_model.specs.State.{Scene, owner_of, line_of}
use Rattle.sa_kernel_model.specs.Opening.{opening_state, first_wants}
use Rattle.sa_core_model.specs.Machine.{Machine, scene_of}
use Rattle.sa_core_model.specs.Turn.{turned, committed}
use Rattle.sa_core_model.specs.End.{end_of, local_on, local_in, committable}
use Rattle.sa_core_model.specs.Run.{setting, opening, IsTurn, CanTurn, CanCommit, AreNextLocal, programs_in, Move, IsMove}
use Rattle.sa_core_model.specs.Run.Move.{turn, commit}
use Rattle.sa_core_model.specs.Standing.{IsBetween, contexts_of}
use Rattle.sa_core_model.proofs.Phases.{at-owned}
use Rattle.sa_core_model.proofs.Calls.{value-at, mine}
use Rattle.sa_core_model.proofs.Turns.{rests-turned}
use Rattle.sa_core_model.proofs.Runs.{stands-opening, stands-move, local-is, rests-committed, can-go}
use Rattle.sa_core.proofs.CoreLemmas.{fewer-local}
use Rattle.sa_seat.specs.Chain.{Leads, IsChain, turns_in, turns_of, HasLine, line_item}
use Rattle.sa_seat.specs.Seat.{IsPlace, CanMove}
use Rattle.sa_seat.proofs.Lines.{Tells, tells-closed}
use Rattle.sa_seat.proofs.Events.{tells-turned, tells-committed}

-- one move more

pub turns-more : (p : ℕ) (moves : List Move) (move : Move) → turns_of p (moves ++ move ∷ []) ≡ turns_of p moves + turns_in p move
turns-more p [] move = omega arith
turns-more p (m ∷ moves) move = (let h = turns-more p moves move in omega (arith, h))

pub leads-more : {U C : Type 0} (f : Calls U C) (budget : ℕ) (m between after : Machine U C) (moves : List Move) (move : Move)
    → Leads f budget m moves between → end_of f budget between ≡ None → IsMove f between move after → Leads f budget m (moves ++ move ∷ []) after
leads-more {U} {C} f budget m between after [] move leads none made =
    subst (λ (z : Machine U C). Leads f budget z (move ∷ []) after) leads (after, none, made, refl)
leads-more f budget m between after (x ∷ moves) move leads none made =
    (leads.0, leads.1, leads.2, leads-more f budget leads.0 between after moves move leads.3 none made)

-- how many events a move is
abbrev pub size : Move → ℕ
size (turn p) = 1
size (commit p n) = n

turns-few_by : (b : Bool) (n : ℕ) → (if b then n else 0) ≤ n
turns-few_by true n = omega arith
turns-few_by false n = omega arith

pub turns-few : (p : ℕ) (move : Move) → turns_in p move ≤ size move
turns-few p (turn q) = turns-few_by (q.0 == p) 1
turns-few p (commit q n) = turns-few_by (q.0 == p) n

-- the lines that are raised were so by an event that was, and have their records
abbrev pub AreSaid : {U C : Type 0} → Machine U C → Type 0
AreSaid m = (q k : ℕ) → line_at m.kernel.assign.lines q ≡ Some k → (k ≤ m.event) × HasLine m.items k q

-- what a move does
pub record Moves {U C : Type 0} (m : Machine U C) (n : ℕ) (after : Machine U C) : Type 0 where
  pub event : after.event ≡ m.event + n
  pub workload : after.workload ≡ m.workload
  pub kept : (i : Item) → Contains m.items i → Contains after.items i
  pub said : AreSaid m → AreSaid after

said-after : {U C : Type 0} (e : ℕ) (m after : Machine U C) → after.event ≡ e → m.event ≤ e → Tells e (scene_of m) (scene_of after) → AreSaid m → AreSaid after
said-after e m after is few tells said q k at = elim (tells.raised q k at) [
  | inl was ↦ let h = said q k was in (omega (arith, h.0, is, few), (h.1.0, tells.kept (line_item k h.1.0 q) h.1.1))
  | inr new ↦ (omega (arith, new.0, is), subst (λ (i : ℕ). HasLine after.items i q) (sym new.0) new.1)
]

module _ {U C : Type 0} (f : Calls U C) (stands : Standing U C) (keep : Keeps f stands) where
  moves-turn : (m after : Machine U C) (p : ProcNo) → IsBetween stands m → CanTurn f m p → IsTurn f m p after → Moves m 1 after
  moves-turn m after p between can is =
      let h = tells-turned f p is.fresh m in
      let rest = rests-turned f stands keep m p is.fresh between (let z = can.event in omega arith) can.within is.unused in
      subst (λ (z : Machine U C). Moves m 1 z) (sym is.is) record {
        event = h.0;
        workload = rest.workload;
        kept = h.1.kept;
        said = said-after (m.event + 1) m (turned f p is.fresh m) h.0 (omega arith) h.1;
      }

  moves-commit : (m after : Machine U C) (p : ProcNo) (n : ℕ) → IsBetween stands m → CanCommit f m p n → after ≡ committed f p n m → Moves m n after
  moves-commit m after p zero between can is = absurd (let z = can.some in omega arith)
  moves-commit m after p (suc n) between can is =
      let h = tells-committed f p n m in
      let rest = rests-committed f stands keep m p n between can.event (can-go f stands keep m.event (suc n) m p between.standing can.go) in
      subst (λ (z : Machine U C). Moves m (suc n) z) (sym is) record {
        event = h.0;
        workload = rest.workload;
        kept = h.1.kept;
        said = said-after (m.event + suc n) m (committed f p (suc n) m) h.0 (omega arith) h.1;
      }

  pub moves-by : (m after : Machine U C) (move : Move) → IsBetween stands m → IsMove f m move after → Moves m (size move) after
  moves-by m after (turn p) between made = moves-turn m after p between made.0 made.1
  moves-by m after (commit p n) between made = moves-commit m after p n between made.0 made.1

  -- after all of them
  pub record Reached (w : WorkloadView) (moves : List Move) (m : Machine U C) : Type 0 where
    pub between : IsBetween stands m
    pub workload : m.workload ≡ w
    pub count : (p : ℕ) → turns_of p moves ≤ m.event
    pub said : AreSaid m

  said-opening : (w : WorkloadView) → AreSaid (opening f w)
  said-opening w q k at =
      let none : Option ℕ = None in
      let x : Scene C = record { state = opening_state w; items = items_at 0 (proc_no 0) (first_wants 0 (length w.spaces)) } in
      elim ((tells-closed 0 (proc_no 0) x).raised q k at) [
        | inl was ↦ absurd (let z : None ≡ Some k = sym (all-same w.processors q none) ∙ was in cc)
        | inr new ↦ (omega (arith, new.0), subst (λ (i : ℕ). HasLine (opening f w).items i q) (sym new.0) new.1)
      ]

  reached-from : (w : WorkloadView) (budget c : ℕ) (m after : Machine U C) (moves : List Move) (p : ℕ) → IsBetween stands m → m.workload ≡ w → AreSaid m
      → c ≤ m.event
      → Leads f budget m moves after → IsBetween stands after × (after.workload ≡ w) × AreSaid after × (c + turns_of p moves ≤ after.event)
  reached-from w budget c m after [] p between same said few leads =
      subst (λ (z : Machine U C). IsBetween stands z × (z.workload ≡ w) × AreSaid z × (c + 0 ≤ z.event)) (sym leads) (between, same, said, omega (arith, few))
  reached-from w budget c m after (move ∷ moves) p between same said few leads =
      let next = leads.0 in
      let h = moves-by m next move between leads.2 in
      let some = turns-few p move in
      let rest = reached-from w budget (c + turns_in p move) next after moves p (stands-move f stands keep m move next between leads.2) (h.workload ∙ same)
      (h.said said)
      (omega (arith, h.event, few, some)) leads.3 in
      (rest.0, rest.1, rest.2, omega (arith, rest.3))

  pub reached : (w : WorkloadView) (budget : ℕ) (m : Machine U C) (moves : List Move) → IsWorkload w → IsChain f budget w moves m → Reached w moves m
  reached w budget m moves ok chain =
      let go = λ (p : ℕ). reached-from w budget 0 (opening f w) m moves p (stands-opening f stands keep w ok) refl (said-opening w) (omega arith) chain in
      let h = go 0 in
      record { between = h.0; workload = h.1; said = h.2; count = λ p. (let z = (go p).3 in omega (arith, z)) }

  -- where a context is at an instruction, it is in a program of the workload
  seat-place : (w : WorkloadView) (s : SpaceNo) (def : SpaceView) (x : SeatState) → slice_get w.spaces s.0 ≡ Some def → s.0 < length w.spaces
      → IsSeat (setting w s.0 def) x → IsPlace w x
  seat-place w s def (Local space thread program pc regs) of within seat =
      let at : space.0 ≡ s.0 = ap (λ (z : SpaceNo). z.0) seat.0 in
      let here : slice_get w.spaces space.0 ≡ Some def = ap (λ (i : ℕ). slice_get w.spaces i) at ∙ of in
      let ps : programs_in (slice_get w.spaces space.0) ≡ def.programs = ap programs_in here in (
        omega (arith, at, within),
        subst (λ (l : List (List Instr)). program < length l) (sym ps) seat.1,
        subst (λ (l : List (List Instr)). pc < length (program_at l program)) (sym ps) seat.2,
      )
  seat-place w s def Away of within seat = tt

  pub place-of : (m : Machine U C) (p : ProcNo) → IsBetween stands m → IsPlace m.workload (local_on f m p)
  place-of m p between = go (owner_of m.kernel p) refl
    where
      go : (o : Option SpaceNo) → owner_of m.kernel p ≡ o → IsPlace m.workload (local_on f m p)
      go None off = subst (λ (x : SeatState). IsPlace m.workload x) (sym (ap (λ (o : Option SpaceNo). local_in f m p o) off)) tt
      go (Some s) owner =
          let st = between.standing in
          let here = at-owned f stands keep m.event m p s st owner in
          let seat = (keep.seats (setting m.workload s.0 here.def) m.event here.user (contexts_of m s.0) here.act.0 here.ctx
          (value-at f stands keep m.event m p s st here) (mine f stands keep m.event m p s st here)).0 in
          subst (λ (x : SeatState). IsPlace m.workload x) (sym (local-is f stands keep m p s here))
          (seat-place m.workload s here.def (f.local here.user here.ctx) here.is_def (slice_get_within m.workload.spaces s.0 here.def here.is_def) seat)

-- a burst that can be committed

next-fewer : (w : WorkloadView) (n k : ℕ) (x : SeatState) → k ≤ n → AreNextLocal w n x → AreNextLocal w k x
next-fewer w n k (Local space thread program pc regs) few next =
    fewer-local (program_at (programs_in (slice_get w.spaces space.0)) program) n k (record { pc = pc; regs = regs }) few next
next-fewer w n k Away few next = next

pub move-next : (w : WorkloadView) (n : ℕ) (x : SeatState) → 0 < n → CanMove w n x → AreNextLocal w n x
move-next w n (Local space thread program pc regs) some can = can
move-next w n Away some can = absurd (omega (arith, some, can))

slice-left : (n left slice event : ℕ) (b : Bool) → (slice == 0) ≡ b
    → (if b then (if b then min n left else min (min n left) (slice - event % slice))
    else min (if b then min n left else min (min n left) (slice - event % slice)) (slice - event % slice))
    ≡ (if b then min n left else min (min n left) (slice - event % slice))
slice-left n left slice event true is = refl
slice-left n left slice event false is = omega arith

pub record Commits {U C : Type 0} (f : Calls U C) (m : Machine U C) (p : ProcNo) (n budget k : ℕ) : Type 0 where
  pub can : CanCommit f m p k
  pub few : k ≤ n
  pub within : m.event + k ≤ budget

pub commits : {U C : Type 0} (f : Calls U C) (m : Machine U C) (p : ProcNo) (n budget k : ℕ) → k ≡ committable budget m n → 1 ≤ k → m.event < budget
    → budget ≤ MAX_EVENTS
    → line_of m.kernel p ≡ None → AreNextLocal m.workload n (local_on f m p) → Commits f m p n budget k
commits f m p n budget k is some left most low next =
    let b = m.workload.slice == 0 in
    let few : k ≤ min n (budget - m.event) = slice-few n (budget - m.event) m.workload.slice m.event b is in record {
      can = record {
        some = some;
        event = omega (arith, few, left, most);
        low = low;
        slice = rw is (slice-left n (budget - m.event) m.workload.slice m.event b refl);
        go = next-fewer m.workload n k (local_on f m p) (omega (arith, few)) next;
      };
      few = omega (arith, few);
      within = omega (arith, few, left);
    }
  where
    slice-few : (n left slice event : ℕ) (b : Bool) → k ≡ (if b then min n left else min (min n left) (slice - event % slice)) → k ≤ min n left
    slice-few n left slice event true is = omega (arith, is)
    slice-few n left slice event false is = omega (arith, is)
