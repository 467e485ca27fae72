-- What a core keeps.
use Rattle.std.proofs.Common.{◌≡◌, ◌≢◌, ℕ, zero, suc, ◌+◌, ◌-◌, ◌%◌, ◌<◌, ◌≤◌, ◌==◌, if◌then◌else◌, min, Bool, true, false, Some, None, List, refl, sym, ap, subst, ◌∙◌, inl, inr, arith, mod-lt}
use Rattle.std.proofs.lemmas.Bool.{cases_eq}
use Rattle.std.proofs.lemmas.Bool.Decides.{nat_tests}
use Rattle.sa_base.specs.declared.number.ProcNo.{ProcNo}
use Rattle.sa_base.specs.declared.limits.TheConstants.{MAX_EVENTS}
use Rattle.sa_base.specs.declared.record.End.TheVariants.{AllDone, Stuck, Budget}
use Rattle.sa_spaces.specs.Workload.{WorkloadView, IsWorkload}
use Rattle.sa_instr.specs.declared.instr.Instr.{Instr}
use Rattle.sa_abstract.specs.Calls.{Calls}
use Rattle.sa_abstract.specs.Keeps.{Standing, Keeps, StaysLocal}
use Rattle.sa_abstract.specs.Setting.{Setting}
use Rattle.sa_abstract.specs.Walk.{Spot, AreLocal, after_one, program_at}
use Rattle.sa_abstract.specs.declared.answer.SeatState.{SeatState}
use Rattle.sa_abstract.specs.declared.answer.SeatState.TheVariants.{Local, Away}
use Rattle.sa_kernel_model.specs.declared.entry.TheConstants.{ENTRY_ITEMS}
use Rattle.sa_core_model.specs.Machine.{Machine}
use Rattle.sa_core_model.specs.Turn.{turned, committed}
use Rattle.sa_core_model.specs.End.{all_done, is_stuck, end_of, committable, local_on}
use Rattle.sa_core_model.specs.Run.{setting, opening, IsTurn, CanGo, AreNextLocal}
use Rattle.sa_core_model.specs.Standing.{IsBetween}
use Rattle.sa_core_model.proofs.Turns.{Rests, rests-turned, between-rests}
use Rattle.sa_core_model.proofs.Runs.{rests-committed, stands-opening, can-go}
use Rattle.sa_machine.specs.declared.machine.MachineParts.{MachineParts}
use Rattle.sa_machine.specs.declared.machine.TheConstants.{EVENT_ITEMS}
use Rattle.sa_machine.specs.View.{machine_of}
use Rattle.sa_machine.specs.Room.{owed, HasRoom, Spends}
use Rattle.sa_machine.specs.Needs.{ByFresh}
use Rattle.sa_core.specs.View.{CoreView, machine}
use Rattle.sa_core.specs.Room.{IsKept}

-- what no end is found for goes on
no-end : (a b c : Bool) → (if a then Some AllDone else if b then Some Stuck else if c then Some Budget else None) ≡ None → c ≡ false
no-end true b c none = absurd cc
no-end false true c none = absurd cc
no-end false false true none = absurd cc
no-end false false false none = refl

pub goes-on : {U C : Type 0} (f : Calls U C) (budget : ℕ) (m : Machine U C) → end_of f budget m ≡ None → m.event ≤ budget → m.event < budget
goes-on f budget m none within = elim (cases_eq m.event budget) [
  | inl same ↦ absurd (let t : (m.event == budget) ≡ true = grind (arith, nat_tests, same) in
      let n = no-end (all_done f m) (is_stuck f m) (m.event == budget) none in cc)
  | inr apart ↦ omega (arith, within, apart)
]

module _ {U C : Type 0} (f : Calls U C) (stands : Standing U C) (keep : Keeps f stands) where
  pub kept-start : (m : MachineParts U C) (w : WorkloadView) (budget : ℕ) → IsWorkload w → machine_of m ≡ opening f w → owed m ≡ 0 → m.kernel.last ≡ 0
      → budget ≤ MAX_EVENTS → IsKept stands m budget 0
  kept-start m w budget ok is none last few = record {
    between = subst (λ (z : Machine U C). IsBetween stands z) (sym is) (stands-opening f stands keep w ok);
    entered = omega (arith, last);
    within = (let e : m.events ≡ 0 = ap (λ (z : Machine U C). z.event) is in omega (arith, e));
    few = few;
    room = record { entries = omega arith; items = omega (arith, none) };
  }

  pub kept-room : (m new : MachineParts U C) (budget n k : ℕ) → IsKept stands m budget k → machine_of new ≡ machine_of m → new.kernel.last ≡ m.kernel.last
      → HasRoom new n → IsKept stands new budget n
  kept-room m new budget n k kept same last room =
      let e : new.events ≡ m.events = ap (λ (z : Machine U C). z.event) same in record {
        between = subst (λ (z : Machine U C). IsBetween stands z) (sym same) kept.between;
        entered = omega (arith, kept.entered, e, last);
        within = omega (arith, kept.within, e);
        few = kept.few;
        room = room;
      }

  -- a turn

  pub record Turned (m new : MachineParts U C) (p : ProcNo) (budget spare : ℕ) : Type 0 where
    pub kept : IsKept stands new budget (spare - 1)
    pub turn : IsTurn f (machine_of m) p (machine_of new)
    pub event : new.events ≡ m.events + 1
    pub workload : new.workload ≡ m.workload

  pub kept-turn : (m new : MachineParts U C) (p : ProcNo) (budget spare : ℕ) → IsKept stands m budget spare
      → ByFresh (machine_of m) (machine_of new) (λ fresh. turned f p fresh (machine_of m))
      → Spends m new EVENT_ITEMS 1 → p.0 < m.workload.processors → m.events < budget → 1 ≤ spare → Turned m new p budget spare
  kept-turn m new p budget spare kept by spends within left some =
      let few : m.events + 1 ≤ MAX_EVENTS = omega (arith, left, kept.few) in
      let rest : Rests f stands keep m.workload (m.events + 1) (m.events + 1) (machine_of new) =
      subst (λ (z : Machine U C). Rests f stands keep m.workload (m.events + 1) (m.events + 1) z) (sym by.is)
      (rests-turned f stands keep (machine_of m) p by.fresh kept.between few within by.unused) in
      let e : new.events ≡ m.events + 1 = rest.event in
      record {
        kept = record {
          between = between-rests f stands keep m.workload (m.events + 1) (machine_of new) rest;
          entered = omega (arith, spends.last, kept.entered, e);
          within = omega (arith, left, e);
          few = kept.few;
          room = record {
            entries = omega (arith, spends.entries, kept.room.entries, some);
            items = omega (arith, spends.items, kept.room.items, some);
          };
        };
        turn = record { fresh = by.fresh; unused = by.unused; is = by.is };
        event = e;
        workload = rest.workload;
      }

-- fewer instructions
pub fewer-local : (program : List Instr) (n k : ℕ) (spot : Spot) → k ≤ n → AreLocal program n spot → AreLocal program k spot
fewer-local program n zero spot few all = tt
fewer-local program zero (suc k) spot few all = absurd (omega (arith, few))
fewer-local program (suc n) (suc k) spot few all = (all.0, fewer-local program n k (after_one program spot) (omega (arith, few)) all.1)

goes-fewer : (s : Setting) (n k : ℕ) (x : SeatState) → k ≤ n → StaysLocal s n x → StaysLocal s k x
goes-fewer s n k (Local space thread program pc regs) few goes = fewer-local (program_at s.def.programs program) n k (record { pc = pc; regs = regs }) few goes
goes-fewer s n k Away few goes = goes

module _ {U C : Type 0} (f : Calls U C) where
  pub can-fewer : (m : Machine U C) (p : ProcNo) (n k : ℕ) → k ≤ n → CanGo f m p n → CanGo f m p k
  can-fewer m p n k few can = record {
    space = can.space;
    def = can.def;
    owner = can.owner;
    is_def = can.is_def;
    goes = goes-fewer (setting m.workload can.space.0 can.def) n k (local_on f m p) few can.goes;
  }

-- how many are committed
pub record AreLeft (n left k : ℕ) : Type 0 where
  pub some : 1 ≤ k
  pub few : k ≤ n
  pub within : k ≤ left

left-of : (n left slice event : ℕ) (b : Bool) → (slice == 0) ≡ b → 1 ≤ n → 1 ≤ left
    → AreLeft n left (if b then min n left else min (min n left) (slice - event % slice))
left-of n left slice event true is some more = record { some = omega (arith, some, more); few = omega arith; within = omega arith }
left-of n left slice event false is some more =
    let apart : slice ≢ 0 = λ e. (let t : (slice == 0) ≡ true = grind (arith, nat_tests, e) in cc) in
    let below : event % slice < slice = mod-lt event (omega (arith, apart)) in
    record { some = omega (arith, some, more, below); few = omega arith; within = omega arith }

pub are-left : {U C : Type 0} (budget : ℕ) (m : Machine U C) (n : ℕ) → 1 ≤ n → m.event < budget → AreLeft n (budget - m.event) (committable budget m n)
are-left budget m n some left = left-of n (budget - m.event) m.workload.slice m.event (m.workload.slice == 0) refl some (omega (arith, left))

module _ {U C : Type 0} (f : Calls U C) (stands : Standing U C) (keep : Keeps f stands) where
  pub record Committed (m new : MachineParts U C) (k budget spare : ℕ) : Type 0 where
    pub kept : IsKept stands new budget (spare - k)
    pub workload : new.workload ≡ m.workload

  pub kept-commit : (m new : MachineParts U C) (p : ProcNo) (k budget spare : ℕ) → IsKept stands m budget spare → machine_of new ≡ committed f p k (machine_of m)
      → Spends m new (k + ENTRY_ITEMS) 0 → 1 ≤ k → k ≤ spare → m.events + k ≤ budget → CanGo f (machine_of m) p k → Committed m new k budget spare
  kept-commit m new p zero budget spare kept is spends some room left can = absurd (omega (arith, some))
  kept-commit m new p (suc j) budget spare kept is spends some room left can =
      let rest : Rests f stands keep m.workload (m.events + suc j) (m.events + suc j) (machine_of new) =
      subst (λ (z : Machine U C). Rests f stands keep m.workload (m.events + suc j) (m.events + suc j) z) (sym is)
      (rests-committed f stands keep (machine_of m) p j kept.between (omega (arith, left, kept.few)) can) in
      let e : new.events ≡ m.events + suc j = rest.event in
      record {
        kept = record {
          between = between-rests f stands keep m.workload (m.events + suc j) (machine_of new) rest;
          entered = omega (arith, spends.last, kept.entered, e);
          within = omega (arith, left, e);
          few = kept.few;
          room = record {
            entries = omega (arith, spends.entries, kept.room.entries);
            items = omega (arith, spends.items, kept.room.items, room);
          };
        };
        workload = rest.workload;
      }

-- room was made, and the run goes on
pub record IsReady {U C : Type 0} (m : MachineParts U C) (old : CoreView U C) (budget : ℕ) : Type 0 where
  pub same : machine_of m ≡ machine old
  pub left : m.events < budget

pub ready : {U C : Type 0} (f : Calls U C) (stands : Standing U C) (m : MachineParts U C) (mid old : CoreView U C) (budget spare : ℕ)
    → record { parts = m; budget = budget; spare = spare } ≡ mid → machine mid ≡ machine old → mid.budget ≡ old.budget
    → end_of f old.budget (machine old) ≡ None
    → IsKept stands m budget spare → IsReady m old budget
ready {U} {C} f stands m mid old budget spare view is budgets none kept =
    let same : machine_of m ≡ machine old = ap (λ (v : CoreView U C). machine v) view ∙ is in
    let limit : budget ≡ old.budget = ap (λ (v : CoreView U C). v.budget) view ∙ budgets in
    let on : end_of f budget (machine_of m) ≡ None =
    ap (λ (b : ℕ). end_of f b (machine_of m)) limit ∙ ap (λ (z : Machine U C). end_of f old.budget z) same ∙ none in
    record { same = same; left = goes-on f budget (machine_of m) on kept.within }

pub next-go : {U C : Type 0} (f : Calls U C) (stands : Standing U C) (keep : Keeps f stands) (m : MachineParts U C) (old : CoreView U C) (budget spare n k : ℕ)
    (p : ProcNo)
    → IsReady m old budget → IsKept stands m budget spare → AreNextLocal (machine old).workload n (local_on f (machine old) p) → k ≤ n
    → CanGo f (machine_of m) p k
next-go {U} {C} f stands keep m old budget spare n k p is kept next few =
    can-fewer f (machine_of m) p n k few (can-go f stands keep m.events n (machine_of m) p kept.between.standing
    (subst (λ (z : Machine U C). AreNextLocal z.workload n (local_on f z p)) (sym is.same) next))
