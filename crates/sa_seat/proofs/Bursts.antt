-- A burst goes on by one instruction, and ends.
use Rattle.std.proofs.Common.{◌≡◌, ℕ, zero, suc, ◌+◌, ◌<◌, ◌++◌, Bool, true, false, Some, None, List, [], ◌∷◌, length, replicate, refl, sym, ap, subst, ◌∙◌, arith, add-one}
use Rattle.std.proofs.lemmas.Option.{same_Some}
use Rattle.std.proofs.lemmas.List.{append_assoc}
use Rattle.atomic_table.specs.Seated.{TableId}
use Rattle.sa_base.specs.declared.limits.TheConstants.{MAX_BURST}
use Rattle.sa_spaces.specs.Workload.{WorkloadView}
use Rattle.sa_instr.specs.Local.{instr_at, local_answer}
use Rattle.sa_instr.specs.declared.instr.Instr.{Instr}
use Rattle.sa_instr.specs.declared.answer.Local.TheVariants.{Went}
use Rattle.sa_abstract.specs.declared.answer.SeatState.{SeatState}
use Rattle.sa_abstract.specs.declared.answer.SeatState.TheVariants.{Local, Away}
use Rattle.sa_abstract.specs.Walk.{Spot, AreLocal, after_one, after_many}
use Rattle.sa_lines.specs.Seen.{PollerSeen, with_poll}
use Rattle.sa_seat.specs.Seat.{SeatView, code_of, IsPlace, moved, CanMove, next_answer, IsSeatOf, IsStep, IsCode, IsReady, IsAdvanced}

-- one more local instruction

many-more : (code : List Instr) (n : ℕ) (spot : Spot) → after_many code (suc n) spot ≡ after_one code (after_many code n spot)
many-more code zero spot = refl
many-more code (suc n) spot = many-more code n (after_one code spot)

local-more : (code : List Instr) (n : ℕ) (spot : Spot) → AreLocal code n spot → local_answer (instr_at code (after_many code n spot).pc) ≡ Went
    → AreLocal code (suc n) spot
local-more code zero spot all next = (next, tt)
local-more code (suc n) spot all next = (all.0, local-more code n (after_one code spot) all.1 next)

moved-suc : (w : WorkloadView) (n : ℕ) (x : SeatState) → moved w 1 (moved w n x) ≡ moved w (suc n) x
moved-suc w n (Local space thread program pc regs) =
    ap (λ (s : Spot). Local space thread program s.pc s.regs) (sym (many-more (code_of w space program) n (record { pc = pc; regs = regs })))
moved-suc w n Away = refl

pub moved-more : (w : WorkloadView) (n : ℕ) (x : SeatState) → moved w 1 (moved w n x) ≡ moved w (n + 1) x
moved-more w n x = moved-suc w n x ∙ ap (λ (k : ℕ). moved w k x) (sym (add-one n))

can-suc : (w : WorkloadView) (n : ℕ) (x : SeatState) → CanMove w n x → next_answer w (moved w n x) ≡ Some Went → CanMove w (suc n) x
can-suc w n (Local space thread program pc regs) can next =
    local-more (code_of w space program) n (record { pc = pc; regs = regs }) can
    (same_Some (local_answer (instr_at (code_of w space program) (after_many (code_of w space program) n (record { pc = pc; regs = regs })).pc)) Went next)
can-suc w n Away can next = absurd (let z : None ≡ Some Went = next in cc)

pub can-more : (w : WorkloadView) (n : ℕ) (x : SeatState) → CanMove w n x → next_answer w (moved w n x) ≡ Some Went → CanMove w (n + 1) x
can-more w n x can next = subst (λ (k : ℕ). CanMove w k x) (sym (add-one n)) (can-suc w n x can next)

-- what running it came to

pub record Advanced (w : WorkloadView) (copy next : SeatState) : Type 0 where
  pub answer : next_answer w copy ≡ Some Went
  pub next_is : next ≡ moved w 1 copy
  pub place : IsPlace w next

ready-place : (w : WorkloadView) (copy next : SeatState) (code : List Instr) → IsPlace w copy → IsCode w code copy → next ≡ moved w 1 copy → IsReady code next
    → IsPlace w next
ready-place w (Local space thread program pc regs) next code place is same ready =
    let s = after_one (code_of w space program) (record { pc = pc; regs = regs }) in
    let here : s.pc < length code = subst (λ (x : SeatState). IsReady code x) same ready in
    subst (λ (x : SeatState). IsPlace w x) (sym same) (place.0, place.1, subst (λ (l : List Instr). s.pc < length l) is here)
ready-place w Away next code place is same ready = absurd is

pub advanced : (w : WorkloadView) (copy next : SeatState) (code : List Instr) (went : Bool) → IsPlace w copy → IsCode w code copy
    → IsAdvanced code copy went next → went ≡ true → Advanced w copy next
advanced w (Local space thread program pc regs) next code true place is adv e =
    let same : next ≡ moved w 1 (Local space thread program pc regs) =
    subst (λ (l : List Instr). next ≡ moved_by l) is adv.1 in record {
      answer = ap Some (subst (λ (l : List Instr). local_answer (instr_at l pc) ≡ Went) is adv.0);
      next_is = same;
      place = ready-place w (Local space thread program pc regs) next code place is same adv.2;
    }
  where
    moved_by : List Instr → SeatState
    moved_by l = (let s = after_one l (record { pc = pc; regs = regs }) in Local space thread program s.pc s.regs)
advanced w (Local space thread program pc regs) next code false place is adv e = absurd (let z : false ≡ true = e in cc)
advanced w Away next code went place is adv e = absurd is

pub seat-stepped : (w : WorkloadView) (table : TableId) (s : SeatView) (next : SeatState) (q : PollerSeen) → IsSeatOf w table s → Advanced w s.copy next
    → s.pending < MAX_BURST
    → q.table ≡ s.poller.table → q.proc ≡ s.poller.proc → IsSeatOf w table (record { poller = q; start = s.start; copy = next; pending = s.pending + 1 })
seat-stepped w table s next q is adv few same proc = record {
  of_table = same ∙ is.of_table;
  processor = subst (λ z. z.0 < w.processors) (sym proc) is.processor;
  start = is.start;
  place = adv.place;
  local = can-more w s.pending s.start is.local (ap (λ (x : SeatState). next_answer w x) (sym is.copy) ∙ adv.answer);
  copy = adv.next_is ∙ ap (λ (x : SeatState). moved w 1 x) is.copy ∙ moved-more w s.pending s.start;
  few = omega (arith, few);
}

abbrev pub zeros : ℕ → List ℕ
zeros n = replicate n 0

abbrev one_zero : List ℕ
one_zero = 0 ∷ []

-- a burst that has gone on for i instructions
pub record Bursting (w : WorkloadView) (old s : SeatView) (i : ℕ) : Type 0 where
  pub pending : s.pending ≡ i
  pub start : s.start ≡ old.start
  pub copy : s.copy ≡ moved w i old.copy
  pub local : CanMove w i old.copy
  pub poller : s.poller ≡ record old.poller { read = old.poller.read ++ zeros i }

zeros-more : (n : ℕ) → zeros n ++ one_zero ≡ zeros (suc n)
zeros-more zero = refl
zeros-more (suc n) = ap (λ (l : List ℕ). 0 ∷ l) (zeros-more n)

read-more : (reads : List ℕ) (n : ℕ) → (reads ++ zeros n) ++ one_zero ≡ reads ++ zeros (n + 1)
read-more reads n = append_assoc reads (zeros n) one_zero ∙ ap (λ (l : List ℕ). reads ++ l) (zeros-more n ∙ ap (λ (k : ℕ). zeros k) (sym (add-one n)))

pub burst-more : (w : WorkloadView) (old s next : SeatView) (i : ℕ) → Bursting w old s i → IsStep w s None next → Bursting w old next (i + 1)
burst-more w old s next i b step = subst (λ (z : SeatView). Bursting w old z (i + 1)) (sym step.1) record {
  pending = ap (λ (k : ℕ). k + 1) b.pending;
  start = b.start;
  copy = ap (λ (x : SeatState). moved w 1 x) b.copy ∙ moved-more w i old.copy;
  local = can-more w i old.copy b.local (ap (λ (x : SeatState). next_answer w x) (sym b.copy) ∙ step.0);
  poller = ap (λ (p : PollerSeen). with_poll None p) b.poller ∙ ap (λ (l : List ℕ). record old.poller { read = l }) (read-more old.poller.read i);
}
