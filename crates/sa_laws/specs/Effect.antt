-- What an instruction does to its space: the table of instructions.
use Rattle.std.specs.Prelude.{ℕ, ◌+◌, ◌-◌, ◌^◌, nat_lt, if◌then◌else◌, List, [], ◌∷◌, ◌++◌, length, map}
use Rattle.sa_base.specs.declared.number.ThreadNo.{ThreadNo}
use Rattle.sa_base.specs.declared.limits.TheConstants.{MAX_THREADS}
use Rattle.sa_instr.specs.declared.instr.Reg.{Reg}
use Rattle.sa_instr.specs.declared.instr.Instr.{Instr}
use Rattle.sa_instr.specs.declared.instr.Instr.TheVariants.{Load, Store, Out, Fork, Join, Lock, Unlock, Wait, Signal, Io, Touch, End}
use Rattle.sa_instr.specs.Local.{pc_after, regs_after}
use Rattle.sa_instr.specs.Regs.{reg_value, with_reg}
use Rattle.sa_sync.specs.declared.answer.SyncAnswer.{SyncAnswer}
use Rattle.sa_sync.specs.declared.answer.SyncAnswer.TheVariants as answer
use Rattle.sa_sync.specs.Sync.{Sync, cell_at, joiners_at, with_joiners}
use Rattle.sa_sync.specs.Calls.{Change, locked, unlocked, waited, signalled, joined, finished, stored}
use Rattle.sa_laws.specs.declared.place.Place.TheVariants.{Waiting, Done}
use Rattle.sa_laws.specs.State.{Thread, SpaceState, at_start, with_thread}

-- the space after an instruction, and the threads that it forks or wakes, in order
pub record Effect : Type 0 where
  pub space : SpaceState
  pub roused : List ThreadNo

abbrev pub effect : SpaceState → List ThreadNo → Effect
effect x roused = record { space = x; roused = roused }

-- the thread after its instruction, with a value in a register or without one
abbrev pub next : Thread → Thread
next thread = record thread { pc = thread.pc + 1 }

abbrev pub next_with : Thread → Reg → ℕ → Thread
next_with thread reg value = record thread { pc = thread.pc + 1; regs = with_reg thread.regs reg value }

abbrev pub with_sync : SpaceState → Sync → SpaceState
with_sync x sync = record x { sync = sync }

-- the local instructions
abbrev pub local_effect : SpaceState → ThreadNo → Thread → Instr → Effect
local_effect x t thread instr = effect (with_thread x t (record thread {
  pc = pc_after instr thread.pc thread.regs;
  regs = regs_after instr thread.regs;
})) []

-- a call on which the thread goes on, waits, or wakes another; the thread is after its instruction then
abbrev pub answered : SpaceState → ThreadNo → Thread → SyncAnswer → Effect
answered x t thread answer.Goes = effect (with_thread x t thread) []
answered x t thread answer.Waits = effect (with_thread x t (record thread { place = Waiting })) []
answered x t thread (answer.Wakes woken) = effect (with_thread x t thread) (woken ∷ [])

abbrev pub sync_effect : SpaceState → ThreadNo → Thread → Change → Effect
sync_effect x t thread change = answered (with_sync x change.state) t thread change.answer

-- fork: a new thread of a program with the next number, which the register holds then; or 2^64 - 1 and nothing more,
-- where as many were made as there can be
abbrev pub fork_effect : SpaceState → ThreadNo → Thread → Reg → ℕ → Effect
fork_effect x t thread reg program =
    let made = length x.threads in
    let forking = with_thread x t (next_with thread reg made) in
    if nat_lt made MAX_THREADS
    then effect (record forking { threads = forking.threads ++ at_start program Waiting ∷ [] }) (record { 0 = made } ∷ [])
    else effect (with_thread x t (next_with thread reg (2 ^ 64 - 1))) []

-- join: the register says whether a thread of its number was made
abbrev pub join_effect : SpaceState → ThreadNo → Thread → Reg → Effect
join_effect x t thread reg =
    let other = reg_value thread.regs reg in
    let made = length x.threads in
    sync_effect x t (next_with thread reg (if nat_lt other made then 1 else 0)) (joined x.sync t.0 other made)

-- end: the thread is done, and those that join it are woken in the order in which they came
abbrev pub end_effect : SpaceState → ThreadNo → Thread → Effect
end_effect x t thread = effect
    (with_thread (with_sync x (with_joiners (finished x.sync t.0) t.0 [])) t (record thread { place = Done }))
    (map (λ u. record { 0 = u }) (joiners_at x.sync t.0))

-- what an instruction does, run by thread t
abbrev pub effect_of : SpaceState → ThreadNo → Thread → Instr → Effect
effect_of x t thread (Load reg cell) = effect (with_thread x t (next_with thread reg (cell_at x.sync cell))) []
effect_of x t thread (Store reg cell) =
    effect (with_thread (with_sync x (stored x.sync cell (reg_value thread.regs reg))) t (next thread)) []
effect_of x t thread (Out reg) = effect (with_thread x t (next thread)) []
effect_of x t thread (Fork reg program) = fork_effect x t thread reg program
effect_of x t thread (Join reg) = join_effect x t thread reg
effect_of x t thread (Lock mutex) = sync_effect x t (next thread) (locked x.sync t.0 mutex)
effect_of x t thread (Unlock mutex) = sync_effect x t (next thread) (unlocked x.sync t.0 mutex)
effect_of x t thread (Wait semaphore) = sync_effect x t (next thread) (waited x.sync t.0 semaphore)
effect_of x t thread (Signal semaphore) = sync_effect x t (next thread) (signalled x.sync semaphore)
effect_of x t thread (Io length) = effect (with_thread x t (next thread)) []
effect_of x t thread (Touch page) = effect (with_thread x t (next thread)) []
effect_of x t thread End = end_effect x t thread
effect_of x t thread instr = local_effect x t thread instr
