-- The effect of one instruction of a thread.
use Rattle.std.specs.Prelude.{◌≡◌, ℕ, ◌+◌, ◌<◌, ◌≤◌, ◌^◌, Bool, true, false, List, [], ◌∷◌, length, Option, Some, None, nat_lt, if◌then◌else◌}
use Rattle.sa_base.specs.declared.number.SpaceNo.{SpaceNo}
use Rattle.sa_base.specs.declared.number.ThreadNo.{ThreadNo}
use Rattle.sa_base.specs.declared.limits.TheConstants.{MAX_THREADS}
use Rattle.sa_base.specs.declared.record.Record.{Record}
use Rattle.sa_base.specs.declared.record.Record.TheVariants.{Ins, Out as OutOf}
use Rattle.sa_instr.specs.declared.instr.Instr.{Instr}
use Rattle.sa_instr.specs.declared.instr.Instr.TheVariants.{Load, Store, Out, Fork, Join, Lock, Unlock, Wait, Signal, Io, Touch, End}
use Rattle.sa_instr.specs.declared.instr.Reg.{Reg}
use Rattle.sa_instr.specs.Local.{instr_at, pc_after, regs_after}
use Rattle.sa_instr.specs.Regs.{reg_value, with_reg}
use Rattle.sa_spaces.specs.Space.{SpaceView}
use Rattle.sa_abstract.specs.Walk.{program_at}
use Rattle.sa_lists.specs.ReadyView.{thread, next_made, with_made}
use Rattle.sa_code.specs.Micro.{is_resident}
use Rattle.sa_sync.specs.declared.answer.SyncAnswer.{SyncAnswer}
use Rattle.sa_sync.specs.declared.answer.SyncAnswer.TheVariants as answer
use Rattle.sa_sync.specs.Sync.{Sync, cell_at, semaphore_at, joiners_at, with_joiners, Waits, WaitsNowhere}
use Rattle.sa_sync.specs.Calls.{Change, locked, unlocked, waited, signalled, joined as joined_by, finished, stored}
use Rattle.sa_fast.specs.declared.threads.Block.{Block}
use Rattle.sa_fast.specs.declared.threads.KeptPlace.TheVariants.{Waiting, Blocked, Done}
use Rattle.sa_fast.specs.declared.shared.Shared.{Shared}
use Rattle.sa_fast.specs.declared.instruction.Ran.{Ran}
use Rattle.sa_fast.specs.declared.instruction.Ran.TheVariants.{Goes, Leaves, Blocks}
use Rattle.sa_fast.specs.declared.instruction.TheConstants.{NOT_MADE}
use Rattle.sa_fast.specs.Threads.{at_start, block_at, with_block, moved_to, gone_to}
use Rattle.sa_fast.specs.Work.{Work, with_name, added, added_all, IsUnlisted, IsWork}

-- what an instruction makes of what the contexts share and of its context's work list, and what becomes of the thread
pub record Outcome : Type 0 where
  pub shared : Shared
  pub work : Option ThreadNo
  pub answer : Ran

abbrev pub outcome : Shared → Option ThreadNo → Ran → Outcome
outcome x w answer = record { shared = x; work = w; answer = answer }

-- x with another block of thread t; with other ways of waiting; with other work lists
abbrev pub with_thread : Shared → ThreadNo → Block → Shared
with_thread x t b = record x { threads = with_block x.threads t.0 b }

abbrev pub with_sync : Shared → Sync → Shared
with_sync x sync = record x { sync = sync }

abbrev pub with_works : Shared → Work → Shared
with_works x w = record x { works = w.lists }

-- the block of a thread that goes on at the next place, with a value in a register or without one
abbrev pub next_of : Block → Block
next_of b = gone_to b (b.pc + 1) b.regs

abbrev pub value_in : Block → Reg → ℕ → Block
value_in b reg value = gone_to b (b.pc + 1) (with_reg b.regs reg value)

-- the instructions that stay within their thread
abbrev pub went : Shared → Option ThreadNo → ThreadNo → Block → Instr → Outcome
went x w t b i = outcome (with_thread x t (gone_to b (pc_after i b.pc b.regs) (regs_after i b.regs))) w Goes

-- a call that may let the thread wait, or wake one, which is put into the work list; b is the block after the instruction
abbrev pub told_by : Shared → Option ThreadNo → ThreadNo → Block → SyncAnswer → Outcome
told_by x w t b answer.Goes = outcome (with_thread x t b) w Goes
told_by x w t b answer.Waits = outcome (with_thread x t (moved_to b Waiting)) w Leaves
told_by x w t b (answer.Wakes u) =
    let woken = added (with_name x.works w) u in outcome (with_works (with_thread x t b) woken) woken.name Goes

abbrev pub synced : Shared → Option ThreadNo → ThreadNo → Block → Change → Outcome
synced x w t b change = told_by (with_sync x change.state) w t b change.answer

-- fork: a new thread, which is put into the work list; or none, where as many were made as there can be
abbrev pub forked : Shared → Option ThreadNo → ThreadNo → Block → Reg → ℕ → Option ℕ → Outcome
forked x w t b reg program None = outcome (with_thread x t (value_in b reg NOT_MADE)) w Goes
forked x w t b reg program (Some n) =
    let parent = with_thread x t (value_in b reg n) in
    let made = with_thread parent (thread n) (at_start program Waiting) in
    let due = added (with_name x.works w) (thread n) in
    outcome (record made { state = record x.state { lists = with_made x.state.lists program (Some n) }; works = due.lists }) due.name Goes

-- join: the register says whether such a thread was made
abbrev pub joins : Shared → Option ThreadNo → ThreadNo → Block → Reg → ℕ → Outcome
joins x w t b reg made =
    let other = reg_value b.regs reg in
    synced x w t (value_in b reg (if nat_lt other made then 1 else 0)) (joined_by x.sync t.0 other made)

-- the thread blocks; b is its block after the instruction
abbrev pub blocks : Shared → Option ThreadNo → ThreadNo → Block → ℕ → Option ℕ → Outcome
blocks x w t b length page = outcome (with_thread x t (moved_to b Blocked)) w (Blocks length page)

-- touch: the page is resident, or the thread stays at its instruction until it is
abbrev pub touched : Shared → Option ThreadNo → ThreadNo → Block → ℕ → ℕ → Bool → Outcome
touched x w t b fetch page true = outcome (with_thread x t (next_of b)) w Goes
touched x w t b fetch page false = blocks x w t b fetch (Some page)

-- end: those that join the thread are woken in the order in which they came
abbrev pub ended : Shared → Option ThreadNo → ThreadNo → Block → Outcome
ended x w t b =
    let woken = added_all (with_name x.works w) (joiners_at x.sync t.0) in
    let sync = with_joiners (finished x.sync t.0) t.0 [] in
    outcome (with_works (with_sync (with_thread x t (moved_to b Done)) sync) woken) woken.name Leaves

-- the table of instructions, where the fetch of a page takes `fetch` events and `pages` are resident
abbrev pub outcome_of : ℕ → ℕ → Shared → Option ThreadNo → ThreadNo → Block → Instr → Outcome
outcome_of fetch pages x w t b (Load reg cell) = outcome (with_thread x t (value_in b reg (cell_at x.sync cell))) w Goes
outcome_of fetch pages x w t b (Store reg cell) =
    outcome (with_sync (with_thread x t (next_of b)) (stored x.sync cell (reg_value b.regs reg))) w Goes
outcome_of fetch pages x w t b (Out reg) = outcome (with_thread x t (next_of b)) w Goes
outcome_of fetch pages x w t b (Fork reg program) = forked x w t b reg program (next_made x.state.lists)
outcome_of fetch pages x w t b (Join reg) = joins x w t b reg x.state.lists.made
outcome_of fetch pages x w t b (Lock m) = synced x w t (next_of b) (locked x.sync t.0 m)
outcome_of fetch pages x w t b (Unlock m) = synced x w t (next_of b) (unlocked x.sync t.0 m)
outcome_of fetch pages x w t b (Wait k) = synced x w t (next_of b) (waited x.sync t.0 k)
outcome_of fetch pages x w t b (Signal k) = synced x w t (next_of b) (signalled x.sync k)
outcome_of fetch pages x w t b (Io length) = blocks x w t (next_of b) length None
outcome_of fetch pages x w t b (Touch page) = touched x w t b fetch page (is_resident pages page)
outcome_of fetch pages x w t b End = ended x w t b
outcome_of fetch pages x w t b i = went x w t b i

-- its records: that it ran, and what it gives to the outside; none where it did not run
abbrev pub says_of : SpaceNo → ThreadNo → Block → ℕ → Instr → List Record
says_of s t b pages (Out reg) = Ins s t b.pc ∷ OutOf s t (reg_value b.regs reg) ∷ []
says_of s t b pages (Touch page) = if is_resident pages page then Ins s t b.pc ∷ [] else []
says_of s t b pages i = Ins s t b.pc ∷ []

-- the instruction at which a thread stands in a space
abbrev pub instr_of : SpaceView → Block → Instr
instr_of def b = instr_at (program_at def.programs b.program) b.pc

-- the effect of a thread's next instruction, and its records
abbrev pub run : SpaceView → ℕ → ℕ → Shared → Option ThreadNo → ThreadNo → Outcome
run def fetch pages x w t = let b = block_at x.threads t.0 in outcome_of fetch pages x w t b (instr_of def b)

abbrev pub run_says : SpaceView → ℕ → Shared → ThreadNo → List Record
run_says def pages x t = let b = block_at x.threads t.0 in says_of x.state.space t b pages (instr_of def b)

-- a thread stands within its program
pub record IsAt (def : SpaceView) (b : Block) : Type 0 where
  pub program : b.program < length def.programs
  pub pc : b.pc < length (program_at def.programs b.program)

-- the thread of a context can run its next instruction
pub record CanRun (def : SpaceView) (x : Shared) (w : Option ThreadNo) (t : ThreadNo) : Type 0 where
  pub below : t.0 < MAX_THREADS
  pub at : IsAt def (block_at x.threads t.0)
  pub nowhere : WaitsNowhere x.sync t.0
  pub work : IsWork x.works w
  -- there is what the space declares
  pub mutexes : length x.sync.mutexes ≡ def.mutexes
  pub semaphores : length x.sync.semaphores ≡ length def.sems
  pub cells : length x.sync.cells ≡ def.cells
  pub joiners : length x.sync.joiners ≡ MAX_THREADS
  pub few : (k : ℕ) → (semaphore_at x.sync k).count + 1 < 2 ^ 32
  pub threads : x.state.lists.threads ≡ MAX_THREADS
  -- who waits, and who was not made, is in no work list
  pub waiting : (u : ℕ) → Waits x.sync u → IsUnlisted x.works u
  pub unmade : (u : ℕ) → x.state.lists.made ≤ u → IsUnlisted x.works u
