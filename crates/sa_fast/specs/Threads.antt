-- The blocks of a space's threads, as callers see them: a list of blocks, by the numbers of the threads.
use Rattle.std.specs.Prelude.{◌≡◌, ℕ, ◌≤◌, Bool, true, false, List, length, count_by, replicate, slice_index_or, slice_set}
use Rattle.sa_base.specs.declared.limits.TheConstants.{MAX_THREADS}
use Rattle.sa_instr.specs.declared.limits.TheConstants.{REGISTERS}
use Rattle.sa_fast.specs.declared.threads.Block.{Block}
use Rattle.sa_fast.specs.declared.threads.KeptPlace.{KeptPlace}
use Rattle.sa_fast.specs.declared.threads.KeptPlace.TheVariants.{Unmade, Ready, Running, Carried, Done}

-- a thread at the beginning of a program
abbrev pub at_start : ℕ → KeptPlace → Block
at_start program place = record { program = program; pc = 0; regs = replicate REGISTERS 0; place = place }

-- a thread that was not made
abbrev pub unmade : Block
unmade = at_start 0 Unmade

abbrev pub block_at : List Block → ℕ → Block
block_at threads t = slice_index_or threads t unmade

abbrev pub with_block : List Block → ℕ → Block → List Block
with_block threads t block = slice_set threads t block

-- the same thread at another place, or at another instruction with other registers
abbrev pub moved_to : Block → KeptPlace → Block
moved_to block place = record block { place = place }

abbrev pub gone_to : Block → ℕ → List ℕ → Block
gone_to block pc regs = record block { pc = pc; regs = regs }

-- the load of a space are the threads that are ready or run
abbrev pub is_loaded : KeptPlace → Bool
is_loaded Ready = true
is_loaded Running = true
is_loaded _ = false

-- active are those, and the ones that were stopped or unblocked and are not yet ready again
abbrev pub is_active : KeptPlace → Bool
is_active Ready = true
is_active Running = true
is_active Carried = true
is_active _ = false

abbrev pub is_done : KeptPlace → Bool
is_done Done = true
is_done _ = false

abbrev pub load_of : List Block → ℕ
load_of threads = count_by (λ b. is_loaded b.place) threads

abbrev pub active_of : List Block → ℕ
active_of threads = count_by (λ b. is_active b.place) threads

abbrev pub done_of : List Block → ℕ
done_of threads = count_by (λ b. is_done b.place) threads

-- there is a block for each thread, these are the counts, and no thread from `used` on was ever made
pub record IsCounted (threads : List Block) (load active done used : ℕ) : Type 0 where
  pub all : length threads ≡ MAX_THREADS
  pub loads : load ≡ load_of threads
  pub actives : active ≡ active_of threads
  pub ends : done ≡ done_of threads
  pub most : used ≤ MAX_THREADS
  pub rest : (t : ℕ) → used ≤ t → block_at threads t ≡ unmade
