-- What the effect of an instruction asks for.
use Rattle.std.specs.Prelude.{◌≡◌, ◌≢◌, ℕ, ◌+◌, ◌^◌, ◌<◌, ◌≤◌, List, [], length, map, Vec, vec_capacity}
use Rattle.std.specs.declared.alloc.Global.{Global}
use Rattle.sa_base.specs.declared.number.ThreadNo.{ThreadNo}
use Rattle.sa_base.specs.declared.limits.TheConstants.{MAX_THREADS}
use Rattle.sa_instr.specs.declared.instr.Instr.{Instr}
use Rattle.sa_instr.specs.declared.instr.Instr.TheVariants.{End}
use Rattle.sa_instr.specs.Instr.{NamesDeclared}
use Rattle.sa_spaces.specs.Space.{SpaceView}
use Rattle.sa_sync.specs.Sync.{Sync, WaitsNowhere}
use Rattle.sa_laws.specs.State.{Thread, SpaceState}
use Rattle.sa_replay.specs.Running.{instr_in, IsAt, HasDeclared, HasCount}

abbrev pub space : List Thread → Sync → SpaceState
space threads sync = record { threads = threads; sync = sync }

-- threads by their numbers
abbrev pub named : List ℕ → List ThreadNo
named numbers = map (λ u. record { 0 = u }) numbers

-- the list is empty, and has room for each thread of a space
pub record HasRoom (roused : Vec ThreadNo Global) : Type 0 where
  pub empty : roused.items ≡ []
  pub room : MAX_THREADS ≤ vec_capacity roused

-- thread t, which is this one, can do this instruction
pub record CanDo (def : SpaceView) (x : SpaceState) (t : ThreadNo) (thread : Thread) (run : Instr) : Type 0 where
  pub made : t.0 < length x.threads
  pub few : length x.threads ≤ MAX_THREADS
  pub joiners : length x.sync.joiners ≡ MAX_THREADS
  pub nowhere : WaitsNowhere x.sync t.0
  pub declared : HasDeclared def x.sync
  pub at : IsAt def thread
  pub instr : run ≡ instr_in def thread
  pub next : run ≢ End → thread.pc + 1 < 2 ^ 16
  pub named : NamesDeclared def.mutexes (length def.sems) def.cells (length def.programs) run
  pub count : HasCount x.sync run
