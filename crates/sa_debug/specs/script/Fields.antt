-- What the pieces after the first word of a line say: spaces, threads, places, processors and numbers of turns.
use Rattle.std.specs.Prelude.{ℕ, ◌-◌, nat_lt, List, [], ◌∷◌, length, Result, Ok, Err, if◌then◌else◌}
use Rattle.sa_base.specs.declared.limits.TheConstants.{MAX_EVENTS, MAX_THREADS}
use Rattle.sa_base.specs.declared.number.ProcNo.{ProcNo}
use Rattle.sa_base.specs.declared.number.SpaceNo.{SpaceNo}
use Rattle.sa_base.specs.declared.number.ThreadNo.{ThreadNo}
use Rattle.sa_base.specs.declared.refusal.Cause.{Cause}
use Rattle.sa_base.specs.declared.refusal.Cause.TheVariants.{BadNumber, NoSuchName, Missing}
use Rattle.sa_instr.specs.declared.limits.TheConstants.{MAX_INSTRUCTIONS}
use Rattle.sa_spaces.specs.Workload.{WorkloadView}
use Rattle.sa_text.specs.Number.{number_of}
use Rattle.sa_trace.specs.Pieces.{and_then, or_cause, with_rest, number_in}
use Rattle.sa_debug.specs.declared.script.command.Point.{Point}
use Rattle.sa_debug.specs.declared.script.fields.Named.{Named}

-- the pieces of a line that are still to be read
abbrev pub Pieces : Type 0
Pieces = List (List ℕ)

-- what is read from the front of some pieces, with the pieces that are left
abbrev pub Taken : Type 0 → Type 0
Taken A = Result (A × Pieces) Cause

-- what the next piece says
abbrev pub taken : {A : Type 0} → (List ℕ → Result A Cause) → Pieces → Taken A
taken read [] = Err Missing
taken read (piece ∷ rest) = with_rest (read piece) rest

-- one after the other
abbrev pub both : {A B : Type 0} → (Pieces → Taken A) → (Pieces → Taken B) → Pieces → Taken (A × B)
both first second pieces = and_then (first pieces) (λ a. and_then (second a.1) (λ b. Ok ((a.0, b.0), b.1)))

-- what is made of it
abbrev pub made : {A B : Type 0} → (A → B) → Taken A → Taken B
made make r = and_then r (λ a. Ok (make a.0, a.1))

-- a space that is declared
abbrev pub declared : WorkloadView → ℕ → Result SpaceNo Cause
declared w n = if nat_lt n (length w.spaces) then Ok (record { 0 = n }) else Err NoSuchName

abbrev pub space_in : WorkloadView → List ℕ → Result SpaceNo Cause
space_in w piece = and_then (or_cause (number_of piece) BadNumber) (declared w)

-- a thread, whether it was made or not; a place, whether there is an instruction or not; a processor; a number of turns
abbrev pub thread_in : List ℕ → Result ThreadNo Cause
thread_in piece = and_then (number_in 0 (MAX_THREADS - 1) piece) (λ n. Ok (record { 0 = n }))

abbrev pub place_in : List ℕ → Result ℕ Cause
place_in piece = number_in 0 (MAX_INSTRUCTIONS - 1) piece

abbrev pub proc_in : WorkloadView → List ℕ → Result ProcNo Cause
proc_in w piece = and_then (number_in 0 (w.processors - 1) piece) (λ n. Ok (record { 0 = n }))

abbrev pub turns_in : List ℕ → Result ℕ Cause
turns_in piece = number_in 1 MAX_EVENTS piece

-- a space and a thread of it; and a breakpoint
abbrev pub named : SpaceNo × ThreadNo → Named
named x = record { space = x.0; thread = x.1 }

abbrev pub thread_at : WorkloadView → Pieces → Taken Named
thread_at w pieces = made named (both (taken (space_in w)) (taken thread_in) pieces)

abbrev pub point : Named × ℕ → Point
point x = record { space = x.0.space; thread = x.0.thread; place = x.1 }

abbrev pub point_at : WorkloadView → Pieces → Taken Point
point_at w pieces = made point (both (thread_at w) (taken place_in) pieces)
