-- What the pieces after the first word of a reply say: threads, processors and demands.
use Rattle.std.specs.Prelude.{ℕ, ◌-◌, nat_lt, List, [], ◌∷◌, codes, Option, Some, None, Result, Ok, Err, if◌then◌else◌}
use Rattle.std.specs.Str.{bytes_eq}
use Rattle.sa_base.specs.declared.limits.TheConstants.{MAX_THREADS}
use Rattle.sa_base.specs.declared.number.ProcNo.{ProcNo}
use Rattle.sa_base.specs.declared.number.ThreadNo.{ThreadNo}
use Rattle.sa_base.specs.declared.refusal.Cause.{Cause}
use Rattle.sa_base.specs.declared.refusal.Cause.TheVariants.{NoSuchName, Missing}
use Rattle.sa_trace.specs.Pieces.{and_then, with_rest, number_in}
use Rattle.sa_replies.specs.declared.fields.Names.{Names}

-- the pieces of a line that are still to be read
abbrev pub Pieces : Type 0
Pieces = List (List ℕ)

-- what is read from the front of some pieces, with the pieces that are left
abbrev pub Taken : Type 0 → Type 0
Taken A = Result (A × Pieces) Cause

-- what the next piece says
abbrev pub taken : {A : Type 0} → (List ℕ → Result A Cause) → Pieces → Taken A
taken read [] = Err Missing
taken read (piece ∷ rest) = with_rest (read piece) rest

-- what is made of it
abbrev pub made : {A B : Type 0} → (A → B) → Taken A → Taken B
made make r = and_then r (λ a. Ok (make a.0, a.1))

-- a thread that was made
abbrev pub made_thread : Names → ℕ → Result ThreadNo Cause
made_thread names n = if nat_lt n names.threads then Ok (record { 0 = n }) else Err NoSuchName

abbrev pub thread_in : Names → List ℕ → Result ThreadNo Cause
thread_in names piece = and_then (number_in 0 (MAX_THREADS - 1) piece) (made_thread names)

-- the same, or a dash for none
abbrev pub thread_or_none_in : Names → List ℕ → Result (Option ThreadNo) Cause
thread_or_none_in names piece =
    if bytes_eq piece (codes "-") then Ok None else and_then (thread_in names piece) (λ t. Ok (Some t))

-- a processor, and a number of processors
abbrev pub proc_in : Names → List ℕ → Result ProcNo Cause
proc_in names piece = and_then (number_in 0 (names.processors - 1) piece) (λ n. Ok (record { 0 = n }))

abbrev pub demand_in : Names → List ℕ → Result ℕ Cause
demand_in names piece = number_in 0 names.processors piece
