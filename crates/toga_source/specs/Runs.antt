-- Turns, as runs of turns of one processor.
use Rattle.std.specs.Prelude.{ℕ, ◌+◌, ◌-◌, ◌==◌, if◌then◌else◌, List, [], ◌∷◌, ◌++◌, length, take, slice_get, Option, None, Some}
use Rattle.std.specs.List.{fold, enumerate_from}
use Rattle.sa_base.specs.declared.number.ProcNo.{ProcNo}
use Rattle.toga_source.specs.declared.turns.Run.{Run}

-- the run of the turn of this number alone
abbrev pub run_from : ℕ → ProcNo → Run
run_from number turn = record { processor = turn.0; from = number; to = number + 1 }

-- a turn makes the last run longer where that is of its processor; else it begins a run
abbrev pub joined : Option Run → ℕ → ProcNo → List Run
joined None number turn = run_from number turn ∷ []
joined (Some run) number turn = if run.processor == turn.0 then record run { to = number + 1 } ∷ [] else run ∷ run_from number turn ∷ []

abbrev pub with_turn : List Run → ℕ → ProcNo → List Run
with_turn runs number turn = take (length runs - 1) runs ++ joined (slice_get runs (length runs - 1)) number turn

-- the longest runs of equal turns
abbrev pub runs_of : List ProcNo → List Run
runs_of turns = fold (λ runs t. with_turn runs t.0 t.1) [] (enumerate_from 0 turns)
