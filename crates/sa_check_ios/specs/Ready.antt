-- What each record does to the ready lists.
use Rattle.std.specs.Prelude.{ℕ, List, [], ◌∷◌, ◌++◌, replicate, filter, slice_index_or, slice_set}
use Rattle.sa_base.specs.declared.number.ProcNo.{ProcNo}
use Rattle.sa_base.specs.declared.number.SpaceNo.{SpaceNo}
use Rattle.sa_base.specs.declared.number.ThreadNo.{ThreadNo}
use Rattle.sa_laws.specs.Readings.{Listed, first_listed}
use Rattle.sa_laws.specs.Record.{is_other_thread}

-- the ready threads of a space, in the order of their ready records
abbrev pub listed_at : List (List Listed) → SpaceNo → List Listed
listed_at ready s = slice_index_or ready s.0 []

-- at the opening thread 0 of each space is ready in list 0
abbrev pub first_ready : ℕ → List (List Listed)
first_ready spaces = replicate spaces (first_listed ∷ [])

-- a thread is ready in a list; a thread is run
abbrev pub with_ready : List (List Listed) → SpaceNo → ThreadNo → ProcNo → List (List Listed)
with_ready ready s t l = slice_set ready s.0 (listed_at ready s ++ record { thread = t; list = l } ∷ [])

abbrev pub without_ready : List (List Listed) → SpaceNo → ThreadNo → List (List Listed)
without_ready ready s t = slice_set ready s.0 (filter (is_other_thread t) (listed_at ready s))
