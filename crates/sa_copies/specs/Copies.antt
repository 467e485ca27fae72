-- The package's code with the copies of its sections, and where these are.
use Rattle.std.specs.Prelude.{ℕ, ◌+◌, Bool, true, false, List, [], ◌∷◌, ◌++◌, Option, Some, None, slice_index_or, if◌then◌else◌}
use Rattle.std.specs.List.{filter_map}
use Rattle.sa_code.specs.declared.code.Op.{Op}
use Rattle.sa_code.specs.declared.code.Op.TheVariants.{TakePush, Push, TakePop, Pop, Free, Leave, Yield}
use Rattle.sa_code.specs.Routines.{routine_ops}

-- what stands in a copy for an operation: nothing for a take, and control is given back at the end
abbrev pub copied : Op → Option Op
copied TakePush = None
copied Push = Some Push
copied TakePop = None
copied Pop = Some Pop
copied Free = Some Free
copied Leave = Some Yield
copied Yield = None

abbrev pub with_copies : List Op → List Op
with_copies code = code ++ filter_map copied code

-- the code in use
abbrev pub package_ops : List Op
package_ops = with_copies routine_ops

-- for each place the section in which it is, or in whose copy
abbrev pub sections : List (Option ℕ)
sections = None ∷ Some 0 ∷ Some 0 ∷ None ∷ None ∷ Some 1 ∷ Some 1 ∷ None ∷ Some 0 ∷ Some 0 ∷ None ∷ Some 1 ∷ Some 1 ∷ None ∷ []

abbrev pub section_at : ℕ → Option ℕ
section_at pc = slice_index_or sections pc None

-- for each place of a section or a copy the place of the same operation in the copy
abbrev pub copy_places : List (Option ℕ)
copy_places = None ∷ Some 8 ∷ Some 9 ∷ None ∷ None ∷ Some 11 ∷ Some 12 ∷ None ∷ Some 8 ∷ Some 9 ∷ None ∷ Some 11 ∷ Some 12 ∷ None ∷ []

abbrev pub copy_at : ℕ → Option ℕ
copy_at pc = slice_index_or copy_places pc None

-- the kinds of operations: those of a section, ends, ends of routines, takes
abbrev pub is_in_section : Op → Bool
is_in_section TakePush = false
is_in_section Push = true
is_in_section TakePop = false
is_in_section Pop = true
is_in_section Free = true
is_in_section Leave = false
is_in_section Yield = false

abbrev pub is_end : Op → Bool
is_end Leave = true
is_end Yield = true
is_end _ = false

abbrev pub is_leave : Op → Bool
is_leave Leave = true
is_leave _ = false

abbrev pub is_take : Op → Bool
is_take TakePush = true
is_take TakePop = true
is_take _ = false

-- the place after the last end of a routine among operations that begin at `at`, or `last`
abbrev pub behind_last_leave : ℕ → ℕ → List Op → ℕ
behind_last_leave at last [] = last
behind_last_leave at last (op ∷ ops) = behind_last_leave (at + 1) (if is_leave op then at + 1 else last) ops
