-- Words of a source where something is said of a run: instructions, threads and lines.
use Rattle.std.specs.Prelude.{ℕ, ◌==◌, if◌then◌else◌, List, [], ◌++◌, length, slice_index_or, codes, decimal}
use Rattle.sa_base.specs.declared.number.SpaceNo.{SpaceNo}
use Rattle.sa_base.specs.declared.number.ThreadNo.{ThreadNo}
use Rattle.toga_source.specs.Names.{ProgramView, NamesView, program_name}
pub use Rattle.toga_source.specs.Show.{instr_text}

-- the names of the space of this number; none where there is no such space
abbrev pub no_names : NamesView
no_names = record { name = []; mutexes = []; semaphores = []; cells = []; programs = [] }

abbrev pub names_of : List NamesView → SpaceNo → NamesView
names_of names s = slice_index_or names s.0 no_names

-- the name of a space before that of something in it; nothing where there is one space
abbrev pub in_space : List NamesView → SpaceNo → List ℕ
in_space names s = if length names == 1 then [] else (names_of names s).name ++ codes "/"

-- the name of a thread of this number, which runs the program
unfoldable pub thread_name : List NamesView → SpaceNo → ℕ → ThreadNo → List ℕ
thread_name names s program t = in_space names s ++ program_name (names_of names s).programs program ++ codes "#" ++ decimal t.0
