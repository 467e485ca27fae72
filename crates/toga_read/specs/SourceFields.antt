-- What a contract sees of a source.
use Rattle.std.specs.Prelude.{ℕ, List}
use Rattle.sa_spaces.specs.Workload.{WorkloadView}
use Rattle.toga_source.specs.Names.{NamesView}

-- a workload, the names of its spaces, and the line of each instruction, in the order of the spaces, of their programs and of the places
pub record SourceView : Type 0 where
  pub workload : WorkloadView
  pub names : List NamesView
  pub lines : List ℕ
