-- The source of a draft.
use Rattle.std.specs.Prelude.{ℕ, nat_le, if◌then◌else◌, length, map, Result, Ok, Err}
use Rattle.std.specs.List.{flat_map}
use Rattle.sa_spaces.specs.Workload.{WorkloadView}
use Rattle.sa_workload.specs.Text.{text_of}
use Rattle.toga_diagnostic.specs.declared.cause.Cause.TheVariants as cause
use Rattle.toga_diagnostic.specs.declared.cause.Fault.{Fault}
use Rattle.toga_diagnostic.specs.declared.cause.Part.TheVariants as part
use Rattle.toga_draft.specs.Draft.{DraftView}
use Rattle.toga_read.specs.declared.source.TheConstants.{MAX_TEXT}
use Rattle.toga_draft.specs.Reading.{◌>>=◌}
use Rattle.toga_read.specs.Names.{space_lines, space_names}
use Rattle.toga_read.specs.SourceFields.{SourceView}
use Rattle.toga_read.specs.Spaces.{workload_of}

-- the workload text has so many bytes, which are too many: told at the last line
abbrev pub size_fault : ℕ → ℕ → Fault
size_fault line size = record { line = line; column = 1; width = 1; cause = cause.Part (part.Size size) }

abbrev pub source_with : DraftView → WorkloadView → SourceView
source_with draft w = record { workload = w; names = map space_names draft.spaces; lines = flat_map space_lines draft.spaces }

-- the source of this workload, if its text is not too long
unfoldable pub sized : DraftView → WorkloadView → Result SourceView Fault
sized draft w =
    let size : ℕ = length (text_of w) in if nat_le size MAX_TEXT then Ok (source_with draft w) else Err (size_fault draft.last size)

-- the source of a draft; of names the first fault in the order of the lines, else that of its size
unfoldable pub source_of : DraftView → Result SourceView Fault
source_of draft = workload_of draft >>= sized draft
