use Rattle.std.proofs.Common.{◌≡◌, take, Ok}
use Rattle.toga_read.specs.Outcome.{each}
use Rattle.toga_read.specs.Spaces.{space_of}
use Rattle.toga_read.proofs.spaces.spaces_of.Given as goal

abbrev pub invariant-loop-draft : goal.invariant-loop-draft
invariant-loop-draft l = each space_of (take l.draft-index l.drafts) ≡ Ok l.spaces.items
