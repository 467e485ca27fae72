use Rattle.std.proofs.Common.{◌≡◌, take, map}
use Rattle.toga_read.specs.Names.{label_of}
use Rattle.toga_read.proofs.names.labels_of.Given as goal

abbrev pub invariant-loop-draft : goal.invariant-loop-draft
invariant-loop-draft l = l.labels.items ≡ map label_of (take l.draft-index l.drafts)
