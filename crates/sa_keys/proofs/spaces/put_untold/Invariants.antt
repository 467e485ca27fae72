use Rattle.std.proofs.Common.{◌≡◌, ◌++◌, length, take}
use Rattle.std.specs.List.{flat_map}
use Rattle.sa_package_keys.specs.Codes.{number}
use Rattle.sa_core.specs.View.{machine}
use Rattle.sa_keys.specs.Parts.{note_bytes}
use Rattle.sa_keys.proofs.spaces.put_untold.Given as goal

abbrev pub invariant-loop-note : goal.invariant-loop-note
invariant-loop-note g l =
    l.key.items ≡ (l.fn.key.items ++ number (length l.untold))
    ++ flat_map (note_bytes g.U.Keyed.plain g.U.Keyed.context_key (machine l.core) l.s.0) (take l.note-index l.untold)
