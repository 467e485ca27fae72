use Rattle.std.proofs.Common.{◌≡◌, ◌++◌, take}
use Rattle.sa_package_model.proofs.sections.Sections.append.Given as goal

abbrev pub invariant-loop-frame : goal.invariant-loop-frame
invariant-loop-frame l = l.self ≡ l.initial.self ++ take l.frame-index l.frame-items
