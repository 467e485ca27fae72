use Rattle.std.proofs.Common.{◌≡◌, map, take}
use Rattle.std.specs.List.{fold}
use Rattle.sa_check.specs.Items.{what_of}
use Rattle.toga_kinds.specs.declared.kind.Kind.TheVariants.{Kernel}
use Rattle.toga_kinds.specs.Kinds.{first_of, kind_of_record}
use Rattle.toga_kinds.proofs.history.kind_of.Given as goal

abbrev pub invariant-loop-item : goal.invariant-loop-item
invariant-loop-item l =
    l.kind ≡ fold (λ kind x. first_of kind (kind_of_record x)) (first_of Kernel (kind_of_record l.first.what)) (map what_of (take l.item-index l.others))
