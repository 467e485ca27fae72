use Rattle.std.proofs.Common.{rules, tests}
use Rattle.std.proofs.lemmas.Iterator.{YieldsList-from_slice}
use Rattle.std.proofs.lemmas.Iterator.Search.{position_from_yields_List}
use Rattle.std.specs.Str.{bytes_eq}
use Rattle.sa_states.specs.declared.groups.Group.{Group}
use Rattle.sa_states.proofs.groups.place_of.Goals as goal

pub returns : goal.returns
returns c =
    position_from_yields_List (λ (g : Group). bytes_eq g.key.items c.args.key.now) _ _ c.position.result c.position.ensures.ran
    (YieldsList-from_slice c.args.groups.now cc) (λ x b q k. search (rules, tests))
