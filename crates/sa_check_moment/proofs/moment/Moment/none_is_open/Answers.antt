use Rattle.std.proofs.Common.{◌≡◌, ◌<◌, ◌∙◌, List, length, take, subst, refl, arith}
use Rattle.std.specs.Prelude.{All}
use Rattle.std.proofs.lemmas.List.{take_all}
use Rattle.std.proofs.lemmas.List.Elements.{All-more}
use Rattle.sa_laws.specs.Readings.{Listed, IsLocked, ready_of}
use Rattle.sa_check_moment.specs.Seen.{seen}
use Rattle.sa_check_moment.proofs.OpenLemmas.{none-from_each}
use Rattle.sa_check_moment.proofs.moment.Moment.none_is_open.Goals as goal

pub loop-x-preserved : goal.loop-x-preserved
loop-x-preserved c =
    let xs = c.listed-x-items.result.now in
    let r = (seen c.args.self.now).readings in
    let within : c.loop-x.x-index < length xs = omega arith in
    All-more (λ (x : Listed). IsLocked r c.args.s x.list) xs c.loop-x.x-index c.x-item.result within c.loop-x.invariant
    (subst (λ (x : Listed). IsLocked r c.args.s x.list) (c.x.view_is ∙ c.x-item.is) (c.if-not-is_locked.ensures.0 refl))

pub returns : goal.returns
returns c =
    let r = (seen c.args.self.now).readings in
    let all : take c.loop-x.x-index c.listed-x-items.result.now ≡ ready_of r c.args.s = take_all _ _ c.loop-x-test.false ∙ c.listed-x-items.ensures in
    (λ h. none-from_each r c.args.s (subst (λ (xs : List Listed). All (λ (x : Listed). IsLocked r c.args.s x.list) xs) all c.loop-x.invariant), λ h. refl)
