use Rattle.std.proofs.Common.{rules, All, sym, ap, ◌∙◌, subst}
use Rattle.std.specs.Prelude.{filter}
use Rattle.std.proofs.lemmas.Fn.{filter_same}
use Rattle.std.proofs.lemmas.List.Elements.{All-filter}
use Rattle.sa_debug.specs.Points.{is_other, IsMarked}
use Rattle.sa_debug.proofs.points.Points.remove.Goals as goal

pub returns : goal.returns
returns c =
    filter_same _ (is_other c.args.point) _ (λ x b f' k. search rules) _ _ c.retain.ensures.filtered ∙ ap (filter (is_other c.args.point)) c.self.view_is

pub invariant_of-self : goal.invariant_of-self
invariant_of-self c =
    subst (All (IsMarked c.self.inside.threads c.self.inside.places))
    (sym (filter_same _ (is_other c.args.point) _ (λ x b f' k. search rules) _ _ c.retain.ensures.filtered))
    (All-filter (is_other c.args.point) (IsMarked c.self.inside.threads c.self.inside.places) c.self.inside.points.items c.self.invariant)
