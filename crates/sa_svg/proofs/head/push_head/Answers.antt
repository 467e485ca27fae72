use Rattle.std.proofs.lemmas.Result.{on_ok_weaker}
use Rattle.sa_svg.specs.Head.{legend_text}
use Rattle.sa_svg.proofs.Appends.{head-appended}
use Rattle.sa_svg.proofs.head.push_head.Goals as goal

pub returns : goal.returns
unfolding legend_text
returns c =
    on_ok_weaker c.push_names.result
    (λ all. head-appended c.args.layout c.args.window c.args.out.now.items c.push_opening.new.out.items c.push_style.new.out.items c.push_ground.new.out.items
    c.push_samples.new.out.items c.push_spaces_legend.new.out.items c.push_ticks.new.out.items c.push_names.new.out.items
    c.in_ok-push_opening.ensures c.in_ok-push_style.ensures c.in_ok-push_ground.ensures c.in_ok-push_samples.ensures c.in_ok-push_spaces_legend.ensures
    c.in_ok-push_ticks.ensures all)
    c.push_names.ensures
