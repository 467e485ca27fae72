use Rattle.std.proofs.lemmas.Result.{IfOk-weaker}
use Rattle.toga_words.specs.Program as p
use Rattle.toga_words.proofs.Builders.{added}
use Rattle.toga_words.proofs.commands.program.Goals as goal

pub returns : goal.returns
unfolding p.program
returns c =
    let with_run = added _ _ _ _ _ c.in_ok-bare.ensures c.in_ok-run.ensures c.in_ok-subcommand.ensures in
    let with_explore = added _ _ _ _ _ with_run c.in_ok-explore.ensures c.in_ok-subcommand-2.ensures in
    let with_check = added _ _ _ _ _ with_explore c.in_ok-check.ensures c.in_ok-subcommand-3.ensures in
    let with_vp = added _ _ _ _ _ with_check c.in_ok-vp.ensures c.in_ok-subcommand-4.ensures in
    let with_compile = added _ _ _ _ _ with_vp c.in_ok-compile.ensures c.in_ok-subcommand-5.ensures in
    let with_show = added _ _ _ _ _ with_compile c.in_ok-show.ensures c.in_ok-subcommand-6.ensures in
    let with_picture = added _ _ _ _ _ with_show c.in_ok-picture.ensures c.in_ok-subcommand-7.ensures in
    let with_page = added _ _ _ _ _ with_picture c.in_ok-page.ensures c.in_ok-subcommand-8.ensures in
    let with_events = added _ _ _ _ _ with_page c.in_ok-events.ensures c.in_ok-subcommand-9.ensures in
    IfOk-weaker c.subcommand-10.result _ _ (λ r h. (added _ _ _ _ r with_events c.in_ok-explain.ensures h).app) c.subcommand-10.ensures
