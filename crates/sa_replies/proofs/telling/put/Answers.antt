use Rattle.std.proofs.Common.{rules, ◌≡◌, ◌+◌, ◌-◌, List, ◌++◌, length, Option, None, sym, subst, ◌∙◌}
use Rattle.std.specs.Prelude.{replicate}
use Rattle.sa_laws.specs.State.{Runner}
use Rattle.sa_replies.proofs.Padding.{pad-more}
use Rattle.sa_replies.proofs.telling.put.Goals as goal

pub loop-held-preserved : goal.loop-held-preserved
loop-held-preserved c =
    let n = c.args.a.0 + 1 in
    let before = c.args.held.now.items in
    let P : List (Option Runner) → Type 0 = λ xs. xs ++ replicate (n - length xs) None ≡ before ++ replicate (n - length before) None in
    subst P (sym c.in_ok-push.ensures.items) (pad-more c.loop-held.held.items n (search rules) ∙ c.loop-held.invariant)
