use Rattle.std.proofs.Common.{take, ◌∙◌, ap, sym, ◌++◌, arith}
use Rattle.std.proofs.lemmas.List.{length-take-le}
use Rattle.sa_package_keys.specs.Codes.{number, list}
use Rattle.sa_package_keys.proofs.Loops.{so_far-none, so_far-kept, so_far-all}
use Rattle.sa_package_keys.proofs.FirstRanks.{first_ranks, length-first_ranks, get_or-first_ranks}
use Rattle.sa_package_keys.proofs.ranks.put_ranks.Goals as goal

pub loop-t-init : goal.loop-t-init
loop-t-init c =
    let lists = c.args.lists.now in let ranks = first_ranks lists.ranks lists.threads in
    let all = length-first_ranks lists.ranks lists.threads in
    let count = length-take-le c.kept_ranks-kept.result ranks (omega arith) in
    so_far-none number (take c.kept_ranks-kept.result ranks) _ _ _ (omega arith) c.in_ok-put_number.ensures

pub loop-t-preserved : goal.loop-t-preserved
loop-t-preserved c =
    let lists = c.args.lists.now in let ranks = first_ranks lists.ranks lists.threads in
    let all = length-first_ranks lists.ranks lists.threads in
    let mid = c.loop-t.key.items in
    so_far-kept number ranks 0 c.kept_ranks-kept.result c.loop-t.t _ _ _ (omega arith) (omega arith) c.loop-t.invariant
    (c.in_ok-put_number-2.ensures ∙ ap (λ n. mid ++ number n) (c.from-in-loop-t.ensures ∙ c.rank.ensures ∙ sym (get_or-first_ranks lists.ranks lists.threads c.loop-t.t (omega arith))))

pub returns : goal.returns
returns c =
    let lists = c.args.lists.now in let ranks = first_ranks lists.ranks lists.threads in
    let all = length-first_ranks lists.ranks lists.threads in
    let count = length-take-le c.kept_ranks-kept.result ranks (omega arith) in
    so_far-all number (take c.kept_ranks-kept.result ranks) c.loop-t.t _ _ (omega arith) c.loop-t.invariant
    ∙ ap (λ ys. c.args.key.now.items ++ list number ys) (sym c.kept_ranks-kept.ensures.kept)
