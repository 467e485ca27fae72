use Rattle.std.proofs.Common.{◌≡◌, ◌≤◌, List, ℕ, ap, subst, arith, rules}
use Rattle.sa_links.specs.Lists.{Lists, count_in, count_in_all}
use Rattle.sa_virtual.specs.Virtual.{opening_queue}
use Rattle.sa_vp_model.specs.Board.{act_numbers}
use Rattle.sa_vp.proofs.Opening.{queue-below, queue-once}
use Rattle.sa_vp.proofs.start.opening_queue.Goals as goal

pub fill-requires-clause-below : goal.fill-requires-clause-below
fill-requires-clause-below c = λ u some.
    let numbers : c.as_slice.result.now ≡ act_numbers (opening_queue c.args.w.now) = search rules in
    let nodes = ap (λ (x : Lists). x.nodes) c.in_ok-queue.ensures in
    omega (arith, nodes, queue-below c.args.w.now c.ranges-2.ensures u (subst (λ (xs : List ℕ). 1 ≤ count_in u xs) numbers some))

pub fill-requires-clause-once : goal.fill-requires-clause-once
fill-requires-clause-once c = λ u.
    let numbers : c.as_slice.result.now ≡ act_numbers (opening_queue c.args.w.now) = search rules in
    let lists = ap (λ (x : Lists). count_in_all u x.lists) c.in_ok-queue.ensures in
    omega (arith, lists, ap (count_in u) numbers, queue-once c.args.w.now c.ranges-2.ensures u)
