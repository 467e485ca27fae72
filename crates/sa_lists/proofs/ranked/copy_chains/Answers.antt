use Rattle.std.proofs.Common.{◌≡◌, ℕ, ◌-◌, ◌*◌, List, [], ◌++◌, take, drop, sym, ap, ◌∙◌, append_assoc, arith}
use Rattle.std.proofs.lemmas.List.{get_or-drop}
use Rattle.sa_links.specs.Lists.{list_at}
use Rattle.sa_lists.specs.Chains.{width_of, joined}
use Rattle.sa_lists.proofs.Copying.{joined-greatest}
use Rattle.sa_lists.proofs.ranked.copy_chains.Goals as goal

pub loop-rank-preserved : goal.loop-rank-preserved
loop-rank-preserved c =
    let chains = c.args.chains.now.lists in
    let first = c.args.list * width_of c.args.kind in
    let rank = c.loop-rank.rank - 1 in
    let some = c.loop-rank-test.true in
    let rest : List ℕ = joined (take rank (drop first chains)) in
    let chain : list_at (drop first chains) rank ≡ list_at chains c.chain_of.result =
    get_or-drop first chains rank [] ∙ ap (list_at chains) (sym c.chain_of.ensures) in
    let greatest : joined (take c.loop-rank.rank (drop first chains)) ≡ list_at chains c.chain_of.result ++ rest =
    joined-greatest (drop first chains) c.loop-rank.rank rank (omega arith) ∙ ap (λ (z : List ℕ). z ++ rest) chain in
    record {
      below = omega (arith, c.loop-rank.invariant.below);
      all =
          ap (λ (z : List ℕ). z ++ rest) c.in_ok-copy_list.ensures
          ∙ append_assoc c.loop-rank.out.items (list_at chains c.chain_of.result) rest
          ∙ ap (λ (z : List ℕ). c.loop-rank.out.items ++ z) (sym greatest)
          ∙ c.loop-rank.invariant.all;
    }
