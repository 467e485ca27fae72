use Rattle.std.proofs.Common.{◌*◌, [], replicate, ap, ◌∙◌, add-zero}
use Rattle.sa_links.specs.Lists.{Lists}
use Rattle.sa_lists.specs.Chains.{width_of}
use Rattle.sa_lists.proofs.Storage.{opened-ranked, opened-value}
use Rattle.sa_lists.proofs.ranked.RankedLists.new.Goals as goal

pub invariant_of-result : goal.invariant_of-result
invariant_of-result c =
    opened-ranked c.args.kind c.args.lists c.args.threads c.in_ok-chains.chains.lists c.in_ok-filled.filled.items c.in_ok-ranks.ranks.items
    (ap (λ (l : Lists). l.lists) c.in_ok-chains.ensures ∙ ap (λ n. replicate n []) (c.chain_of.ensures ∙ add-zero (c.args.lists * width_of c.args.kind)))
    c.in_ok-filled.ensures.0 c.in_ok-filled.ensures.1 c.in_ok-ranks.ensures

pub returns : goal.returns
returns c =
    opened-value c.args.kind c.args.lists c.args.threads c.in_ok-chains.chains c.in_ok-filled.filled.items c.in_ok-ranks.ranks.items c.chain_of.result
    c.chain_of.ensures
    (c.in_ok-chains.ensures ∙ ap (λ n. record { nodes = n; lists = replicate c.chain_of.result [] }) c.from.ensures) c.in_ok-filled.ensures.0
    ∙ ap (λ rs. record { lists = record { nodes = c.args.threads; lists = replicate c.args.lists [] }; ranks = rs }) c.in_ok-ranks.ensures
