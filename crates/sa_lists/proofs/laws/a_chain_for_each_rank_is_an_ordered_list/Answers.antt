use Rattle.sa_lists.proofs.Orders.{by_rank-pushed, first-of-greatest, last-of-least, by_rank-ordered}
use Rattle.sa_lists.proofs.laws.a_chain_for_each_rank_is_an_ordered_list.Goals as goal

pub returns : goal.returns
returns c = record {
  pushed = by_rank-pushed;
  first = first-of-greatest;
  last = last-of-least;
  ordered = by_rank-ordered;
}
