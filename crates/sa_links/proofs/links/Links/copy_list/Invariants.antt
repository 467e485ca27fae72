use Rattle.std.proofs.Common.{◌+◌, ◌-◌, length, IfSome}
use Rattle.sa_links.specs.Lists.{IsListed, list_at}
use Rattle.sa_links.proofs.Copying.{IsCopied}
use Rattle.sa_links.proofs.links.Links.copy_list.Given as goal

abbrev pub invariant-loop-next : goal.invariant-loop-next
invariant-loop-next l = record {
  copied : IsCopied l.self l.list l.fn.out.items l.out.items l.next;
  listed : IfSome l.next (λ node. IsListed l.self node);
}

abbrev pub decreases-loop-next : goal.decreases-loop-next
decreases-loop-next l = length l.fn.out.items + length (list_at l.self.lists l.list) - length l.out.items
