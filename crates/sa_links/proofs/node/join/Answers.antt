use Rattle.sa_links.proofs.Joining.{join_wires, join_relinked}
use Rattle.sa_links.proofs.node.join.Goals as goal

pub returns-clause-wires : goal.returns-clause-wires
returns-clause-wires c = join_wires _ _ _ _ _ _ c.args.front c.args.back c.at-node.result.now c.at-node-2.result.now c.requires.front c.requires.back
    c.put.ensures.stays c.put-2.ensures.stays c.at-node.ensures c.put.ensures.items c.at-node-2.ensures c.put-2.ensures.items

pub returns-clause-relinked : goal.returns-clause-relinked
returns-clause-relinked c = join_relinked _ _ _ _ _ _ c.args.front c.args.back c.at-node.result.now c.at-node-2.result.now c.requires.front c.requires.back
    c.put.ensures.stays c.put-2.ensures.stays c.at-node.ensures c.put.ensures.items c.at-node-2.ensures c.put-2.ensures.items
