use Rattle.std.proofs.Common.{rules, ◌≡◌, ℕ, ◌+◌, ◌<◌, get_or, None, refl, sym, ap, ◌∙◌, subst, arith}
use Rattle.sa_links.specs.declared.node.Node.{Node, roll-Node, rolls-Node'}
use Rattle.sa_links.specs.Wiring.{next_of, number_at, number_of, numbers_of, prev_of}
use Rattle.sa_links.proofs.Numbering.{numbered_more, linked_more, all_numbered, all_linked}
use Rattle.sa_links.proofs.start.numbered.Goals as goal

pub loop-index-preserved : goal.loop-index-preserved
loop-index-preserved c =
    let begin = c.begin_of-begin.result in
    let I = c.loop-index.invariant in
    let is-node = rolls-Node' (record { prev = begin; next = begin; number = c.number_at.result }) in
    let node = roll-Node (record { prev = begin; next = begin; number = c.number_at.result }) in
    let same = sym c.push_reserved.ensures.items in
    record {
      block = search rules;
      room = search rules;
      sizes = refl;
      len = search rules;
      size = search rules;
      numbered = subst (λ xs. (k : ℕ) → k < c.loop-index.index + 1 → get_or (numbers_of xs) k None ≡ number_at c.args.count k) same
          (numbered_more c.args.count c.loop-index.index c.loop-index.nodes.items node I.size (ap number_of is-node ∙ c.number_at.ensures) I.numbered);
      linked = subst (λ xs. (k : ℕ) (d : Node) → k < c.loop-index.index + 1 → (prev_of (get_or xs k d) ≡ begin.ptr) × (next_of (get_or xs k d) ≡ begin.ptr)) same
          (linked_more begin.ptr c.loop-index.index c.loop-index.nodes.items node I.size (ap prev_of is-node, ap next_of is-node) I.linked);
    }

pub returns-clause-numbered : goal.returns-clause-numbered
returns-clause-numbered c = all_numbered c.args.count c.loop-index.index c.loop-index.nodes.items c.loop-index.invariant.size (omega arith) c.loop-index.invariant.numbered

pub returns-clause-linked : goal.returns-clause-linked
returns-clause-linked c = all_linked c.begin_of-begin.result.ptr _ c.loop-index.index c.loop-index.nodes.items c.loop-index.invariant.size c.loop-index.invariant.block c.loop-index.invariant.linked
