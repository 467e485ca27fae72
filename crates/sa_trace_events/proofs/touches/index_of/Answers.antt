use Rattle.std.proofs.Common.{ℕ, List, map, ap, sym, ◌∙◌}
use Rattle.std.proofs.lemmas.List.{drop_all}
use Rattle.sa_base.specs.declared.record.Item.{Item}
use Rattle.sa_trace_events.specs.Touches.{on_at, clock_from, lists_from, lists_of}
use Rattle.sa_trace_events.proofs.Lists.{as-many}
use Rattle.sa_trace_events.proofs.touches.index_of.Goals as goal

pub returns-clause-index : goal.returns-clause-index
returns-clause-index c =
    let items = c.args.items.now in
    let now = c.loop-at in
    let over = drop_all now.at items c.loop-at-test.false in
    let lists = sym (ap (λ (is : List Item). lists_from c.args.group (on_at now.on.items) now.clock now.at is (map (λ v. v.items) now.lists.items)) over)
    ∙ now.invariant.lists in record {
      lists = lists ∙ ap (λ (n : ℕ). lists_of c.args.group c.args.begin n items) (sym (as-many c.args.group c.args.begin c.args.count items now.lists.items lists));
      clock = sym (ap (λ (is : List Item). clock_from c.args.group now.clock is) over) ∙ now.invariant.clock;
    }

pub returns-clause-count : goal.returns-clause-count
returns-clause-count c =
    let items = c.args.items.now in
    let now = c.loop-at in
    let over = drop_all now.at items c.loop-at-test.false in
    as-many c.args.group c.args.begin c.args.count items now.lists.items
    (sym (ap (λ (is : List Item). lists_from c.args.group (on_at now.on.items) now.clock now.at is (map (λ v. v.items) now.lists.items)) over)
    ∙ now.invariant.lists)
