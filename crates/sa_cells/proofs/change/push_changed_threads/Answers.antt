use Rattle.std.proofs.Common.{◌≡◌, ℕ, ◌++◌, ap, ◌∙◌, arith}
use Rattle.std.specs.List.{flat_map}
use Rattle.sa_check_moment.specs.Seen.{seen, event}
use Rattle.sa_cells.specs.Cells.{thread_cell, up_to}
use Rattle.sa_cells.specs.Change.{change_line}
use Rattle.sa_cells.proofs.Passing.{first-within, first-written, next-after, next-written}
use Rattle.sa_cells.proofs.change.push_changed_threads.Goals as goal

pub loop-next-init : goal.loop-next-init
loop-next-init c =
    let e = event c.args.event c.args.p c.args.records.now in
    record {
      within = first-within c.args.calm c.args.s c.args.made c.next_reached-next.result e.records c.next_reached-next.ensures;
      written =
          first-written c.args.event c.args.ups.now (seen c.args.before.now.moment) (seen c.args.view.now.moment) e c.args.s c.args.calm c.args.made
          c.next_reached-next.result c.args.out.now.items c.requires.follows c.requires.calm c.next_reached-next.ensures;
    }

pub loop-next-preserved : goal.loop-next-preserved
loop-next-preserved c =
    let m = seen c.args.before.now.moment in
    let n = seen c.args.view.now.moment in
    let e = event c.args.event c.args.p c.args.records.now in
    let within = next-after c.args.calm c.args.s c.loop-next.next c.args.made c.in_ok-next.next e.records c.loop-next-test.true c.in_ok-next.ensures.next in
    record {
      within = within.high;
      written =
          next-written c.args.event c.args.ups.now m n e c.args.s c.args.calm c.loop-next.next c.args.made c.in_ok-next.next c.args.out.now.items c.loop-next.out.items
          c.push_next_thread.new.out.items c.requires.follows c.requires.calm c.loop-next-test.true c.in_ok-next.ensures.next c.loop-next.invariant.written
          c.in_ok-next.ensures.line;
    }

pub loop-next-smaller : goal.loop-next-smaller
loop-next-smaller c =
    let e = event c.args.event c.args.p c.args.records.now in
    let within = next-after c.args.calm c.args.s c.loop-next.next c.args.made c.in_ok-next.next e.records c.loop-next-test.true c.in_ok-next.ensures.next in
    let low = within.low in
    let high = within.high in
    omega (arith, low, high, c.loop-next-test.true)

pub returns : goal.returns
returns c =
    let f = (change_line c.args.event c.args.ups.now (seen c.args.before.now.moment) (seen c.args.view.now.moment)) in
    let same : c.loop-next.next ≡ c.args.made = omega (arith, c.loop-next-test.false, c.loop-next.invariant.within) in
    c.loop-next.invariant.written
    ∙ ap (λ (k : ℕ). c.args.out.now.items ++ flat_map f (up_to (thread_cell c.args.s) k)) (same ∙ c.requires.made)
