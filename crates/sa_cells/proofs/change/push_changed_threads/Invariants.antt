use Rattle.std.proofs.Common.{◌≡◌, ◌≤◌, ◌-◌, ◌++◌}
use Rattle.std.specs.List.{flat_map}
use Rattle.sa_check_moment.specs.Seen.{seen}
use Rattle.sa_cells.specs.Cells.{thread_cell, up_to}
use Rattle.sa_cells.specs.Change.{change_line}
use Rattle.sa_cells.proofs.change.push_changed_threads.Given as goal

abbrev pub invariant-loop-next : goal.invariant-loop-next
invariant-loop-next l = record {
  within : l.next ≤ l.fn.made;
  written : l.out.items ≡ l.initial.out.items
      ++ flat_map (change_line l.event l.ups (seen l.before.moment) (seen l.view.moment)) (up_to (thread_cell l.s) l.next);
}

abbrev pub decreases-loop-next : goal.decreases-loop-next
decreases-loop-next l = l.fn.made - l.next
