use Rattle.std.proofs.Common.{◌≡◌, ◌+◌, ◌≤◌, [], ◌++◌, length, map, slice_set}
use Rattle.sa_base.specs.declared.record.Record.TheVariants.{GiveBack}
use Rattle.sa_base.specs.Items.{items_at}
use Rattle.sa_acts.specs.Table.{acts_of, taken_in}
use Rattle.sa_kernel_model.specs.Entries.{without_acts}
use Rattle.sa_kernel.proofs.entries.give_all_back.Given as goal

-- what is left to be given back makes up the rest
abbrev pub invariant-loop : goal.invariant-loop
invariant-loop g l =
    let left = taken_in (acts_of l.acts) l.s.0 in
    let all = taken_in (acts_of l.fn.acts) l.s.0 in record {
      acts : without_acts left (acts_of l.acts).acts ≡ without_acts all (acts_of l.fn.acts).acts;
      taken : slice_set l.acts.taken l.s.0 [] ≡ slice_set l.fn.acts.taken l.s.0 [];
      items : l.trace.items ++ items_at l.event l.p (map GiveBack left) ≡ l.fn.trace.items ++ items_at l.event l.p (map GiveBack all);
      left : length left + l.counter ≡ length all;
      spare : l.acts.spare ≡ l.fn.acts.spare;
      used : (acts_of l.acts).used ≤ (acts_of l.fn.acts).used;
      cost : l.fn.trace.spare ≤ l.trace.spare + l.counter;
      same : l.trace.spare + length l.trace.items ≡ l.fn.trace.spare + length l.fn.trace.items;
    }
