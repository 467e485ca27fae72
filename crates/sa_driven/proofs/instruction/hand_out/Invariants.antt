use Rattle.std.proofs.Common.{◌≡◌, length}
use Rattle.sa_fast.specs.Work.{work_of}
use Rattle.sa_driven_model.specs.Threads.{with_all}
use Rattle.sa_driven_model.specs.Conditions.{IsAlone}
use Rattle.sa_driven.proofs.instruction.hand_out.Given as goal

abbrev pub invariant-loop-left : goal.invariant-loop-left
invariant-loop-left l = record {
  alone : IsAlone l.works l.left;
  hand : with_all l.hand (work_of l.works l.left) ≡ with_all l.initial.hand (work_of l.initial.works l.initial.left);
  handed : with_all l.handed (work_of l.works l.left) ≡ with_all l.initial.handed (work_of l.initial.works l.initial.left);
}

abbrev pub decreases-loop-left : goal.decreases-loop-left
decreases-loop-left l = length (work_of l.works l.left)
