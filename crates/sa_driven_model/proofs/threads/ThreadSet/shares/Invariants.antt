use Rattle.std.proofs.Common.{◌≡◌, drop}
use Rattle.sa_driven_model.specs.Threads.{share_one}
use Rattle.sa_driven_model.proofs.threads.ThreadSet.shares.Given as goal

abbrev pub invariant-loop-t : goal.invariant-loop-t
invariant-loop-t l = share_one (drop l.t l.self-inside.is_in) (drop l.t l.others-inside.is_in) ≡ share_one l.self-inside.is_in l.others-inside.is_in
