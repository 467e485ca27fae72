use Rattle.std.proofs.Common.{◌≡◌, ◌++◌, drop, length}
use Rattle.sa_core_model.specs.Run.{started_from}
use Rattle.sa_machine.proofs.users.Users.start.Given as goal

-- what is left to be started makes up the rest
abbrev pub invariant-loop-s : goal.invariant-loop-s
invariant-loop-s g l = record {
  users : l.users ++ started_from g.U.UserLevel.calls l.w l.s (drop l.s l.w.spaces) ≡ started_from g.U.UserLevel.calls l.w 0 l.w.spaces;
  len : length l.users ≡ l.s;
}
