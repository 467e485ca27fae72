use Rattle.std.proofs.Common.{◌≡◌, List, length, ap, ◌∙◌, arith}
use Rattle.sa_spaces.specs.Space.{SpaceView}
use Rattle.sa_spaces.specs.Workload.{WorkloadView}
use Rattle.sa_lemmas.proofs.ListReads.{read-at}
use Rattle.sa_core.specs.View.{machine}
use Rattle.sa_keys.proofs.Standings.{users-are}
use Rattle.sa_keys.proofs.Appends.{list-step}
use Rattle.sa_keys.proofs.users.put_users.Goals as goal

pub loop-s-preserved : goal.loop-s-preserved
loop-s-preserved g c =
    let m = machine c.args.core.now in
    let users = users-are g.U.UserLevel.stands m c.keeps.ensures in
    let spaces : length c.spaces-s-end.result.now ≡ length m.workload.spaces = ap (λ (xs : List SpaceView). length xs) c.spaces-s-end.ensures.value
    ∙ ap (λ (w : WorkloadView). length w.spaces) c.workload.ensures in
    let user = read-at m.users c.loop-s.s (omega arith) in
    list-step g.U.Keyed.value_key m.users c.args.key.now.items c.loop-s.key.items c.put_user.new.key.items c.loop-s.s user.0 user.1
    c.loop-s.invariant (c.in_ok-put_user.ensures user.0 user.1)
