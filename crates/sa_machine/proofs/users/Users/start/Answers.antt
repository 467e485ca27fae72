use Rattle.std.proofs.Common.{◌+◌, ◌++◌, [], ◌∷◌, List, length, ap, ◌∙◌, arith}
use Rattle.std.proofs.lemmas.List.{length_push}
use Rattle.sa_spaces.specs.Space.{SpaceView}
use Rattle.sa_lemmas.proofs.ListReads.{read-at}
use Rattle.sa_core_model.specs.Run.{setting, started_from}
use Rattle.sa_machine.proofs.CountLemmas.{started-more}
use Rattle.sa_machine.proofs.users.Users.start.Goals as goal

pub loop-s-preserved : goal.loop-s-preserved
loop-s-preserved g c =
    let w = c.args.w.now in
    let s = c.loop-s.s in
    let f = g.U.UserLevel.calls in
    let size = ap (λ (xs : List SpaceView). length xs) c.spaces-s-end.ensures.value in
    let test = c.loop-s-test.true in
    let def = read-at w.spaces s (omega (arith, size, test)) in
    let level = c.in_ok-level.ensures def.0 def.1 in
    let is = c.in_ok-add.ensures ∙ ap (λ (u : g.row.U.Denot). c.loop-s.users ++ u ∷ []) level in
    record {
      users = started-more f w s (s + 1) c.loop-s.users c.add.new.self (started_from f w 0 w.spaces) def.0 def.1 (omega arith) is c.loop-s.invariant.users;
      len =
          let new = ap (λ (xs : List g.row.U.Denot). length xs) is in
          let pushed = length_push c.loop-s.users (f.started (setting w s def.0)) in
          let was = c.loop-s.invariant.len in
          omega (arith, new, pushed, was);
    }
