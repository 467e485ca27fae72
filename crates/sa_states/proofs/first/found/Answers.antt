use Rattle.std.proofs.Common.{◌≡◌, ℕ, Bool, None, Some, get_or, position, sym}
use Rattle.sa_explore_model.specs.declared.answer.State.{State}
use Rattle.sa_explore_model.specs.Answer.{is_end}
use Rattle.sa_states.proofs.Firsts.{first-passes, first-at, none-passes, is-end, end-is}
use Rattle.sa_states.proofs.first.found.Goals as goal

pub returns : goal.returns
returns c =
    let d : State = record { before = 0; proc = record { 0 = 0 }; end = None } in
    let test : State → Bool = λ s. is_end c.args.end s.end in
    let place : ℕ = c.in-Some.first in
    let found : position test c.args.states.now ≡ Some place = sym c.in-Some.ensures in
    let at = first-at test c.args.states.now place d found in
    record {
      place = place;
      state = get_or c.args.states.now place d;
      is = at.0;
      ends = is-end c.args.end (get_or c.args.states.now place d).end at.1;
      first = λ k s is over. first-passes test c.args.states.now place d found k s is (end-is c.args.end s.end over);
      schedule = c.in_ok-schedule.ensures;
      count = c.count_with-count.ensures;
    }

pub returns-in_default : goal.returns-in_default
returns-in_default c =
    let test : State → Bool = λ s. is_end c.args.end s.end in
    λ k s is over. none-passes test c.args.states.now (sym c.in_default.ensures) k s is (end-is c.args.end s.end over)
