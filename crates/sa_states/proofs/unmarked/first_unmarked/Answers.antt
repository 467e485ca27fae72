use Rattle.std.proofs.Common.{◌≡◌, ℕ, Bool, Some, true, false, not, position, get_or, refl, sym, ap, ◌∙◌}
use Rattle.std.proofs.lemmas.Bool.{not-true}
use Rattle.sa_states.proofs.Firsts.{first-passes, first-at, none-passes}
use Rattle.sa_states.proofs.unmarked.first_unmarked.Goals as goal

pub returns : goal.returns
returns c =
    let marks = c.args.marks.now in
    let place : ℕ = c.in-Some.first in
    let found : position not marks ≡ Some place = sym c.in-Some.ensures in
    let at = first-at not marks place true found in
    record {
      place = place;
      is = at.0 ∙ ap (λ (b : Bool). Some b) (not-true (get_or marks place true) at.1);
      first = λ k is. first-passes not marks place true found k false is refl;
      schedule = c.in_ok-schedule.ensures;
      count = c.count_false-count.ensures;
    }

pub returns-in_default : goal.returns-in_default
returns-in_default c = λ k is. none-passes not c.args.marks.now (sym c.in_default.ensures) k false is refl
