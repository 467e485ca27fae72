use Rattle.std.proofs.Common.{◌≡◌, ◌-◌, ◌∷◌, length, take, drop, sym, ◌∙◌, ap, arith, length-drop, take_all}
use Rattle.sa_laws.specs.Event.{events_of}
use Rattle.sa_check_moment.specs.Seen.{event}
use Rattle.sa_page.proofs.ShownLemmas.{events-are}
use Rattle.sa_page.proofs.event.gather_with.Goals as goal

pub returns : goal.returns
returns c =
    let first = c.args.first in
    let others = c.args.others.now in
    let n = c.with_first-len.result in
    let records = c.in_ok-records.records.items in
    let left : take (length others - n) (drop n others) ≡ drop n others = take_all (length others - n) (drop n others) (omega (arith, length-drop n others)) in
    let len = ap length left in
    record {
      events =
          events-are first others n records c.with_first-len.ensures.len c.in_ok-records.ensures
          ∙ ap (λ rest. event first.event first.proc records ∷ events_of rest) (sym left);
      fewer = omega (arith, len, length-drop n others);
    }
