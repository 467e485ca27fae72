use Rattle.std.proofs.Common.{List, length, ap, arith}
use Rattle.sa_base.specs.declared.number.ActNo.{ActNo}
use Rattle.sa_acts.specs.Table.{acts_of, taken_in}
use Rattle.sa_kernel.proofs.GivenBack.{one-back, items-one, some-left}
use Rattle.sa_kernel.proofs.entries.give_one_back.Goals as goal

pub returns : goal.returns
returns g c =
    let v = acts_of c.args.acts.now in
    let w = acts_of c.give_back.new.self in
    let one = one-back v w c.args.s.0 c.in-Some.a c.give_back.result c.give_back.ensures.first c.in-Some.is c.give_back.ensures.gave in
    record {
      acts = one.acts;
      taken = one.taken;
      items =
          items-one c.args.event c.args.p c.in-Some.a (taken_in v c.args.s.0)
          (taken_in w c.args.s.0) c.args.trace.now.items c.say.new.self.items one.list c.say.ensures.items;
      left = (let e = ap (λ (xs : List ActNo). length xs) one.list in omega arith);
      spare = one.spare;
      used = one.used;
      room = c.say.ensures.room;
    }

pub returns-in_default : goal.returns-in_default
returns-in_default g c =
    absurd
    (some-left (taken_in (acts_of c.args.acts.now) c.args.s.0) c.give_back.result c.give_back.ensures.first c.in_default.is c.requires.some)
