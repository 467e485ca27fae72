use Rattle.std.proofs.Common.{Option, IfSome, inr, subst}
use Rattle.sa_core.specs.View.{machine}
use Rattle.sa_keys.specs.Key.{key_of}
use Rattle.sa_explore.specs.declared.ahead.Tried.{Tried}
use Rattle.sa_explore.specs.Ahead.{IsMadeFrom}
use Rattle.sa_explore.proofs.ahead.keep_ahead.Goals as goal

pub returns-in_ok-push_back : goal.returns-in_ok-push_back
returns-in_ok-push_back g c = inr (record {
  core = c.in-Some.core;
  is = c.in-Some.is;
  now = c.if-not-is_new.false;
  tried = c.in-Some-2.tried;
  made = subst (λ (o : Option Tried). IfSome o (IsMadeFrom g.U.UserLevel.calls g.U.Keyed.plain (key_of g.U.Keyed.value_key g.U.Keyed.context_key) (machine c.in-Some.core) c.args.to))
      c.in-Some-2.is c.in_ok-tried.ensures;
  items = c.in_ok-push_back.ensures.items;
})
