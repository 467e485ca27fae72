use Rattle.std.proofs.Common.{◌<◌, length, sym, ap, subst, ◌∙◌, find}
use Rattle.sa_links.specs.Lists.{Lists, list_at}
use Rattle.sa_vp_model.specs.Turn.{is_some_list}
use Rattle.sa_vp.specs.Ready.{round}
use Rattle.sa_vp.proofs.Rounds.{sought_is}
use Rattle.sa_vp.proofs.Unlocked.{found-inside, found-some}
use Rattle.sa_vp.proofs.ready.Ready.seek.Goals as goal

pub returns : goal.returns
returns c =
    let r = c.self.inside.lists in
    let within : c.args.l.0 < length r.lists = subst (λ (x : Lists). c.args.l.0 < length x.lists) (sym c.self.view_is) c.requires in
    record {
      found = c.seek.ensures ∙ sought_is r c.self.invariant c.args.l within
          ∙ ap (λ (x : Lists). find (λ k. is_some_list (list_at x.lists k.0)) (round (length x.lists) c.args.l)) c.self.view_is;
      inside = found-inside r c.self.invariant c.args.self.now c.self.view_is c.args.l c.requires c.seek.result c.seek.ensures;
      some = found-some r c.self.invariant c.args.self.now c.self.view_is c.args.l c.requires c.seek.result c.seek.ensures;
    }
