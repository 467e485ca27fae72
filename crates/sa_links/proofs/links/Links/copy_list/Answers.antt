use Rattle.std.proofs.Common.{◌≡◌, ℕ, ◌+◌, List, ◌∷◌, [], length, Option, IfSome, sym, ap, ◌∙◌, subst, arith}
use Rattle.std.proofs.lemmas.List.{length-append}
use Rattle.sa_links.specs.Lists.{IsListed}
use Rattle.sa_links.proofs.Copying.{IsCopied, none_yet, one_more, all_there, some_left}
use Rattle.sa_links.proofs.links.Links.copy_list.Goals as goal

pub loop-next-init : goal.loop-next-init
loop-next-init c = record {
  copied = none_yet c.args.self.now c.args.list c.args.out.now.items c.front-next.result c.front-next.ensures.first;
  listed = c.front-next.ensures.listed;
}

pub after-next-requires : goal.after-next-requires
after-next-requires c = subst (λ (o : Option ℕ). IfSome o (λ node. IsListed c.args.self.now node)) c.in-Some.is c.loop-next.invariant.listed

pub loop-next-preserved : goal.loop-next-preserved
loop-next-preserved c =
    let was = c.args.out.now.items in
    let at = subst (IsCopied c.args.self.now c.args.list was c.loop-next.out.items) c.in-Some.is c.loop-next.invariant.copied in
    let more = one_more c.args.self.now c.args.list was c.loop-next.out.items c.in-Some.node c.after-next.result at c.after-next.ensures.next in
    record {
      copied = subst (λ (xs : List ℕ). IsCopied c.args.self.now c.args.list was xs c.after-next.result) (sym c.in_ok-push.ensures.items) more;
      listed = c.after-next.ensures.listed;
    }

pub loop-next-smaller : goal.loop-next-smaller
loop-next-smaller c =
    let was = c.args.out.now.items in
    let at = subst (IsCopied c.args.self.now c.args.list was c.loop-next.out.items) c.in-Some.is c.loop-next.invariant.copied in
    let left = some_left c.args.self.now c.args.list was c.loop-next.out.items c.in-Some.node at in
    let one : length c.push.new.self.items ≡ length c.loop-next.out.items + 1 =
    ap length c.in_ok-push.ensures.items ∙ length-append c.loop-next.out.items (c.in-Some.node ∷ []) in
    omega arith

pub returns : goal.returns
returns c =
    all_there c.args.self.now c.args.list c.args.out.now.items c.loop-next.out.items
    (subst (IsCopied c.args.self.now c.args.list c.args.out.now.items c.loop-next.out.items) c.in_default.is c.loop-next.invariant.copied)
