use Rattle.std.proofs.Common.{List, ◌≤◌, ◌<◌, ◌∙◌, sym, ap, leb, None, Some, arith}
use Rattle.std.proofs.lemmas.Bool.{cond-true, cond-false, le-leb, lt-leb}
use Rattle.std.specs.Option.{option_map}
use Rattle.sa_devices.specs.Ios.{Io, due_of}
use Rattle.sa_check_ios.proofs.Soonest.{due_of-soonest, due_from}
use Rattle.sa_check_ios.proofs.under_way.UnderWay.due.Goals as goal

pub returns-in-Some : goal.returns-in-Some
returns-in-Some c =
    let kind = option_map (λ (io : Io). io.kind) in
    let io = c.in-Some.io in
    let same = ap (λ (x : Io). x.ends) c.io.view_is in
    let over : io.ends ≤ c.args.event = omega arith in
    ap (λ (x : Io). Some x.kind) c.io.view_is
    ∙ sym (ap kind (due_of-soonest c.args.event c.self.inside.ios.items ∙ ap (due_from c.args.event) (sym c.self.invariant.0 ∙ c.in-Some.is)
    ∙ cond-true (leb io.ends c.args.event) (Some io) None (le-leb io.ends c.args.event over)))
    ∙ ap (λ (ios : List Io). kind (due_of c.args.event ios)) c.self.view_is

pub returns-in_default : goal.returns-in_default
returns-in_default c =
    let kind = option_map (λ (io : Io). io.kind) in
    let io = c.in-Some.io in
    let same = ap (λ (x : Io). x.ends) c.io.view_is in
    let later : c.args.event < io.ends = omega arith in
    sym (ap kind (due_of-soonest c.args.event c.self.inside.ios.items ∙ ap (due_from c.args.event) (sym c.self.invariant.0 ∙ c.in-Some.is)
    ∙ cond-false (leb io.ends c.args.event) (Some io) None (lt-leb io.ends c.args.event later)))
    ∙ ap (λ (ios : List Io). kind (due_of c.args.event ios)) c.self.view_is

pub returns-in_default-2 : goal.returns-in_default-2
returns-in_default-2 c =
    let kind = option_map (λ (io : Io). io.kind) in
    sym (ap kind (due_of-soonest c.args.event c.self.inside.ios.items ∙ ap (due_from c.args.event) (sym c.self.invariant.0 ∙ c.in_default.is)))
    ∙ ap (λ (ios : List Io). kind (due_of c.args.event ios)) c.self.view_is
