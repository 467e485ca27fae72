use Rattle.std.proofs.Common.{◌≡◌, None, Some, option_map, sym, ap, ◌∙◌, arith}
use Rattle.std.proofs.lemmas.List.{get_or_default}
use Rattle.std.proofs.lemmas.Option.{none-some, same_Some}
use Rattle.sa_devices.specs.declared.under_way.Entry.{Entry}
use Rattle.sa_devices.specs.Ios.{Io, io_at}
use Rattle.sa_devices.specs.DevicesView.{IosView, ended_with}
use Rattle.sa_devices.proofs.IosLemmas.{io_of}
use Rattle.sa_devices.proofs.KeptLemmas.{stands, io_at-place, ended-view}
use Rattle.sa_devices.proofs.under_way.UnderWay.complete.Goals as goal

pub index-requires : goal.index-requires
index-requires c =
    let at = stands c.self.inside.places.items c.args.io.0 c.args.self.now.under_way (ap (λ (v : IosView). v.under_way) c.self.view_is) c.requires in
    let below = at.below in
    omega arith

pub index_mut-requires : goal.index_mut-requires
index_mut-requires c =
    let at = stands c.self.inside.places.items c.args.io.0 c.args.self.now.under_way (ap (λ (v : IosView). v.under_way) c.self.view_is) c.requires in
    let below = at.below in
    omega arith

pub unreachable-requires : goal.unreachable-requires
unreachable-requires c =
    let places = c.self.inside.places.items in
    let at = stands places c.args.io.0 c.args.self.now.under_way (ap (λ (v : IosView). v.under_way) c.self.view_is) c.requires in
    none-some at.entry (sym c.in_default.is ∙ c.index.ensures ∙ get_or_default places c.args.io.0 c.index.result.now None at.below ∙ at.at)

pub returns-clause-kind : goal.returns-clause-kind
returns-clause-kind c =
    let places = c.self.inside.places.items in
    let n = c.args.io.0 in
    let at = stands places n c.args.self.now.under_way (ap (λ (v : IosView). v.under_way) c.self.view_is) c.requires in
    let same : at.entry ≡ c.in-Some.entry =
    same_Some at.entry c.in-Some.entry (sym at.at ∙ get_or_default places n None c.index.result.now at.below ∙ sym c.index.ensures ∙ c.in-Some.is) in
    ap (λ (v : IosView). option_map (λ (x : Io). x.kind) (io_at n v.under_way)) (sym c.self.view_is)
    ∙ ap (option_map (λ (x : Io). x.kind)) (io_at-place n places)
    ∙ ap (λ e. option_map (λ (x : Io). x.kind) (option_map (io_of n) e)) at.at
    ∙ ap (λ (e : Entry). Some e.kind) same

pub returns-clause-exact : goal.returns-clause-exact
returns-clause-exact c = ended-view c.self.inside.places.items c.args.io.0 c.self.inside.spare ∙ ap (λ (v : IosView). ended_with v c.args.io.0) c.self.view_is
