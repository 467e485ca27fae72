use Rattle.std.proofs.Common.{List, ◌++◌, map, ap, ◌∙◌}
use Rattle.std.proofs.lemmas.Result.{on_ok_weaker}
use Rattle.sa_devices.specs.declared.under_way.Entry.{Entry}
use Rattle.sa_devices.specs.DevicesView.{IosView}
use Rattle.sa_devices.specs.Kept.{listed, entry_of}
use Rattle.sa_devices.proofs.under_way.UnderWay.copy_to.Goals as goal

pub returns : goal.returns
returns c =
    let places = ap (λ z. map entry_of (listed 0 z)) c.as_slice.ensures.value in
    let under = ap (λ (v : IosView). map entry_of v.under_way) c.self.view_is in
    on_ok_weaker c.copy_entries.result (λ e. e ∙ ap (λ (z : List Entry). c.args.out.now.items ++ z) (places ∙ under)) c.copy_entries.ensures
