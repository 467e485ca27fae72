use Rattle.std.proofs.Common.{◌++◌, ◌∷◌, [], List, Some, None, take, sym, ap, ◌∙◌, append_assoc, append-nil, take_all, arith}
use Rattle.sa_devices.specs.declared.under_way.Entry.{Entry}
use Rattle.sa_devices.proofs.Copying.{entries, entries-more, entries-listed}
use Rattle.sa_devices.proofs.under_way.copy_entries.Goals as goal
use Rattle.sa_devices.proofs.under_way.copy_entries.Goals.{in-Some+in_ok-push, in_default}

pub loop-place-preserved : goal.loop-place-preserved
loop-place-preserved c = elim c.match-place.branch [
  | in-Some+in_ok-push w ↦
      let is = entries-more c.args.places.now c.loop-place.place-index (Some w.in-Some.entry) w.in-Some.is in
      ap (λ v. v.items) w.out-is ∙ w.in_ok-push.ensures.items
      ∙ ap (λ z. z ++ w.in-Some.entry ∷ []) c.loop-place.invariant
      ∙ append_assoc c.args.out.now.items (entries (take c.loop-place.place-index c.args.places.now)) (w.in-Some.entry ∷ [])
      ∙ ap (λ (z : List Entry). c.args.out.now.items ++ z) (sym is)
  | in_default w ↦
      let is = entries-more c.args.places.now c.loop-place.place-index None w.in_default.is in
      ap (λ v. v.items) w.out-is ∙ c.loop-place.invariant
      ∙ ap (λ (z : List Entry). c.args.out.now.items ++ z) (sym (is ∙ append-nil (entries (take c.loop-place.place-index c.args.places.now))))
]

pub returns : goal.returns
returns c =
    let past = c.loop-place-test.false in
    c.loop-place.invariant
    ∙ ap (λ (z : List Entry). c.args.out.now.items ++ z)
    (ap entries (take_all c.loop-place.place-index c.args.places.now (omega arith)) ∙ sym (entries-listed 0 c.args.places.now))
