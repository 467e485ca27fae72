use Rattle.std.proofs.Common.{◌≡◌, ◌↔◌, ℕ, List, Option, Some, None, option_map, IsTrue, eqb, sym, ap, ◌∙◌}
use Rattle.std.proofs.lemmas.Bool.{eqb-true, eq-eqb}
use Rattle.std.proofs.lemmas.Option.{same_Some}
use Rattle.sa_devices.specs.declared.under_way.Entry.{Entry}
use Rattle.sa_devices.specs.Kept.{entry_at, ends_at}
use Rattle.sa_devices.proofs.under_way.is_under_way.Goals as goal

-- the entry at a place says when its I/O ends
ends_here : (places : List (Option Entry)) (n ends : ℕ) (e : Entry) → Some e ≡ entry_at places n → IsTrue (eqb e.ends ends) ↔ (ends_at places n ≡ Some ends)
ends_here places n ends e at =
    let is : ends_at places n ≡ Some e.ends = sym (ap (option_map (λ (x : Entry). x.ends)) at) in
    (λ t. is ∙ ap Some (eqb-true _ _ t), λ s. eq-eqb _ _ (same_Some _ _ (sym is ∙ s)))

pub returns-in-Some-Some : goal.returns-in-Some-Some
returns-in-Some-Some c =
    let x = c.in-Some-Some in
    ends_here c.args.places.now c.args.number c.args.ends x.entry (sym x.field-0-is ∙ x.ensures.lookup.3.1 None)
