use Rattle.std.proofs.Common.{ℕ, List, ◌++◌, Vec, Global, sym, ap, ◌∙◌}
use Rattle.sa_package_keys.specs.Codes.{number, list}
use Rattle.sa_keys.proofs.Appends.{list-added, list-map}
use Rattle.sa_keys.proofs.outcome.put_cells.Goals as goal

pub returns : goal.returns
returns c =
    let items : Vec ℕ Global → List ℕ = λ v. v.items in
    let old = c.args.key.now.items in
    list-added (λ v. list number (items v)) c.args.cells.now old c.loop-space.key.items c.loop-space.space-index c.loop-space-test.false
    c.loop-space.invariant
    ∙ ap (λ (z : List ℕ). old ++ z) (sym (list-map (list number) items c.args.cells.now))
