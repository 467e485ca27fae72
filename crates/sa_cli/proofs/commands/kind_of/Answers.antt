use Rattle.std.proofs.Common.{ℕ, ◌<◌, List, sym, subst}
use Rattle.std.specs.Prelude.{All}
use Rattle.std.proofs.lemmas.List.Elements.{All-map}
use Rattle.sa_base.specs.declared.number.ProcNo.{ProcNo}
use Rattle.sa_cli.proofs.commands.kind_of.Goals as goal

pub returns-in_ok-from_slice-in-Given-clause-among : goal.returns-in_ok-from_slice-in-Given-clause-among
returns-in_ok-from_slice-in-Given-clause-among c =
    let most : ℕ = c.args.workload.now.processors in
    All-map (λ (n : ℕ). n < most) (λ (p : ProcNo). p.0) c.in_ok-from_slice-in-Given.field-0.items
    (subst (λ (ps : List ProcNo). All (λ (p : ProcNo). p.0 < most) ps) (sym c.in_ok-from_slice-in-Given.ensures.items) c.turns.ensures.range)
