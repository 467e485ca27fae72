use Rattle.std.proofs.Common.{List, ℕ, subst}
use Rattle.sa_cli.specs.Texts.{IsFound}
use Rattle.sa_cli.proofs.Finds.{read-found}
use Rattle.sa_cli.proofs.found.read_found.Goals as goal

pub returns-clause-found : goal.returns-clause-found
returns-clause-found g c =
    let P : List ℕ → Type 0 = λ v. IsFound c.args.rules v c.in_ok-found.found in
    let found : IsFound c.args.rules c.in_ok-input.input.items c.in_ok-found.found = subst P c.deref.ensures.value c.in_ok-found.ensures in
    record {
      input = c.in_ok-input.input.items;
      reads = c.in_ok-input.ensures.input;
      is = found;
      told =
          read-found c.args.rules (g.S.Source.left c.args.source.now)
          (g.S.Source.left c.read_input.new.source) c.in_ok-input.input.items c.in_ok-found.found c.in_ok-input.ensures.input found;
    }
