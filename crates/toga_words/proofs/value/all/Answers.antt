use Rattle.std.proofs.Common.{rules, sym, ◌∙◌}
use Rattle.clap.specs.Matches.{found_of}
use Rattle.clap.proofs.WalkLemmas.{raw_values-rows}
use Rattle.toga_words.proofs.value.all.Goals as goal

pub returns-in-Some : goal.returns-in-Some
returns-in-Some c =
    let is = sym (raw_values-rows (found_of c.args.matches.now) c.args.id.now) ∙ sym c.in-Some.ensures in
    rw is (search rules)

pub returns-in-None : goal.returns-in-None
returns-in-None c =
    let is = sym (raw_values-rows (found_of c.args.matches.now) c.args.id.now) ∙ sym c.in-None.ensures in
    rw is (search rules)
