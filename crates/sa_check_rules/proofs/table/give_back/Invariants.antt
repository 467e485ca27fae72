use Rattle.std.proofs.Common.{◌≡◌, ◌↔◌, drop, map}
use Rattle.sa_base.specs.declared.record.Record.TheVariants.{GiveBack}
use Rattle.sa_check_rules.proofs.table.give_back.Given as goal

abbrev pub invariant-loop-what : goal.invariant-loop-what
invariant-loop-what l = (drop l.what-index l.records ≡ map GiveBack l.left) ↔ (l.records ≡ map GiveBack l.taken)
