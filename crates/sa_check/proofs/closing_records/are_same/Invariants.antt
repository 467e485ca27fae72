use Rattle.std.proofs.Common.{◌≡◌, ◌↔◌, drop, true}
use Rattle.std.specs.List.{list_all}
use Rattle.sa_laws.specs.Shape.{is_of_closing}
use Rattle.sa_check.proofs.closing_records.are_same.Given as goal

abbrev pub invariant-loop-what : goal.invariant-loop-what
invariant-loop-what l = record {
  same : (drop l.what-index l.records ≡ l.left) ↔ (l.records ≡ l.others);
  closing : list_all is_of_closing l.left ≡ true;
}
