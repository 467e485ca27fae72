use Rattle.sa_code.proofs.Steps.{taken-list, pushed-list, popped-list, freed-list}
use Rattle.sa_code.proofs.Kept.{has_holder, has_lock}
use Rattle.sa_code.proofs.laws.its_list_changes_as_the_table_says.Goals as goal

pub returns : goal.returns
returns c = record {
  taken = λ s f l h inside. taken-list s f l (has_lock s l.0 h inside) (has_holder s l.0 h inside);
  pushed = λ s f l t h inside. pushed-list s f l t inside;
  popped = λ s f l t h inside. popped-list s f l t inside (has_holder s l.0 h inside);
  freed = λ s f l h inside. freed-list s f l (has_lock s l.0 h inside) (has_holder s l.0 h inside);
}
