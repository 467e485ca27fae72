use Rattle.sa_lists.proofs.Rounds.{sought-first, sought-none}
use Rattle.sa_lists.proofs.laws.seek_finds_the_first_open_list.Goals as goal

pub returns : goal.returns
returns c = record {
  inside = λ r p q inside e. (sought-first r p q inside e).inside;
  free = λ r p q inside e. (sought-first r p q inside e).here;
  first = λ r p q k inside e. (sought-first r p q inside e).before k;
  none = sought-none;
}
