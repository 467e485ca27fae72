use Rattle.sa_lists.proofs.Changes.{ready-no_threads, ready-pushed, ready-without_newest, ready-without_oldest, ready-with_lock, ready-with_made}
use Rattle.sa_lists.proofs.laws.changes_keep_what_holds.Goals as goal

pub returns : goal.returns
returns c = record {
  no_threads = ready-no_threads;
  pushed = ready-pushed;
  without_newest = ready-without_newest;
  without_oldest = ready-without_oldest;
  with_lock = ready-with_lock;
  with_made = ready-with_made;
}
