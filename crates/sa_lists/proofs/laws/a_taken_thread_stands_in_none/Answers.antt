use Rattle.sa_lists.proofs.Changes.{newest-unlisted, oldest-unlisted}
use Rattle.sa_lists.proofs.laws.a_taken_thread_stands_in_none.Goals as goal

pub returns : goal.returns
returns c = record { newest = newest-unlisted; oldest = oldest-unlisted }
