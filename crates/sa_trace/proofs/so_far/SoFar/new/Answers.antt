use Rattle.std.proofs.Common.{refl}
use Rattle.sa_trace.specs.TraceText.{counts_of}
use Rattle.sa_trace.proofs.so_far.SoFar.new.Goals as goal

pub returns : goal.returns
unfolding counts_of
returns c = refl
