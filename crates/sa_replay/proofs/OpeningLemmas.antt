-- At the opening nobody waits.
use Rattle.std.proofs.Common.{ℕ, List, [], arith}
use Rattle.std.proofs.lemmas.List.{length-replicate}
use Rattle.sa_base.specs.declared.limits.TheConstants.{MAX_THREADS}
use Rattle.sa_spaces.specs.Space.{SpaceView}
use Rattle.sa_sync.proofs.LawLemmas.{opening-waits}
use Rattle.sa_laws.specs.State.{opening_space}
use Rattle.sa_replay.specs.Sound.{IsSound}

pub opening-sound : (def : SpaceView) → IsSound (opening_space def)
opening-sound def = record {
  few = omega arith;
  joiners = length-replicate {A = List ℕ} MAX_THREADS [];
  waiting = λ u waits. absurd (omega (arith, opening-waits def u.0, waits));
}
