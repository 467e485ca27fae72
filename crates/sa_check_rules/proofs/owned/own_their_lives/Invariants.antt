use Rattle.std.proofs.Common.{◌≡◌, ◌↔◌, drop, map}
use Rattle.sa_laws.specs.Readings.{space_of_life}
use Rattle.sa_check_moment.specs.Seen.{seen}
use Rattle.sa_check_rules.proofs.owned.own_their_lives.Given as goal

abbrev pub invariant-loop-owner : goal.invariant-loop-owner
invariant-loop-owner l =
    (drop l.owner-index l.owners ≡ map (space_of_life (seen l.moment).readings) l.left)
    ↔ (l.owners ≡ map (space_of_life (seen l.moment).readings) l.running)
