use Rattle.std.proofs.Common.{◌≡◌, List, [], ◌∷◌, ◌++◌, sym, ap, subst, ◌∙◌}
use Rattle.sa_sync.specs.Sync.{Sync, opening}
use Rattle.sa_laws.specs.declared.place.Place.TheVariants.{Ready}
use Rattle.sa_laws.specs.State.{Thread, at_start}
use Rattle.sa_replay.specs.Sound.{IsSound}
use Rattle.sa_replay.specs.Space.{space}
use Rattle.sa_replay.proofs.OpeningLemmas.{opening-sound}
use Rattle.sa_replay.proofs.space.SpaceThreads.new.Goals as goal

pub invariant_of-result : goal.invariant_of-result
invariant_of-result c =
    let first : List Thread = at_start 0 Ready ∷ [] in
    let threads : c.push.new.self ≡ first =
    c.push.ensures ∙ ap (λ (xs : List Thread). xs ++ c.at_start.result ∷ []) c.in_ok-threads.ensures ∙ ap (λ (y : Thread). y ∷ []) c.at_start.ensures in
    let sync : c.in_ok-sync.sync ≡ opening c.args.def.now = c.in_ok-sync.ensures in
    subst (λ (xs : List Thread). IsSound (space xs c.in_ok-sync.sync)) (sym threads)
    (subst (λ (s : Sync). IsSound (space first s)) (sym sync) (opening-sound c.args.def.now))
