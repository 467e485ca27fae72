-- What stands between two events: how many there are of each thing, and each space's level.
use Rattle.std.proofs.Common.{◌≡◌, ℕ, ◌<◌, length, Some, None, slice_get, slice_index_or, ◌∙◌, sym, arith}
use Rattle.std.proofs.lemmas.Option.{slice_get_within}
use Rattle.sa_base.specs.declared.number.SpaceNo.{SpaceNo}
use Rattle.sa_spaces.specs.Space.{SpaceView}
use Rattle.sa_abstract.specs.Keeps.{Standing}
use Rattle.sa_kernel_model.specs.Sound.{AreIos}
use Rattle.sa_core_model.specs.Machine.{Machine}
use Rattle.sa_core_model.specs.Run.{setting}
use Rattle.sa_core_model.specs.Standing.{IsBetween, contexts_of}
use Rattle.sa_package_keys.specs.Values.{IsStood}
use Rattle.sa_lemmas.proofs.ListReads.{read-at}

module _ {U C : Type 0} (stands : Standing U C) (m : Machine U C) (between : IsBetween stands m) where
  pub demands-are : length m.kernel.demands ≡ length m.workload.spaces
  demands-are = between.standing.demands

  pub users-are : length m.users ≡ length m.workload.spaces
  users-are = between.standing.users

  pub ios-within : AreIos (length m.workload.spaces) m.kernel.under_way
  ios-within = rw (sym demands-are) between.standing.sound.formed.ios

  -- a space's level stands in the setting of what the workload declares of it
  pub record IsLevel (s : ℕ) (u : U) : Type 0 where
    pub def : SpaceView
    pub is : slice_get m.workload.spaces s ≡ Some def
    pub value : stands (setting m.workload s def) m.event u (contexts_of m s)

  pub level-of : (s : ℕ) (u : U) → slice_get m.users s ≡ Some u → IsLevel s u
  level-of s u at =
      let low : s < length m.users = slice_get_within m.users s u at in
      let def = read-at m.workload.spaces s (omega (arith, users-are)) in
      record { def = def.0; is = def.1; value = between.standing.values s u def.0 at def.1 }

  pub level-stands : (s : ℕ) (u : U) → slice_get m.users s ≡ Some u → IsStood stands u
  level-stands s u at =
      let level = level-of s u at in
      record { setting = setting m.workload s level.def; event = m.event; others = contexts_of m s; value = level.value }
