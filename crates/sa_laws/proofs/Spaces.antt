-- A space whose threads are moved leaves the other spaces, and moves no processor.
use Rattle.std.proofs.Common.{◌≡◌, ◌≢◌, Option, Some, None, refl}
use Rattle.std.proofs.lemmas.List.{get_or-set_other}
use Rattle.sa_base.specs.declared.number.SpaceNo.{SpaceNo}
use Rattle.sa_base.specs.declared.number.ThreadNo.{ThreadNo}
use Rattle.sa_laws.specs.declared.place.Place.{Place}
use Rattle.sa_laws.specs.State.{State, SpaceState, space_at, with_space, placed_if}

pub placed-owners : (a : State) (s : SpaceNo) (t : Option ThreadNo) (place : Place) → (placed_if a s t place).owners ≡ a.owners
placed-owners a s None place = refl
placed-owners a s (Some t) place = refl

pub space-elsewhere : (a : State) (s z : SpaceNo) (x : SpaceState) → z.0 ≢ s.0 → space_at (with_space a s x) z ≡ space_at a z
space-elsewhere a s z x apart = get_or-set_other a.spaces s.0 z.0 x _ apart

pub placed-elsewhere : (a : State) (s z : SpaceNo) (t : Option ThreadNo) (x : Place) → z.0 ≢ s.0
    → space_at (placed_if a s t x) z ≡ space_at a z
placed-elsewhere a s z None x apart = refl
placed-elsewhere a s z (Some t) x apart = space-elsewhere a s z _ apart
