-- The activations in use, as a contract sees them, and what each call does to them.
use Rattle.std.specs.Prelude.{◌≡◌, ℕ, ◌+◌, ◌-◌, true, false, if◌then◌else◌, List, [], ◌∷◌, ◌++◌, drop, Option, Some, None, is_some, slice_get, slice_index_or, slice_set}
use Rattle.sa_lemmas.specs.Function.{put}
use Rattle.slab.specs.Slab.{Slab, get, slab_len}
use Rattle.sa_base.specs.declared.number.SpaceNo.{SpaceNo}
use Rattle.sa_base.specs.declared.number.ActNo.{ActNo}
use Rattle.sa_base.specs.declared.context.Stopped.{Stopped}
use Rattle.sa_acts.specs.declared.acts.Act.{Act}

module _ {C : Type 0} where
  -- the context that is held of an activation
  abbrev pub held_of : Option (Act C) → Option (Stopped C)
  held_of None = None
  held_of (Some x) = x.held

  -- an activation that runs: no context of it is held, and none was taken
  abbrev pub runs_in : SpaceNo → Act C
  runs_in s = record { space = s; held = None; taken = false }

  abbrev pub holding : Stopped C → Option (Act C) → Option (Act C)
  holding held None = None
  holding held (Some x) = Some (record x { held = Some held })

  abbrev pub taken_from : Option (Act C) → Option (Act C)
  taken_from None = None
  taken_from (Some x) = Some (record x { held = None; taken = true })

  -- the space of a number that is in use, else space 0
  abbrev pub space_of : Option (Act C) → SpaceNo
  space_of None = record { 0 = 0 }
  space_of (Some x) = x.space

  -- the number runs in the space of its activation: its context is neither held nor taken
  pub record IsRunning (act : Option (Act C)) : Type 0 where
    pub here : Act C
    pub is : act ≡ Some here
    pub none_held : here.held ≡ None
    pub not_taken : here.taken ≡ false

-- what a contract sees of the activations
pub record ActsView (C : Type 0) : Type 0 where
  pub acts : ℕ → Option (Act C)
  -- of each space, the activations whose contexts were taken and that were not given back, in that order
  pub taken : List (List ActNo)
  -- how many numbers are in use
  pub used : ℕ
  -- for how many more there is room
  pub spare : ℕ

-- the table in which the activations lie
pub record Slots (C : Type 0) : Type 0 where
  pub table : Slab (Act C)
  pub taken : List (List ActNo)
  pub spare : ℕ

abbrev pub acts_of : {C : Type 0} → Slots C → ActsView C
acts_of v = record { acts = λ n. get v.table n; taken = v.taken; used = slab_len v.table; spare = v.spare }

module _ {C : Type 0} where
  -- the taken activations of a space
  abbrev pub taken_in : ActsView C → ℕ → List ActNo
  taken_in v s = slice_index_or v.taken s []

  -- a number is used for a space
  abbrev pub activated : ActsView C → SpaceNo → ActNo → ActsView C
  activated v s a = record v { acts = put v.acts a.0 (Some (runs_in s)); used = v.used + 1; spare = v.spare - 1 }

  -- the context of an activation is held
  abbrev pub saved : ActsView C → ActNo → Stopped C → ActsView C
  saved v a held = record v { acts = put v.acts a.0 (holding held (v.acts a.0)) }

  -- the context of an activation is handed over, and the activation is the last of the taken ones of its space
  abbrev pub took : ActsView C → ActNo → ActsView C
  took v a = record v {
    acts = put v.acts a.0 (taken_from (v.acts a.0));
    taken = slice_set v.taken (space_of (v.acts a.0)).0 (taken_in v (space_of (v.acts a.0)).0 ++ a ∷ []);
  }

  -- a number is no longer used
  abbrev pub without : ActsView C → ActNo → ActsView C
  without v a = record v {
    acts = put v.acts a.0 None;
    used = if is_some (v.acts a.0) then v.used - 1 else v.used;
  }

  -- the first taken activation of a space is no longer the first
  abbrev pub without_first : ActsView C → ℕ → ActsView C
  without_first v s = record v { taken = slice_set v.taken s (drop 1 (taken_in v s)) }

  abbrev pub gave : ActsView C → Option ActNo → ActsView C
  gave v None = v
  gave v (Some a) = without v a

  -- the activation of a space that was taken first is given back, if there is one
  abbrev pub gave_back : ActsView C → ℕ → ActsView C
  gave_back v s = gave (without_first v s) (slice_get (taken_in v s) 0)
