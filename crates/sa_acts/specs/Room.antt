-- The room in which activations are kept.
use Rattle.std.specs.Prelude.{◌≡◌, ℕ, ◌+◌, ◌≤◌, ◌<◌, ◌^◌, false, List, length, sum_by, Option, Some, None, IsSome, if◌then◌else◌}
use Rattle.sa_base.specs.declared.limits.TheConstants.{MAX_SPACES}
use Rattle.slab.specs.Slab.{Slab, get, slab_len, HasRoomFor}
use Rattle.sa_acts.specs.declared.acts.Act.{Act}
use Rattle.sa_acts.specs.Queues.{QueueView, HaveRoom, queued}

module _ {C : Type 0} where
  -- 1 for a number whose activation is not taken
  abbrev pub untaken : Option (Act C) → ℕ
  untaken None = 0
  untaken (Some x) = if x.taken then 0 else 1

  -- an activation is of a space that there can be, and none that is taken holds a context
  pub record IsKept (x : Act C) : Type 0 where
    pub space : x.space.0 < MAX_SPACES
    pub held : IsSome x.held → x.taken ≡ false

-- there is room for that many more activations, each of which can be taken
pub record HasRoom {C : Type 0} (table : Slab (Act C)) (taken : List QueueView) (spare : ℕ) : Type 0 where
  pub queues : length taken ≡ MAX_SPACES
  pub slots : HasRoomFor table spare
  pub rooms : HaveRoom (slab_len table + spare) taken
  -- what is taken was in use before
  pub few : sum_by queued taken + sum_by untaken table.slots ≤ slab_len table
  pub small : slab_len table < 2 ^ 32
  pub kept : (n : ℕ) (x : Act C) → get table n ≡ Some x → IsKept x
