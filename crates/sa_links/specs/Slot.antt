-- Where the values of a block lie.
use Rattle.std.specs.Prelude.{◌≡◌, ℕ, ◌-◌, ◌/◌, ◌<◌}
use Rattle.std.specs.Mem.{type_size}
use Rattle.std.specs.Ptr.{Ptr, ptr_add}
use denote.RattleType.{RattleType}
use denote.RawPtr.{count_of}

-- how many values lie between the block's begin and p
abbrev pub index_of : RattleType → Ptr → Ptr → ℕ
index_of R base p = (count_of p - count_of base) / type_size R

-- p points to one of the n values of the block that begins at base
pub record IsSlot (R : RattleType) (base : Ptr) (n : ℕ) (p : Ptr) : Type 0 where
  pub inside : index_of R base p < n
  pub there : p ≡ ptr_add R (index_of R base p) base
