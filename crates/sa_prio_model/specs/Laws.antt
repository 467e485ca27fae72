-- What holds of pairs.
use Rattle.std.specs.Prelude.{◌≡◌, ℕ, ◌≤◌, ◌<◌, length, Some, None}
use Rattle.sa_base.specs.declared.number.ProcNo.{ProcNo}
use Rattle.sa_base.specs.declared.context.Seen.{Seen}
use Rattle.sa_prio_model.specs.declared.pair.Outranked.{Outranked}
use Rattle.sa_prio_model.specs.Prio.{Prio, outranked, lowest}

-- of the processors whose threads are in pairs, this is the one of the lowest-ranked thread, and of these the first
pub record IsLowest (v : Prio) (seen : Seen) (x : Outranked) : Type 0 where
  pub inside : x.proc.0 < length v.on
  pub pair : outranked v seen x.proc ≡ Some x.rank
  pub lowest : (q : ProcNo) (n : ℕ) → q.0 < length v.on → outranked v seen q ≡ Some n → x.rank ≤ n
  pub first : (q : ProcNo) (n : ℕ) → q.0 < x.proc.0 → outranked v seen q ≡ Some n → x.rank < n

abbrev pub TheLowestIsFirst : Type 0
TheLowestIsFirst = (v : Prio) (seen : Seen) (x : Outranked) → lowest v seen ≡ Some x → IsLowest v seen x

abbrev pub NobodyIsOutranked : Type 0
NobodyIsOutranked =
    (v : Prio) (seen : Seen) (q : ProcNo) → lowest v seen ≡ None → q.0 < length v.on → outranked v seen q ≡ None
