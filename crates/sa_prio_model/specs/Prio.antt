-- Ranks and pairs. A pair is a ready thread that outranks a thread on a processor of their space whose line is low.
use Rattle.std.specs.Prelude.{ℕ, zero, suc, ◌==◌, nat_lt, Bool, if◌then◌else◌, is_some, List, length, Option, Some, None, slice_index_or, slice_set}
use Rattle.std.specs.Int.{bit_at}
use Rattle.std.specs.Option.{option_map, option_and_then}
use Rattle.sa_base.specs.declared.number.ProcNo.{ProcNo}
use Rattle.sa_base.specs.declared.number.ThreadNo.{ThreadNo}
use Rattle.sa_base.specs.declared.context.Seen.{Seen}
use Rattle.sa_lists.specs.ReadyView.{thread, processor, newest}
use Rattle.sa_fast.specs.Threads.{block_at}
use Rattle.sa_package_model.specs.declared.package.Package.{Package}
use Rattle.sa_prio_model.specs.declared.pair.Outranked.{Outranked}

pub record Prio : Type 0 where
  -- FastThreads with one ready list, in which the threads are in the order of their ranks
  pub base : Package
  -- of each processor, the thread that the space's context there carries
  pub on : List (Option ThreadNo)

abbrev pub with_base : Prio → Package → Prio
with_base v u = record v { base = u }

abbrev pub on_at : Prio → ℕ → Option ThreadNo
on_at v q = slice_index_or v.on q None

abbrev pub with_on : Prio → ProcNo → Option ThreadNo → Prio
with_on v p t = record v { on = slice_set v.on p.0 t }

-- the rank of a thread is the number of its program
abbrev pub rank_of : Package → ThreadNo → ℕ
rank_of u t = (block_at u.shared.threads t.0).program

-- the rank of the first ready thread, which none of the others outranks
abbrev pub first_rank : Package → Option ℕ
first_rank u = option_map (λ n. rank_of u (thread n)) (newest u.shared.state.lists 0)

-- the rank of a thread that one of rank best outranks
abbrev pub rank_below : Package → ℕ → Option ThreadNo → Option ℕ
rank_below u best None = None
rank_below u best (Some t) = if nat_lt (rank_of u t) best then Some (rank_of u t) else None

-- the rank of the thread on processor q, if it is in a pair with a ready thread of rank best: the line of q is low
abbrev pub outranked_on : Prio → Seen → ℕ → ℕ → Option ℕ
outranked_on v seen best q = if bit_at seen.low q == 1 then rank_below v.base best (on_at v q) else None

-- the same with the first ready thread, if there is one
abbrev pub outranked : Prio → Seen → ProcNo → Option ℕ
outranked v seen q = option_and_then (λ best. outranked_on v seen best q.0) (first_rank v.base)

-- the processor of the lowest-ranked thread that is in a pair, and the first of these
abbrev pub lower : Option Outranked → ℕ → Option ℕ → Option Outranked
lower best q None = best
lower None q (Some rank) = Some (record { proc = processor q; rank = rank })
lower (Some best) q (Some rank) =
    if nat_lt rank best.rank then Some (record { proc = processor q; rank = rank }) else Some best

abbrev pub lowest_below : Prio → Seen → ℕ → ℕ → Option Outranked
lowest_below v seen best zero = None
lowest_below v seen best (suc q) = lower (lowest_below v seen best q) q (outranked_on v seen best q)

abbrev pub lowest : Prio → Seen → Option Outranked
lowest v seen = option_and_then (λ best. lowest_below v seen best (length v.on)) (first_rank v.base)

abbrev pub has_pair : Prio → Seen → Bool
has_pair v seen = is_some (lowest v seen)
