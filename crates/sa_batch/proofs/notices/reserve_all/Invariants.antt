use Rattle.std.proofs.Common.{◌≡◌, ℕ, ◌≤◌, map, length}
use Rattle.std.specs.List.{AllWithin}
use Rattle.sa_batch.specs.Noted.{Noted}
use Rattle.sa_batch.specs.Notices.{notes_of, HaveRoom}
use Rattle.sa_batch.proofs.notices.reserve_all.Given as goal

abbrev pub invariant-loop-i : goal.invariant-loop-i
invariant-loop-i l = record {
  notes : map notes_of l.batches.items ≡ map notes_of l.fn.batches.items;
  grows : (k : ℕ) → HaveRoom k l.fn.batches.items → HaveRoom k l.batches.items;
  room : AllWithin (λ (b : Noted). l.n ≤ b.spare) l.batches.items 0 l.i;
  len : length l.batches.items ≡ l.i-end;
}
