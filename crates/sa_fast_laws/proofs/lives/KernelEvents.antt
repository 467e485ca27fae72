-- Events of the kernel alone are no steps, and have no operation on lists.
use Rattle.std.proofs.Common.{◌≡◌, false, List, [], ◌∷◌, refl, inl, inr}
use Rattle.std.specs.List.{list_any}
use Rattle.sa_base.specs.declared.record.Record.{Record}
use Rattle.sa_base.specs.declared.record.Record.TheVariants as records
use Rattle.sa_devices.specs.declared.kind.IoKind.{IoKind}
use Rattle.sa_devices.specs.declared.kind.IoKind.TheVariants.{Plain, Page, Upcall}
use Rattle.sa_laws.specs.History.{is_step}
use Rattle.sa_laws.specs.Turns.{is_of_locks, IsInterrupt, IsOver}
use Rattle.sa_laws.proofs.Records.{passage-plain}
use Rattle.sa_user_laws.specs.Steps.{AreKernels}

pub record IsKernels (own : List Record) : Type 0 where
  pub first : Record
  pub rest : List Record
  pub is : own ≡ first ∷ rest
  pub step : is_step first ≡ false
  pub locks : list_any is_of_locks (first ∷ rest) ≡ false

-- the kinds of the kernel's events
interrupt-is : (own : List Record) → IsInterrupt own → IsKernels own
interrupt-is (records.Stop s t a ∷ xs) h = record { first = records.Stop s t a; rest = xs; is = refl; step = refl; locks = passage-plain xs h }
interrupt-is (records.Up s a ∷ xs) h =
    record { first = records.Up s a; rest = xs; is = refl; step = refl; locks = passage-plain (records.Up s a ∷ xs) h }
interrupt-is (records.Move old new ∷ xs) h =
    record { first = records.Move old new; rest = xs; is = refl; step = refl; locks = passage-plain (records.Move old new ∷ xs) h }
interrupt-is _ h = absurd h

over-is : (kind : IoKind) (own : List Record) → IsOver kind own → IsKernels own
over-is (Plain s a) (records.Unblock of t b ∷ []) h = record { first = records.Unblock of t b; rest = []; is = refl; step = refl; locks = refl }
over-is (Page s a page) (records.Unblock of t b ∷ []) h = record { first = records.Unblock of t b; rest = []; is = refl; step = refl; locks = refl }
over-is (Upcall s) (records.Fetched of ∷ []) h = record { first = records.Fetched of; rest = []; is = refl; step = refl; locks = refl }
over-is kind xs h = absurd h

pub kernels-are : (own : List Record) → AreKernels own → IsKernels own
kernels-are own h = elim h [
  | inl stops ↦ interrupt-is own stops
  | inr other ↦ elim other [
    | inl over ↦ over-is over.0 own over.1
    | inr tick ↦ record { first = records.Tick; rest = []; is = tick; step = refl; locks = refl }
  ]
]
