-- The laws of each record, along the records of an upcall.
use Rattle.std.proofs.Common.{◌≡◌, ℕ, ◌<◌, refl, sym, ◌∙◌, ap, subst, arith, Some, List, [], ◌∷◌, ◌++◌, length, map}
use Rattle.std.specs.Prelude.{get_or, slice_set, Contains}
use Rattle.std.proofs.lemmas.List.{get_or-set_same}
use Rattle.sa_base.specs.declared.number.SpaceNo.{SpaceNo}
use Rattle.sa_base.specs.declared.number.ProcNo.{ProcNo}
use Rattle.sa_base.specs.declared.number.ActNo.{ActNo}
use Rattle.sa_base.specs.declared.record.Note.{Note}
use Rattle.sa_base.specs.declared.record.Note.TheVariants.{Add}
use Rattle.sa_base.specs.declared.record.Record.{Record}
use Rattle.sa_base.specs.declared.record.Record.TheVariants.{Told}
use Rattle.sa_spaces.specs.Workload.{WorkloadView}
use Rattle.sa_laws.specs.Readings.{Readings, untold_of, space_of_life}
use Rattle.sa_laws.specs.Record.{after_record}
use Rattle.sa_laws.specs.History.{after_records}
use Rattle.sa_laws.specs.Upcalls.{RecordLaw, EachRecord, IsUntoldTo, TellsOnce, NamesTheLife, TellsAllThen, GivesUpcallThen, RaisesLine}
use Rattle.sa_kernel_laws.specs.Overview.{overview}
use Rattle.sa_kernel_laws.proofs.overview.Records.{told-spaces}
use Rattle.sa_kernel_laws.proofs.overview.Untold.{AreOnce, told-left, once-left}

-- the laws of each record together
pub record Lawful (p : ProcNo) (r : Readings) (x : Record) (rest : List Record) : Type 0 where
  pub once : TellsOnce r x rest
  pub named : NamesTheLife p r x rest
  pub all : TellsAllThen p r x rest
  pub gives : GivesUpcallThen p r x rest
  pub raises : RaisesLine r x rest

abbrev pub AreLawful : WorkloadView → ℕ → ProcNo → Readings → List Record → Type 0
AreLawful w e p r xs = EachRecord (Lawful p) w e p r xs

pub each-weaker : (L M : RecordLaw) (w : WorkloadView) (e : ℕ) (p : ProcNo) (r : Readings) (xs : List Record)
    → ((c : Readings) (x : Record) (rest : List Record) → L c x rest → M c x rest) → EachRecord L w e p r xs → EachRecord M w e p r xs
each-weaker L M w e p r [] weaker law = tt
each-weaker L M w e p r (x ∷ xs) weaker law = (weaker r x xs law.0, each-weaker L M w e p (after_record w e p r x) xs weaker law.1)

-- what is told was untold
untold-head : (r : Readings) (s : SpaceNo) (us : List (List Note)) (n : Note) (ns : List Note) → s.0 < length us → r.untold ≡ slice_set us s.0 (n ∷ ns)
    → Contains (untold_of r s) n
untold-head r s us n ns within is =
    let has : untold_of r s ≡ n ∷ ns = ap (λ (v : List (List Note)). get_or v s.0 []) is ∙ get_or-set_same us s.0 (n ∷ ns) [] within in
    let head : Contains (n ∷ ns) n = (0, omega arith, refl) in
    subst (λ ms. Contains ms n) (sym has) head

tells-head : (r : Readings) (s : SpaceNo) (n : Note) → Contains (untold_of r s) n → IsUntoldTo r (Some s) n
tells-head r s (Add q) has = tt
tells-head r s _ has = has

pub told-lawful : (w : WorkloadView) (e : ℕ) (p : ProcNo) (r : Readings) (s : SpaceNo) (a : ActNo) (us : List (List Note)) (ns : List Note) (rest : List Record)
    → s.0 < length us → r.untold ≡ slice_set us s.0 ns → AreOnce (slice_set us s.0 ns) → r.upped ≡ Some a → (overview r).spaces a.0 ≡ Some s
    → AreLawful w e p (after_records w e p r (map Told ns)) rest → AreLawful w e p r (map Told ns ++ rest)
told-lawful w e p r s a us [] rest within is once upped space law = law
told-lawful w e p r s a us (n ∷ ns) rest within is once upped space law =
    let next = after_record w e p r (Told n) in
    let of : space_of_life r r.upped ≡ Some s = ap (space_of_life r) upped ∙ space in
    let told : IsUntoldTo r (space_of_life r r.upped) n = subst (λ o. IsUntoldTo r o n) (sym of) (tells-head r s n (untold-head r s us n ns within is)) in
    let left : next.untold ≡ slice_set us s.0 ns = told-left n us s.0 ns r.untold within is once in (
      record { once = told; named = tt; all = tt; gives = tt; raises = tt },
      told-lawful w e p next s a us ns rest within left (once-left n us s.0 ns once) upped (ap (λ f. f a.0) (told-spaces w e p r n) ∙ space) law,
    )
