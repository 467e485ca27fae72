-- The I/Os under way are numbered in the order in which they were begun, so each by a number of its own.
use Rattle.std.proofs.Common.{◌≡◌, ◌≢◌, ℕ, ◌+◌, ◌≤◌, arith, sym, ◌∙◌, ap, subst, refl, Bool, true, false, Option, Some, List, [], ◌∷◌, ◌++◌, inl, inr, filter, cond}
use Rattle.std.specs.Prelude.{◌==◌}
use Rattle.std.proofs.lemmas.Bool.Decides.{nat_tests}
use Rattle.sa_base.specs.declared.number.ProcNo.{ProcNo}
use Rattle.sa_base.specs.declared.record.Record.{Record}
use Rattle.sa_base.specs.declared.record.Record.TheVariants.{Block, Unblock, Fetch, Fetched}
use Rattle.sa_spaces.specs.Workload.{WorkloadView}
use Rattle.sa_devices.specs.Ios.{Io, due_of, io_at}
use Rattle.sa_devices.proofs.IosLemmas.{Member, IsDueOf, due_of-due}
use Rattle.sa_laws.specs.Event.{Event}
use Rattle.sa_laws.specs.Readings.{Readings}
use Rattle.sa_laws.specs.Record.{after_record, is_io_of_other, fetches_other}
use Rattle.sa_laws.specs.History.{after_records, after_event, event_begun, Test}

-- The numbers begin at `lo` or later, end before `hi`, and each is greater than the one before it.
abbrev pub AreRising : ℕ → ℕ → List Io → Type 0
AreRising lo hi [] = lo ≤ hi
AreRising lo hi (x ∷ xs) = (lo ≤ x.number) × AreRising (x.number + 1) hi xs

rising-lower : (lo to hi : ℕ) (xs : List Io) → to ≤ lo → AreRising lo hi xs → AreRising to hi xs
rising-lower lo to hi [] below is = omega (arith, below, is)
rising-lower lo to hi (x ∷ xs) below is = (let z = is.0 in omega (arith, below, z), is.1)

rising-filter : (f : Io → Bool) (lo hi : ℕ) (xs : List Io) → AreRising lo hi xs → AreRising lo hi (filter f xs)
rising-filter f lo hi [] is = is
rising-filter f lo hi (x ∷ xs) is = go (f x) (rising-filter f (x.number + 1) hi xs is.1)
  where
    go : (b : Bool) → AreRising (x.number + 1) hi (filter f xs) → AreRising lo hi (cond b (x ∷ filter f xs) (filter f xs))
    go true rest = (is.0, rest)
    go false rest = rising-lower (x.number + 1) lo hi (filter f xs) (let z = is.0 in omega (arith, z)) rest

rising-push : (lo hi : ℕ) (xs : List Io) (io : Io) → io.number ≡ hi → AreRising lo hi xs → AreRising lo (hi + 1) (xs ++ io ∷ [])
rising-push lo hi [] io same is = (omega (arith, same, is), omega (arith, same))
rising-push lo hi (x ∷ xs) io same is = (is.0, rising-push (x.number + 1) hi xs io same is.1)

abbrev pub IsNumberedWell : Readings → Type 0
IsNumberedWell r = AreRising 0 r.io_count r.under_way

rising-record : (w : WorkloadView) (e : ℕ) (p : ProcNo) (r : Readings) (x : Record) → IsNumberedWell r
    → IsNumberedWell (after_record w e p r x)
rising-record w e p r (Block s t a io) is = rising-push 0 r.io_count r.under_way _ refl is
rising-record w e p r (Fetch s) is = rising-push 0 r.io_count r.under_way _ refl is
rising-record w e p r (Unblock s t a) is = rising-filter (is_io_of_other a) 0 r.io_count r.under_way is
rising-record w e p r (Fetched s) is = rising-filter (fetches_other s) 0 r.io_count r.under_way is
rising-record w e p r x is = is

rising-records : (w : WorkloadView) (e : ℕ) (p : ProcNo) (r : Readings) (xs : List Record) → IsNumberedWell r
    → IsNumberedWell (after_records w e p r xs)
rising-records w e p r [] is = is
rising-records w e p r (x ∷ xs) is = rising-records w e p (after_record w e p r x) xs (rising-record w e p r x is)

pub rising-event : (test : Test) (w : WorkloadView) (r : Readings) (ev : Event) → IsNumberedWell r
    → IsNumberedWell (after_event test w r ev)
rising-event test w r ev is = rising-records w ev.number ev.proc (event_begun w ev r) ev.records is

-- So the I/O that is due is the one that its number finds.
above : (lo hi : ℕ) (d : Io) (xs : List Io) → AreRising lo hi xs → Member d xs → lo ≤ d.number
above lo hi d [] is member = absurd member
above lo hi d (x ∷ xs) is (inl same) = subst (λ (y : Io). lo ≤ y.number) (sym same) is.0
above lo hi d (x ∷ xs) is (inr there) = let z = above (x.number + 1) hi d xs is.1 there in let y = is.0 in omega (arith, z, y)

at-member : (lo hi : ℕ) (d : Io) (xs : List Io) → AreRising lo hi xs → Member d xs → io_at d.number xs ≡ Some d
at-member lo hi d [] is member = absurd member
at-member lo hi d (x ∷ xs) is (inl same) =
    let yes : (x.number == d.number) ≡ true =
    (let e : x.number ≡ d.number = ap (λ (y : Io). y.number) (sym same) in grind (arith, nat_tests, e)) in
    ap (λ (b : Bool). cond b (Some x) (io_at d.number xs)) yes ∙ ap Some (sym same)
at-member lo hi d (x ∷ xs) is (inr there) =
    let far = above (x.number + 1) hi d xs is.1 there in
    let apart : x.number ≢ d.number = λ e. omega (arith, far, e) in
    let no : (x.number == d.number) ≡ false = grind (arith, nat_tests, apart) in
    ap (λ (b : Bool). cond b (Some x) (io_at d.number xs)) no ∙ at-member (x.number + 1) hi d xs is.1 there

pub due-there : (e : ℕ) (hi : ℕ) (xs : List Io) (d : Io) → AreRising 0 hi xs → due_of e xs ≡ Some d → io_at d.number xs ≡ Some d
due-there e hi xs d is due = at-member 0 hi d xs is (subst (λ (o : Option Io). IsDueOf e xs o) due (due_of-due e xs)).0
