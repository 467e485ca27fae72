-- A legal trace tells in time, and covers shares.
use Rattle.std.proofs.Common.{◌≡◌, ◌≢◌, ℕ, zero, suc, ◌+◌, ◌<◌, ◌≤◌, inl, inr, refl, sym, ◌∙◌, ap, subst, arith, Some, None, List, [], ◌∷◌, length, map, min, true, false}
use Rattle.std.specs.Prelude.{slice_get, get_or, is_some, Option, Contains, if◌then◌else◌, ◌/◌, ◌%◌, ◌==◌, Bool}
use Rattle.std.specs.List.{range_with_len}
use Rattle.sa_base.specs.declared.number.SpaceNo.{SpaceNo}
use Rattle.sa_base.specs.declared.record.Note.{Note}
use Rattle.sa_base.specs.declared.record.Item.{Item}
use Rattle.sa_spaces.specs.Workload.{WorkloadView, IsWorkload}
use Rattle.sa_share.specs.declared.Claim.{Claim}
use Rattle.sa_share.specs.Share.{IsShare, share_at}
use Rattle.sa_share.proofs.RoundLemmas.{shares_of-share}
use Rattle.sa_share.proofs.ShareLemmas.{share_at-unique}
use Rattle.sa_assign.specs.Aims.{aimed, space_no}
use Rattle.sa_assign.specs.Reaim.{proc_no}
use Rattle.sa_laws.specs.Event.{Event, events_of}
use Rattle.sa_laws.specs.Readings.{Readings, opening_readings, line_of}
use Rattle.sa_laws.specs.History.{after_event, event_begun}
use Rattle.sa_laws.specs.Closing.{first_space, spaces_of, claim_of, claims_of, shares_at}
use Rattle.sa_laws.specs.Upcalls.{EachRecord}
use Rattle.sa_laws.specs.Rules.{UserRules, IsLawful}
use Rattle.sa_laws.specs.Legal.{IsLegal}
use Rattle.sa_laws.proofs.Lengths.{claims-length}
use Rattle.sa_promises.specs.Words.{last_aim}
use Rattle.sa_promises.specs.Headline.{up_to, AtEachEnd, IsInTime, TellsInTime, CoversShares, KeepsSharesCovered, claim_in, aims_of, procs_of}
use Rattle.sa_promises.specs.Reads.{Reads}
use Rattle.sa_histories.proofs.Walk.{walk-ends}
use Rattle.sa_histories.proofs.Traces.{items-events, legal-lawful}
use Rattle.sa_histories.proofs.Appended.{lawful-numbered}
use Rattle.sa_promises.proofs.words.Ends.{ends-at}
use Rattle.sa_promises.proofs.words.Moments.{ReadsIn, OnMachine, on-machine, Any, reads-kept, reads-start}

-- what follows from the laws of an event and from what is read at its end holds at the end of each event of a legal
-- trace
pub at-each-end : (u : UserRules) (w : WorkloadView) (items : List Item) (E : List Item → ℕ → Type 0) → IsLegal u w items
    → ((past : List Item) (r : Readings) (e : Event) → IsLawful u w r e → Reads w past (after_event u.inside w r e) → E past e.number)
    → AtEachEnd E items
at-each-end u w items E legal close j x at =
    let law = legal-lawful u w items legal in
    let gives : (r : Readings) (e : Event) → IsLawful u w r e → EachRecord (OnMachine w e.proc) w e.number e.proc (event_begun w e r) e.records =
    λ r e lawful. on-machine w e.proc e.number (event_begun w e r) e.records lawful.numbered.proc in
    let ends = walk-ends u w (OnMachine w) (Reads w) (ReadsIn w) Any E (reads-kept u.inside w) gives close [] (opening_readings w) (events_of items)
    (reads-start w) law in
    let all = ends-at E [] 0 (events_of items) (lawful-numbered u w (opening_readings w) (events_of items) law) ends in
    let all' : (k : ℕ) (y : Item) → slice_get items k ≡ Some y → E (up_to y.event items) y.event =
    subst (λ (ys : List Item). (k : ℕ) (y : Item) → slice_get ys k ≡ Some y → E (up_to y.event ys) y.event) (items-events items) all in
    all' j x at

has-some : (o : Option ℕ) → is_some o ≡ true → (v : ℕ) × (o ≡ Some v)
has-some None is = absurd (cc)
has-some (Some v) is = (v, refl)

empty-has : (notes : List Note) (n : Note) → Contains notes n → notes ≢ []
empty-has notes n has is = let h : Contains [] n = subst (λ (ns : List Note). Contains ns n) is has in omega (arith, h.1)

in-time : (u : UserRules) (w : WorkloadView) (past : List Item) (r : Readings) (e : Event) → IsLawful u w r e → Reads w past (after_event u.inside w r e)
    → IsInTime w past e.number
in-time u w past r e law reads s n below stands =
    elim (law.told_in_time.prompt.each s (empty-has _ n (reads.untold s n below stands))) [
      | inl owns_none ↦ inl (λ p is. owns_none p (reads.owners p ∙ is))
      | inr (inl fetching) ↦ inr (inl (sym (reads.fetching s) ∙ fetching))
      | inr (inr raised) ↦
          let line = has-some (line_of (after_event u.inside w r e) raised.0) raised.2 in
          inr (inr (raised.0, sym (reads.owners raised.0) ∙ raised.1, (line.0, reads.lines raised.0 line.0 line.1)))
    ]

pub tells-in-time : (u : UserRules) (w : WorkloadView) (items : List Item) → IsLegal u w items → TellsInTime w items
tells-in-time u w items legal = at-each-end u w items (IsInTime w) legal (in-time u w)

-- a list is that of its places
tabulated : {A : Type 0} (d : A) (xs : List A) (f : ℕ → A) (a : ℕ) → ((k : ℕ) → k < length xs → get_or xs k d ≡ f (a + k))
    → xs ≡ map f (range_with_len a (length xs))
tabulated d [] f a each = refl
tabulated d (x ∷ xs) f a each =
    let first : x ≡ f a = each 0 (omega arith) ∙ ap f (omega arith) in
    let others = tabulated d xs f (a + 1) (λ k below. each (suc k) (omega arith) ∙ ap f (omega arith)) in
    ap (λ y. y ∷ xs) first ∙ ap (λ ys. f a ∷ ys) others

-- functions that agree on the numbers of a range
agree : {A : Type 0} (f g : ℕ → A) (a n : ℕ) → ((k : ℕ) → a ≤ k → k < a + n → f k ≡ g k) → map f (range_with_len a n) ≡ map g (range_with_len a n)
agree f g a zero same = refl
agree f g a (suc n) same =
    ap (λ y. y ∷ map f (range_with_len (a + 1) n)) (same a (omega arith) (omega arith))
    ∙ ap (λ ys. g a ∷ ys) (agree f g (a + 1) n (λ k above below. same k (omega arith) (omega arith)))

map-map : {A B C : Type 0} (f : B → C) (g : A → B) (xs : List A) → map f (map g xs) ≡ map (λ x. f (g x)) xs
map-map f g [] = refl
map-map f g (x ∷ xs) = ap (λ ys. f (g x) ∷ ys) (map-map f g xs)

aims-are : (w : WorkloadView) (past : List Item) (r : Readings) → Reads w past r → r.aims ≡ map (last_aim past) (procs_of w)
aims-are w past r reads =
    let len = reads.aims_len in
    tabulated None r.aims (λ k. last_aim past (proc_no k)) 0
    (λ k below. reads.aims (proc_no k) (omega arith) ∙ ap (λ n. last_aim past (proc_no n)) (omega arith))
    ∙ ap (λ n. map (λ k. last_aim past (proc_no k)) (range_with_len 0 n)) len
    ∙ sym (map-map (last_aim past) proc_no (range_with_len 0 w.processors))

aimed-are : (w : WorkloadView) (past : List Item) (r : Readings) (s : SpaceNo) → Reads w past r → aims_of w past s ≡ aimed s.0 r.aims
aimed-are w past r s reads = sym (ap (aimed s.0) (aims-are w past r reads))

wants-are : (fetched fetching : Bool) (want demand aims aimed : ℕ) → fetched ≡ fetching → want ≡ demand → aims ≡ aimed
    → (if fetched then min want aims else want) ≡ (if fetching then min demand aimed else demand)
wants-are fetched fetching want demand aims aimed a b c = cc

claim-is : (w : WorkloadView) (past : List Item) (r : Readings) (s : SpaceNo) → s.0 < length w.spaces → Reads w past r → claim_in w past s ≡ claim_of w r s
claim-is w past r s below reads = ap (λ n. record { priority = (claim_of w r s).priority; want = n })
    (wants-are _ _ _ _ _ _ (sym (reads.fetching s)) (sym (reads.demands s below)) (aimed-are w past r s reads))

claims-are : (w : WorkloadView) (past : List Item) (r : Readings) → Reads w past r → map (claim_in w past) (spaces_of w) ≡ claims_of w r
claims-are w past r reads =
    map-map (claim_in w past) space_no (range_with_len 0 (length w.spaces))
    ∙ agree (λ k. claim_in w past (space_no k)) (λ k. claim_of w r (space_no k)) 0 (length w.spaces)
    (λ k above below. claim-is w past r (space_no k) (omega arith) reads)
    ∙ sym (map-map (claim_of w r) space_no (range_with_len 0 (length w.spaces)))

pub first-below : (w : WorkloadView) (e : ℕ) → 1 ≤ length w.spaces → first_space w e < length w.spaces
first-below w e some = one (w.slice == 0) where
  one : (b : Bool) → (if b then 0 else (e / w.slice) % length w.spaces) < length w.spaces
  one true = omega arith
  one false = omega arith

covers : (u : UserRules) (w : WorkloadView) → IsWorkload w → (past : List Item) (r : Readings) (e : Event) → IsLawful u w r e
    → Reads w past (after_event u.inside w r e)
    → CoversShares w past e.number
covers u w ok past r e law reads shares s given =
    let after = after_event u.inside w r e in
    let some = ok.some_space in
    let few = ok.few_spaces in
    let len = claims-length w after in
    let first = first-below w e.number some in
    let given' : IsShare w.processors (first_space w e.number) (claims_of w after) shares =
    subst (λ (cs : List Claim). IsShare w.processors (first_space w e.number) cs shares) (claims-are w past after reads) given in
    let own = shares_of-share w.processors (first_space w e.number) (claims_of w after) (omega arith) (omega arith) in
    let same : share_at shares s.0 ≡ share_at (shares_at w e.number after) s.0 =
    share_at-unique w.processors (first_space w e.number) (claims_of w after) shares (shares_at w e.number after) given' own s.0 in
    let covered = law.shares_covered.covered s.0 in
    let aims = aimed-are w past after s reads in
    omega arith

pub keeps-shares-covered : (u : UserRules) (w : WorkloadView) (items : List Item) → IsWorkload w → IsLegal u w items → KeepsSharesCovered w items
keeps-shares-covered u w items ok legal = at-each-end u w items (CoversShares w) legal (covers u w ok)
