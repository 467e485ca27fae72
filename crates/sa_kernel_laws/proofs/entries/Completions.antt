-- Completions, hints, and what is given back.
use Rattle.std.proofs.Common.{◌≡◌, ◌≢◌, ℕ, zero, suc, ◌<◌, ◌≤◌, ◌+◌, inl, inr, refl, sym, ◌∙◌, ap, subst, arith, Some, None, List, [], ◌∷◌, ◌++◌, length, map, take, sum_by, true, false}
use Rattle.std.specs.Prelude.{Option, Bool, ◌⊎◌, ◌==◌, ◌&&◌, not, if◌then◌else◌, get_or, slice_set, filter, find, Contains}
use Rattle.std.proofs.lemmas.Bool.{eq-eqb, eqb-true, ne_eqb}
use Rattle.std.proofs.lemmas.List.{get_or-set_same, set-get_or, length-set, length-take, set-set}
use Rattle.std.proofs.lemmas.List.Sums.{sum_by-cons}
use Rattle.std.proofs.lemmas.List.Elements.{Contains-append_right}
use Rattle.std.proofs.lemmas.Option.{none-some, same_Some}
use Rattle.sa_base.specs.declared.number.SpaceNo.{SpaceNo}
use Rattle.sa_base.specs.declared.number.ProcNo.{ProcNo}
use Rattle.sa_base.specs.declared.number.ActNo.{ActNo}
use Rattle.sa_base.specs.declared.record.Note.{Note}
use Rattle.sa_base.specs.declared.record.Note.TheVariants.{Preempted, Unblocked}
use Rattle.sa_base.specs.declared.record.Record.{Record}
use Rattle.sa_base.specs.declared.record.Record.TheVariants.{Unblock, Fetched, Want, Aim, Line, GiveBack}
use Rattle.sa_spaces.specs.Workload.{WorkloadView}
use Rattle.sa_lemmas.specs.Function.{put}
use Rattle.sa_lemmas.proofs.FunctionUpdates.{put-other}
use Rattle.sa_acts.specs.declared.acts.Act.{Act}
use Rattle.sa_acts.specs.Table.{held_of}
use Rattle.sa_assign.specs.Aims.{space_no}
use Rattle.sa_devices.specs.Ios.{Io, io_at, is_number, without, fetches, is_fetch_of}
use Rattle.sa_devices.specs.Pages.{completed, IsKind}
use Rattle.sa_devices.specs.declared.kind.IoKind.{IoKind}
use Rattle.sa_devices.specs.declared.kind.IoKind.TheVariants.{Plain, Page, Upcall}
use Rattle.sa_kernel_model.specs.State.{KernelState, Scene, taken_of}
use Rattle.sa_kernel_model.specs.Closing.{was_idle as idle_in}
use Rattle.sa_kernel_model.specs.Entries.{come_back, over_for, thread_of, without_acts, gave_back}
use Rattle.sa_kernel_model.specs.Sound.{AreClaimed, io_claim, kind_claim, AreTaken}
use Rattle.sa_laws.specs.Life.{with_hand}
use Rattle.sa_laws.specs.Readings.{Readings}
use Rattle.sa_laws.specs.Record.{after_record, is_kind_of, is_io_of, is_io_of_other, fetches_other, with_page, is_other_act, without_act, one_thread}
use Rattle.sa_laws.specs.History.{after_records}
use Rattle.sa_laws.specs.Turns.{IsOver}
use Rattle.sa_laws.specs.Upcalls.{BeginsAsInterrupt}
use Rattle.sa_laws.proofs.Closings.{AreClosing}
use Rattle.sa_kernel_laws.specs.Overview.{Overview, overview, read_off, act_space, spaces_in, taken_behind}
use Rattle.sa_kernel_laws.specs.Kept.{IsTidy, AreDistinct, fetch_claim}
use Rattle.sa_kernel_laws.proofs.overview.Records.{put-through, back-record, give-record}
use Rattle.sa_kernel_laws.proofs.overview.Untold.{once_if}
use Rattle.sa_kernel_laws.proofs.overview.Once.{one-held, held-few, none-of}
use Rattle.sa_kernel_laws.proofs.overview.Idle.{idles-with, given-idles, contains-noted, not-there}
use Rattle.sa_kernel_laws.proofs.overview.Tidy.{tidy-in, tidy-of, tidy-back, tidy-fetched, distinct-emptied}
use Rattle.sa_kernel_laws.proofs.entries.Upcalls.{AreLawful}
use Rattle.sa_kernel_laws.proofs.entries.Walks.{reshaped, Walk, AreOwn, not-empty, has-life}

-- how many I/Os pass a test
abbrev passing : (Io → Bool) → List Io → ℕ
passing test [] = 0
passing test (io ∷ ios) = once_if (test io) + passing test ios

none-passes : (test : Io → Bool) (ios : List Io) → passing test ios ≡ 0 → filter (λ io. not (test io)) ios ≡ ios
none-passes test [] none = refl
none-passes test (io ∷ ios) none = here (test io) none (λ rest. none-passes test ios rest) where
  here : (b : Bool) → once_if b + passing test ios ≡ 0 → (passing test ios ≡ 0 → filter (λ x. not (test x)) ios ≡ ios)
      → (if not b then io ∷ filter (λ x. not (test x)) ios else filter (λ x. not (test x)) ios) ≡ io ∷ ios
  here true is rest = absurd (omega arith)
  here false is rest = ap (λ xs. io ∷ xs) (rest (omega arith))

some-passes : (test : Io → Bool) (n : ℕ) (ios : List Io) (here : Io) → io_at n ios ≡ Some here → test here ≡ true → 1 ≤ passing test ios
some-passes test n [] here is passes = absurd (none-some here is)
some-passes test n (io ∷ ios) here is passes = one (is_number n io) is (λ rest. some-passes test n ios here rest passes) where
  one : (b : Bool) → (if b then Some io else io_at n ios) ≡ Some here → (io_at n ios ≡ Some here → 1 ≤ passing test ios)
      → 1 ≤ once_if (test io) + passing test ios
  one true at rest = let e = ap once_if (ap test (same_Some io here at) ∙ passes) in omega arith
  one false at rest = let more = rest at in omega arith

-- the one that is over is the only one that passes
pub record IsLeft (test : Io → Bool) (n : ℕ) (ios : List Io) (here : Io) : Type 0 where
  pub left : filter (λ io. not (test io)) ios ≡ without n ios
  pub found : find test ios ≡ Some here

pub is-over : (test : Io → Bool) (n : ℕ) (ios : List Io) (here : Io) → io_at n ios ≡ Some here → test here ≡ true → passing test ios ≤ 1
    → IsLeft test n ios here
is-over test n [] here is passes few = absurd (none-some here is)
is-over test n (io ∷ ios) here is passes few =
    let both = one (is_number n io) (test io) refl is few (λ at less. is-over test n ios here at passes less) in record { left = both.0; found = both.1 } where
      one : (b c : Bool) → test io ≡ c → (if b then Some io else io_at n ios) ≡ Some here → once_if c + passing test ios ≤ 1
          → (io_at n ios ≡ Some here → passing test ios ≤ 1 → IsLeft test n ios here)
          → ((if not (test io) then io ∷ filter (λ x. not (test x)) ios else filter (λ x. not (test x)) ios) ≡ (if b then ios else io ∷ without n ios))
          × ((if test io then Some io else find test ios) ≡ Some here)
      one true true at is few rest = (
        ap (λ c. if not c then io ∷ filter (λ x. not (test x)) ios else filter (λ x. not (test x)) ios) at ∙ none-passes test ios (omega arith),
        ap (λ c. if c then Some io else find test ios) at ∙ is,
      )
      one true false at is few rest = absurd (let no : true ≡ false = sym passes ∙ ap test (sym (same_Some io here is)) ∙ at in cc)
      one false true at is few rest = absurd (let some = some-passes test n ios here is passes in omega arith)
      one false false at is few rest =
          let over = rest is (omega arith) in (
            ap (λ c. if not c then io ∷ filter (λ x. not (test x)) ios else filter (λ x. not (test x)) ios) at ∙ ap (λ xs. io ∷ xs) over.left,
            ap (λ c. if c then Some io else find test ios) at ∙ over.found,
          )

-- An I/O that is under way counts in the sum over all of them: one of an activation, by its claims, and the fetch of a space.
member-le : (f : Io → ℕ) (n : ℕ) (ios : List Io) (here : Io) → io_at n ios ≡ Some here → f here ≤ sum_by f ios
member-le f n [] here is = absurd (none-some here is)
member-le f n (io ∷ ios) here is = one (is_number n io) is (λ at. member-le f n ios here at) where
  one : (b : Bool) → (if b then Some io else io_at n ios) ≡ Some here → (io_at n ios ≡ Some here → f here ≤ sum_by f ios) → f here ≤ sum_by f (io ∷ ios)
  one true at rest = let all = sum_by-cons f io ios in let e = ap f (same_Some io here at) in omega arith
  one false at rest = let all = sum_by-cons f io ios in let more = rest at in omega arith

claim-one : (s u a b : ℕ) → s ≡ u → a ≡ b → once_if (s == u && a == b) ≡ once_if true
claim-one s u a b one two = ap (λ c. once_if (c && a == b)) (eq-eqb s u one) ∙ ap once_if (eq-eqb a b two)

one-kind : (kind : IoKind) (a : ActNo) (s : ℕ) → ((t : ℕ) → 1 ≤ kind_claim t a.0 kind → t ≡ s) → once_if (is_kind_of a kind) ≤ kind_claim s a.0 kind
one-kind (Plain u b) a s own = go (b.0 == a.0) refl where
  go : (c : Bool) → (b.0 == a.0) ≡ c → once_if c ≤ kind_claim s a.0 (Plain u b)
  go true is =
      let same : a.0 ≡ b.0 = sym (eqb-true b.0 a.0 is) in
      let here = claim-one u.0 u.0 a.0 b.0 refl same in
      let now = claim-one s u.0 a.0 b.0 (sym (own u.0 (omega arith))) same in omega arith
  go false is = omega arith
one-kind (Page u b k) a s own = go (b.0 == a.0) refl where
  go : (c : Bool) → (b.0 == a.0) ≡ c → once_if c ≤ kind_claim s a.0 (Page u b k)
  go true is =
      let same : a.0 ≡ b.0 = sym (eqb-true b.0 a.0 is) in
      let here = claim-one u.0 u.0 a.0 b.0 refl same in
      let now = claim-one s u.0 a.0 b.0 (sym (own u.0 (omega arith))) same in omega arith
  go false is = omega arith
one-kind (Upcall u) a s own = omega arith

passing-claims : (a : ActNo) (s : ℕ) (ios : List Io) → ((t : ℕ) → 1 ≤ sum_by (io_claim t a.0) ios → t ≡ s)
    → passing (is_io_of a) ios ≤ sum_by (io_claim s a.0) ios
passing-claims a s [] own = omega arith
passing-claims a s (io ∷ ios) own =
    let all = sum_by-cons (io_claim s a.0) io ios in
    let one = one-kind io.kind a s (λ t some. own t (let more = sum_by-cons (io_claim t a.0) io ios in omega arith)) in
    let rest = passing-claims a s ios (λ t some. own t (let more = sum_by-cons (io_claim t a.0) io ios in omega arith)) in
    omega arith

passing-fetches : (s : ℕ) (ios : List Io) → passing (fetches s) ios ≡ sum_by (fetch_claim s) ios
passing-fetches s [] = refl
passing-fetches s (io ∷ ios) = let all = sum_by-cons (fetch_claim s) io ios in let rest = passing-fetches s ios in omega arith

-- what a completion and a hint change
abbrev come : ProcNo → SpaceNo → ActNo → List Io → List ℕ → Overview → Overview
come p s a ios pages v = record v { untold = slice_set v.untold s.0 (get_or v.untold s.0 [] ++ Unblocked a ∷ []); under_way = ios; pages = pages }

over-same : (s : SpaceNo) (a : ActNo) (k : ℕ) (xs : List Record) → IsOver (Plain s a) xs → IsOver (Page s a k) xs
over-same s a k [] over = over
over-same s a k (Unblock of t b ∷ []) over = over
over-same s a k (x ∷ xs) over = absurd over

was-there : (ns : List Note) (a c : ActNo) → Contains ns (Preempted c) ⊎ (Unblocked a ≡ Preempted c) → Contains ns (Preempted c)
was-there ns a c (inl was) = was
was-there ns a c (inr new) = absurd (cc)

module _ {C : Type 0} where
  few-ios : (k : KernelState C) (t : ℕ) (n : ℕ) (here : Io) (s : ℕ) (a : ActNo) → AreClaimed k t → io_at n k.under_way ≡ Some here → io_claim s a.0 here ≡ 1
      → passing (is_io_of a) k.under_way ≤ 1
  few-ios k t n here s a claimed at one =
      let member = member-le (io_claim s a.0) n k.under_way here at in
      let held = claimed s a.0 in
      let few = held-few (k.acts a.0) s in
      let less = passing-claims a s k.under_way (λ u some. one-held (k.acts a.0) u s (let other = claimed u a.0 in omega arith) (omega arith)) in
      omega arith

  -- who was blocked is back
  back-walk : (w : WorkloadView) (e : ℕ) (p : ProcNo) (r : Readings) (x : Scene C) (t n : ℕ) (here : Io) (s : SpaceNo) (a : ActNo)
      → overview r ≡ read_off x.state → AreClaimed x.state t → io_at n x.state.under_way ≡ Some here → s.0 < length x.state.untold
      → ((b : ℕ) → io_claim s.0 b here ≡ once_if (b == a.0)) → ((u b : ℕ) → u ≢ s.0 → io_claim u b here ≡ 0) → is_io_of a here ≡ true
      → Walk w e p r x
      (come_back e p s a (record x { state = record x.state { under_way = without n x.state.under_way; pages = completed here.kind x.state.pages } }))
      (λ all. BeginsAsInterrupt all → ⊥) (IsOver (Plain s a))
  back-walk w e p r x t n here s a reads claimed at within one none passes =
      let k = x.state in
      let over = is-over (is_io_of a) n k.under_way here at passes (few-ios k t n here s.0 a claimed at (one a.0 ∙ ap once_if (eq-eqb a.0 a.0 refl))) in
      let record_is = back-record w e p r s (thread_of (held_of (k.acts a.0))) a in
      let F : Overview → Overview =
      λ (v : Overview). come p s a (filter (is_io_of_other a) v.under_way) (with_page v.pages (find (is_io_of a) v.under_way)) v in
      let G : List Io → Option Io → Overview = λ ios io. come p s a ios (with_page k.pages io) (read_off k) in
      let done : F (read_off k) ≡ come p s a (without n k.under_way) (completed here.kind k.pages) (read_off k) = λ i. G (over.left i) (over.found i) in
      record {
        records = Unblock s (thread_of (held_of (k.acts a.0))) a ∷ [];
        adds = refl;
        reads = record_is ∙ ap F reads ∙ done;
        lawful = λ rest closes law. (record { once = tt; named = tt; all = tt; gives = tt; raises = tt }, law);
        fixed = refl;
        idle = λ idle u c has.
            ap (λ f. f c.0) (idles-with (with_hand (one_thread (thread_of (held_of (k.acts a.0))))) (Some a) r.lives (λ l. refl))
            ∙ idle u c (was-there (get_or k.untold u []) a c (contains-noted k.untold s.0 u (Unblocked a) (Preempted c) has));
        tidy = λ tidy. tidy-of _ (tidy-back k.untold k.under_way s a n here within at one none (tidy-in k tidy)) tidy.taken;
        some = not-empty (Unblock s (thread_of (held_of (k.acts a.0))) a) [];
        own = refl;
        shape = (refl, refl);
        is = λ rest closes begins. begins;
      }

  fetched-walk : (w : WorkloadView) (e : ℕ) (p : ProcNo) (r : Readings) (x : Scene C) (n : ℕ) (here : Io) (s : SpaceNo) → overview r ≡ read_off x.state
      → IsTidy x.state → io_at n x.state.under_way ≡ Some here → here.kind ≡ Upcall s
      → Walk w e p r x
      (over_for e p (Upcall s) (record x { state = record x.state { under_way = without n x.state.under_way; pages = completed here.kind x.state.pages } }))
      (λ all. BeginsAsInterrupt all → ⊥) (IsOver (Upcall s))
  fetched-walk w e p r x n here s reads tidy at is =
      let k = x.state in
      let few : passing (fetches s.0) k.under_way ≤ 1 = (let same = passing-fetches s.0 k.under_way in let once = tidy.fetched s.0 in omega arith) in
      let passes : fetches s.0 here ≡ true = ap (λ kind. is_fetch_of s.0 kind) is ∙ eq-eqb s.0 s.0 refl in
      let over = is-over (fetches s.0) n k.under_way here at passes few in
      let F : Overview → Overview =
      λ (v : Overview). record v { under_way = filter (fetches_other s) v.under_way; pages = with_page v.pages (find (fetches s.0) v.under_way) } in
      let G : List Io → Option Io → Overview = λ ios io. record (read_off k) { under_way = ios; pages = with_page k.pages io } in
      record {
        records = Fetched s ∷ [];
        adds = refl;
        reads = ap F reads ∙ (λ i. G (over.left i) (over.found i));
        lawful = λ rest closes law. (record { once = tt; named = tt; all = tt; gives = tt; raises = tt }, law);
        fixed = refl;
        idle = λ idle. idle;
        tidy = λ tidy. tidy-of _ (tidy-fetched k.untold k.under_way n here at (λ u b. ap (kind_claim u b) is) (tidy-in k tidy)) tidy.taken;
        some = not-empty (Fetched s) [];
        own = refl;
        shape = refl;
        is = λ rest closes begins. begins;
      }

  pub over-walk : (w : WorkloadView) (e : ℕ) (p : ProcNo) (r : Readings) (x : Scene C) (t n : ℕ) (here : Io) (kind : IoKind) → overview r ≡ read_off x.state
      → AreClaimed x.state t → IsTidy x.state → IsKind (length x.state.untold) here.kind → io_at n x.state.under_way ≡ Some here → here.kind ≡ kind
      → Walk w e p r x
      (over_for e p kind (record x { state = record x.state { under_way = without n x.state.under_way; pages = completed here.kind x.state.pages } }))
      (λ all. BeginsAsInterrupt all → ⊥) (IsOver kind)
  over-walk w e p r x t n here (Plain s a) reads claimed tidy within at is =
      back-walk w e p r x t n here s a reads claimed at (subst (λ kind. IsKind (length x.state.untold) kind) is within)
      (λ b. ap (kind_claim s.0 b) is ∙ ap (λ c. once_if (c && b == a.0)) (eq-eqb s.0 s.0 refl))
      (λ u b apart. ap (kind_claim u b) is ∙ ap (λ c. once_if (c && b == a.0)) (ne_eqb u s.0 apart))
      (ap (is_kind_of a) is ∙ eq-eqb a.0 a.0 refl)
  over-walk w e p r x t n here (Page s a k) reads claimed tidy within at is =
      reshaped w e p r x
      (come_back e p s a (record x { state = record x.state { under_way = without n x.state.under_way; pages = completed here.kind x.state.pages } }))
      (λ all. BeginsAsInterrupt all → ⊥) (IsOver (Plain s a)) (λ all. BeginsAsInterrupt all → ⊥) (IsOver (Page s a k))
      (λ all calm. calm) (λ xs over. over-same s a k xs over)
      (back-walk w e p r x t n here s a reads claimed at (subst (λ kind. IsKind (length x.state.untold) kind) is within).0
      (λ b. ap (kind_claim s.0 b) is ∙ ap (λ c. once_if (c && b == a.0)) (eq-eqb s.0 s.0 refl))
      (λ u b apart. ap (kind_claim u b) is ∙ ap (λ c. once_if (c && b == a.0)) (ne_eqb u s.0 apart))
      (ap (is_kind_of a) is ∙ eq-eqb a.0 a.0 refl))
  over-walk w e p r x t n here (Upcall s) reads claimed tidy within at is = fetched-walk w e p r x n here s reads tidy at is

-- what is given back
others-left : (a : ActNo) (ids : List ActNo) → ((b : ActNo) → Contains ids b → b.0 ≢ a.0) → filter (is_other_act a) ids ≡ ids
others-left a [] apart = refl
others-left a (b ∷ ids) apart =
    ap (λ c. if not c then b ∷ filter (is_other_act a) ids else filter (is_other_act a) ids) (ne_eqb b.0 a.0 (apart b (0, omega arith, refl)))
    ∙ ap (λ xs. b ∷ xs) (others-left a ids (λ c has. apart c (Contains-append_right (b ∷ []) ids c has)))

first-left : (a : ActNo) (ids : List ActNo) → ((b : ActNo) → Contains ids b → b.0 ≢ a.0) → filter (is_other_act a) (a ∷ ids) ≡ ids
first-left a ids apart =
    ap (λ c. if not c then a ∷ filter (is_other_act a) ids else filter (is_other_act a) ids) (eq-eqb a.0 a.0 refl) ∙ others-left a ids apart

abbrev gone : List ActNo → (ℕ → Option SpaceNo) → ℕ → Option SpaceNo
gone [] spaces = spaces
gone (a ∷ ids) spaces = gone ids (put spaces a.0 None)

-- the number of a life that is taken is given back
abbrev given_one : ActNo → SpaceNo → Overview → Overview
given_one a s v = record v { spaces = put v.spaces a.0 None; taken = without_act v.taken (Some s) a }

give-one : (w : WorkloadView) (e : ℕ) (p : ProcNo) (r : Readings) (a : ActNo) (s : SpaceNo) → (overview r).spaces a.0 ≡ Some s
    → overview (after_record w e p r (GiveBack a)) ≡ given_one a s (overview r)
give-one w e p r a s space =
    let spaces = give-record w e p r a in
    λ i. record (overview r) { spaces = spaces i; taken = without_act r.taken (space i) a }

give-reads : (w : WorkloadView) (e : ℕ) (p : ProcNo) (r : Readings) (s : SpaceNo) (ids : List ActNo)
    → ((a : ActNo) → Contains ids a → (overview r).spaces a.0 ≡ Some s) → AreDistinct ids → s.0 < length r.taken → get_or r.taken s.0 [] ≡ ids
    → overview (after_records w e p r (map GiveBack ids)) ≡ (record (overview r) { spaces = gone ids (overview r).spaces; taken = slice_set r.taken s.0 [] })
give-reads w e p r s [] has distinct within is = λ i. record (overview r) { taken = (sym (ap (slice_set r.taken s.0) (sym is) ∙ set-get_or r.taken s.0 [])) i }
give-reads w e p r s (a ∷ ids) has distinct within is =
    let F : Overview → Overview = λ (v : Overview). record v { spaces = gone ids v.spaces; taken = slice_set v.taken s.0 [] } in
    let next = after_record w e p r (GiveBack a) in
    let one = give-one w e p r a s (has a (0, omega arith, refl)) in
    let taken : next.taken ≡ without_act r.taken (Some s) a = ap (λ (v : Overview). v.taken) one in
    let left : get_or next.taken s.0 [] ≡ ids =
    ap (λ t. get_or t s.0 []) taken ∙ get_or-set_same r.taken s.0 (filter (is_other_act a) (get_or r.taken s.0 [])) [] within ∙ ap (filter (is_other_act a)) is
    ∙ first-left a ids distinct.0 in
    let len : s.0 < length next.taken =
    (let same = ap (λ (t : List (List ActNo)). length t) taken in let set_len = length-set r.taken s.0 (filter (is_other_act a) (get_or r.taken s.0 [])) in
    omega arith) in
    give-reads w e p next s ids
    (λ b there. ap (λ (v : Overview). v.spaces b.0) one ∙ put-other (overview r).spaces a.0 b.0 None (distinct.0 b there)
    ∙ has b (Contains-append_right (a ∷ []) ids b there))
    distinct.1 len left
    ∙ ap F one
    ∙ (λ i. record (overview r) {
      spaces = gone ids (put (overview r).spaces a.0 None);
      taken = set-set r.taken s.0 (filter (is_other_act a) (get_or r.taken s.0 [])) [] i;
    })

give-laws : (w : WorkloadView) (e : ℕ) (p : ProcNo) (r : Readings) (s : SpaceNo) (ids : List ActNo) (rest : List Record)
    → ((a : ActNo) → Contains ids a → (overview r).spaces a.0 ≡ Some s) → AreDistinct ids → s.0 < length r.taken → get_or r.taken s.0 [] ≡ ids
    → AreLawful w e p (after_records w e p r (map GiveBack ids)) rest → AreLawful w e p r (map GiveBack ids ++ rest)
give-laws w e p r s [] rest has distinct within is law = law
give-laws w e p r s (a ∷ ids) rest has distinct within is law =
    let next = after_record w e p r (GiveBack a) in
    let one = give-one w e p r a s (has a (0, omega arith, refl)) in
    let taken : next.taken ≡ without_act r.taken (Some s) a = ap (λ (v : Overview). v.taken) one in
    let left : get_or next.taken s.0 [] ≡ ids =
    ap (λ t. get_or t s.0 []) taken ∙ get_or-set_same r.taken s.0 (filter (is_other_act a) (get_or r.taken s.0 [])) [] within ∙ ap (filter (is_other_act a)) is
    ∙ first-left a ids distinct.0 in
    let len : s.0 < length next.taken =
    (let same = ap (λ (t : List (List ActNo)). length t) taken in let set_len = length-set r.taken s.0 (filter (is_other_act a) (get_or r.taken s.0 [])) in
    omega arith) in
    let life = has-life (r.lives a.0) s (has a (0, omega arith, refl)) in
    let head : Contains (a ∷ ids) a = (0, omega arith, refl) in (
      record {
        once = tt;
        named = tt;
        all = record {
          life = life.0;
          is = life.1;
          taken = subst (λ (t : SpaceNo). Contains (get_or r.taken t.0 []) a) (sym life.2) (subst (λ xs. Contains xs a) (sym is) head);
        };
        gives = tt;
        raises = tt;
      },
      give-laws w e p next s ids rest
          (λ b there. ap (λ (v : Overview). v.spaces b.0) one ∙ put-other (overview r).spaces a.0 b.0 None (distinct.0 b there)
          ∙ has b (Contains-append_right (a ∷ []) ids b there))
          distinct.1 len left law,
    )

take-set : (n : ℕ) (xs : List (List ActNo)) (i : ℕ) (x : List ActNo) → take n (slice_set xs i x) ≡ slice_set (take n xs) i x
take-set (suc n) (y ∷ xs) (suc i) x = ap (λ ys. y ∷ ys) (take-set n xs i x)
take-set _ _ _ x = refl

take-at : (n : ℕ) (xs : List (List ActNo)) (i : ℕ) → i < n → get_or (take n xs) i [] ≡ get_or xs i []
take-at zero xs i below = absurd (omega arith)
take-at (suc n) (y ∷ xs) (suc i) below = take-at n xs i (omega arith)
take-at (suc n) _ _ below = refl

give-own : (ids : List ActNo) → AreOwn (map GiveBack ids)
give-own [] = refl
give-own (a ∷ ids) = give-own ids

give-calm : (ids : List ActNo) (rest : List Record) → AreClosing rest → BeginsAsInterrupt (map GiveBack ids ++ rest) → ⊥
give-calm (a ∷ ids) rest closes begins = begins
give-calm [] [] closes begins = begins
give-calm [] (Want s n ∷ rest) closes begins = begins
give-calm [] (Line q ∷ rest) closes begins = begins
give-calm [] (Aim q s ∷ rest) closes begins = begins
give-calm [] (x ∷ rest) closes begins = absurd (cc)

give-some : (ids : List ActNo) → 1 ≤ length ids → map GiveBack ids ≢ []
give-some [] some is = absurd (omega arith)
give-some (a ∷ ids) some is = cc

module _ {C : Type 0} where
  gone-acts : (ids : List ActNo) (acts : ℕ → Option (Act C)) (spaces : ℕ → Option SpaceNo) → (λ j. act_space (acts j)) ≡ spaces
      → gone ids spaces ≡ (λ j. act_space (without_acts ids acts j))
  gone-acts [] acts spaces is = sym is
  gone-acts (a ∷ ids) acts spaces is =
      gone-acts ids (put acts a.0 None) (put spaces a.0 None) (put-through act_space acts a.0 None ∙ ap (λ f. put f a.0 None) is)

  acts-left : (ids : List ActNo) (acts : ℕ → Option (Act C)) (b : ℕ) → ((a : ActNo) → Contains ids a → b ≢ a.0) → without_acts ids acts b ≡ acts b
  acts-left [] acts b apart = refl
  acts-left (a ∷ ids) acts b apart =
      acts-left ids (put acts a.0 None) b (λ c has. apart c (Contains-append_right (a ∷ []) ids c has))
      ∙ put-other acts a.0 b None (apart a (0, omega arith, refl))

  pub give-walk : (w : WorkloadView) (e : ℕ) (p : ProcNo) (r : Readings) (x : Scene C) (t : ℕ) (s : SpaceNo) → overview r ≡ read_off x.state
      → AreClaimed x.state t → IsTidy x.state → x.state.telling ≡ [] → AreTaken x.state.taken x.state.acts → s.0 < length x.state.fixed.priorities
      → length x.state.fixed.priorities ≤ length x.state.taken → 1 ≤ length (taken_of x.state s.0)
      → Walk w e p r x (gave_back e p (Some s) x) (λ all. BeginsAsInterrupt all → ⊥) (λ own. own ≡ map GiveBack (taken_of x.state s.0))
  give-walk w e p r x t s reads claimed tidy empty taken below enough some =
      let k = x.state in
      let ids = taken_of k s.0 in
      let was : r.taken ≡ take (length k.fixed.priorities) k.taken =
      ap (λ (v : Overview). v.taken) reads ∙ ap (λ ns. taken_behind (spaces_in k) ns (take (length k.fixed.priorities) k.taken)) empty in
      let here : get_or r.taken s.0 [] ≡ ids = ap (λ t. get_or t s.0 []) was ∙ take-at (length k.fixed.priorities) k.taken s.0 below in
      let within : s.0 < length r.taken =
      (let len = ap (λ (t : List (List ActNo)). length t) was in let cut = length-take (length k.fixed.priorities) k.taken in omega arith) in
      let has : (a : ActNo) → Contains ids a → (overview r).spaces a.0 ≡ Some s = λ a there.
      let act = taken s.0 a there in
      ap (λ (v : Overview). v.spaces a.0) reads ∙ ap act_space act.is ∙ ap (λ (i : ℕ). Some (space_no i)) act.space in
      let G : (ℕ → Option SpaceNo) → List (List ActNo) → Overview = λ f t. record (read_off k) { spaces = f; taken = t } in
      let new = (gave_back e p (Some s) x).state in
      let left : slice_set r.taken s.0 [] ≡ (read_off new).taken =
      ap (λ t. slice_set t s.0 []) was ∙ sym (take-set (length k.fixed.priorities) k.taken s.0 [])
      ∙ ap (λ ns. taken_behind (spaces_in new) ns (take (length k.fixed.priorities) (slice_set k.taken s.0 []))) (sym empty) in
      let F : Overview → (ℕ → Option SpaceNo) → List (List ActNo) → Overview = λ (v : Overview) f t. record v { spaces = f; taken = t } in
      let spaces : gone ids (overview r).spaces ≡ spaces_in new = gone-acts ids k.acts (overview r).spaces (ap (λ (v : Overview). v.spaces) (sym reads)) in
      record {
        records = map GiveBack ids;
        adds = refl;
        reads = give-reads w e p r s ids has (tidy.taken s.0) within here ∙ (λ i. F (reads i) (spaces i) (left i));
        lawful = λ rest closes law. give-laws w e p r s ids rest has (tidy.taken s.0) within here law;
        fixed = refl;
        idle = λ idle u c has.
            let apart : (a : ActNo) → Contains ids a → c.0 ≢ a.0 = λ a there.
            let act = taken s.0 a there in
            not-there k.untold u a c (none-of k t (Preempted a) a.0 refl claimed tidy (ap held_of act.is ∙ act.none_held)) has in
            given-idles w e p r ids c.0 apart ∙ idle u c has ∙ ap (λ o. idle_in (held_of o)) (sym (acts-left ids k.acts c.0 apart));
        tidy = λ tidy. tidy-of new (tidy-in k tidy) (distinct-emptied k.taken s.0 tidy.taken);
        some = give-some ids some;
        own = give-own ids;
        shape = refl;
        is = λ rest closes. give-calm ids rest closes;
      }
