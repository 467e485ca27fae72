-- The contexts that are held, and the claims on them.
use Rattle.std.proofs.Common.{◌≡◌, ℕ, zero, suc, ◌+◌, ◌<◌, ◌≤◌, Bool, true, false, ◌&&◌, cond, eqb, Option, Some, None, is_some, List, [], ◌∷◌, ◌++◌, length, sum_by, get_or, slice_set, Contains, refl, sym, ap, subst, ◌∙◌, inl, inr, arith}
use Rattle.std.proofs.lemmas.Bool.{cases_eq, cond-true, cond-false, eq-eqb, ne_eqb, eqb-true}
use Rattle.std.proofs.lemmas.List.{get_or-set_other, get_or-set_same}
use Rattle.std.proofs.lemmas.List.Sums.{sum_by-cons, sum_by_push}
use Rattle.sa_base.specs.declared.number.ProcNo.{ProcNo}
use Rattle.sa_base.specs.declared.number.SpaceNo.{SpaceNo}
use Rattle.sa_base.specs.declared.number.ActNo.{ActNo}
use Rattle.sa_base.specs.declared.record.Note.{Note}
use Rattle.sa_base.specs.declared.record.Note.TheVariants.{Add, Preempted, Blocked, Unblocked}
use Rattle.sa_base.specs.declared.context.Stopped.{Stopped}
use Rattle.sa_lemmas.specs.Function.{put}
use Rattle.sa_lemmas.proofs.FunctionUpdates.{put-at, put-other}
use Rattle.sa_acts.specs.declared.acts.Act.{Act}
use Rattle.sa_acts.specs.Table.{holding, runs_in, held_of, taken_from, space_of}
use Rattle.sa_devices.specs.declared.kind.IoKind.TheVariants.{Upcall}
use Rattle.sa_devices.proofs.SoundLemmas.{sum-without}
use Rattle.sa_devices.specs.Ios.{Io, io_at, without}
use Rattle.sa_batch.specs.Notices.{notes_told}
use Rattle.sa_kernel_model.specs.Entries.{io_for, without_acts}
use Rattle.sa_kernel_model.specs.Sound.{note_claim, kind_claim, io_claim, held_in, IsTaken}
use Rattle.sa_kernel_model.proofs.parts.Seen.{bit_of}

-- tests
pub cond-zero : (b : Bool) → cond b zero zero ≡ zero
cond-zero true = refl
cond-zero false = refl

two-tests : (b c : Bool) → cond b (bit_of c) zero ≡ cond c (bit_of b) zero
two-tests true true = refl
two-tests true false = refl
two-tests false true = refl
two-tests false false = refl

both-tests : (b c : Bool) → bit_of (b && c) ≡ cond b (bit_of c) zero
both-tests true true = refl
both-tests true false = refl
both-tests false true = refl
both-tests false false = refl

and-true : (b : Bool) → bit_of (b && true) ≡ bit_of b
and-true true = refl
and-true false = refl

and-false : (b : Bool) → bit_of (b && false) ≡ zero
and-false true = refl
and-false false = refl

-- sums of a space's notices: a notice more, and none
sum-noted : (f : Note → ℕ) (untold : List (List Note)) (s t : ℕ) (note : Note) → s < length untold
    → sum_by f (get_or (slice_set untold s (get_or untold s [] ++ note ∷ [])) t []) ≡ sum_by f (get_or untold t []) + cond (eqb t s) (f note) 0
sum-noted f untold s t note within = elim (cases_eq t s) [
  | inl same ↦
      let new : List Note = get_or untold s [] ++ note ∷ [] in
      let now = ap (λ i. sum_by f (get_or (slice_set untold s new) i [])) same ∙ ap (sum_by f) (get_or-set_same untold s new [] within) in
      let was = ap (λ i. sum_by f (get_or untold i [])) same in
      let push = sum_by_push f (get_or untold s []) note in
      let one = cond-true (eqb t s) (f note) 0 (eq-eqb t s same) in
      omega arith
  | inr apart ↦
      let now = ap (sum_by f) (get_or-set_other untold s t (get_or untold s [] ++ note ∷ []) [] apart) in
      let one = cond-false (eqb t s) (f note) 0 (ne_eqb t s apart) in
      omega arith
]

sum-emptied : (f : Note → ℕ) (untold : List (List Note)) (s t : ℕ) → s < length untold
    → sum_by f (get_or (slice_set untold s []) t []) + cond (eqb t s) (sum_by f (get_or untold s [])) 0 ≡ sum_by f (get_or untold t [])
sum-emptied f untold s t within = elim (cases_eq t s) [
  | inl same ↦
      let now : sum_by f (get_or (slice_set untold s []) t []) ≡ 0 =
      ap (λ i. sum_by f (get_or (slice_set untold s []) i [])) same ∙ ap (sum_by f) (get_or-set_same untold s [] [] within) in
      let was = ap (λ i. sum_by f (get_or untold i [])) same in
      let one = cond-true (eqb t s) (sum_by f (get_or untold s [])) 0 (eq-eqb t s same) in
      omega arith
  | inr apart ↦
      let now = ap (sum_by f) (get_or-set_other untold s t [] [] apart) in
      let one = cond-false (eqb t s) (sum_by f (get_or untold s [])) 0 (ne_eqb t s apart) in
      omega arith
]

-- an upcall's notice of an added processor hands nothing over
sum-told : (a : ℕ) (added : Bool) (p : ProcNo) (notes : List Note) → sum_by (note_claim a) (notes_told added p notes) ≡ sum_by (note_claim a) notes
sum-told a true p notes = sum_by-cons (note_claim a) (Add p) notes ∙ omega arith
sum-told a false p notes = refl

-- an I/O of a block is for the context that blocked
io_for-claim : (s a : ℕ) (t : SpaceNo) (b : ActNo) (page : Option ℕ) → kind_claim s a (io_for t b page) ≡ cond (eqb s t.0) (bit_of (eqb a b.0)) 0
io_for-claim s a t b None = both-tests (eqb s t.0) (eqb a b.0)
io_for-claim s a t b (Some k) = both-tests (eqb s t.0) (eqb a b.0)

module _ {C : Type 0} where
  -- what is held of an activation
  held-runs : (x : Option (Act C)) (s : SpaceNo) (t : ℕ) → x ≡ Some (runs_in s) → held_in t x ≡ 0
  held-runs x s t is = ap (held_in t) is ∙ and-false (eqb t s.0)

  held-holding : (x : Option (Act C)) (s : SpaceNo) (h : Stopped C) (t : ℕ) → x ≡ Some (runs_in s) → held_in t (holding h x) ≡ bit_of (eqb t s.0)
  held-holding x s h t is = ap (λ y. held_in t (holding h y)) is ∙ and-true (eqb t s.0)

  held-taken_from : (x : Option (Act C)) (t : ℕ) → held_in t (taken_from x) ≡ 0
  held-taken_from None t = refl
  held-taken_from (Some y) t = and-false (eqb t y.space.0)

  held-act : (y : Act C) (t : ℕ) → y.held ≡ None → held_in t (Some y) ≡ 0
  held-act y t none = ap (λ (h : Option (Stopped C)). bit_of (eqb t y.space.0 && is_some h)) none ∙ and-false (eqb t y.space.0)

  pub held-none : (x : Option (Act C)) (t : ℕ) → held_of x ≡ None → held_in t x ≡ 0
  held-none None t none = refl
  held-none (Some y) t none = held-act y t none

  held-taken : (s : ℕ) (x : Option (Act C)) (t : ℕ) → IsTaken s x → held_in t x ≡ 0
  held-taken s x t taken = ap (held_in t) taken.is ∙ held-act taken.here t taken.none_held

  -- where a context of space t is held, it is of no other
  pub held-space : (x : Option (Act C)) (t : ℕ) → 1 ≤ held_in t x → (u : ℕ) → held_in u x ≡ bit_of (eqb u t)
  held-space None t some u = absurd (omega arith)
  held-space (Some y) t some u = go y.held refl some
    where
      known : (b : Bool) → 1 ≤ bit_of (b && true) → b ≡ true
      known true h = refl
      known false h = absurd (omega arith)

      go : (h : Option (Stopped C)) → y.held ≡ h → 1 ≤ bit_of (eqb t y.space.0 && is_some y.held)
          → bit_of (eqb u y.space.0 && is_some y.held) ≡ bit_of (eqb u t)
      go None is some = absurd (let none = held-act y t is in omega arith)
      go (Some h) is some =
          let same : t ≡ y.space.0 =
          eqb-true t y.space.0 (known (eqb t y.space.0) (subst (λ (o : Option (Stopped C)). 1 ≤ bit_of (eqb t y.space.0 && is_some o)) is some)) in
          ap (λ (o : Option (Stopped C)). bit_of (eqb u y.space.0 && is_some o)) is ∙ and-true (eqb u y.space.0) ∙ ap (λ n. bit_of (eqb u n)) (sym same)

  pub space-held : (x : Option (Act C)) (t : ℕ) → 1 ≤ held_in t x → (space_of x).0 ≡ t
  space-held None t some = absurd (omega arith)
  space-held (Some y) t some = sym (eqb-true t y.space.0 (first (eqb t y.space.0) (is_some y.held) some))
    where
      first : (b c : Bool) → 1 ≤ bit_of (b && c) → b ≡ true
      first true c h = refl
      first false true h = absurd (omega arith)
      first false false h = absurd (omega arith)

  -- what is held, where one number changes: a context is held from now on, a number is used, and a context is no longer held
  held-filled : (acts : ℕ → Option (Act C)) (i b t : ℕ) (s : SpaceNo) (h : Stopped C) → acts i ≡ Some (runs_in s)
      → held_in t (put acts i (holding h (acts i)) b) ≡ held_in t (acts b) + cond (eqb b i) (bit_of (eqb t s.0)) 0
  held-filled acts i b t s h runs = elim (cases_eq b i) [
    | inl same ↦
        let now = ap (held_in t) (put-at acts i b (holding h (acts i)) same) ∙ held-holding (acts i) s h t runs in
        let was : held_in t (acts b) ≡ 0 = ap (λ j. held_in t (acts j)) same ∙ held-runs (acts i) s t runs in
        let one = cond-true (eqb b i) (bit_of (eqb t s.0)) 0 (eq-eqb b i same) in
        omega arith
    | inr apart ↦
        let now = ap (held_in t) (put-other acts i b (holding h (acts i)) apart) in
        let one = cond-false (eqb b i) (bit_of (eqb t s.0)) 0 (ne_eqb b i apart) in
        omega arith
  ]

  held-emptied : (acts : ℕ → Option (Act C)) (i b t : ℕ) (x : Option (Act C)) → held_in t x ≡ 0
      → held_in t (put acts i x b) + cond (eqb b i) (held_in t (acts i)) 0 ≡ held_in t (acts b)
  held-emptied acts i b t x none = elim (cases_eq b i) [
    | inl same ↦
        let now = ap (held_in t) (put-at acts i b x same) in
        let was = ap (λ j. held_in t (acts j)) same in
        let one = cond-true (eqb b i) (held_in t (acts i)) 0 (eq-eqb b i same) in
        omega arith
    | inr apart ↦
        let now = ap (held_in t) (put-other acts i b x apart) in
        let one = cond-false (eqb b i) (held_in t (acts i)) 0 (ne_eqb b i apart) in
        omega arith
  ]

  held-rests : (acts : ℕ → Option (Act C)) (i b t : ℕ) (x : Option (Act C)) → held_in t (acts i) ≡ 0 → held_in t x ≡ 0
      → held_in t (put acts i x b) ≡ held_in t (acts b)
  held-rests acts i b t x was none =
      let e = held-emptied acts i b t x none in
      let z : cond (eqb b i) (held_in t (acts i)) 0 ≡ 0 = ap (λ n. cond (eqb b i) n 0) was ∙ cond-zero (eqb b i) in
      omega arith

  -- the claims of each space on each context
  abbrev pub Claims : List Io → List (List Note) → List Note → (ℕ → Option (Act C)) → ℕ → Type 0
  Claims ios untold telling acts told_to =
      (s a : ℕ) → sum_by (io_claim s a) ios + sum_by (note_claim a) (get_or untold s []) + cond (eqb s told_to) (sum_by (note_claim a) telling) 0
      ≡ held_in s (acts a)

  pub claims-stopped : (ios : List Io) (untold : List (List Note)) (telling : List Note) (acts : ℕ → Option (Act C)) (t : ℕ) (s : SpaceNo) (a : ActNo)
      (h : Stopped C) → s.0 < length untold → acts a.0 ≡ Some (runs_in s) → Claims ios untold telling acts t
      → Claims ios (slice_set untold s.0 (get_or untold s.0 [] ++ Preempted a ∷ [])) telling (put acts a.0 (holding h (acts a.0))) t
  claims-stopped ios untold telling acts t s a h within runs claims u b =
      let was = claims u b in
      let noted = sum-noted (note_claim b) untold s.0 u (Preempted a) within in
      let held = held-filled acts a.0 b u s h runs in
      let swap = two-tests (eqb u s.0) (eqb b a.0) in
      omega arith

  pub claims-blocked : (ios : List Io) (untold : List (List Note)) (telling : List Note) (acts : ℕ → Option (Act C)) (t : ℕ) (s : SpaceNo) (a : ActNo)
      (h : Stopped C) (io : Io) (page : Option ℕ) → io.kind ≡ io_for s a page → s.0 < length untold → acts a.0 ≡ Some (runs_in s)
      → Claims ios untold telling acts t
      → Claims (ios ++ io ∷ []) (slice_set untold s.0 (get_or untold s.0 [] ++ Blocked a ∷ [])) telling (put acts a.0 (holding h (acts a.0))) t
  claims-blocked ios untold telling acts t s a h io page kind within runs claims u b =
      let was = claims u b in
      let more = sum_by_push (io_claim u b) ios io in
      let one = ap (kind_claim u b) kind ∙ io_for-claim u b s a page in
      let noted = sum-noted (note_claim b) untold s.0 u (Blocked a) within in
      let none = cond-zero (eqb u s.0) in
      let held = held-filled acts a.0 b u s h runs in
      let swap = two-tests (eqb u s.0) (eqb b a.0) in
      omega arith

  pub claims-fetch : (ios : List Io) (untold : List (List Note)) (telling : List Note) (acts : ℕ → Option (Act C)) (t : ℕ) (s : SpaceNo) (io : Io)
      → io.kind ≡ Upcall s → Claims ios untold telling acts t → Claims (ios ++ io ∷ []) untold telling acts t
  claims-fetch ios untold telling acts t s io kind claims u b =
      let was = claims u b in
      let more = sum_by_push (io_claim u b) ios io in
      let none : io_claim u b io ≡ 0 = ap (kind_claim u b) kind in
      omega arith

  pub claims-run : (ios : List Io) (untold : List (List Note)) (telling : List Note) (acts : ℕ → Option (Act C)) (t : ℕ) (s : SpaceNo) (a : ActNo)
      (added : Bool) (p : ProcNo) → telling ≡ [] → s.0 < length untold → acts a.0 ≡ None → Claims ios untold telling acts t
      → Claims ios (slice_set untold s.0 []) (notes_told added p (get_or untold s.0 [])) (put acts a.0 (Some (runs_in s))) s.0
  claims-run ios untold telling acts t s a added p empty within unused claims u b =
      let was = claims u b in
      let nothing : cond (eqb u t) (sum_by (note_claim b) telling) 0 ≡ 0 = ap (λ ns. cond (eqb u t) (sum_by (note_claim b) ns) 0) empty ∙ cond-zero (eqb u t) in
      let told = ap (λ n. cond (eqb u s.0) n 0) (sum-told b added p (get_or untold s.0 [])) in
      let emptied = sum-emptied (note_claim b) untold s.0 u within in
      let held = held-rests acts a.0 b u (Some (runs_in s)) (ap (held_in u) unused) (held-runs (Some (runs_in s)) s u refl) in
      omega arith

  pub claims-back : (ios : List Io) (untold : List (List Note)) (telling : List Note) (acts : ℕ → Option (Act C)) (t n : ℕ) (s : SpaceNo) (a : ActNo)
      (here : Io) (page : Option ℕ) → io_at n ios ≡ Some here → here.kind ≡ io_for s a page → s.0 < length untold → Claims ios untold telling acts t
      → Claims (without n ios) (slice_set untold s.0 (get_or untold s.0 [] ++ Unblocked a ∷ [])) telling acts t
  claims-back ios untold telling acts t n s a here page is kind within claims u b =
      let was = claims u b in
      let less = sum-without (io_claim u b) n ios here is in
      let one = ap (kind_claim u b) kind ∙ io_for-claim u b s a page in
      let noted = sum-noted (note_claim b) untold s.0 u (Unblocked a) within in
      omega arith

  pub claims-fetched : (ios : List Io) (untold : List (List Note)) (telling : List Note) (acts : ℕ → Option (Act C)) (t n : ℕ) (s : SpaceNo) (here : Io)
      → io_at n ios ≡ Some here → here.kind ≡ Upcall s → Claims ios untold telling acts t → Claims (without n ios) untold telling acts t
  claims-fetched ios untold telling acts t n s here is kind claims u b =
      let was = claims u b in
      let less = sum-without (io_claim u b) n ios here is in
      let none : io_claim u b here ≡ 0 = ap (kind_claim u b) kind in
      omega arith

  held-without : (list : List ActNo) (acts : ℕ → Option (Act C)) (t : ℕ) → ((a : ActNo) → Contains list a → held_in t (acts a.0) ≡ 0)
      → (b : ℕ) → held_in t (without_acts list acts b) ≡ held_in t (acts b)
  held-without [] acts t none b = refl
  held-without (a ∷ list) acts t none b =
      let here = none a (0, omega arith, refl) in
      held-without list (put acts a.0 None) t
      (λ c has. held-rests acts a.0 c.0 t None here refl ∙ none c (suc has.0, (let h = has.1 in omega arith), has.2)) b
      ∙ held-rests acts a.0 b t None here refl

  pub claims-given : (ios : List Io) (untold : List (List Note)) (telling : List Note) (acts : ℕ → Option (Act C)) (t s : ℕ) (list : List ActNo)
      → ((a : ActNo) → Contains list a → IsTaken s (acts a.0)) → Claims ios untold telling acts t → Claims ios untold telling (without_acts list acts) t
  claims-given ios untold telling acts t s list taken claims u b =
      claims u b ∙ sym (held-without list acts u (λ a has. held-taken s (acts a.0) u (taken a has)) b)

  -- a told notice is fetched: it hands nothing over, or a context
  pub claims-passed : (ios : List Io) (untold : List (List Note)) (note : Note) (notes : List Note) (acts : ℕ → Option (Act C)) (t : ℕ)
      → ((b : ℕ) → note_claim b note ≡ 0) → Claims ios untold (note ∷ notes) acts t → Claims ios untold notes acts t
  claims-passed ios untold note notes acts t none claims u b =
      let was = claims u b in
      let less : sum_by (note_claim b) (note ∷ notes) ≡ sum_by (note_claim b) notes =
      sum_by-cons (note_claim b) note notes ∙ ap (λ n. n + sum_by (note_claim b) notes) (none b) ∙ omega arith in
      let told = ap (λ n. cond (eqb u t) n 0) less in
      omega arith

  -- the next notice's context is held, and of the space that was told
  pub held-next : (ios : List Io) (untold : List (List Note)) (note : Note) (notes : List Note) (acts : ℕ → Option (Act C)) (t a : ℕ) → note_claim a note ≡ 1
      → Claims ios untold (note ∷ notes) acts t → 1 ≤ held_in t (acts a)
  held-next ios untold note notes acts t a one claims =
      let was = claims t a in
      let all = sum_by-cons (note_claim a) note notes in
      let told = cond-true (eqb t t) (sum_by (note_claim a) (note ∷ notes)) 0 (eq-eqb t t refl) in
      omega arith

  pub claims-handed : (ios : List Io) (untold : List (List Note)) (note : Note) (notes : List Note) (acts : ℕ → Option (Act C)) (t a : ℕ)
      → ((b : ℕ) → note_claim b note ≡ bit_of (eqb b a)) → Claims ios untold (note ∷ notes) acts t
      → Claims ios untold notes (put acts a (taken_from (acts a))) t
  claims-handed ios untold note notes acts t a hands claims u b =
      let was = claims u b in
      let some = held-next ios untold note notes acts t a (hands a ∙ ap bit_of (eq-eqb a a refl)) claims in
      let cons : sum_by (note_claim b) (note ∷ notes) ≡ bit_of (eqb b a) + sum_by (note_claim b) notes =
      sum_by-cons (note_claim b) note notes ∙ ap (λ n. n + sum_by (note_claim b) notes) (hands b) in
      let told : cond (eqb u t) (sum_by (note_claim b) (note ∷ notes)) 0
      ≡ cond (eqb u t) (bit_of (eqb b a)) 0 + cond (eqb u t) (sum_by (note_claim b) notes) 0 =
      ap (λ n. cond (eqb u t) n 0) cons ∙ split (eqb u t) (bit_of (eqb b a)) (sum_by (note_claim b) notes) in
      let swap = two-tests (eqb u t) (eqb b a) in
      let held = held-emptied acts a b u (taken_from (acts a)) (held-taken_from (acts a) u) in
      let own : cond (eqb b a) (held_in u (acts a)) 0 ≡ cond (eqb b a) (bit_of (eqb u t)) 0 = ap (λ n. cond (eqb b a) n 0) (held-space (acts a) t some u) in
      omega arith
    where
      split : (c : Bool) (m n : ℕ) → cond c (m + n) 0 ≡ cond c m 0 + cond c n 0
      split true m n = refl
      split false m n = refl
