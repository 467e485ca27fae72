-- The end: what the value counts is what the history reads of its threads, and for whose sake its space must hear.
use Rattle.std.proofs.Common.{◌≡◌, ℕ, zero, suc, ◌+◌, ◌≤◌, ◌<◌, Bool, true, false, List, [], ◌∷◌, length, cond, count_by, Option, Some, None, IsSome, Contains, slice_index_or, refl, sym, ap, ◌∙◌, subst, inl, inr, arith, ◌⊎◌, zero-add}
use Rattle.std.specs.Prelude.{◌&&◌, ◌==◌, not}
use Rattle.std.proofs.lemmas.Bool.{not-true, eq-eqb, ne_eqb}
use Rattle.std.proofs.lemmas.Bool.Decides.{nat_tests}
use Rattle.std.proofs.lemmas.List.Sums.{sum_by-cons}
use Rattle.std.specs.List.{list_all, list_any}
use Rattle.std.proofs.lemmas.List.Folds.{list_all_at}
use Rattle.sa_base.specs.declared.number.ActNo.{ActNo}
use Rattle.sa_base.specs.declared.number.ProcNo.{ProcNo}
use Rattle.sa_base.specs.declared.number.ThreadNo.{ThreadNo}
use Rattle.sa_base.specs.declared.record.Note.{Note}
use Rattle.sa_base.specs.declared.record.Note.TheVariants.{Preempted, Unblocked}
use Rattle.sa_fast.specs.Rest.{is_unmade, is_carried, place_at}
use Rattle.sa_fast.specs.Threads.{unmade, block_at, is_active, is_done as is_ended, done_of, active_of}
use Rattle.sa_fast.specs.declared.threads.KeptPlace.{KeptPlace}
use Rattle.sa_fast.specs.declared.threads.KeptPlace.TheVariants as kept
use Rattle.sa_abstract.specs.Calls.{Contexts}
use Rattle.sa_abstract.specs.Setting.{Setting}
use Rattle.sa_driven_model.specs.declared.context.DrivenContext.{DrivenContext}
use Rattle.sa_driven_model.specs.declared.space.DrivenSpace.{DrivenSpace}
use Rattle.sa_driven_model.specs.Stands.{IsStanding}
use Rattle.sa_laws.specs.Ends.{is_done, are_done, is_at_rest, are_at_rest}
use Rattle.sa_laws.specs.Life.{Life}
use Rattle.sa_laws.specs.Readings.{Readings, running_of, life_of, untold_of, must_hear, was_idle as reads_idle}
use Rattle.sa_laws.specs.Record.{same_note}
use Rattle.sa_laws.specs.State.{at_start, space_at, thread_in}
use Rattle.sa_laws.specs.declared.place.Place.{Place}
use Rattle.sa_laws.specs.declared.place.Place.TheVariants as place
use Rattle.sa_lemmas.proofs.Searches.{any-contained}
use Rattle.sa_fast_laws.proofs.relation.NoteLists.{any-note}
use Rattle.sa_fast_laws.proofs.relation.Notices.{same-self, back-alone}
use Rattle.sa_fast_laws.specs.FastFits.{SitsIn, FitsThread}
use Rattle.sa_fast_laws.specs.Stage.{Stage, Runs, InBlock, Stopped, Returned, stage_by, is_act, stage_of, is_gone, is_running, place_of, kept_of, was_idle}
use Rattle.sa_driven_laws.specs.DrivenFits.{Holds, Rest}
use Rattle.sa_driven_laws.specs.Life.{HasLife}
use Rattle.sa_driven_laws.proofs.Changed.{life-here}
use Rattle.sa_driven_laws.proofs.Runners.{IsCarrier, carrier-of, kept-made, made-kept, carried-made}

-- TWO LISTS of which the second is no longer: what is asked of an entry of the first is what is asked of that of the
-- second, or fails past it.
counted : {A : Type 0} (p : A → Bool) (x : A) (xs : List A) → p x ≡ true → count_by p (x ∷ xs) ≡ 1 + count_by p xs
counted p x xs is = sum_by-cons (λ y. cond (p y) 1 0) x xs ∙ ap (λ c. cond c 1 0 + count_by p xs) is

passed : {A : Type 0} (p : A → Bool) (x : A) (xs : List A) → p x ≡ false → count_by p (x ∷ xs) ≡ count_by p xs
passed p x xs is = sum_by-cons (λ y. cond (p y) 1 0) x xs ∙ ap (λ c. cond c 1 0 + count_by p xs) is ∙ zero-add (count_by p xs)

-- So none of the first has it where each of the second has the contrary ..
none-counted : {A B : Type 0} (p : A → Bool) (q : B → Bool) (xs : List A) (ys : List B) (d : A) (e : B) → length ys ≤ length xs
    → ((k : ℕ) → k < length ys → p (slice_index_or xs k d) ≡ not (q (slice_index_or ys k e)))
    → ((k : ℕ) → length ys ≤ k → k < length xs → p (slice_index_or xs k d) ≡ false)
    → (count_by p xs == 0) ≡ list_all q ys
none-counted p q [] [] d e less same past = refl
none-counted p q [] (y ∷ ys) d e less same past = absurd (omega arith)
none-counted p q (x ∷ xs) [] d e less same past =
    ap (λ n. n == 0) (passed p x xs (past 0 (omega arith) (omega arith)))
    ∙ none-counted p q xs [] d e (omega arith) (λ k below. absurd (omega arith)) (λ k above below. past (suc k) (omega arith) (omega arith))
none-counted p q (x ∷ xs) (y ∷ ys) d e less same past =
    by (q y) refl
    (none-counted p q xs ys d e (omega arith) (λ k below. same (suc k) (omega arith)) (λ k above below. past (suc k) (omega arith) (omega arith))) where
      by : (b : Bool) → q y ≡ b → (count_by p xs == 0) ≡ list_all q ys → (count_by p (x ∷ xs) == 0) ≡ (q y && list_all q ys)
      by true is rest = ap (λ n. n == 0) (passed p x xs (same 0 (omega arith) ∙ ap not is)) ∙ rest ∙ sym (ap (λ c. c && list_all q ys) is)
      by false is rest =
          ap (λ n. n == 0) (counted p x xs (same 0 (omega arith) ∙ ap not is)) ∙ ne_eqb (1 + count_by p xs) 0 (omega arith)
          ∙ sym (ap (λ c. c && list_all q ys) is)

-- Where none has it from a place on, at most as many have it as are before that place.
few-counted : {A : Type 0} (p : A → Bool) (xs : List A) (d : A) (n : ℕ) → ((k : ℕ) → n ≤ k → k < length xs → p (slice_index_or xs k d) ≡ false)
    → count_by p xs ≤ n
few-counted p [] d n past = omega arith
few-counted p (x ∷ xs) d zero past =
    let one = passed p x xs (past 0 (omega arith) (omega arith)) in
    let rest = few-counted p xs d zero (λ k above below. past (suc k) (omega arith) (omega arith)) in omega arith
few-counted p (x ∷ xs) d (suc n) past =
    let rest = few-counted p xs d n (λ k above below. past (suc k) (omega arith) (omega arith)) in by (p x) refl rest where
      by : (b : Bool) → p x ≡ b → count_by p xs ≤ n → count_by p (x ∷ xs) ≤ suc n
      by true is rest = let one = counted p x xs is in omega arith
      by false is rest = let one = passed p x xs is in omega arith

all-counted : {A B : Type 0} (p : A → Bool) (q : B → Bool) (xs : List A) (ys : List B) (d : A) (e : B) → length ys ≤ length xs
    → ((k : ℕ) → k < length ys → p (slice_index_or xs k d) ≡ q (slice_index_or ys k e))
    → ((k : ℕ) → length ys ≤ k → k < length xs → p (slice_index_or xs k d) ≡ false)
    → (count_by p xs == length ys) ≡ list_all q ys
all-counted p q xs [] d e less same past = let few = few-counted p xs d 0 past in eq-eqb (count_by p xs) 0 (omega arith)
all-counted p q [] (y ∷ ys) d e less same past = absurd (omega arith)
all-counted p q (x ∷ xs) (y ∷ ys) d e less same past =
    by (q y) refl
    (all-counted p q xs ys d e (omega arith) (λ k below. same (suc k) (omega arith)) (λ k above below. past (suc k) (omega arith) (omega arith))) where
      shifted : (n m : ℕ) → (1 + n == suc m) ≡ (n == m)
      shifted n m = grind (arith, nat_tests)

      by : (b : Bool) → q y ≡ b → (count_by p xs == length ys) ≡ list_all q ys → (count_by p (x ∷ xs) == suc (length ys)) ≡ (q y && list_all q ys)
      by true is rest =
          ap (λ n. n == suc (length ys)) (counted p x xs (same 0 (omega arith) ∙ is)) ∙ shifted (count_by p xs) (length ys) ∙ rest
          ∙ sym (ap (λ c. c && list_all q ys) is)
      by false is rest =
          let few = few-counted p xs d (length ys) (λ k above below. past (suc k) (omega arith) (omega arith)) in
          ap (λ n. n == suc (length ys)) (passed p x xs (same 0 (omega arith) ∙ is)) ∙ ne_eqb (count_by p xs) (suc (length ys)) (omega arith)
          ∙ sym (ap (λ c. c && list_all q ys) is)

-- THREADS, as the package keeps them and as the history says where they are. Of one that a context carries its stage tells.
abbrev pub is_returned : Stage → Bool
is_returned Returned = true
is_returned _ = false

ended-alike : (p : KeptPlace) (x : Place) → is_unmade p ≡ false → SitsIn p x → (is_carried p ≡ true → (g : Stage) × (y : ProcNo) × (x ≡ place_of g y))
    → is_ended p ≡ is_done x
ended-alike kept.Unmade x made sits carried = absurd cc
ended-alike kept.Running x made sits carried = let its = carried refl in sym (ap is_done its.2 ∙ by its.0 its.1) where
  by : (g : Stage) (y : ProcNo) → is_done (place_of g y) ≡ false
  by Runs y = refl
  by InBlock y = refl
  by Stopped y = refl
  by Returned y = refl
ended-alike kept.Blocked x made sits carried = let its = carried refl in sym (ap is_done its.2 ∙ by its.0 its.1) where
  by : (g : Stage) (y : ProcNo) → is_done (place_of g y) ≡ false
  by Runs y = refl
  by InBlock y = refl
  by Stopped y = refl
  by Returned y = refl
ended-alike _ x made sits carried = sym (ap is_done sits)

rests-alike : (p : KeptPlace) (x : Place) → is_unmade p ≡ false → SitsIn p x
    → (is_carried p ≡ true → (g : Stage) × (y : ProcNo) × (x ≡ place_of g y) × (p ≡ kept_of g) × (is_returned g ≡ false))
    → is_active p ≡ not (is_at_rest x)
rests-alike kept.Unmade x made sits carried = absurd cc
rests-alike kept.Running x made sits carried = let its = carried refl in by its.0 its.1 its.3 its.4 ∙ sym (ap (λ y. not (is_at_rest y)) its.2) where
  by : (g : Stage) (y : ProcNo) → kept.Running ≡ kept_of g → is_returned g ≡ false → true ≡ not (is_at_rest (place_of g y))
  by Runs y is back = refl
  by InBlock y is back = absurd (let no_such = ap is_active is in cc)
  by Stopped y is back = refl
  by Returned y is back = absurd cc
rests-alike kept.Blocked x made sits carried = let its = carried refl in by its.0 its.1 its.3 its.4 ∙ sym (ap (λ y. not (is_at_rest y)) its.2) where
  by : (g : Stage) (y : ProcNo) → kept.Blocked ≡ kept_of g → is_returned g ≡ false → false ≡ not (is_at_rest (place_of g y))
  by Runs y is back = absurd (let no_such = ap is_active is in cc)
  by InBlock y is back = refl
  by Stopped y is back = absurd (let no_such = ap is_active is in cc)
  by Returned y is back = absurd cc
rests-alike _ x made sits carried = sym (ap (λ y. not (is_at_rest y)) sits)

unmade-is : (p : KeptPlace) → is_unmade p ≡ true → p ≡ kept.Unmade
unmade-is kept.Unmade is = refl
unmade-is _ is = absurd cc

-- a stage is of a return only where that is untold
returned-only : (stopped returned runs : Bool) → is_returned (stage_by stopped returned runs) ≡ true → returned ≡ true
returned-only false true runs is = refl
returned-only false false true is = absurd cc
returned-only _ _ _ is = absurd cc

module _ (s : Setting) (e : ℕ) (r : Readings) (u : DrivenSpace) (cs : Contexts DrivenContext) (h : IsStanding s e u cs) (k : Holds s.space r u.base.shared cs) where
  blocks-below : length (space_at r.state s.space).threads ≤ length u.base.shared.threads
  blocks-below = let made = k.space.made in let all = h.parts.blocks in let most = h.parts.threads in
      let below = h.parts.state.ready.made in omega (arith, made, all, most, below)

  past-unmade : (n : ℕ) → length (space_at r.state s.space).threads ≤ n → is_unmade (place_at u.base.shared n) ≡ true
  past-unmade n above = kept-made s e u cs h n (let made = k.space.made in omega (arith, made, above))

  module _ (n : ℕ) (below : n < length (space_at r.state s.space).threads) where
    t : ThreadNo
    t = record { 0 = n }

    made : n < u.base.shared.state.lists.made
    made = let all = k.space.made in omega (arith, all, below)

    here : FitsThread (block_at u.base.shared.threads n) (thread_in (space_at r.state s.space) (record { 0 = n }))
    here = k.space.threads (record { 0 = n }) made

    is_made : is_unmade (place_at u.base.shared n) ≡ false
    is_made = made-kept s e u cs h n made

    carrier : is_carried (place_at u.base.shared n) ≡ true → IsCarrier s.space r u cs (record { 0 = n })
    carrier is = carrier-of s e u cs h s.space r k (record { 0 = n }) is

  -- ALL ARE DONE
  pub all-done : (done_of u.base.shared.threads == u.base.shared.state.lists.made) ≡ are_done (space_at r.state s.space)
  all-done =
      ap (λ m. done_of u.base.shared.threads == m) (sym k.space.made)
      ∙ all-counted (λ b. is_ended b.place) (λ x. is_done x.place) u.base.shared.threads (space_at r.state s.space).threads unmade
      (at_start 0 place.Done) blocks-below
      (λ n below. ended-alike (place_at u.base.shared n) _ (is_made n below) (here n below).place
      (λ is. let c = carrier n below is in (c.stage, c.life.proc, c.place)))
      (λ n above inside. ap is_ended (unmade-is (place_at u.base.shared n) (past-unmade n above)))

  -- NONE IS ACTIVE
  pub none-active : ((b : ActNo) → Contains (untold_of r s.space) (Unblocked b) → ⊥)
      → (active_of u.base.shared.threads == 0) ≡ are_at_rest (space_at r.state s.space)
  none-active none =
      none-counted (λ b. is_active b.place) (λ x. is_at_rest x.place) u.base.shared.threads (space_at r.state s.space).threads unmade
      (at_start 0 place.Done) blocks-below
      (λ n below. rests-alike (place_at u.base.shared n) _ (is_made n below) (here n below).place (λ is. let c = carrier n below is in
      (c.stage, c.life.proc, c.place, c.kept, not-returned (is_returned c.stage) c refl)))
      (λ n above inside. ap is_active (unmade-is (place_at u.base.shared n) (past-unmade n above))) where
        not-returned : (b : Bool) {n : ThreadNo} → (c : IsCarrier s.space r u cs n) → is_returned c.stage ≡ b → is_returned c.stage ≡ false
        not-returned false c is = is
        not-returned true c is =
            absurd (none c.act (any-note false c.act (untold_of r s.space) (returned-only _ _ _ (subst (λ g. is_returned g ≡ true) c.stage_is is))))

  -- FOR WHOSE SAKE THE SPACE MUST HEAR: some thread is not at rest, or some life is in
  abbrev Stirs : Type 0
  Stirs = (are_at_rest (space_at r.state s.space) ≡ false) ⊎ ((b : ActNo) × (life : Life) × (life_of r b ≡ Some life) × (life.inside ≡ true))

  gone-place : (g : Stage) (y : ProcNo) → is_gone g ≡ true → place_of g y ≡ place.Carried
  gone-place Stopped y is = refl
  gone-place Returned y is = refl
  gone-place _ y is = absurd cc

  module _ (rests : Rest s.space r cs) where
    stirs : (a : ActNo) (c : DrivenContext) (life : Life) → cs a.0 ≡ Some c → life_of r a ≡ Some life → is_gone (stage_of r s.space a life) ≡ true
        → is_running (stage_of r s.space a life) ≡ false → was_idle (stage_of r s.space a life) life ≡ false → Stirs
    stirs a c life mine is gone stays busy = by c.thread refl where
      l : HasLife s.space u.base.shared (space_at r.state s.space) (stage_of r s.space a life) c life
      l = life-here s.space r u.base.shared cs k a c life mine is

      by : (o : Option ThreadNo) → c.thread ≡ o → Stirs
      by None none = inr (a, life, is, (rests a c life mine is).busy stays none busy)
      by (Some t) at = inl (list_all_at (λ x. is_at_rest x.place) (space_at r.state s.space).threads t.0 (at_start 0 place.Done)
          (let made = carried-made s e u cs h a.0 c t mine at in let all = k.space.made in omega (arith, made, all))
          (ap is_at_rest (l.place t at ∙ gone-place (stage_of r s.space a life) life.proc gone)))

    pub must-hear : (note : Note) → Contains (untold_of r s.space) note → must_hear r note ≡ true → Stirs
    must-hear (Preempted a) has must = by (cs a.0) refl (k.noted a (inl has)) where
      by : (o : Option DrivenContext) → cs a.0 ≡ o → IsSome (cs a.0) → Stirs
      by None none some = absurd (let no_such = subst IsSome none some in cc)
      by (Some c) mine some =
          let its = k.lives a c mine in
          let here = any-contained (same_note (Preempted a)) (Preempted a) (untold_of r s.space) has (same-self true a) in
          let stage : stage_of r s.space a its.0 ≡ Stopped =
          ap (λ x. stage_by x (list_any (same_note (Unblocked a)) (untold_of r s.space)) (is_act a (running_of r its.0.proc))) here in
          let idle : its.0.idle ≡ false = not-true its.0.idle (ap (λ o. not (reads_idle o)) (sym its.1) ∙ must) in
          stirs a c its.0 mine its.1 (ap is_gone stage) (ap is_running stage) (ap (λ g. was_idle g its.0) stage ∙ idle)
    must-hear (Unblocked a) has must = by (cs a.0) refl (k.noted a (inr has)) where
      by : (o : Option DrivenContext) → cs a.0 ≡ o → IsSome (cs a.0) → Stirs
      by None none some = absurd (let no_such = subst IsSome none some in cc)
      by (Some c) mine some =
          let its = k.lives a c mine in
          let alone = back-alone false a (untold_of r s.space) has (k.single a) refl in
          let here = any-contained (same_note (Unblocked a)) (Unblocked a) (untold_of r s.space) has (same-self false a) in
          let stage : stage_of r s.space a its.0 ≡ Returned =
          ap (λ x. stage_by x (list_any (same_note (Unblocked a)) (untold_of r s.space)) (is_act a (running_of r its.0.proc))) alone
          ∙ ap (λ x. stage_by false x (is_act a (running_of r its.0.proc))) here in
          stirs a c its.0 mine its.1 (ap is_gone stage) (ap is_running stage) (ap (λ g. was_idle g its.0) stage)
    must-hear _ has must = absurd cc
