-- The thread that a life carries, as its stop, its block or its return is read: it goes to another place in the history; and
-- where a stop or a return is read it comes into the life's hand.
use Rattle.std.proofs.Common.{◌≡◌, ℕ, ◌+◌, ◌<◌, Bool, true, ◌||◌, ◌++◌, length, Option, Some, None, is_none, refl, sym, ap, ◌∙◌, subst, inl, inr, arith}
use Rattle.std.specs.Prelude.{if◌then◌else◌}
use Rattle.std.proofs.lemmas.Bool.{cases_eq, cases_lt}
use Rattle.std.proofs.lemmas.List.{length-set}
use Rattle.std.proofs.lemmas.Option.{same_Some}
use Rattle.sa_base.specs.declared.number.SpaceNo.{SpaceNo}
use Rattle.sa_base.specs.declared.number.ThreadNo.{ThreadNo}
use Rattle.sa_fast.proofs.WorkSteps.{one_same}
use Rattle.sa_fast.specs.Rest.{one_of, one_where, place_at}
use Rattle.sa_fast.specs.Threads.{block_at}
use Rattle.sa_fast.specs.declared.shared.Shared.{Shared}
use Rattle.sa_package_model.specs.Context.{carried_by}
use Rattle.sa_package_model.specs.declared.context.Context.{Context}
use Rattle.sa_laws.specs.Life.{Life}
use Rattle.sa_laws.specs.Record.{one_thread}
use Rattle.sa_laws.specs.State.{State, SpaceState, Thread, space_at, thread_in, is_active, active_threads, put_thread, placed_if}
use Rattle.sa_laws.specs.declared.place.Place.{Place}
use Rattle.sa_fast_laws.proofs.relation.Hands.{held-append, held-thread, count-less}
use Rattle.sa_fast_laws.proofs.relation.Places.{space-here, thread-here, thread-there, active-with}
use Rattle.sa_fast_laws.specs.FastFits.{FitsThread, FitsShared, SitsIn}
use Rattle.sa_fast_laws.specs.Life.{carried, count_if, held, HasLife}
use Rattle.sa_fast_laws.specs.Stage.{Stage, is_gone, place_of, kept_of}
use Rattle.sa_fast_laws.specs.View.{view, in_copy}

-- a number that counts where there is a thread
abbrev pub counted : Option ThreadNo → ℕ → ℕ
counted o n = if is_none o then 0 else n

pub counted-zero : (o : Option ThreadNo) → counted o 0 ≡ 0
counted-zero None = refl
counted-zero (Some t) = refl

-- IN THE HISTORY. The thread is at its new place, all others are as they were, and so many threads are active.
pub record IsPlaced (x : State) (s : SpaceNo) (before after : Place) (o : Option ThreadNo) : Type 0 where
  pub now : (n : ThreadNo) → o ≡ Some n → (thread_in (space_at (placed_if x s o after) s) n).place ≡ after
  pub others : (n : ThreadNo) → one_of o n.0 ≡ 0 → thread_in (space_at (placed_if x s o after) s) n ≡ thread_in (space_at x s) n
  pub active : active_threads (space_at (placed_if x s o after) s) + counted o (one_where (is_active before)) ≡ active_threads
      (space_at x s) + counted o (one_where (is_active after))

pub own-placed : (x : State) (s : SpaceNo) (before after : Place) (o : Option ThreadNo) → s.0 < length x.spaces
    → ((n : ThreadNo) → o ≡ Some n → n.0 < length (space_at x s).threads)
    → ((n : ThreadNo) → o ≡ Some n → (thread_in (space_at x s) n).place ≡ before) → IsPlaced x s before after o
own-placed x s before after None known inside stood = record { now = λ n e. absurd cc; others = λ n none. refl; active = refl }
own-placed x s before after (Some m) known inside stood =
    let y = space_at x s in
    let there = inside m refl in
    let moved : Thread = record (thread_in y m) { place = after } in
    let state_is : space_at (placed_if x s (Some m) after) s ≡ put_thread after y m = space-here x s (put_thread after y m) known in
    record {
      now = λ n e. ap (λ z. (thread_in z n).place) state_is ∙ ap (λ j. (thread_in (put_thread after y m) j).place) (sym (same_Some m n e))
          ∙ ap (λ (z : Thread). z.place) (thread-here y m moved there);
      others = λ n none. ap (λ z. thread_in z n) state_is
          ∙ thread-there y m n moved (λ same. absurd (let one = one_same m.0 n.0 (sym same) in omega arith));
      active =
          let all = active-with y m moved there in
          let one : one_where (is_active (thread_in y m).place) ≡ one_where (is_active before) = ap (λ z. one_where (is_active z)) (stood m refl) in
          let now = ap active_threads state_is in omega arith;
    }

-- IN THE PACKAGE the thread stays where it is, which fits the new place in the history too.
pub own-fits : (u : Shared) (x : State) (s : SpaceNo) (after : Place) (o : Option ThreadNo) → s.0 < length x.spaces
    → ((n : ThreadNo) → o ≡ Some n → n.0 < u.state.lists.made) → ((n : ThreadNo) → o ≡ Some n → SitsIn (place_at u n.0) after)
    → FitsShared u (space_at x s) → FitsShared u (space_at (placed_if x s o after) s)
own-fits u x s after None known made sits h = h
own-fits u x s after (Some m) known made sits h =
    let y = space_at x s in
    let below = made m refl in
    let inside : m.0 < length y.threads = (let all = h.made in omega arith) in
    let moved : Thread = record (thread_in y m) { place = after } in
    subst (FitsShared u) (sym (space-here x s (put_thread after y m) known)) (record {
      made = length-set y.threads m.0 moved ∙ h.made;
      threads = λ n less. elim (cases_eq n.0 m.0) [
        | inl e ↦
            let act : n ≡ m = ap (λ j. record { 0 = j }) e in
            subst (λ j. FitsThread (block_at u.threads j.0) (thread_in (put_thread after y m) j)) (sym act)
            (subst (FitsThread (block_at u.threads m.0)) (sym (thread-here y m moved inside))
            (let was = h.threads m below in record { program = was.program; pc = was.pc; regs = was.regs; place = sits m refl }))
        | inr ne ↦ subst (FitsThread (block_at u.threads n.0)) (sym (thread-there y m n moved ne)) (h.threads n less)
      ];
      sync = h.sync;
    })

-- INTO THE HAND. The life of a context whose thread came into its hand, since it is gone now.
abbrev pub in_hand : Option ThreadNo → Option ThreadNo → Bool → Life → Life
in_hand own thread idle life = record life { hand = life.hand ++ one_thread own; thread = thread; idle = idle }

pub gone-life : (s : SpaceNo) (u : Shared) (x y : SpaceState) (before now : Stage) (c : Context) (life : Life) (thread : Option ThreadNo) (idle : Bool)
    → HasLife s u x before (view c) life → is_gone now ≡ true → kept_of now ≡ kept_of before
    → ((n : ThreadNo) → carried_by c.state ≡ Some n → (thread_in y n).place ≡ place_of now life.proc) → thread ≡ carried_by c.state
    → HasLife s u y now (view c) (in_hand (carried_by c.state) thread idle life)
gone-life s u x y before now c life thread idle l gone kept place named =
    let t = carried_by c.state in
    record {
      space = l.space;
      locks = l.locks;
      cont = l.cont;
      hand = record {
        all = λ n some. let was = l.hand.all n some in let sum = held-append life.hand (one_thread t) n in omega arith;
        own = λ yes n some. let sum = held-append life.hand (one_thread t) n in let one = held-thread t n in omega arith;
        only = λ n some.
            let sum = held-append life.hand (one_thread t) n in let one = held-thread t n in
            let all : count_if (is_gone now || in_copy c.state) (carried (view c) n) ≡ carried (view c) n =
            ap (λ b. count_if (b || in_copy c.state) (carried (view c) n)) gone in
            elim (cases_lt (held life.hand n) 1) [
              | inl none ↦ omega arith
              | inr more ↦ let was = l.hand.only n more in
                  let less = count-less (is_gone before || in_copy c.state) (carried (view c) n) in omega arith
            ];
      };
      place = place;
      kept = λ n at. l.kept n at ∙ sym kept;
      stopped = l.stopped;
      named = λ no_run. named;
    }
