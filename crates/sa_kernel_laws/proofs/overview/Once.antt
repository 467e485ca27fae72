-- No notice waits twice: each hands over a context that is held once, or says of one that it blocked.
use Rattle.std.proofs.Common.{◌≡◌, ℕ, zero, suc, ◌≤◌, ◌+◌, inl, inr, refl, sym, ap, subst, arith, Some, None, List, [], ◌∷◌, ◌++◌, sum_by, true, false}
use Rattle.std.specs.Prelude.{Option, Bool, ◌⊎◌, ◌==◌, ◌&&◌, is_some, get_or, slice_set}
use Rattle.std.proofs.lemmas.Bool.{eqb-true, eq-eqb}
use Rattle.std.proofs.lemmas.Option.{same_Some}
use Rattle.std.proofs.lemmas.List.Sums.{sum_by-cons, sum_by-le-sum_by}
use Rattle.sa_base.specs.declared.number.SpaceNo.{SpaceNo}
use Rattle.sa_base.specs.declared.number.ProcNo.{ProcNo}
use Rattle.sa_base.specs.declared.number.ActNo.{ActNo}
use Rattle.sa_base.specs.declared.record.Note.{Note}
use Rattle.sa_base.specs.declared.record.Note.TheVariants.{Add, Preempted, Blocked, Unblocked}
use Rattle.sa_acts.specs.declared.acts.Act.{Act}
use Rattle.sa_acts.specs.Table.{held_of}
use Rattle.sa_kernel_model.specs.State.{KernelState, untold_of}
use Rattle.sa_kernel_model.specs.Sound.{AreClaimed, note_claim, held_in}
use Rattle.sa_kernel_model.proofs.parts.Seen.{bit_of}
use Rattle.sa_kernel_model.proofs.sound.Claims.{held-none, held-space}
use Rattle.sa_laws.specs.Record.{same_note, with_note}
use Rattle.sa_laws.proofs.Notes.{same_note-same}
use Rattle.sa_kernel_laws.specs.Kept.{IsTidy, block_claim, back_claim, add_claim}
use Rattle.sa_kernel_laws.proofs.overview.Untold.{once_if, copies_in, copies, AreOnce}

-- a notice more
copies-push : (m n : Note) (ns : List Note) → copies_in m (ns ++ n ∷ []) ≡ copies_in m ns + once_if (same_note n m)
copies-push m n [] = omega arith
copies-push m n (x ∷ ns) = let rest = copies-push m n ns in omega arith

pub copies-noted : (m n : Note) (us : List (List Note)) (s : ℕ) → copies m (slice_set us s (get_or us s [] ++ n ∷ [])) ≤ copies m us + once_if (same_note n m)
copies-noted m n [] s = omega arith
copies-noted m n (u ∷ us) zero = let push = copies-push m n u in omega arith
copies-noted m n (u ∷ us) (suc s) = let rest = copies-noted m n us s in omega arith

pub once-noted : (us : List (List Note)) (s : SpaceNo) (n : Note) → copies n us ≡ 0 → AreOnce us → AreOnce (with_note us s n)
once-noted us s n none once m = one (same_note n m) refl (copies-noted m n us s.0) where
  one : (b : Bool) → same_note n m ≡ b → copies m (with_note us s n) ≤ copies m us + once_if b → copies m (with_note us s n) ≤ 1
  one true same less = let here = ap (λ x. copies x us) (same_note-same n m same) in omega arith
  one false apart less = let few = once m in omega arith

-- how often a notice is there, by what its space says
all-none : (n : Note) (us : List (List Note)) → ((s : ℕ) → copies_in n (get_or us s []) ≡ 0) → copies n us ≡ 0
all-none n [] none = refl
all-none n (u ∷ us) none = let here = none 0 in let rest = all-none n us (λ s. none (suc s)) in omega arith

-- A notice is in one list alone, and there once.
some-or-none : (n : ℕ) → (n ≡ 0) ⊎ (1 ≤ n)
some-or-none zero = inl refl
some-or-none (suc n) = inr (omega arith)

few-copies : (n : Note) (us : List (List Note)) → ((i : ℕ) → copies_in n (get_or us i []) ≤ 1)
    → ((i j : ℕ) → 1 ≤ copies_in n (get_or us i []) → 1 ≤ copies_in n (get_or us j []) → i ≡ j) → copies n us ≤ 1
few-copies n [] one apart = omega arith
few-copies n (u ∷ us) one apart = elim (some-or-none (copies_in n u)) [
  | inl none ↦
      let rest = few-copies n us (λ i. one (suc i)) (λ i j a b. let e = apart (suc i) (suc j) a b in omega arith) in
      omega arith
  | inr some ↦
      let none : copies n us ≡ 0 =
      all-none n us (λ s. elim (some-or-none (copies_in n (get_or us s []))) [
        | inl none ↦ none
        | inr more ↦ absurd (let e = apart 0 (suc s) some more in omega arith)
      ]) in
      let here = one 0 in
      omega arith
]

known : (b : Bool) → 1 ≤ bit_of b → b ≡ true
known true some = refl
known false some = absurd (omega arith)

pub one-held : {C : Type 0} (x : Option (Act C)) (i j : ℕ) → 1 ≤ held_in i x → 1 ≤ held_in j x → i ≡ j
one-held x i j a b = let is = held-space x i a j in sym (eqb-true j i (known (j == i) (omega arith)))

pub held-few : {C : Type 0} (x : Option (Act C)) (s : ℕ) → held_in s x ≤ 1
held-few None s = omega arith
held-few (Some y) s = few (s == y.space.0) (is_some y.held) where
  few : (b c : Bool) → bit_of (b && c) ≤ 1
  few true true = omega arith
  few true false = omega arith
  few false c = omega arith

-- each notice has its claim
flipped : (a b : ℕ) → once_if (a == b) ≤ once_if (b == a)
flipped a b = one (a == b) refl where
  one : (c : Bool) → (a == b) ≡ c → once_if c ≤ once_if (b == a)
  one true is = let e = ap once_if (eq-eqb b a (sym (eqb-true a b is))) in omega arith
  one false is = omega arith

less-by : (n : Note) (f : Note → ℕ) → ((m : Note) → once_if (same_note m n) ≤ f m) → (ms : List Note) → copies_in n ms ≤ sum_by f ms
less-by n f less [] = omega arith
less-by n f less (m ∷ ms) = let all = sum_by-cons f m ms in let here = less m in let rest = less-by n f less ms in omega arith

stop-less : (a : ActNo) (m : Note) → once_if (same_note m (Preempted a)) ≤ note_claim a.0 m
stop-less a (Preempted b) = flipped b.0 a.0
stop-less a _ = omega arith

back-less : (a : ActNo) (m : Note) → once_if (same_note m (Unblocked a)) ≤ note_claim a.0 m
back-less a (Unblocked b) = flipped b.0 a.0
back-less a _ = omega arith

block-less : (a : ActNo) (m : Note) → once_if (same_note m (Blocked a)) ≤ block_claim a.0 m
block-less a (Blocked b) = flipped b.0 a.0
block-less a _ = omega arith

add-less : (p : ProcNo) (m : Note) → once_if (same_note m (Add p)) ≤ add_claim m
add-less p (Add q) = few (q.0 == p.0) where
  few : (b : Bool) → once_if b ≤ 1
  few true = omega arith
  few false = omega arith
add-less p _ = omega arith

pub back-note : (a : ℕ) (m : Note) → back_claim a m ≤ note_claim a m
back-note a (Add p) = omega arith
back-note a _ = omega arith

-- the number of an activation that a notice is of; none where it says of a processor that it was added
abbrev act_of : Note → Option ℕ
act_of (Add p) = None
act_of (Preempted a) = Some a.0
act_of (Blocked a) = Some a.0
act_of (Unblocked a) = Some a.0

module _ {C : Type 0} where
  copies-held : (k : KernelState C) (t : ℕ) (n : Note) (a : ℕ) → act_of n ≡ Some a → AreClaimed k t → IsTidy k → (s : ℕ)
      → copies_in n (untold_of k s) ≤ held_in s (k.acts a)
  copies-held k t (Add p) a is claimed tidy s = absurd (cc)
  copies-held k t (Preempted b) a is claimed tidy s =
      let e : b.0 ≡ a = same_Some b.0 a is in
      let all = claimed s b.0 in let one = less-by (Preempted b) (note_claim b.0) (stop-less b) (untold_of k s) in
      subst (λ i. copies_in (Preempted b) (untold_of k s) ≤ held_in s (k.acts i)) e (omega arith)
  copies-held k t (Blocked b) a is claimed tidy s =
      let e : b.0 ≡ a = same_Some b.0 a is in
      let all = claimed s b.0 in let one = less-by (Blocked b) (block_claim b.0) (block-less b) (untold_of k s) in
      let held = tidy.blocked s b.0 in
      let back = sum_by-le-sum_by (back_claim b.0) (note_claim b.0) (untold_of k s) (back-note b.0) in
      subst (λ i. copies_in (Blocked b) (untold_of k s) ≤ held_in s (k.acts i)) e (omega arith)
  copies-held k t (Unblocked b) a is claimed tidy s =
      let e : b.0 ≡ a = same_Some b.0 a is in
      let all = claimed s b.0 in let one = less-by (Unblocked b) (note_claim b.0) (back-less b) (untold_of k s) in
      subst (λ i. copies_in (Unblocked b) (untold_of k s) ≤ held_in s (k.acts i)) e (omega arith)

  pub none-added : (k : KernelState C) → IsTidy k → (p : ProcNo) → copies (Add p) k.untold ≡ 0
  none-added k tidy p =
      all-none (Add p) k.untold (λ s. let none = tidy.added s in let one = less-by (Add p) add_claim (add-less p) (untold_of k s) in omega arith)

  pub none-of : (k : KernelState C) (t : ℕ) (n : Note) (a : ℕ) → act_of n ≡ Some a → AreClaimed k t → IsTidy k → held_of (k.acts a) ≡ None
      → copies n k.untold ≡ 0
  none-of k t n a is claimed tidy none =
      all-none n k.untold (λ s. let zero_held = held-none (k.acts a) s none in let less = copies-held k t n a is claimed tidy s in omega arith)

  once-act : (k : KernelState C) (t : ℕ) (n : Note) (a : ℕ) → act_of n ≡ Some a → AreClaimed k t → IsTidy k → copies n k.untold ≤ 1
  once-act k t n a is claimed tidy =
      few-copies n k.untold (λ i. let less = copies-held k t n a is claimed tidy i in let few = held-few (k.acts a) i in omega arith)
      (λ i j some more. one-held (k.acts a) i j
      (let less = copies-held k t n a is claimed tidy i in omega arith) (let less = copies-held k t n a is claimed tidy j in omega arith))

  pub once-claimed : (k : KernelState C) (t : ℕ) → AreClaimed k t → IsTidy k → AreOnce k.untold
  once-claimed k t claimed tidy (Add p) = let none = none-added k tidy p in omega arith
  once-claimed k t claimed tidy (Preempted a) = once-act k t (Preempted a) a.0 refl claimed tidy
  once-claimed k t claimed tidy (Blocked a) = once-act k t (Blocked a) a.0 refl claimed tidy
  once-claimed k t claimed tidy (Unblocked a) = once-act k t (Unblocked a) a.0 refl claimed tidy

-- what waits is there once, and nothing says that a processor was added
pub record AreApart (untold : List (List Note)) : Type 0 where
  pub once : AreOnce untold
  pub added : (q : ProcNo) → copies (Add q) untold ≡ 0

pub apart-noted : (us : List (List Note)) (s : SpaceNo) (n : Note) → ((q : ProcNo) → same_note n (Add q) ≡ false) → copies n us ≡ 0 → AreApart us
    → AreApart (with_note us s n)
apart-noted us s n real none apart = record {
  once = once-noted us s n none apart.once;
  added = λ q. let more = copies-noted (Add q) n us s.0 in let no = ap once_if (real q) in let old = apart.added q in omega arith;
}

pub apart-claimed : {C : Type 0} (k : KernelState C) (t : ℕ) → AreClaimed k t → IsTidy k → AreApart k.untold
apart-claimed k t claimed tidy = record { once = once-claimed k t claimed tidy; added = none-added k tidy }
