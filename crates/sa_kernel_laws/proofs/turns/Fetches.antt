-- The fetch of a notice keeps what is kept.
use Rattle.std.proofs.Common.{◌≡◌, ◌≢◌, ℕ, zero, suc, ◌≤◌, ◌+◌, inl, inr, refl, sym, ◌∙◌, ap, subst, arith, Some, None, List, [], ◌∷◌, ◌++◌, length, take, sum_by, true}
use Rattle.std.specs.Prelude.{Option, ◌⊎◌, ◌==◌, get_or, slice_set, Contains}
use Rattle.std.proofs.lemmas.Bool.{eq-eqb, cond-true}
use Rattle.std.proofs.lemmas.Option.{none-some}
use Rattle.std.proofs.lemmas.List.Sums.{sum_by-cons}
use Rattle.std.proofs.lemmas.List.Elements.{Contains-append_right, Contains-push_cases}
use Rattle.sa_base.specs.declared.number.SpaceNo.{SpaceNo}
use Rattle.sa_base.specs.declared.number.ActNo.{ActNo}
use Rattle.sa_base.specs.declared.context.Stopped.{Stopped}
use Rattle.sa_base.specs.declared.record.Note.{Note}
use Rattle.sa_base.specs.declared.record.Note.TheVariants.{Add, Preempted, Blocked, Unblocked}
use Rattle.sa_spaces.specs.Workload.{WorkloadView}
use Rattle.sa_lemmas.specs.Function.{put}
use Rattle.sa_lemmas.proofs.FunctionUpdates.{put-other, put-self}
use Rattle.sa_acts.specs.declared.acts.Act.{Act}
use Rattle.sa_acts.specs.Table.{held_of, taken_from, space_of}
use Rattle.sa_kernel_model.specs.State.{KernelState, untold_of, taken_of}
use Rattle.sa_kernel_model.specs.Closing.{was_idle as idle_in}
use Rattle.sa_kernel_model.specs.Entries.{handed_over, handed_by, after_fetch}
use Rattle.sa_kernel_model.specs.Sound.{note_claim, AreClaimed, AreTaken}
use Rattle.sa_kernel_model.proofs.sound.Claims.{held-none}
use Rattle.sa_kernel_model.proofs.sound.Sound.{sound-after_fetch}
use Rattle.sa_laws.specs.Readings.{Readings}
use Rattle.sa_laws.specs.Record.{with_act}
use Rattle.sa_kernel_laws.specs.Overview.{Overview, overview, read_off, act_space, spaces_in, taken_by, taken_behind}
use Rattle.sa_kernel_laws.specs.Kept.{IsTidy, IdleAlike, IsKept, AreDistinct}
use Rattle.sa_kernel_laws.specs.Laws.{FetchesKeep}
use Rattle.sa_kernel_laws.proofs.overview.Records.{put-through}
use Rattle.sa_kernel_laws.proofs.overview.Untold.{once_if}
use Rattle.sa_kernel_laws.proofs.overview.Once.{one-held, held-few}

-- one item more in a list of lists
push-cases : (ts : List (List ActNo)) (s t : ℕ) (a : ActNo)
    → (get_or (slice_set ts s (get_or ts s [] ++ a ∷ [])) t [] ≡ get_or ts t [])
    ⊎ (get_or (slice_set ts s (get_or ts s [] ++ a ∷ [])) t [] ≡ get_or ts t [] ++ a ∷ [])
push-cases (u ∷ ts) zero zero a = inr refl
push-cases (u ∷ ts) (suc s) (suc t) a = push-cases ts s t a
push-cases _ _ _ a = inl refl

take-push : (n : ℕ) (ts : List (List ActNo)) (s : ℕ) (a : ActNo)
    → slice_set (take n ts) s (get_or (take n ts) s [] ++ a ∷ []) ≡ take n (slice_set ts s (get_or ts s [] ++ a ∷ []))
take-push (suc n) (u ∷ ts) (suc s) a = ap (λ xs. u ∷ xs) (take-push n ts s a)
take-push _ _ _ a = refl

distinct-push : (ids : List ActNo) (a : ActNo) → ((b : ActNo) → Contains ids b → b.0 ≢ a.0) → AreDistinct ids → AreDistinct (ids ++ a ∷ [])
distinct-push [] a apart distinct = ((λ b has. absurd (let below = has.1 in omega arith)), tt)
distinct-push (c ∷ ids) a apart distinct = (
  (λ b has. elim (Contains-push_cases ids a b has) [
    | inl old ↦ distinct.0 b old
    | inr new ↦ λ same. apart c (0, omega arith, refl) (sym (ap (λ (x : ActNo). x.0) new ∙ same))
  ]),
  distinct-push ids a (λ b has. apart b (Contains-append_right (c ∷ []) ids b has)) distinct.1,
)

-- the claim of a notice of a list is part of their sum
claim-there : (ns : List Note) (f : Note → ℕ) (n : Note) → Contains ns n → f n ≤ sum_by f ns
claim-there [] f n (k, below, is) = absurd (omega arith)
claim-there (x ∷ ns) f n (zero, below, is) = let all = sum_by-cons f x ns in let e = ap f is in omega arith
claim-there (x ∷ ns) f n (suc k, below, is) = let all = sum_by-cons f x ns in let rest = claim-there ns f n (k, omega arith, is) in omega arith

one-own : (a : ActNo) → note_claim a.0 (Preempted a) ≡ once_if true
one-own a = ap once_if (eq-eqb a.0 a.0 refl)

module _ {C : Type 0} where
  space-taken : (o : Option (Act C)) → act_space (taken_from o) ≡ act_space o
  space-taken None = refl
  space-taken (Some x) = refl

  space-held : (o : Option (Act C)) (h : Stopped C) → held_of o ≡ Some h → act_space o ≡ Some (space_of o)
  space-held None h is = absurd (none-some h is)
  space-held (Some x) h is = refl

  -- the context of an activation is handed over
  handed-reads : (k : KernelState C) (a : ActNo) (notes : List Note) (h : Stopped C) → held_of (k.acts a.0) ≡ Some h
      → (let v : Overview = record (read_off k) {
        taken = taken_behind (spaces_in k) notes (with_act (take (length k.fixed.priorities) k.taken) (spaces_in k a.0) a);
      } in v)
      ≡ read_off (handed_over a (record k { telling = notes }))
  handed-reads k a notes h is =
      let new = handed_over a (record k { telling = notes }) in
      let spaces : spaces_in k ≡ spaces_in new =
      sym (put-through act_space k.acts a.0 (taken_from (k.acts a.0)) ∙ ap (put (spaces_in k) a.0) (space-taken (k.acts a.0)) ∙ put-self (spaces_in k) a.0) in
      let taken : with_act (take (length k.fixed.priorities) k.taken) (spaces_in k a.0) a ≡ take (length k.fixed.priorities) new.taken =
      ap (λ s. with_act (take (length k.fixed.priorities) k.taken) s a) (space-held (k.acts a.0) h is)
      ∙ take-push (length k.fixed.priorities) k.taken (space_of (k.acts a.0)).0 a in
      let G : (ℕ → Option SpaceNo) → List (List ActNo) → Overview = λ f t. record (read_off k) { spaces = f; taken = taken_behind f notes t } in
      λ i. G (spaces i) (taken i)

  handed-tidy : (k : KernelState C) (a : ActNo) (notes : List Note) (h : Stopped C) → held_of (k.acts a.0) ≡ Some h → AreTaken k.taken k.acts → IsTidy k
      → IsTidy (handed_over a (record k { telling = notes }))
  handed-tidy k a notes h is taken tidy = record {
    added = tidy.added;
    blocked = tidy.blocked;
    fetched = tidy.fetched;
    taken = λ t.
        let apart : (b : ActNo) → Contains (taken_of k t) b → b.0 ≢ a.0 = λ b has same.
        let act = taken t b has in
        none-some h (sym (ap held_of (ap k.acts (sym same) ∙ act.is) ∙ act.none_held) ∙ is) in
        elim (push-cases k.taken (space_of (k.acts a.0)).0 t a) [
          | inl same ↦ subst (λ ids. AreDistinct ids) (sym same) (tidy.taken t)
          | inr more ↦ subst (λ ids. AreDistinct ids) (sym more) (distinct-push (taken_of k t) a apart (tidy.taken t))
        ];
  }

  -- a stop that waits is of another activation than one that is handed over
  other-waits : (k : KernelState C) (note : Note) (notes : List Note) (t s : ℕ) (a b : ActNo) → k.telling ≡ note ∷ notes → note_claim a.0 note ≡ once_if true
      → AreClaimed k t → Contains (untold_of k s) (Preempted b) → b.0 ≢ a.0
  other-waits k note notes t s a b is one claimed has same =
      let told : sum_by (note_claim a.0) k.telling ≡ once_if true + sum_by (note_claim a.0) notes =
      ap (sum_by (note_claim a.0)) is ∙ sum_by-cons (note_claim a.0) note notes ∙ ap (λ n. n + sum_by (note_claim a.0) notes) one in
      let waits = claim-there (untold_of k s) (note_claim b.0) (Preempted b) has in
      let own = one-own b in
      let here : once_if true ≤ sum_by (note_claim a.0) (untold_of k s) =
      subst (λ i. once_if true ≤ sum_by (note_claim i) (untold_of k s)) same (omega arith) in
      let at_s = claimed s a.0 in
      let at_t = claimed t a.0 in
      let full = cond-true (t == t) (sum_by (note_claim a.0) k.telling) 0 (eq-eqb t t refl) in
      let equal : s ≡ t = one-held (k.acts a.0) s t (omega arith) (omega arith) in
      let both : once_if true ≤ sum_by (note_claim a.0) (untold_of k t) = subst (λ u. once_if true ≤ sum_by (note_claim a.0) (untold_of k u)) equal here in
      let few = held-few (k.acts a.0) t in
      omega arith

  handed-idle : (k : KernelState C) (r : Readings) (a : ActNo) (note : Note) (notes : List Note) (t : ℕ) → k.telling ≡ note ∷ notes
      → note_claim a.0 note ≡ once_if true → AreClaimed k t → IdleAlike k r → IdleAlike (handed_over a (record k { telling = notes })) r
  handed-idle k r a note notes t is one claimed idle s b has =
      let apart = other-waits k note notes t s a b is one claimed has in
      idle s b has ∙ ap (λ o. idle_in (held_of o)) (sym (put-other k.acts a.0 b.0 (taken_from (k.acts a.0)) apart))

  -- one notice is fetched
  held-told : (k : KernelState C) (note : Note) (notes : List Note) (t : ℕ) (a : ActNo) → note ∷ notes ≡ k.telling → note_claim a.0 note ≡ once_if true
      → AreClaimed k t → held_of (k.acts a.0) ≡ None → ⊥
  held-told k note notes t a is one claimed none =
      let told : sum_by (note_claim a.0) k.telling ≡ once_if true + sum_by (note_claim a.0) notes =
      ap (sum_by (note_claim a.0)) (sym is) ∙ sum_by-cons (note_claim a.0) note notes ∙ ap (λ n. n + sum_by (note_claim a.0) notes) one in
      let at_t = claimed t a.0 in
      let full = cond-true (t == t) (sum_by (note_claim a.0) k.telling) 0 (eq-eqb t t refl) in
      let no = held-none (k.acts a.0) t none in
      omega arith

  pub record Fetched (k new : KernelState C) (r : Readings) : Type 0 where
    pub reads : overview r ≡ read_off new
    pub tidy : IsTidy new
    pub idle : IdleAlike new r
    pub fixed : new.fixed ≡ k.fixed
    pub lives : new.lives ≡ k.lives
    pub demands : new.demands ≡ k.demands

  passed : (k : KernelState C) (r : Readings) (notes : List Note) → overview r ≡ read_off (record k { telling = notes }) → IsTidy k → IdleAlike k r
      → Fetched k (record k { telling = notes }) r
  passed k r notes reads tidy idle = record {
    reads = reads;
    tidy = record { added = tidy.added; blocked = tidy.blocked; fetched = tidy.fetched; taken = tidy.taken };
    idle = idle;
    fixed = refl;
    lives = refl;
    demands = refl;
  }

  handed-on : (w : WorkloadView) (k : KernelState C) (r : Readings) (a : ActNo) (note : Note) (notes : List Note) (o : Option (Stopped C)) → IsKept w k r
      → note ∷ notes ≡ k.telling → note_claim a.0 note ≡ once_if true
      → taken_by (spaces_in k) note (take (length k.fixed.priorities) k.taken) ≡ with_act (take (length k.fixed.priorities) k.taken) (spaces_in k a.0) a
      → held_of (k.acts a.0) ≡ o → Fetched k (handed_by o a (record k { telling = notes })) r
  handed-on w k r a note notes None kept is one takes none = absurd (held-told k note notes kept.sound.claimed.told_to a is one kept.sound.claimed.once none)
  handed-on w k r a note notes (Some h) kept is one takes held =
      let F : List Note → Overview = λ ns. read_off (record k { telling = ns }) in
      let G : List (List ActNo) → Overview = λ t. record (read_off k) { taken = taken_behind (spaces_in k) notes t } in
      record {
        reads = kept.reads ∙ ap F (sym is) ∙ ap G takes ∙ handed-reads k a notes h held;
        tidy = handed-tidy k a notes h held kept.sound.formed.taken kept.tidy;
        idle = handed-idle k r a note notes kept.sound.claimed.told_to (sym is) one kept.sound.claimed.once kept.idle;
        fixed = refl;
        lives = refl;
        demands = refl;
      }

  fetch-on : (w : WorkloadView) (k : KernelState C) (r : Readings) (notes : List Note) → notes ≡ k.telling → IsKept w k r → Fetched k (after_fetch notes k) r
  fetch-on w k r [] is kept = record { reads = kept.reads; tidy = kept.tidy; idle = kept.idle; fixed = refl; lives = refl; demands = refl }
  fetch-on w k r (Add p ∷ notes) is kept = passed k r notes (kept.reads ∙ ap (λ ns. read_off (record k { telling = ns })) (sym is)) kept.tidy kept.idle
  fetch-on w k r (Blocked a ∷ notes) is kept = passed k r notes (kept.reads ∙ ap (λ ns. read_off (record k { telling = ns })) (sym is)) kept.tidy kept.idle
  fetch-on w k r (Preempted a ∷ notes) is kept = handed-on w k r a (Preempted a) notes (held_of (k.acts a.0)) kept is (one-own a) refl refl
  fetch-on w k r (Unblocked a ∷ notes) is kept = handed-on w k r a (Unblocked a) notes (held_of (k.acts a.0)) kept is (one-own a) refl refl

pub fetches-keep : (C : Type 0) → FetchesKeep C
fetches-keep C w k r kept =
    let done = fetch-on w k r k.telling refl kept in
    record {
      sound = sound-after_fetch k.telling k refl kept.sound;
      of = record {
        fixed = done.fixed ∙ kept.of.fixed;
        processors = ap (λ (ls : List (Option ActNo)). length ls) done.lives ∙ kept.of.processors;
        spaces = ap (λ (ds : List ℕ). length ds) done.demands ∙ kept.of.spaces;
      };
      tidy = done.tidy;
      reads = done.reads;
      idle = done.idle;
    }
