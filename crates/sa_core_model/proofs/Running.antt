-- Which context belongs to which activation, as lives, activations and contexts change.
use Rattle.std.proofs.Common.{◌≡◌, ◌≢◌, ℕ, zero, suc, ◌<◌, ◌==◌, if◌then◌else◌, Bool, true, false, Option, Some, None, List, [], ◌∷◌, get_or, slice_set, length, Contains, refl, sym, ap, ◌∙◌, inl, inr, arith}
use Rattle.std.proofs.lemmas.Bool.{cases_eq, eqb-true, cases_Bool}
use Rattle.std.proofs.lemmas.Bool.Decides.{nat_tests}
use Rattle.std.proofs.lemmas.List.{get_or-set_same, length-set}
use Rattle.sa_base.specs.declared.number.SpaceNo.{SpaceNo}
use Rattle.sa_base.specs.declared.number.ActNo.{ActNo}
use Rattle.sa_base.specs.declared.context.Stopped.{Stopped}
use Rattle.sa_lemmas.specs.Function.{put}
use Rattle.sa_lemmas.proofs.FunctionUpdates.{put-same, put-at, put-other}
use Rattle.sa_lemmas.proofs.Membership.{contains-head, contains-tail}
use Rattle.sa_acts.specs.declared.acts.Act.{Act}
use Rattle.sa_acts.specs.Table.{runs_in, holding, taken_from}
use Rattle.sa_kernel_model.specs.Sound.{AreAlive}
use Rattle.sa_kernel_model.specs.Entries.{without_acts}
use Rattle.sa_kernel_model.proofs.parts.Running.{cell-cases}
use Rattle.sa_core_model.specs.Standing.{is_life, running, held_or_running, context_in, contexts_in}

true-false : (b : Bool) → b ≡ true → b ≡ false → ⊥
true-false b t f = cc

pub life-same : (n : ℕ) → is_life n (Some (record { 0 = n })) ≡ true
life-same n = grind (arith, nat_tests)

pub life-other : (n : ℕ) (a : ActNo) → n ≢ a.0 → is_life n (Some a) ≡ false
life-other n a apart = grind (arith, nat_tests, apart)

pub life-is : (n : ℕ) (o : Option ActNo) → is_life n o ≡ true → o ≡ Some (record { 0 = n })
life-is n None e = absurd cc
life-is n (Some b) e = ap (λ k. Some (record { 0 = k })) (eqb-true b.0 n e)

not-life : (n : ℕ) (o : Option ActNo) → (o ≡ Some (record { 0 = n }) → ⊥) → is_life n o ≡ false
not-life n o apart = elim (cases_Bool (is_life n o)) [ inl t ↦ absurd (apart (life-is n o t)) | inr f ↦ f ]

module _ {C : Type 0} where
  pub running-other : (lives : List (Option ActNo)) (contexts : List (Option C)) (p n : ℕ) (l : Option ActNo) (c : Option C)
      → is_life n (get_or lives p None) ≡ false → is_life n l ≡ false → running (slice_set lives p l) (slice_set contexts p c) n ≡ running lives contexts n
  running-other [] contexts p n l c old new = refl
  running-other (x ∷ lives) [] zero n l c old new = refl
  running-other (x ∷ lives) [] (suc p) n l c old new = refl
  running-other (x ∷ lives) (y ∷ contexts) zero n l c old new = rw (new, old) refl
  running-other (x ∷ lives) (y ∷ contexts) (suc p) n l c old new = ap (λ r. if is_life n x then y else r) (running-other lives contexts p n l c old new)

  pub running-put_other : (lives : List (Option ActNo)) (contexts : List (Option C)) (p n : ℕ) (c : Option C)
      → is_life n (get_or lives p None) ≡ false → running lives (slice_set contexts p c) n ≡ running lives contexts n
  running-put_other (x ∷ lives) (y ∷ contexts) zero n c old = rw old refl
  running-put_other (x ∷ lives) (y ∷ contexts) (suc p) n c old = ap (λ r. if is_life n x then y else r) (running-put_other lives contexts p n c old)
  running-put_other _ _ p n c old = refl

  pub running-at : (lives : List (Option ActNo)) (contexts : List (Option C)) (p n : ℕ) → is_life n (get_or lives p None) ≡ true
      → ((q : ℕ) → is_life n (get_or lives q None) ≡ true → q ≡ p) → length contexts ≡ length lives → running lives contexts n ≡ get_or contexts p None
  running-at [] contexts p n here only size = absurd cc
  running-at (x ∷ lives) [] p n here only size = absurd (omega (arith, size))
  running-at (x ∷ lives) (y ∷ contexts) zero n here only size = rw here refl
  running-at (x ∷ lives) (y ∷ contexts) (suc p) n here only size = elim (cases_Bool (is_life n x)) [
    | inl t ↦ absurd (let e = only 0 t in omega (arith, e))
    | inr f ↦ rw f (running-at lives contexts p n here (λ q e. let z = only (suc q) e in omega (arith, z)) (omega (arith, size)))
  ]

  pub running-none : (lives : List (Option ActNo)) (contexts : List (Option C)) (n : ℕ) → ((q : ℕ) → is_life n (get_or lives q None) ≡ false)
      → running lives contexts n ≡ None
  running-none (x ∷ lives) (y ∷ contexts) n none = let f = none 0 in rw f (running-none lives contexts n (λ q. none (suc q)))
  running-none _ _ n none = refl

  -- an activation of a space that runs
  abbrev pub RunsOn : List (Option SpaceNo) → List (Option ActNo) → (ℕ → Option (Act C)) → ℕ → ActNo → SpaceNo → Type 0
  RunsOn owners lives acts p a s = AreAlive owners lives acts × (get_or lives p None ≡ Some a) × (acts a.0 ≡ Some (runs_in s))

  -- a life is that of one processor
  only-one : (owners : List (Option SpaceNo)) (lives : List (Option ActNo)) (acts : ℕ → Option (Act C)) (p : ℕ) (a : ActNo) → AreAlive owners lives acts
      → get_or lives p None ≡ Some a → (q : ℕ) → is_life a.0 (get_or lives q None) ≡ true → q ≡ p
  only-one owners lives acts p a alive here q e = alive.apart q p a (life-is a.0 (get_or lives q None) e) here

  -- a number in which nothing runs is no life
  pub rests : (owners : List (Option SpaceNo)) (lives : List (Option ActNo)) (acts : ℕ → Option (Act C)) (n : ℕ) → AreAlive owners lives acts
      → ((s : SpaceNo) → acts n ≡ Some (runs_in s) → ⊥) → (q : ℕ) → is_life n (get_or lives q None) ≡ false
  rests owners lives acts n alive idle q =
      not-life n (get_or lives q None) (λ e. let r = alive.run q (record { 0 = n }) e in idle r.space r.act)

  in-other : (s t : ℕ) (act : Act C) (c d : Option C) → act.space.0 ≡ s → t ≢ s → context_in t (Some act) c ≡ context_in t (Some act) d
  in-other s t act c d is apart =
      let f : (act.space.0 == t) ≡ false = grind (arith, nat_tests, is, apart) in
      rw f refl

  pub in-none : (s t : ℕ) (act : Act C) (c : Option C) → act.space.0 ≡ s → t ≢ s → context_in t (Some act) c ≡ None
  in-none s t act c is apart =
      let f : (act.space.0 == t) ≡ false = grind (arith, nat_tests, is, apart) in
      rw f refl

  pub in-own : (s : ℕ) (act : Act C) (c : Option C) → act.space.0 ≡ s → context_in s (Some act) c ≡ held_or_running act.held c
  in-own s act c is =
      let f : (act.space.0 == s) ≡ true = grind (arith, nat_tests, is) in
      rw f refl

  abbrev no_context : Option C
  no_context = None

  if-none : (b : Bool) → (if b then no_context else None) ≡ None
  if-none true = refl
  if-none false = refl

  -- another context runs on a processor
  module _ (owners : List (Option SpaceNo)) (lives : List (Option ActNo)) (acts : ℕ
      → Option (Act C)) (contexts : List (Option C)) (p : ℕ) (a : ActNo) (s : SpaceNo) where
    pub context-here : RunsOn owners lives acts p a s → length contexts ≡ length lives → contexts_in lives acts contexts s.0 a.0 ≡ get_or contexts p None
    context-here runs size =
        ap (λ (x : Option (Act C)). context_in s.0 x (running lives contexts a.0)) runs.2
        ∙ in-own s.0 (runs_in s) (running lives contexts a.0) refl
        ∙ running-at lives contexts p a.0 (ap (is_life a.0) runs.1 ∙ life-same a.0) (only-one owners lives acts p a runs.0 runs.1) size

    here-new : RunsOn owners lives acts p a s → length contexts ≡ length lives → p < length lives → (c : Option C)
        → contexts_in lives acts (slice_set contexts p c) s.0 a.0 ≡ c
    here-new runs size within c =
        let new : List (Option C) = slice_set contexts p c in
        ap (λ (x : Option (Act C)). context_in s.0 x (running lives new a.0)) runs.2
        ∙ in-own s.0 (runs_in s) (running lives new a.0) refl
        ∙ running-at lives new p a.0 (ap (is_life a.0) runs.1 ∙ life-same a.0) (only-one owners lives acts p a runs.0 runs.1) (length-set contexts p c ∙ size)
        ∙ get_or-set_same contexts p c None (omega (arith, within, size))

    -- another context of the space is put there
    pub contexts-put : RunsOn owners lives acts p a s → length contexts ≡ length lives → p < length lives → (c : C) (b : ℕ)
        → put (contexts_in lives acts contexts s.0) a.0 (Some c) b ≡ contexts_in lives acts (slice_set contexts p (Some c)) s.0 b
    contexts-put runs size within c b =
        let new : List (Option C) = slice_set contexts p (Some c) in
        elim (cases_eq b a.0) [
          | inl y ↦ put-at (contexts_in lives acts contexts s.0) a.0 b (Some c) y
              ∙ sym (ap (contexts_in lives acts new s.0) y ∙ here-new runs size within (Some c))
          | inr y ↦ put-other (contexts_in lives acts contexts s.0) a.0 b (Some c) y
              ∙ sym (ap (context_in s.0 (acts b)) (running-put_other lives contexts p b (Some c) (ap (is_life b) runs.1 ∙ life-other b a y)))
        ]

    -- the contexts of the other spaces are the same then
    pub contexts-put_kept : RunsOn owners lives acts p a s → (c : Option C) (t : ℕ) → t ≢ s.0 → (b : ℕ)
        → contexts_in lives acts contexts t b ≡ contexts_in lives acts (slice_set contexts p c) t b
    contexts-put_kept runs c t apart b =
        let new : List (Option C) = slice_set contexts p c in
        elim (cases_eq b a.0) [
          | inl y ↦ ap (contexts_in lives acts contexts t) y
              ∙ ap (λ (x : Option (Act C)). context_in t x (running lives contexts a.0)) runs.2
              ∙ in-other s.0 t (runs_in s) (running lives contexts a.0) (running lives new a.0) refl apart
              ∙ sym (ap (contexts_in lives acts new t) y ∙ ap (λ (x : Option (Act C)). context_in t x (running lives new a.0)) runs.2)
          | inr y ↦ sym (ap (context_in t (acts b)) (running-put_other lives contexts p b c (ap (is_life b) runs.1 ∙ life-other b a y)))
        ]

    -- the context is held by the kernel and runs no more
    pub contexts-stop : RunsOn owners lives acts p a s → length contexts ≡ length lives → (held : Stopped C)
        → get_or contexts p None ≡ Some held.ctx → (t b : ℕ)
        → contexts_in lives acts contexts t b
        ≡ contexts_in (slice_set lives p None) (put acts a.0 (holding held (acts a.0))) (slice_set contexts p None) t b
    contexts-stop runs size held is t b =
        let new : ℕ → Option (Act C) = put acts a.0 (holding held (acts a.0)) in
        let rest : Option C = running (slice_set lives p None) (slice_set contexts p None) b in
        elim (cases_eq b a.0) [
          | inl y ↦
              let at : new b ≡ Some (record (runs_in s) { held = Some held }) = put-at acts a.0 b (holding held (acts a.0)) y ∙ ap (holding held) runs.2 in
              let ran : running lives contexts b ≡ Some held.ctx =
              ap (running lives contexts) y
              ∙ running-at lives contexts p a.0 (ap (is_life a.0) runs.1 ∙ life-same a.0) (only-one owners lives acts p a runs.0 runs.1) size ∙ is in
              let was : acts b ≡ Some (runs_in s) = ap acts y ∙ runs.2 in
              ap (λ (x : Option (Act C)). context_in t x (running lives contexts b)) was
              ∙ ap (context_in t (Some (runs_in s))) ran
              ∙ sym (ap (λ (x : Option (Act C)). context_in t x rest) at)
          | inr y ↦
              let at : new b ≡ acts b = put-other acts a.0 b (holding held (acts a.0)) y in
              let ran : rest ≡ running lives contexts b = running-other lives contexts p b None None (ap (is_life b) runs.1 ∙ life-other b a y) refl in
              sym (ap (λ (x : Option (Act C)). context_in t x rest) at ∙ ap (context_in t (acts b)) ran)
        ]

  -- a fresh activation runs on a processor where none did
  module _ (lives : List (Option ActNo)) (acts : ℕ → Option (Act C)) (contexts : List (Option C)) (p : ℕ) (n : ActNo) (s : SpaceNo) where
    pub record IsFree : Type 0 where
      pub none : get_or lives p None ≡ None
      pub within : p < length lives
      pub size : length contexts ≡ length lives
      pub unused : acts n.0 ≡ None
      pub rest : (q : ℕ) → is_life n.0 (get_or lives q None) ≡ false

    only-fresh : IsFree → (q : ℕ) → is_life n.0 (get_or (slice_set lives p (Some n)) q None) ≡ true → q ≡ p
    only-fresh free q e = elim (cell-cases lives p q (Some n) (record { 0 = n.0 }) (life-is n.0 (get_or (slice_set lives p (Some n)) q None) e)) [
      | inl at ↦ at.0
      | inr other ↦ absurd (true-false (is_life n.0 (get_or lives q None)) (ap (is_life n.0) other.1 ∙ life-same n.0) (free.rest q))
    ]

    pub contexts-begin : IsFree → (c : C) (b : ℕ)
        → put (contexts_in lives acts contexts s.0) n.0 (Some c) b
        ≡ contexts_in (slice_set lives p (Some n)) (put acts n.0 (Some (runs_in s))) (slice_set contexts p (Some c)) s.0 b
    contexts-begin free c b =
        let new : ℕ → Option (Act C) = put acts n.0 (Some (runs_in s)) in
        let ls : List (Option ActNo) = slice_set lives p (Some n) in
        let cs : List (Option C) = slice_set contexts p (Some c) in
        elim (cases_eq b n.0) [
          | inl y ↦
              let ran : running ls cs n.0 ≡ Some c =
              running-at ls cs p n.0 (ap (is_life n.0) (get_or-set_same lives p (Some n) None free.within) ∙ life-same n.0) (only-fresh free)
              (length-set contexts p (Some c) ∙ free.size ∙ sym (length-set lives p (Some n)))
              ∙ get_or-set_same contexts p (Some c) None (omega (arith, free.within, free.size)) in
              put-at (contexts_in lives acts contexts s.0) n.0 b (Some c) y
              ∙ sym (ap (contexts_in ls new cs s.0) y
              ∙ ap (λ (x : Option (Act C)). context_in s.0 x (running ls cs n.0)) (put-same acts n.0 (Some (runs_in s)))
              ∙ in-own s.0 (runs_in s) (running ls cs n.0) refl ∙ ran)
          | inr y ↦ put-other (contexts_in lives acts contexts s.0) n.0 b (Some c) y ∙ elsewhere free c b s.0 y
        ]
      where
        elsewhere : IsFree → (c : C) (b t : ℕ) → b ≢ n.0
            → contexts_in lives acts contexts t b
            ≡ contexts_in (slice_set lives p (Some n)) (put acts n.0 (Some (runs_in s))) (slice_set contexts p (Some c)) t b
        elsewhere free c b t apart =
            let ran = running-other lives contexts p b (Some n) (Some c) (ap (is_life b) free.none) (life-other b n apart) in
            sym (ap (λ (x : Option (Act C)). context_in t x (running (slice_set lives p (Some n)) (slice_set contexts p (Some c)) b))
            (put-other acts n.0 b (Some (runs_in s)) apart)
            ∙ ap (context_in t (acts b)) ran)

    pub contexts-begin_kept : IsFree → (c : C) (t : ℕ) → t ≢ s.0 → (b : ℕ)
        → contexts_in lives acts contexts t b ≡ contexts_in (slice_set lives p (Some n)) (put acts n.0 (Some (runs_in s))) (slice_set contexts p (Some c)) t b
    contexts-begin_kept free c t apart b =
        let new : ℕ → Option (Act C) = put acts n.0 (Some (runs_in s)) in
        let ls : List (Option ActNo) = slice_set lives p (Some n) in
        let cs : List (Option C) = slice_set contexts p (Some c) in
        elim (cases_eq b n.0) [
          | inl y ↦
              let was : acts b ≡ None = ap acts y ∙ free.unused in
              let at : new b ≡ Some (runs_in s) = put-at acts n.0 b (Some (runs_in s)) y in
              ap (λ (x : Option (Act C)). context_in t x (running lives contexts b)) was
              ∙ sym (ap (λ (x : Option (Act C)). context_in t x (running ls cs b)) at ∙ in-none s.0 t (runs_in s) (running ls cs b) refl apart)
          | inr y ↦
              let ran = running-other lives contexts p b (Some n) (Some c) (ap (is_life b) free.none) (life-other b n y) in
              sym (ap (λ (x : Option (Act C)). context_in t x (running ls cs b)) (put-other acts n.0 b (Some (runs_in s)) y)
              ∙ ap (context_in t (acts b)) ran)
        ]

  -- a context that is held is handed over
  module _ (owners : List (Option SpaceNo)) (lives : List (Option ActNo)) (acts : ℕ
      → Option (Act C)) (contexts : List (Option C)) (b : ℕ) (act : Act C) (held : Stopped C) where
    pub record IsHeld : Type 0 where
      pub alive : AreAlive owners lives acts
      pub is : acts b ≡ Some act
      pub holds : act.held ≡ Some held

    pub held-no_life : IsHeld → (q : ℕ) → is_life b (get_or lives q None) ≡ false
    held-no_life h =
        rests owners lives acts b h.alive (λ s e. let z : Some act ≡ Some (runs_in s) = sym h.is ∙ e in let y : act.held ≡ None = cc in let w = h.holds in cc)

    pub context-held : IsHeld → contexts_in lives acts contexts act.space.0 b ≡ Some held.ctx
    context-held h =
        ap (λ (x : Option (Act C)). context_in act.space.0 x (running lives contexts b)) h.is
        ∙ in-own act.space.0 act (running lives contexts b) refl
        ∙ ap (λ (x : Option (Stopped C)). held_or_running x (running lives contexts b)) h.holds

    none-behind : IsHeld → (t : ℕ) → contexts_in lives (put acts b (taken_from (acts b))) contexts t b ≡ None
    none-behind h t =
        let none : running lives contexts b ≡ None = running-none lives contexts b (held-no_life h) in
        ap (λ (x : Option (Act C)). context_in t x (running lives contexts b)) (put-same acts b (taken_from (acts b)) ∙ ap taken_from h.is)
        ∙ ap (context_in t (Some (record act { held = None; taken = true }))) none
        ∙ if-none (act.space.0 == t)

    pub contexts-hand : IsHeld → (k : ℕ)
        → put (contexts_in lives acts contexts act.space.0) b None k ≡ contexts_in lives (put acts b (taken_from (acts b))) contexts act.space.0 k
    contexts-hand h k = elim (cases_eq k b) [
      | inl y ↦ put-at (contexts_in lives acts contexts act.space.0) b k None y
          ∙ sym (ap (contexts_in lives (put acts b (taken_from (acts b))) contexts act.space.0) y ∙ none-behind h act.space.0)
      | inr y ↦ put-other (contexts_in lives acts contexts act.space.0) b k None y
          ∙ sym (ap (λ (x : Option (Act C)). context_in act.space.0 x (running lives contexts k)) (put-other acts b k (taken_from (acts b)) y))
    ]

    pub contexts-hand_kept : IsHeld → (t : ℕ) → t ≢ act.space.0 → (k : ℕ)
        → contexts_in lives acts contexts t k ≡ contexts_in lives (put acts b (taken_from (acts b))) contexts t k
    contexts-hand_kept h t apart k = elim (cases_eq k b) [
      | inl y ↦ ap (contexts_in lives acts contexts t) y
          ∙ ap (λ (x : Option (Act C)). context_in t x (running lives contexts b)) h.is
          ∙ in-none act.space.0 t act (running lives contexts b) refl apart
          ∙ sym (ap (contexts_in lives (put acts b (taken_from (acts b))) contexts t) y ∙ none-behind h t)
      | inr y ↦ sym (ap (λ (x : Option (Act C)). context_in t x (running lives contexts k)) (put-other acts b k (taken_from (acts b)) y))
    ]

  -- activations are given back that have no context
  module _ (lives : List (Option ActNo)) (contexts : List (Option C)) where
    one-back : (acts : ℕ → Option (Act C)) (a : ℕ) → ((t : ℕ) → contexts_in lives acts contexts t a ≡ None) → (t b : ℕ)
        → contexts_in lives acts contexts t b ≡ contexts_in lives (put acts a None) contexts t b
    one-back acts a none t b = elim (cases_eq b a) [
      | inl y ↦ ap (contexts_in lives acts contexts t) y ∙ none t
          ∙ sym (ap (λ (x : Option (Act C)). context_in t x (running lives contexts b)) (put-at acts a b None y))
      | inr y ↦ sym (ap (λ (x : Option (Act C)). context_in t x (running lives contexts b)) (put-other acts a b None y))
    ]

    pub contexts-back : (list : List ActNo) (acts : ℕ → Option (Act C))
        → ((a : ActNo) → Contains list a → (t : ℕ) → contexts_in lives acts contexts t a.0 ≡ None)
        → (t b : ℕ) → contexts_in lives acts contexts t b ≡ contexts_in lives (without_acts list acts) contexts t b
    contexts-back [] acts none t b = refl
    contexts-back (a ∷ list) acts none t b =
        let first = none a (contains-head a list) in
        one-back acts a.0 first t b
        ∙ contexts-back list (put acts a.0 None) (λ c has u. sym (one-back acts a.0 first u c.0) ∙ none c (contains-tail a list c has) u) t b
