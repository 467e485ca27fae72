-- When two moments are the same for a space: records that leave every space, a closing's records, an event's beginning.
use Rattle.std.proofs.Common.{◌≡◌, ◌⊎◌, ℕ, zero, suc, Bool, true, false, Option, Some, None, IsSome, List, [], ◌∷◌, get_or, slice_set, refl, sym, ap, subst, ◌∙◌, inl, inr}
use Rattle.std.specs.List.{list_all}
use Rattle.std.proofs.lemmas.Bool.{cases_eq, and_parts}
use Rattle.std.proofs.lemmas.List.{get_or-set_other}
use Rattle.sa_base.specs.declared.number.ProcNo.{ProcNo}
use Rattle.sa_base.specs.declared.number.SpaceNo.{SpaceNo}
use Rattle.sa_base.specs.declared.number.ActNo.{ActNo}
use Rattle.sa_base.specs.declared.record.Note.{Note}
use Rattle.sa_base.specs.declared.record.Record.{Record}
use Rattle.sa_base.specs.declared.record.Record.TheVariants.{Out, Move, Want, Aim, Line, Fetch, Fetched, Idle, Spin, Tick}
use Rattle.sa_spaces.specs.Workload.{WorkloadView}
use Rattle.sa_laws.specs.State.{State, SpaceState, space_at}
use Rattle.sa_laws.specs.Readings.{Readings, Listed, line_of, running_of}
use Rattle.sa_laws.specs.Record.{after_record}
use Rattle.sa_laws.specs.History.{after_records}
use Rattle.sa_laws.specs.Shape.{is_of_closing}
use Rattle.sa_user_laws.specs.Moments.{life_in, runs_in, StaysRaised, SameFor, AlikeButDemands}
use Rattle.sa_user_laws.specs.Scene.{event_begun_at}

-- No space's threads, lives and lists change, and no line is lowered.
pub record StaysPut (m n : Readings) : Type 0 where
  pub spaces : n.state.spaces ≡ m.state.spaces
  pub lives : n.lives ≡ m.lives
  pub running : n.running ≡ m.running
  pub taken : n.taken ≡ m.taken
  pub untold : n.untold ≡ m.untold
  pub ready : n.ready ≡ m.ready
  pub lines : (p : ProcNo) → StaysRaised m n p

pub put-again : (l m n : Readings) → StaysPut l m → StaysPut m n → StaysPut l n
put-again l m n a b = record {
  spaces = b.spaces ∙ a.spaces;
  lives = b.lives ∙ a.lives;
  running = b.running ∙ a.running;
  taken = b.taken ∙ a.taken;
  untold = b.untold ∙ a.untold;
  ready = b.ready ∙ a.ready;
  lines = λ p raised. b.lines p (a.lines p raised);
}

-- Raising a line lowers none.
raised-set : (lines : List (Option ℕ)) (p q e : ℕ) → IsSome (get_or lines p None) → IsSome (get_or (slice_set lines q (Some e)) p None)
raised-set (x ∷ lines) zero zero e raised = refl
raised-set (x ∷ lines) (suc p) (suc q) e raised = raised-set lines p q e raised
raised-set _ _ _ e raised = raised

-- These records change nothing of any space.
abbrev pub is_plain : Record → Bool
is_plain (Out s t v) = true
is_plain (Move o n) = true
is_plain (Want s n) = true
is_plain (Aim q s) = true
is_plain (Line q) = true
is_plain (Fetch s) = true
is_plain (Fetched s) = true
is_plain Idle = true
is_plain (Spin l) = true
is_plain Tick = true
is_plain _ = false

pub plain-stays : (w : WorkloadView) (e : ℕ) (p : ProcNo) (r : Readings) (x : Record) → is_plain x ≡ true
    → StaysPut r (after_record w e p r x)
plain-stays w e p r (Out s t v) is =
    record { spaces = refl; lives = refl; running = refl; taken = refl; untold = refl; ready = refl; lines = λ q raised. raised }
plain-stays w e p r (Move o n) is =
    record { spaces = refl; lives = refl; running = refl; taken = refl; untold = refl; ready = refl; lines = λ q raised. raised }
plain-stays w e p r (Want s n) is =
    record { spaces = refl; lives = refl; running = refl; taken = refl; untold = refl; ready = refl; lines = λ q raised. raised }
plain-stays w e p r (Aim q s) is =
    record { spaces = refl; lives = refl; running = refl; taken = refl; untold = refl; ready = refl; lines = λ i raised. raised }
plain-stays w e p r (Line q) is =
    record { spaces = refl; lives = refl; running = refl; taken = refl; untold = refl; ready = refl; lines = λ i raised. raised-set r.lines i.0 q.0 e raised }
plain-stays w e p r (Fetch s) is =
    record { spaces = refl; lives = refl; running = refl; taken = refl; untold = refl; ready = refl; lines = λ q raised. raised }
plain-stays w e p r (Fetched s) is =
    record { spaces = refl; lives = refl; running = refl; taken = refl; untold = refl; ready = refl; lines = λ q raised. raised }
plain-stays w e p r Idle is =
    record { spaces = refl; lives = refl; running = refl; taken = refl; untold = refl; ready = refl; lines = λ q raised. raised }
plain-stays w e p r (Spin l) is =
    record { spaces = refl; lives = refl; running = refl; taken = refl; untold = refl; ready = refl; lines = λ q raised. raised }
plain-stays w e p r Tick is =
    record { spaces = refl; lives = refl; running = refl; taken = refl; untold = refl; ready = refl; lines = λ q raised. raised }
plain-stays w e p r x is = absurd (cc)

pub plains-stay : (w : WorkloadView) (e : ℕ) (p : ProcNo) (r : Readings) (xs : List Record) → list_all is_plain xs ≡ true
    → StaysPut r (after_records w e p r xs)
plains-stay w e p r [] is =
    record { spaces = refl; lives = refl; running = refl; taken = refl; untold = refl; ready = refl; lines = λ q raised. raised }
plains-stay w e p r (x ∷ xs) is =
    put-again r (after_record w e p r x) (after_records w e p r (x ∷ xs))
    (plain-stays w e p r x (and_parts (is_plain x) (list_all is_plain xs) is).0)
    (plains-stay w e p (after_record w e p r x) xs (and_parts (is_plain x) (list_all is_plain xs) is).1)

-- So each space is the same.
pub same-for : (m n : Readings) → StaysPut m n → (s : SpaceNo) → SameFor s m n
same-for m n same s = record {
  space = ap (λ (xs : List SpaceState). space_at (record m.state { spaces = xs }) s) same.spaces;
  lives = λ a i. life_in s (same.lives i a);
  running = λ p i. runs_in s (same.lives i) (get_or (same.running i) p.0 None);
  taken = ap (λ (xs : List (List ActNo)). get_or xs s.0 []) same.taken;
  untold = ap (λ (xs : List (List Note)). get_or xs s.0 []) same.untold;
  ready = ap (λ (xs : List (List Listed)). get_or xs s.0 []) same.ready;
  lines = λ p runs raised. same.lines p raised;
}

pub same-refl : (s : SpaceNo) (r : Readings) → SameFor s r r
same-refl s r = record { space = refl; lives = λ a. refl; running = λ p. refl; taken = refl; untold = refl; ready = refl; lines = λ p runs raised. raised }

pub same-trans : (s : SpaceNo) (l m n : Readings) → SameFor s l m → SameFor s m n → SameFor s l n
same-trans s l m n a b = record {
  space = b.space ∙ a.space;
  lives = λ c. b.lives c ∙ a.lives c;
  running = λ p. b.running p ∙ a.running p;
  taken = b.taken ∙ a.taken;
  untold = b.untold ∙ a.untold;
  ready = b.ready ∙ a.ready;
  lines = λ p runs raised. b.lines p (subst (λ (o : Option ActNo). IsSome o) (sym (a.running p)) runs) (a.lines p runs raised);
}

-- An event's beginning lowers its processor's line, and no other. So all is the same for a space that has no life
-- there, or where that line was low.
pub begun-same : (w : WorkloadView) (e : ℕ) (p : ProcNo) (s : SpaceNo) (r : Readings)
    → (line_of r p ≡ None) ⊎ (runs_in s r.lives (running_of r p) ≡ None)
    → SameFor s r (event_begun_at w e p r)
begun-same w e p s r off =
    record { space = refl; lives = λ a. refl; running = λ q. refl; taken = refl; untold = refl; ready = refl; lines = stays }
  where
    stays : (q : ProcNo) → IsSome (runs_in s r.lives (running_of r q)) → StaysRaised r (event_begun_at w e p r) q
    stays q runs raised = elim (cases_eq q.0 p.0) [
      | inl same ↦ elim off [
        | inl low ↦ absurd (let z : IsSome {T = ℕ} None = subst (λ (o : Option ℕ). IsSome o)
            (ap (λ (n : ℕ). get_or r.lines n None) same ∙ low) raised in cc)
        | inr none ↦ absurd (let z : IsSome {T = ActNo} None = subst (λ (o : Option ActNo). IsSome o)
            (ap (λ (n : ℕ). runs_in s r.lives (get_or r.running n None)) same ∙ none) runs in cc)
      ]
      | inr apart ↦ subst (λ (o : Option ℕ). IsSome o) (sym (get_or-set_other r.lines p.0 q.0 None None apart)) raised
    ]

-- A closing's records change nothing but demands, aims and lines.
pub closing-alike : (w : WorkloadView) (e : ℕ) (p : ProcNo) (r : Readings) (xs : List Record) → list_all is_of_closing xs ≡ true
    → AlikeButDemands r (after_records w e p r xs)
closing-alike w e p r [] is =
    record { state = refl; lives = refl; running = refl; taken = refl; untold = refl; ready = refl; lines = λ q raised. raised }
closing-alike w e p r (x ∷ xs) is =
    let one = closing-one w e p r x (and_parts (is_of_closing x) (list_all is_of_closing xs) is).0 in
    let rest = closing-alike w e p (after_record w e p r x) xs (and_parts (is_of_closing x) (list_all is_of_closing xs) is).1 in
    record {
      state = rest.state ∙ one.state;
      lives = rest.lives ∙ one.lives;
      running = rest.running ∙ one.running;
      taken = rest.taken ∙ one.taken;
      untold = rest.untold ∙ one.untold;
      ready = rest.ready ∙ one.ready;
      lines = λ q raised. rest.lines q (one.lines q raised);
    }
  where
    closing-one : (w : WorkloadView) (e : ℕ) (p : ProcNo) (r : Readings) (x : Record) → is_of_closing x ≡ true
        → AlikeButDemands r (after_record w e p r x)
    closing-one w e p r (Want s n) is =
        record { state = refl; lives = refl; running = refl; taken = refl; untold = refl; ready = refl; lines = λ q raised. raised }
    closing-one w e p r (Aim q s) is =
        record { state = refl; lives = refl; running = refl; taken = refl; untold = refl; ready = refl; lines = λ i raised. raised }
    closing-one w e p r (Line q) is =
        record {
          state = refl;
          lives = refl;
          running = refl;
          taken = refl;
          untold = refl;
          ready = refl;
          lines = λ i raised. raised-set r.lines i.0 q.0 e raised;
        }
    closing-one w e p r x is = absurd (cc)

pub alike-stays : (m n : Readings) → AlikeButDemands m n → StaysPut m n
alike-stays m n a =
    record {
      spaces = ap (λ (x : State). x.spaces) a.state;
      lives = a.lives;
      running = a.running;
      taken = a.taken;
      untold = a.untold;
      ready = a.ready;
      lines = a.lines;
    }
