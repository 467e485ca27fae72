-- The wants of a closing are those that are due.
use Rattle.std.proofs.Common.{◌≡◌, ◌≢◌, ℕ, zero, suc, ◌<◌, ◌≤◌, ◌+◌, inl, inr, refl, sym, ◌∙◌, ap, subst, arith, Some, None, List, [], ◌∷◌, ◌++◌, length, map, true, false}
use Rattle.std.specs.Prelude.{Option, Bool, ◌==◌, ◌&&◌, ◌||◌, not, cond, IsSome, get_or, slice_set, slice_index, filter, Contains}
use Rattle.std.specs.List.{list_any, range_with_len}
use Rattle.std.proofs.lemmas.Bool.{cases_eq, cases_lt, and_right}
use Rattle.std.proofs.lemmas.List.{get_or_past, get_or-set_same, get_or-set_other, set-get_or, append-nil, length-set}
use Rattle.std.proofs.lemmas.List.Elements.{Contains-append_right}
use Rattle.sa_base.specs.declared.number.SpaceNo.{SpaceNo}
use Rattle.sa_base.specs.declared.number.ProcNo.{ProcNo}
use Rattle.sa_base.specs.declared.record.Note.{Note}
use Rattle.sa_base.specs.declared.record.Note.TheVariants.{Preempted}
use Rattle.sa_base.specs.declared.record.Record.{Record}
use Rattle.sa_base.specs.declared.record.Record.TheVariants.{Want}
use Rattle.sa_base.specs.Items.{items_at}
use Rattle.sa_spaces.specs.Workload.{WorkloadView}
use Rattle.sa_assign.specs.Aims.{space_no}
use Rattle.sa_kernel_model.specs.State.{KernelState, Scene, untold_of, demand_of}
use Rattle.sa_kernel_model.specs.Closing.{for_spaces, calls_for, must_want as must_in, want_one as want_in, want_for}
use Rattle.sa_laws.specs.Readings.{Readings, demand_of as demand_at, untold_of as untold_at, must_hear}
use Rattle.sa_laws.specs.Record.{after_record, mark_after}
use Rattle.sa_laws.specs.History.{after_records}
use Rattle.sa_laws.specs.Closing.{must_want, want_one}
use Rattle.sa_laws.proofs.Records.{records-append}
use Rattle.sa_kernel_laws.specs.Overview.{Overview, overview, read_off}
use Rattle.sa_kernel_laws.specs.Kept.{IdleAlike}
use Rattle.sa_kernel_laws.proofs.entries.Upcalls.{AreLawful}
use Rattle.sa_kernel_laws.proofs.entries.Walks.{items-both}

-- spaces in the order of their numbers
abbrev pub spaces_from : ℕ → ℕ → List SpaceNo
spaces_from s n = map space_no (range_with_len s n)

-- tests that are alike
pub any-alike : {A : Type 0} (f g : A → Bool) (xs : List A) → ((x : A) → Contains xs x → f x ≡ g x) → list_any f xs ≡ list_any g xs
any-alike f g [] same = refl
any-alike f g (x ∷ xs) same =
    ap (λ b. b || list_any f xs) (same x (0, omega arith, refl))
    ∙ ap (λ b. g x || b) (any-alike f g xs (λ y has. same y (Contains-append_right (x ∷ []) xs y has)))

pub filter-alike : (f g : SpaceNo → Bool) (s n : ℕ) → ((t : ℕ) → s ≤ t → f (space_no t) ≡ g (space_no t))
    → filter f (spaces_from s n) ≡ filter g (spaces_from s n)
filter-alike f g s zero same = refl
filter-alike f g s (suc n) same =
    let rest = filter-alike f g (s + 1) n (λ t from. same t (omega arith)) in
    ap (λ b. cond b (space_no s ∷ filter f (spaces_from (s + 1) n)) (filter f (spaces_from (s + 1) n))) (same s (omega arith))
    ∙ ap (λ xs. cond (g (space_no s)) (space_no s ∷ xs) xs) rest

-- the want of one space
abbrev one_want : Bool → ℕ → List Record
one_want false s = []
one_want true s = Want (space_no s) 1 ∷ []

front : (b : Bool) (s : ℕ) (ss : List SpaceNo) → map want_one (cond b (space_no s ∷ ss) ss) ≡ one_want b s ++ map want_one ss
front true s ss = refl
front false s ss = refl

pub wants-lawful : (w : WorkloadView) (e : ℕ) (p : ProcNo) (m : Readings) (ss : List SpaceNo) (rest : List Record)
    → AreLawful w e p (after_records w e p m (map want_one ss)) rest → AreLawful w e p m (map want_one ss ++ rest)
wants-lawful w e p m [] rest law = law
wants-lawful w e p m (s ∷ ss) rest law =
    (record { once = tt; named = tt; all = tt; gives = tt; raises = tt }, wants-lawful w e p (after_record w e p m (want_one s)) ss rest law)

-- a want after an event's first record marks nothing
unmarked : (last : Option Record) (old new : ℕ) (mark : Bool) → IsSome last → mark_after last old new mark ≡ mark
unmarked None old new mark some = absurd (cc)
unmarked (Some x) old new mark some = refl

-- other spaces need no more and no less
want-other : (w : WorkloadView) (e : ℕ) (p : ProcNo) (m : Readings) (s t : ℕ) → t ≢ s
    → must_want (after_record w e p m (want_one (space_no s))) (space_no t) ≡ must_want m (space_no t)
want-other w e p m s t apart = ap (λ d. d == 0 && list_any (must_hear m) (untold_at m (space_no t))) (get_or-set_other m.demands s t 1 0 apart)

want-here : (w : WorkloadView) (e : ℕ) (p : ProcNo) (m : Readings) (s : ℕ) → s < length m.demands
    → must_want (after_record w e p m (want_one (space_no s))) (space_no s) ≡ false
want-here w e p m s within = ap (λ d. d == 0 && list_any (must_hear m) (untold_at m (space_no s))) (get_or-set_same m.demands s 1 0 within)

other-space : (w : WorkloadView) (e : ℕ) (p : ProcNo) (m : Readings) (s t : ℕ) (b : Bool) → t ≢ s
    → must_want (after_records w e p m (one_want b s)) (space_no t) ≡ must_want m (space_no t)
other-space w e p m s t false apart = refl
other-space w e p m s t true apart = want-other w e p m s t apart

-- after the wants that are due no space wants none that must be told something
abbrev behind_wants : WorkloadView → ℕ → ProcNo → Readings → (SpaceNo → Bool) → ℕ → ℕ → Readings
behind_wants w e p m f s n = after_records w e p m (map want_one (filter f (spaces_from s n)))

earlier-stay : (w : WorkloadView) (e : ℕ) (p : ProcNo) (m : Readings) (f : SpaceNo → Bool) (s n t : ℕ) → t < s
    → must_want (behind_wants w e p m f s n) (space_no t) ≡ must_want m (space_no t)
earlier-stay w e p m f s zero t below = refl
earlier-stay w e p m f s (suc n) t below =
    go (f (space_no s)) (earlier-stay w e p m f (s + 1) n t (omega arith))
    (earlier-stay w e p (after_record w e p m (want_one (space_no s))) f (s + 1) n t (omega arith)) where
      go : (b : Bool) → must_want (behind_wants w e p m f (s + 1) n) (space_no t) ≡ must_want m (space_no t)
          → must_want (behind_wants w e p (after_record w e p m (want_one (space_no s))) f (s + 1) n) (space_no t)
          ≡ must_want (after_record w e p m (want_one (space_no s))) (space_no t)
          → must_want (after_records w e p m (map want_one (cond b (space_no s ∷ filter f (spaces_from (s + 1) n)) (filter f (spaces_from (s + 1) n)))))
          (space_no t) ≡ must_want m (space_no t)
      go true skip rest = rest ∙ want-other w e p m s t (λ is. omega arith)
      go false skip rest = skip

wants-done : (w : WorkloadView) (e : ℕ) (p : ProcNo) (m : Readings) (f : SpaceNo → Bool) (s n t : ℕ) → s ≤ t → t < s + n → t < length m.demands
    → must_want m (space_no t) ≡ f (space_no t) → must_want (behind_wants w e p m f s n) (space_no t) ≡ false
wants-done w e p m f s zero t from below within is = absurd (omega arith)
wants-done w e p m f s (suc n) t from below within is =
    let next = after_record w e p m (want_one (space_no s)) in
    elim (cases_eq t s) [
      | inl same ↦ here (f (space_no s)) (sym (ap (λ i. must_want m (space_no i)) same) ∙ is ∙ ap (λ i. f (space_no i)) same) same
      | inr apart ↦
          later (f (space_no s)) (wants-done w e p m f (s + 1) n t (omega arith) (omega arith) within is)
          (wants-done w e p next f (s + 1) n t (omega arith) (omega arith) (let len = length-set m.demands s 1 in omega arith)
          (want-other w e p m s t apart ∙ is))
    ] where
      here : (b : Bool) → must_want m (space_no s) ≡ b → t ≡ s
          → must_want (after_records w e p m (map want_one (cond b (space_no s ∷ filter f (spaces_from (s + 1) n)) (filter f (spaces_from (s + 1) n)))))
          (space_no t) ≡ false
      here true was same =
          earlier-stay w e p (after_record w e p m (want_one (space_no s))) f (s + 1) n t (omega arith)
          ∙ ap (λ i. must_want (after_record w e p m (want_one (space_no s))) (space_no i)) same ∙ want-here w e p m s (omega arith)
      here false was same = earlier-stay w e p m f (s + 1) n t (omega arith) ∙ ap (λ i. must_want m (space_no i)) same ∙ was

      later : (b : Bool) → must_want (behind_wants w e p m f (s + 1) n) (space_no t) ≡ false
          → must_want (behind_wants w e p (after_record w e p m (want_one (space_no s))) f (s + 1) n) (space_no t) ≡ false
          → must_want (after_records w e p m (map want_one (cond b (space_no s ∷ filter f (spaces_from (s + 1) n)) (filter f (spaces_from (s + 1) n)))))
          (space_no t) ≡ false
      later true skip rest = rest
      later false skip rest = skip

untold-wants : (w : WorkloadView) (e : ℕ) (p : ProcNo) (m : Readings) (ss : List SpaceNo) → (after_records w e p m (map want_one ss)).untold ≡ m.untold
untold-wants w e p m [] = refl
untold-wants w e p m (s ∷ ss) = untold-wants w e p (after_record w e p m (want_one s)) ss

pub nothing-heard : (c : Readings) (s : SpaceNo) → untold_at c s ≡ [] → must_want c s ≡ false
nothing-heard c s none = ap (λ ns. demand_at c s == 0 && list_any (must_hear c) ns) none ∙ and_right (demand_at c s == 0) false refl

pub none-wanted : (w : WorkloadView) (e : ℕ) (p : ProcNo) (m : Readings) (n t : ℕ) → length m.demands ≡ n → length m.untold ≡ n
    → must_want (behind_wants w e p m (must_want m) 0 n) (space_no t) ≡ false
none-wanted w e p m n t demands untold = elim (cases_lt t n) [
  | inl below ↦ wants-done w e p m (must_want m) 0 n t (omega arith) (omega arith) (omega arith) refl
  | inr past ↦
      nothing-heard (behind_wants w e p m (must_want m) 0 n) (space_no t)
      (ap (λ us. get_or us t []) (untold-wants w e p m (filter (must_want m) (spaces_from 0 n))) ∙ get_or_past m.untold t [] (omega arith))
]

module _ {C : Type 0} where
  pub heard : (k : KernelState C) (m : Readings) (s : ℕ) → IdleAlike k m → (n : Note) → Contains (untold_of k s) n → must_hear m n ≡ calls_for k n
  heard k m s idle (Preempted a) has = ap not (idle s a has)
  heard k m s idle _ has = refl

  pub must-same : (k : KernelState C) (m : Readings) (s : ℕ) → overview m ≡ read_off k → IdleAlike k m → must_want m (space_no s) ≡ must_in k s
  must-same k m s reads idle =
      ap (λ (v : Overview). slice_index v.demands s == 0 && list_any (must_hear m) (get_or v.untold s [])) reads
      ∙ ap (λ b. demand_of k s == 0 && b) (any-alike (must_hear m) (calls_for k) (untold_of k s) (heard k m s idle))

  -- the wants of n spaces from s on
  pub record Wanted (w : WorkloadView) (e : ℕ) (p : ProcNo) (m : Readings) (x y : Scene C) (xs : List Record) : Type 0 where
    pub adds : y.items ≡ x.items ++ items_at e p xs
    pub reads : overview (after_records w e p m xs) ≡ read_off y.state
    pub idle : IdleAlike y.state (after_records w e p m xs)
    pub last : IsSome (after_records w e p m xs).last
    pub fixed : y.state.fixed ≡ x.state.fixed

  head-wanted : (w : WorkloadView) (e : ℕ) (p : ProcNo) (m : Readings) (x : Scene C) (s : ℕ) (b : Bool) → overview m ≡ read_off x.state → IdleAlike x.state m
      → IsSome m.last → Wanted w e p m x (want_in e p b s x) (one_want b s)
  head-wanted w e p m x s false reads idle last =
      record { adds = sym (append-nil x.items); reads = reads; idle = idle; last = last; fixed = refl }
  head-wanted w e p m x s true reads idle last =
      let F : Bool → Overview → Overview =
      λ b (v : Overview). record v { assign = record v.assign { marks = slice_set v.assign.marks p.0 b }; demands = slice_set v.demands s 1 } in
      let G : List Bool → Overview =
      λ marks. record (overview m) { assign = record (overview m).assign { marks = marks }; demands = slice_set m.demands s 1 } in
      let H : Overview → Overview = λ (v : Overview). record v { demands = slice_set v.demands s 1 } in
      let was = get_or m.marks p.0 false in
      let same : slice_set m.marks p.0 (mark_after m.last (demand_at m (space_no s)) 1 was) ≡ m.marks =
      ap (slice_set m.marks p.0) (unmarked m.last (demand_at m (space_no s)) 1 was last) ∙ set-get_or m.marks p.0 false in
      record {
        adds = refl;
        reads = ap G same ∙ ap H reads;
        idle = idle;
        last = refl;
        fixed = refl;
      }

  wanted-both : (w : WorkloadView) (e : ℕ) (p : ProcNo) (m : Readings) (x y z : Scene C) (xs ys : List Record) → Wanted w e p m x y xs
      → Wanted w e p (after_records w e p m xs) y z ys → Wanted w e p m x z (xs ++ ys)
  wanted-both w e p m x y z xs ys one two =
      let next = after_records w e p m xs in
      let is : after_records w e p next ys ≡ after_records w e p m (xs ++ ys) = sym (records-append w e p m xs ys) in
      record {
        adds = items-both e p x.items y.items z.items xs ys one.adds two.adds;
        reads = ap overview (sym is) ∙ two.reads;
        idle = subst (λ (c : Readings). IdleAlike z.state c) is two.idle;
        last = subst (λ (c : Readings). IsSome c.last) is two.last;
        fixed = two.fixed ∙ one.fixed;
      }

  pub wants-from : (w : WorkloadView) (e : ℕ) (p : ProcNo) (m : Readings) (x : Scene C) (s n : ℕ) → overview m ≡ read_off x.state → IdleAlike x.state m
      → IsSome m.last → Wanted w e p m x (for_spaces (want_for e p) s n x) (map want_one (filter (must_want m) (spaces_from s n)))
  wants-from w e p m x s zero reads idle last =
      record { adds = sym (append-nil x.items); reads = reads; idle = idle; last = last; fixed = refl }
  wants-from w e p m x s (suc n) reads idle last =
      let b = must_in x.state s in
      let is : must_want m (space_no s) ≡ b = must-same x.state m s reads idle in
      let one = one_want b s in
      let y = want_in e p b s x in
      let next = after_records w e p m one in
      let head = head-wanted w e p m x s b reads idle last in
      let rest = wants-from w e p next y (s + 1) n head.reads head.idle head.last in
      let later : filter (must_want next) (spaces_from (s + 1) n) ≡ filter (must_want m) (spaces_from (s + 1) n) =
      filter-alike (must_want next) (must_want m) (s + 1) n (λ t from. other-space w e p m s t b (λ same. omega arith)) in
      let both : one ++ map want_one (filter (must_want next) (spaces_from (s + 1) n)) ≡ map want_one (filter (must_want m) (spaces_from s (suc n))) =
      ap (λ ss. one ++ map want_one ss) later ∙ sym (front b s (filter (must_want m) (spaces_from (s + 1) n)))
      ∙ ap (λ c. map want_one (cond c (space_no s ∷ filter (must_want m) (spaces_from (s + 1) n)) (filter (must_want m) (spaces_from (s + 1) n)))) (sym is) in
      let z = for_spaces (want_for e p) (s + 1) n y in
      let xs = map want_one (filter (must_want next) (spaces_from (s + 1) n)) in
      let whole : Wanted w e p m x z (one ++ xs) = wanted-both w e p m x y z one xs head rest in
      subst (λ (ys : List Record). Wanted w e p m x z ys) both whole
