-- The end of a life's own event may as well come directly after its block: the records of an upcall and a closing leave it.
use Rattle.std.proofs.Common.{◌≡◌, ◌≢◌, ℕ, sym, ◌∙◌, ap, subst, refl, true, Option, Some, None, List, [], ◌∷◌, ◌++◌, map, inl, inr}
use Rattle.std.proofs.Math.Path.{fun_ext}
use Rattle.std.specs.List.{list_all}
use Rattle.std.specs.Option.{option_map}
use Rattle.std.proofs.lemmas.Bool.{cases_eq, and_parts}
use Rattle.std.proofs.lemmas.Option.{same_Some}
use Rattle.sa_base.specs.declared.number.ProcNo.{ProcNo}
use Rattle.sa_base.specs.declared.number.SpaceNo.{SpaceNo}
use Rattle.sa_base.specs.declared.number.ActNo.{ActNo}
use Rattle.sa_base.specs.declared.record.Note.{Note}
use Rattle.sa_base.specs.declared.record.Note.TheVariants.{Add, Preempted, Blocked, Unblocked}
use Rattle.sa_base.specs.declared.record.Record.{Record}
use Rattle.sa_base.specs.declared.record.Record.TheVariants.{Up, Told, Want, Aim, Line}
use Rattle.sa_lemmas.specs.Function.{put}
use Rattle.sa_lemmas.proofs.FunctionUpdates.{put-at, put-other}
use Rattle.sa_spaces.specs.Workload.{WorkloadView}
use Rattle.sa_laws.specs.Life.{Life, inherits, bereft}
use Rattle.sa_laws.specs.Readings.{Readings}
use Rattle.sa_laws.specs.Record.{after_record, with_life, handed, with_act}
use Rattle.sa_laws.specs.History.{after_records}
use Rattle.sa_laws.specs.Shape.{is_of_closing}

-- Changes of different lives can be swapped.
swap-put : (f : Life → Life) (a : ActNo) (n : ℕ) (new : Option Life) (lives : ℕ → Option Life) → a.0 ≢ n → (i : ℕ)
    → put (with_life f (Some a) lives) n new i ≡ with_life f (Some a) (put lives n new) i
swap-put f a n new lives apart i = elim (cases_eq i n) [
  | inl y ↦
      let other : i ≢ a.0 = λ e. apart (sym e ∙ y) in
      put-at (with_life f (Some a) lives) n i new y
      ∙ sym (put-other (put lives n new) a.0 i (option_map f (put lives n new a.0)) other ∙ put-at lives n i new y)
  | inr y ↦ put-other (with_life f (Some a) lives) n i new y ∙ elim (cases_eq i a.0) [
    | inl z ↦ put-at lives a.0 i (option_map f (lives a.0)) z
        ∙ sym (put-at (put lives n new) a.0 i (option_map f (put lives n new a.0)) z ∙ ap (option_map f) (put-other lives n a.0 new apart))
    | inr z ↦ put-other lives a.0 i (option_map f (lives a.0)) z
        ∙ sym (put-other (put lives n new) a.0 i (option_map f (put lives n new a.0)) z ∙ put-other lives n i new y)
  ]
]

swap-with : (f h : Life → Life) (a : ActNo) (o : Option ActNo) (lives : ℕ → Option Life) → ((b : ActNo) → o ≡ Some b → a.0 ≢ b.0) → (i : ℕ)
    → with_life h o (with_life f (Some a) lives) i ≡ with_life f (Some a) (with_life h o lives) i
swap-with f h a None lives apart i = refl
swap-with f h a (Some b) lives apart i =
    ap (λ (x : Option Life). put (with_life f (Some a) lives) b.0 (option_map h x) i)
    (put-other lives a.0 b.0 (option_map f (lives a.0)) (λ e. apart b refl (sym e)))
    ∙ swap-put f a b.0 (option_map h (lives b.0)) lives (apart b refl) i

swap-handed : (f : Life → Life) (a : ActNo) (upped : Option ActNo) (b : ActNo) (x : Option Life) (lives : ℕ → Option Life)
    → a.0 ≢ b.0 → ((u : ActNo) → upped ≡ Some u → a.0 ≢ u.0) → (i : ℕ)
    → handed upped b x (with_life f (Some a) lives) i ≡ with_life f (Some a) (handed upped b x lives) i
swap-handed f a upped b None lives apart ups i = refl
swap-handed f a upped b (Some from) lives apart ups i =
    ap (λ (ls : ℕ → Option Life). with_life (inherits from) upped ls i)
    (fun_ext (swap-with f bereft a (Some b) lives (λ c e. subst (λ (z : ActNo). a.0 ≢ z.0) (same_Some b c e) apart)))
    ∙ swap-with f (inherits from) a upped (with_life bereft (Some b) lives) ups i

-- the moment at which a life has ended its own event early
abbrev pub early : (Life → Life) → ActNo → Readings → Readings
early f a r = record r { lives = with_life f (Some a) r.lives }

-- A record of an upcall or a closing leaves the life.
abbrev pub Leaves : ActNo → Readings → Record → Type 0
Leaves a r (Up s n) = a.0 ≢ n.0
Leaves a r (Told (Add q)) = Unit {0}
Leaves a r (Told (Blocked b)) = Unit {0}
Leaves a r (Told (Preempted b)) = (a.0 ≢ b.0) × ((u : ActNo) → r.upped ≡ Some u → a.0 ≢ u.0)
Leaves a r (Told (Unblocked b)) = (a.0 ≢ b.0) × ((u : ActNo) → r.upped ≡ Some u → a.0 ≢ u.0)
Leaves a r x = is_of_closing x ≡ true

early-handed : (w : WorkloadView) (e : ℕ) (p : ProcNo) (f : Life → Life) (a b : ActNo) (r : Readings) (n : Note) → a.0 ≢ b.0
    → ((u : ActNo) → r.upped ≡ Some u → a.0 ≢ u.0)
    → (after_record w e p (early f a r) (Told n)).lives ≡ handed r.upped b (with_life f (Some a) r.lives b.0) (with_life f (Some a) r.lives)
    → (after_record w e p r (Told n)).lives ≡ handed r.upped b (r.lives b.0) r.lives
    → (after_record w e p (early f a r) (Told n)).lives ≡ with_life f (Some a) (after_record w e p r (Told n)).lives
early-handed w e p f a b r n apart ups new old =
    new ∙ ap (λ (x : Option Life). handed r.upped b x (with_life f (Some a) r.lives))
    (put-other r.lives a.0 b.0 (option_map f (r.lives a.0)) (λ e. apart (sym e)))
    ∙ fun_ext (swap-handed f a r.upped b (r.lives b.0) r.lives apart ups) ∙ ap (λ (ls : ℕ → Option Life). with_life f (Some a) ls) (sym old)

early-one : (w : WorkloadView) (e : ℕ) (p : ProcNo) (f : Life → Life) (a : ActNo) (r : Readings) (x : Record) → Leaves a r x
    → after_record w e p (early f a r) x ≡ early f a (after_record w e p r x)
early-one w e p f a r (Up s n) leaves =
    let lives = fun_ext (swap-put f a n.0 (Some (Rattle.sa_laws.specs.Life.new_life s p)) r.lives leaves) in
    λ i. record (after_record w e p r (Up s n)) { lives = lives i }
early-one w e p f a r (Told (Add q)) leaves = refl
early-one w e p f a r (Told (Blocked b)) leaves = refl
early-one w e p f a r (Told (Preempted b)) leaves =
    let lives = early-handed w e p f a b r (Preempted b) leaves.0 leaves.1 refl refl in
    let space = ap (λ (o : Option Life). with_act r.taken (option_map (λ (life : Life). life.space) o) b)
    (put-other r.lives a.0 b.0 (option_map f (r.lives a.0)) (λ e. leaves.0 (sym e))) in
    λ i. record (after_record w e p r (Told (Preempted b))) { lives = lives i; taken = space i }
early-one w e p f a r (Told (Unblocked b)) leaves =
    let lives = early-handed w e p f a b r (Unblocked b) leaves.0 leaves.1 refl refl in
    let space = ap (λ (o : Option Life). with_act r.taken (option_map (λ (life : Life). life.space) o) b)
    (put-other r.lives a.0 b.0 (option_map f (r.lives a.0)) (λ e. leaves.0 (sym e))) in
    λ i. record (after_record w e p r (Told (Unblocked b))) { lives = lives i; taken = space i }
early-one w e p f a r (Want s n) leaves = refl
early-one w e p f a r (Aim q s) leaves = refl
early-one w e p f a r (Line q) leaves = refl
early-one w e p f a r x leaves = absurd (cc)

abbrev pub AllLeave : WorkloadView → ℕ → ProcNo → ActNo → Readings → List Record → Type 0
AllLeave w e p a r [] = Unit {0}
AllLeave w e p a r (x ∷ xs) = Leaves a r x × AllLeave w e p a (after_record w e p r x) xs

-- So the end may come before such records or after them.
pub early-all : (w : WorkloadView) (e : ℕ) (p : ProcNo) (f : Life → Life) (a : ActNo) (r : Readings) (xs : List Record)
    → AllLeave w e p a r xs
    → after_records w e p (early f a r) xs ≡ early f a (after_records w e p r xs)
early-all w e p f a r [] leave = refl
early-all w e p f a r (x ∷ xs) leave =
    ap (λ (c : Readings). after_records w e p c xs) (early-one w e p f a r x leave.0)
    ∙ early-all w e p f a (after_record w e p r x) xs leave.1

-- The records of an upcall of another life, which tell nothing of this one, leave it, and so do those of a closing.
closing-leaves : (w : WorkloadView) (e : ℕ) (p : ProcNo) (a : ActNo) (r : Readings) (cl : List Record)
    → list_all is_of_closing cl ≡ true → AllLeave w e p a r cl
closing-leaves w e p a r [] closes = tt
closing-leaves w e p a r (Want s n ∷ cl) closes = (refl, closing-leaves w e p a (after_record w e p r (Want s n)) cl closes)
closing-leaves w e p a r (Aim q (Some s) ∷ cl) closes = (refl, closing-leaves w e p a (after_record w e p r (Aim q (Some s))) cl closes)
closing-leaves w e p a r (Line q ∷ cl) closes = (refl, closing-leaves w e p a (after_record w e p r (Line q)) cl closes)
closing-leaves w e p a r (x ∷ cl) closes = absurd (let z = (and_parts (is_of_closing x) (list_all is_of_closing cl) closes).0 in cc)

-- None of these notices hands the life over.
abbrev pub NotOf : ActNo → List Note → Type 0
NotOf a [] = Unit {0}
NotOf a (Preempted b ∷ ns) = (a.0 ≢ b.0) × NotOf a ns
NotOf a (Unblocked b ∷ ns) = (a.0 ≢ b.0) × NotOf a ns
NotOf a (n ∷ ns) = NotOf a ns

told-leaves : (w : WorkloadView) (e : ℕ) (p : ProcNo) (a n : ActNo) (r : Readings) (ns : List Note) (cl : List Record) → a.0 ≢ n.0
    → r.upped ≡ Some n → NotOf a ns → list_all is_of_closing cl ≡ true
    → AllLeave w e p a r (map Told ns ++ cl)
told-leaves w e p a n r [] cl apart upped not closes = closing-leaves w e p a r cl closes
told-leaves w e p a n r (Add q ∷ ns) cl apart upped not closes =
    (tt, told-leaves w e p a n (after_record w e p r (Told (Add q))) ns cl apart upped not closes)
told-leaves w e p a n r (Blocked b ∷ ns) cl apart upped not closes =
    (tt, told-leaves w e p a n (after_record w e p r (Told (Blocked b))) ns cl apart upped not closes)
told-leaves w e p a n r (Preempted b ∷ ns) cl apart upped not closes = (
  (not.0, λ u is. subst (λ (z : ActNo). a.0 ≢ z.0) (same_Some n u (sym upped ∙ is)) apart),
  told-leaves w e p a n
      (after_record w e p r (Told (Preempted b))) ns cl apart upped not.1 closes,
)
told-leaves w e p a n r (Unblocked b ∷ ns) cl apart upped not closes = (
  (not.0, λ u is. subst (λ (z : ActNo). a.0 ≢ z.0) (same_Some n u (sym upped ∙ is)) apart),
  told-leaves w e p a n
      (after_record w e p r (Told (Unblocked b))) ns cl apart upped not.1 closes,
)

pub up-leaves : (w : WorkloadView) (e : ℕ) (p : ProcNo) (a : ActNo) (s : SpaceNo) (n : ActNo) (r : Readings) (ns : List Note)
    (cl : List Record) → a.0 ≢ n.0 → NotOf a ns → list_all is_of_closing cl ≡ true
    → AllLeave w e p a r ((Up s n ∷ map Told ns) ++ cl)
up-leaves w e p a s n r ns cl apart not closes = (apart, told-leaves w e p a n (after_record w e p r (Up s n)) ns cl apart refl not closes)
