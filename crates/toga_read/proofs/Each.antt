-- What is made of the items of a list, one after another, up to the first fault.
use Rattle.std.proofs.Common.{◌≡◌, ℕ, ◌+◌, ◌<◌, ◌≤◌, zero, suc, List, [], ◌∷◌, ◌++◌, length, map, take, get_or, Some, slice_get, Result, Ok, Err, refl, sym, ap, subst, ◌∙◌, arith}
use Rattle.std.specs.List.{All}
use Rattle.std.proofs.lemmas.List.{take_all, take_more}
use Rattle.std.proofs.lemmas.List.Elements.{All-cons, All-tail}
use Rattle.toga_diagnostic.specs.declared.cause.Fault.{Fault}
use Rattle.toga_draft.specs.declared.unread.Unread.{Unread}
use Rattle.toga_draft.specs.declared.unread.Unread.TheVariants as unread
use Rattle.toga_draft.specs.Reading.{◌>>=◌, Fails}
use Rattle.toga_read.specs.Laws.{FitEach}
use Rattle.toga_read.specs.Outcome.{each}

-- a value and a list that were made after each other
record Both {B : Type 0} (r : Result B Fault) (s : Result (List B) Fault) (ys : List B) : Type 0 where
  first : B
  rest : List B
  made : r ≡ Ok first
  others : s ≡ Ok rest
  all : ys ≡ first ∷ rest

both : {B : Type 0} (r : Result B Fault) (s : Result (List B) Fault) (ys : List B) → (r >>= λ y. s >>= λ zs. Ok (y ∷ zs)) ≡ Ok ys → Both r s ys
both (Ok y) (Ok zs) ys e = record { first = y; rest = zs; made = refl; others = refl; all = cc }
both (Ok y) (Err fault) ys e = absurd (cc)
both (Err fault) s ys e = absurd (cc)

joined : {B : Type 0} (r : Result B Fault) (s : Result (List B) Fault) (y : B) (ys : List B) → r ≡ Ok y → s ≡ Ok ys
    → (r >>= λ z. s >>= λ zs. Ok (z ∷ zs)) ≡ Ok (y ∷ ys)
joined {B} r s y ys e g =
    ap (λ (q : Result B Fault). q >>= λ z. s >>= λ zs. Ok (z ∷ zs)) e ∙ ap (λ (q : Result (List B) Fault). q >>= λ zs. Ok (y ∷ zs)) g

-- one item more at the end
each-append : {A B : Type 0} (f : A → Result B Fault) (xs : List A) (x : A) (ys : List B) (y : B) → each f xs ≡ Ok ys → f x ≡ Ok y
    → each f (xs ++ x ∷ []) ≡ Ok (ys ++ y ∷ [])
each-append {A} {B} f [] x ys y e g =
    let none : [] ≡ ys = cc in
    joined (f x) (Ok []) y [] g refl ∙ ap (λ (zs : List B). Ok (zs ++ y ∷ [])) none
each-append {A} {B} f (a ∷ xs) x ys y e g =
    let b = both (f a) (each f xs) ys e in
    joined (f a) (each f (xs ++ x ∷ [])) b.first (b.rest ++ y ∷ []) b.made (each-append f xs x b.rest y b.others g)
    ∙ ap (λ (zs : List B). Ok (zs ++ y ∷ [])) (sym b.all)

-- what is made of one item more
pub each-more : {A B : Type 0} (f : A → Result B Fault) (xs : List A) (i : ℕ) (d : A) (now later : List B) (y : B) → i < length xs
    → each f (take i xs) ≡ Ok now → f (get_or xs i d) ≡ Ok y → later ≡ now ++ y ∷ [] → each f (take (i + 1) xs) ≡ Ok later
each-more {A} {B} f xs i d now later y h e g l =
    ap (each f) (take_more xs i d h) ∙ each-append f (take i xs) (get_or xs i d) now y e g ∙ ap (λ (zs : List B). Ok zs) (sym l)

-- and of all of them
pub each-all : {A B : Type 0} (f : A → Result B Fault) (xs : List A) (i : ℕ) (now : List B) → length xs ≤ i → each f (take i xs) ≡ Ok now
    → each f xs ≡ Ok now
each-all f xs i now h e = sym (ap (each f) (take_all i xs h)) ∙ e

-- the first fault
failed : {B : Type 0} (r : Result B Fault) (s : Result (List B) Fault) (y : B) (fault : Fault) → r ≡ Ok y → s ≡ Err fault
    → (r >>= λ z. s >>= λ zs. Ok (z ∷ zs)) ≡ Err fault
failed {B} r s y fault e g =
    ap (λ (q : Result B Fault). q >>= λ z. s >>= λ zs. Ok (z ∷ zs)) e ∙ ap (λ (q : Result (List B) Fault). q >>= λ zs. Ok (y ∷ zs)) g

pub each-fails : {A B : Type 0} (f : A → Result B Fault) (xs : List A) (i : ℕ) (d : A) (now : List B) (fault : Fault) → i < length xs
    → each f (take i xs) ≡ Ok now → f (get_or xs i d) ≡ Err fault → each f xs ≡ Err fault
each-fails f [] i d now fault h e g = absurd (omega (arith, h))
each-fails {A} {B} f (x ∷ xs) zero d now fault h e g = ap (λ (q : Result B Fault). q >>= λ z. each f xs >>= λ zs. Ok (z ∷ zs)) g
each-fails f (x ∷ xs) (suc i) d now fault h e g =
    let b = both (f x) (each f (take i xs)) now e in
    failed (f x) (each f xs) b.first fault b.made (each-fails f xs i d b.rest fault (omega arith) b.others g)

-- what tells the fault of an item, or nothing, tells that of all
pub each-failing : {A B : Type 0} (f : A → Result B Fault) (xs : List A) (i : ℕ) (d : A) (now : List B) (e : Unread) → i < length xs
    → each f (take i xs) ≡ Ok now → Fails e (f (get_or xs i d)) → Fails e (each f xs)
each-failing f xs i d now (unread.Wrong fault) h g fails = each-fails f xs i d now fault h g fails
each-failing f xs i d now unread.OutOfMemory h g fails = tt

-- and that of what follows
pub fails-through : {A B : Type 0} (e : Unread) (r : Result A Fault) (f : A → Result B Fault) → Fails e r → Fails e (r >>= f)
fails-through {A} {B} (unread.Wrong fault) r f fails = ap (λ (q : Result A Fault). q >>= f) fails
fails-through unread.OutOfMemory r f fails = tt

-- as many are made
pub each-length : {A B : Type 0} (f : A → Result B Fault) (xs : List A) (ys : List B) → each f xs ≡ Ok ys → length ys ≡ length xs
each-length f [] ys e = let none : ys ≡ [] = cc in ap length none
each-length f (x ∷ xs) ys e =
    let b = both (f x) (each f xs) ys e in
    let rest : length b.rest ≡ length xs = each-length f xs b.rest b.others in
    ap length b.all ∙ ap suc rest

-- what holds of each that is made of what has P
pub each-holds : {A B : Type 0} (P : A → Type 0) (Q : B → Type 0) (f : A → Result B Fault) → ((x : A) (y : B) → P x → f x ≡ Ok y → Q y)
    → (xs : List A) (ys : List B) → each f xs ≡ Ok ys → All P xs → All Q ys
each-holds {A} {B} P Q f step [] ys e all =
    let none : [] ≡ ys = cc in subst (λ (zs : List B). All Q zs) none (λ k d h. absurd (omega (arith, h)))
each-holds {A} {B} P Q f step (x ∷ xs) ys e all =
    let b = both (f x) (each f xs) ys e in
    let one : P x = all 0 x (omega arith) in
    let rest : All Q b.rest = each-holds P Q f step xs b.rest b.others (All-tail P x xs all) in
    subst (λ (zs : List B). All Q zs) (sym b.all) (All-cons Q b.first b.rest (step x b.first one b.made) rest)

-- what fits each that is made of what has P
pub each-fits : {A B C : Type 0} (P : A → Type 0) (R : B → C → Type 0) (g : A → C) (f : A → Result B Fault)
    → ((x : A) (y : B) → P x → f x ≡ Ok y → R y (g x)) → (xs : List A) (ys : List B) → each f xs ≡ Ok ys → All P xs → FitEach R ys (map g xs)
each-fits {A} {B} {C} P R g f step [] ys e all =
    let none : [] ≡ ys = cc in subst (λ (zs : List B). FitEach R zs []) none tt
each-fits {A} {B} {C} P R g f step (x ∷ xs) ys e all =
    let b = both (f x) (each f xs) ys e in
    let one : P x = all 0 x (omega arith) in
    subst (λ (zs : List B). FitEach R zs (map g (x ∷ xs))) (sym b.all)
    (step x b.first one b.made, each-fits P R g f step xs b.rest b.others (All-tail P x xs all))

-- what is made of the item at a place
pub each-at : {A B : Type 0} (P : A → Type 0) (f : A → Result B Fault) (xs : List A) (ys : List B) (k : ℕ) (x : A) → All P xs → each f xs ≡ Ok ys
    → slice_get xs k ≡ Some x → (y : B) × P x × (f x ≡ Ok y) × (slice_get ys k ≡ Some y)
each-at P f [] ys k x all e g = absurd (cc)
each-at {A} {B} P f (a ∷ xs) ys zero x all e g =
    let b = both (f a) (each f xs) ys e in
    let same : a ≡ x = cc in
    let one : P a = all 0 a (omega arith) in
    (b.first, subst P same one, ap f (sym same) ∙ b.made, ap (λ (zs : List B). slice_get zs 0) b.all)
each-at {A} {B} P f (a ∷ xs) ys (suc k) x all e g =
    let b = both (f a) (each f xs) ys e in
    let r = each-at P f xs b.rest k x (All-tail P a xs all) b.others g in
    (r.0, r.1, r.2, ap (λ (zs : List B). slice_get zs (suc k)) b.all ∙ r.3)
