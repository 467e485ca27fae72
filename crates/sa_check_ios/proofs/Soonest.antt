-- The soonest I/O under way, and the one that is due.
use Rattle.std.proofs.Common.{◌≡◌, ℕ, suc, ◌+◌, ◌<◌, All, IfSome, drop, length, add-one, subst, inl, inr, Bool, true, false, cond, leb, List, [], ◌∷◌, ◌++◌, Option, Some, None, refl, sym, ap, ◌∙◌, arith}
use Rattle.std.specs.Prelude.{find, slice_index_or}
use Rattle.std.specs.Option.{option_map}
use Rattle.std.proofs.Math.Seq.{drop-cons}
use Rattle.std.proofs.lemmas.List.Elements.{All-head, All-tail}
use Rattle.std.proofs.lemmas.Bool.{cases_Bool, cond-true, cond-false}
use Rattle.std.proofs.lemmas.Bool.Decides.{nat_tests}
use Rattle.sa_devices.specs.Ios.{Io, is_sooner, sooner_of, due_of}
use Rattle.sa_devices.specs.Pages.{HasPage}
use Rattle.sa_check_ios.specs.Kept.{soonest_of, nearer}

sooner-trans : (a b c : Io) → is_sooner c b ≡ true → is_sooner b a ≡ true → is_sooner c a ≡ true
sooner-trans a b c cb ba = grind (arith, nat_tests)

later-trans : (a b c : Io) → is_sooner c b ≡ false → is_sooner b a ≡ false → is_sooner c a ≡ false
later-trans a b c cb ba = grind (arith, nat_tests)

-- of three it does not matter which two are compared first
of_three : (a b c : Io) → sooner_of a (Some (sooner_of b (Some c))) ≡ sooner_of (sooner_of a (Some b)) (Some c)
of_three a b c = go (is_sooner c b) (is_sooner b a) refl refl where
  go : (s t : Bool) → is_sooner c b ≡ s → is_sooner b a ≡ t
      → cond (is_sooner (cond s c b) a) (cond s c b) a ≡ cond (is_sooner c (cond t b a)) c (cond t b a)
  go true true cb ba = ap (λ x. cond x c a) (sooner-trans a b c cb ba) ∙ sym (ap (λ x. cond x c b) cb)
  go true false cb ba = refl
  go false true cb ba = ap (λ x. cond x b a) ba ∙ sym (ap (λ x. cond x c b) cb)
  go false false cb ba = ap (λ x. cond x b a) ba ∙ sym (ap (λ x. cond x c a) (later-trans a b c cb ba))

pub nearer-assoc : (a : Option Io) (b : Io) (c : Option Io) → nearer a (Some (sooner_of b c)) ≡ nearer (nearer a (Some b)) c
nearer-assoc None b c = refl
nearer-assoc (Some a) b None = refl
nearer-assoc (Some a) b (Some c) = ap Some (of_three a b c)

pub soonest_of-push : (ios : List Io) (io : Io) → soonest_of (ios ++ io ∷ []) ≡ nearer (soonest_of ios) (Some io)
soonest_of-push [] io = refl
soonest_of-push (x ∷ xs) io = ap (λ m. Some (sooner_of x m)) (soonest_of-push xs io) ∙ step (soonest_of xs) where
  step : (m : Option Io) → Some (sooner_of x (nearer m (Some io))) ≡ nearer (Some (sooner_of x m)) (Some io)
  step None = refl
  step (Some y) = ap Some (of_three x y io)

-- the soonest one, where its end has come
abbrev pub due_from : ℕ → Option Io → Option Io
due_from event None = None
due_from event (Some io) = cond (leb io.ends event) (Some io) None

due-cons : (event : ℕ) (x y : Io) → cond (leb x.ends event) (Some (sooner_of x (due_from event (Some y)))) (due_from event (Some y))
    ≡ due_from event (Some (sooner_of x (Some y)))
due-cons event x y = go (leb x.ends event) (leb y.ends event) (is_sooner y x) refl refl refl where
  go : (b c s : Bool) → leb x.ends event ≡ b → leb y.ends event ≡ c → is_sooner y x ≡ s
      → cond b (Some (sooner_of x (cond c (Some y) None))) (cond c (Some y) None) ≡ cond (leb (cond s y x).ends event) (Some (cond s y x)) None
  go true true s bx cy is = grind (arith, nat_tests)
  go true false true bx cy is = absurd (grind (arith, nat_tests))
  go true false false bx cy is = sym (ap (λ z. cond z (Some x) None) bx)
  go false true true bx cy is = sym (ap (λ z. cond z (Some y) None) cy)
  go false true false bx cy is = absurd (grind (arith, nat_tests))
  go false false true bx cy is = sym (ap (λ z. cond z (Some y) None) cy)
  go false false false bx cy is = sym (ap (λ z. cond z (Some x) None) bx)

pub due_of-soonest : (event : ℕ) (ios : List Io) → due_of event ios ≡ due_from event (soonest_of ios)
due_of-soonest event [] = refl
due_of-soonest event (x ∷ xs) = ap (λ m. cond (leb x.ends event) (Some (sooner_of x m)) m) (due_of-soonest event xs) ∙ step (soonest_of xs) where
  step : (m : Option Io) → cond (leb x.ends event) (Some (sooner_of x (due_from event m))) (due_from event m) ≡ due_from event (Some (sooner_of x m))
  step None = refl
  step (Some y) = due-cons event x y

-- ---- what is kept of the I/Os under way

abbrev pub HavePages : List Io → Type 0
HavePages ios = All (λ (io : Io). HasPage io.kind) ios

pub soonest-push : (ios : List Io) (io : Io) (first : Option Io) (soonest : Io) → first ≡ soonest_of ios → Some soonest ≡ nearer first (Some io)
    → Some soonest ≡ soonest_of (ios ++ io ∷ [])
soonest-push ios io first soonest is so = so ∙ ap (λ m. nearer m (Some io)) is ∙ sym (soonest_of-push ios io)

-- one more of those that the loop passes
pub soonest-more : (ios : List Io) (i : ℕ) (io : Io) (first : Option Io) (soonest : Io) → i < length ios → io ≡ slice_index_or ios i io
    → Some soonest ≡ nearer first (Some io)
    → nearer first (soonest_of (drop i ios)) ≡ soonest_of ios → nearer (Some soonest) (soonest_of (drop (i + 1) ios)) ≡ soonest_of ios
soonest-more ios i io first soonest within is so known =
    ap (λ m. nearer m (soonest_of (drop (i + 1) ios))) so
    ∙ sym (nearer-assoc first io (soonest_of (drop (i + 1) ios)))
    ∙ ap (λ xs. nearer first (soonest_of xs)) (sym rest) ∙ known where
      rest : drop i ios ≡ io ∷ drop (i + 1) ios
      rest = drop-cons ios i io within ∙ ap (λ x. x ∷ drop (suc i) ios) (sym is) ∙ ap (λ n. io ∷ drop n ios) (sym (add-one i))

-- the page of the one that a test finds
pub page-find : (p : Io → Bool) (ios : List Io) → HavePages ios → IfSome (option_map (λ (io : Io). io.kind) (find p ios)) HasPage
page-find p [] have = tt
page-find p (x ∷ xs) have = elim (cases_Bool (p x)) [
  | inl so ↦
      subst (λ (o : Option Io). IfSome (option_map (λ (io : Io). io.kind) o) HasPage) (sym (cond-true (p x) (Some x) (find p xs) so))
      (All-head (λ (io : Io). HasPage io.kind) x xs have)
  | inr other ↦
      subst (λ (o : Option Io). IfSome (option_map (λ (io : Io). io.kind) o) HasPage) (sym (cond-false (p x) (Some x) (find p xs) other))
      (page-find p xs (All-tail (λ (io : Io). HasPage io.kind) x xs have))
]
