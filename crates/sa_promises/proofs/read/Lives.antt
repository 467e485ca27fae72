-- What each life has, as something said of its number.
use Rattle.std.proofs.Common.{◌≡◌, ℕ, inl, inr, refl, sym, ◌∙◌, ap, Some, None, List, [], ◌++◌, true, false}
use Rattle.std.specs.Prelude.{Option, Bool, if◌then◌else◌}
use Rattle.std.specs.Option.{option_map}
use Rattle.std.proofs.lemmas.Bool.{cases_eq}
use Rattle.std.proofs.lemmas.Option.{none-some, same_Some}
use Rattle.sa_lemmas.specs.Function.{put}
use Rattle.sa_lemmas.proofs.FunctionUpdates.{put-at, put-other}
use Rattle.sa_base.specs.declared.number.ActNo.{ActNo}
use Rattle.sa_laws.specs.Life.{Life, inherits, bereft}
use Rattle.sa_laws.specs.Record.{with_life, handed}
use Rattle.sa_promises.specs.Holdings.{change}

-- of each number in use the life has what is said of the number
abbrev pub Said : {F : Type 0} → (Life → F) → (ℕ → Option Life) → (ℕ → F) → Type 0
Said g lives has = (b : ℕ) (life : Life) → lives b ≡ Some life → g life ≡ has b

pub mapped : (f : Life → Life) (o : Option Life) (new : Life) → option_map f o ≡ Some new → (old : Life) × (o ≡ Some old) × (f old ≡ new)
mapped f None new is = absurd (none-some new is)
mapped f (Some old) new is = (old, refl, same_Some (f old) new is)

-- one number's life is changed, and what is said of it in the same way
said-at : {F : Type 0} (g : Life → F) (f : Life → Life) (h : F → F) (a : ℕ) (lives : ℕ → Option Life) (has : ℕ → F) → ((l : Life) → g (f l) ≡ h (g l))
    → Said g lives has → Said g (put lives a (option_map f (lives a))) (put has a (h (has a)))
said-at g f h a lives has same said b life is = elim (cases_eq b a) [
  | inl at ↦
      let was = mapped f (lives a) life (sym (put-at lives a b (option_map f (lives a)) at) ∙ is) in
      ap g (sym was.2) ∙ same was.0 ∙ ap h (said a was.0 was.1) ∙ sym (put-at has a b (h (has a)) at)
  | inr apart ↦ said b life (sym (put-other lives a b (option_map f (lives a)) apart) ∙ is) ∙ sym (put-other has a b (h (has a)) apart)
]

pub said-with : {F : Type 0} (g : Life → F) (f : Life → Life) (h : F → F) (n : Option ActNo) (lives : ℕ → Option Life) (has : ℕ → F)
    → ((l : Life) → g (f l) ≡ h (g l))
    → Said g lives has → Said g (with_life f n lives) (change h n has)
said-with g f h None lives has same said = said
said-with g f h (Some a) lives has same said = said-at g f h a.0 lives has same said

-- One life is changed, in a way that is known of that life alone.
pub said-where : {F : Type 0} (g : Life → F) (f : Life → Life) (h : F → F) (n : Option ActNo) (lives : ℕ → Option Life) (has : ℕ → F)
    → ((a : ActNo) (l : Life) → n ≡ Some a → lives a.0 ≡ Some l → g (f l) ≡ h (g l)) → Said g lives has → Said g (with_life f n lives) (change h n has)
said-where g f h None lives has same said = said
said-where g f h (Some a) lives has same said = λ b life is. elim (cases_eq b a.0) [
  | inl at ↦
      let was = mapped f (lives a.0) life (sym (put-at lives a.0 b (option_map f (lives a.0)) at) ∙ is) in
      ap g (sym was.2) ∙ same a was.0 refl was.1 ∙ ap h (said a.0 was.0 was.1) ∙ sym (put-at has a.0 b (h (has a.0)) at)
  | inr apart ↦ said b life (sym (put-other lives a.0 b (option_map f (lives a.0)) apart) ∙ is) ∙ sym (put-other has a.0 b (h (has a.0)) apart)
]

-- One life is changed, in a way that leaves what is said.
pub said-keep : {F : Type 0} (g : Life → F) (f : Life → Life) (n : Option ActNo) (lives : ℕ → Option Life) (has : ℕ → F) → ((l : Life) → g (f l) ≡ g l)
    → Said g lives has → Said g (with_life f n lives) has
said-keep g f None lives has same said = said
said-keep g f (Some a) lives has same said = λ b life is. elim (cases_eq b a.0) [
  | inl at ↦
      let was = mapped f (lives a.0) life (sym (put-at lives a.0 b (option_map f (lives a.0)) at) ∙ is) in
      ap g (sym was.2) ∙ same was.0 ∙ said a.0 was.0 was.1 ∙ ap has (sym at)
  | inr apart ↦ said b life (sym (put-other lives a.0 b (option_map f (lives a.0)) apart) ∙ is)
]

pub said-if : {F : Type 0} (g : Life → F) (c : Bool) (f : Life → Life) (n : Option ActNo) (lives : ℕ → Option Life) (has : ℕ → F) → ((l : Life) → g (f l) ≡ g l)
    → Said g lives has → Said g (if c then with_life f n lives else lives) has
said-if g true f n lives has same said = said-keep g f n lives has same said
said-if g false f n lives has same said = said

-- a number is new, or free again
pub said-new : {F : Type 0} (g : Life → F) (a : ℕ) (new : Life) (v : F) (lives : ℕ → Option Life) (has : ℕ → F) → g new ≡ v
    → Said g lives has → Said g (put lives a (Some new)) (put has a v)
said-new g a new v lives has is_new said b life is = elim (cases_eq b a) [
  | inl at ↦ ap g (same_Some life new (sym is ∙ put-at lives a b (Some new) at)) ∙ is_new ∙ sym (put-at has a b v at)
  | inr apart ↦ said b life (sym (put-other lives a b (Some new) apart) ∙ is) ∙ sym (put-other has a b v apart)
]

pub said-gone : {F : Type 0} (g : Life → F) (a : ℕ) (lives : ℕ → Option Life) (has : ℕ → F) → Said g lives has → Said g (put lives a None) has
said-gone g a lives has said b life is = elim (cases_eq b a) [
  | inl at ↦ absurd (none-some life (sym (put-at lives a b None at) ∙ is))
  | inr apart ↦ said b life (sym (put-other lives a b None apart) ∙ is)
]

-- a life is told of: what it has passes to the life of the up
abbrev pub pass_as : {X : Type 0} → (List X → List X) → Option ActNo → ActNo → (ℕ → List X) → ℕ → List X
pass_as m up a has = change (λ things. things ++ m (has a.0)) up (put has a.0 [])

pub said-passed : {X : Type 0} (g : Life → List X) (m : List X → List X) (up : Option ActNo) (a : ActNo) (from : Life) (lives : ℕ → Option Life)
    (has : ℕ → List X)
    → ((l : Life) → g (inherits from l) ≡ g l ++ m (g from)) → ((l : Life) → g (bereft l) ≡ []) → lives a.0 ≡ Some from
    → Said g lives has → Said g (handed up a (Some from) lives) (pass_as m up a has)
said-passed g m up a from lives has joined bare is said =
    let bereaved : Said g (with_life bereft (Some a) lives) (put has a.0 []) = said-with g bereft (λ old. []) (Some a) lives has bare said in
    said-with g (inherits from) (λ things. things ++ m (has a.0)) up (with_life bereft (Some a) lives) (put has a.0 [])
    (λ l. joined l ∙ ap (λ things. g l ++ m things) (said a.0 from is)) bereaved

-- What a life had is lost when it is handed over: it then has what a bereft life has.
pub said-lost : {F : Type 0} (g : Life → F) (up : Option ActNo) (a : ActNo) (o : Option Life) (v : F) (lives : ℕ → Option Life) (has : ℕ → F)
    → ((from l : Life) → g (inherits from l) ≡ g l) → ((l : Life) → g (bereft l) ≡ v) → lives a.0 ≡ o
    → Said g lives has → Said g (handed up a o lives) (put has a.0 v)
said-lost g up a None v lives has same bare is said = λ b life at. elim (cases_eq b a.0) [
  | inl here ↦ absurd (none-some life (sym is ∙ ap lives (sym here) ∙ at))
  | inr apart ↦ said b life at ∙ sym (put-other has a.0 b v apart)
]
said-lost g up a (Some from) v lives has same bare is said =
    said-keep g (inherits from) up (with_life bereft (Some a) lives) (put has a.0 v) (same from) (said-with g bereft (λ old. v) (Some a) lives has bare said)

-- What a life keeps when it is handed over is said as before.
pub said-stays : {F : Type 0} (g : Life → F) (up : Option ActNo) (a : ActNo) (o : Option Life) (lives : ℕ → Option Life) (has : ℕ → F)
    → ((from l : Life) → g (inherits from l) ≡ g l) → ((l : Life) → g (bereft l) ≡ g l)
    → Said g lives has → Said g (handed up a o lives) has
said-stays g up a None lives has same bare said = said
said-stays g up a (Some from) lives has same bare said =
    said-keep g (inherits from) up (with_life bereft (Some a) lives) has (same from) (said-keep g bereft (Some a) lives has bare said)

-- what is said may be said in another way
pub said-same : {F : Type 0} (g : Life → F) (lives : ℕ → Option Life) (has more : ℕ → F) → ((b : ℕ) → has b ≡ more b) → Said g lives has → Said g lives more
said-same g lives has more same said b life is = said b life is ∙ same b
