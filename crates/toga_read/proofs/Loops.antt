-- What a loop has made of the items so far.
use Rattle.std.proofs.Common.{◌≡◌, ℕ, ◌+◌, ◌<◌, ◌≤◌, zero, suc, Bool, true, false, List, [], ◌∷◌, ◌++◌, length, take, get_or, map, find, None, Some, refl, sym, ap, ◌∙◌, append_assoc, cond, arith}
use Rattle.std.specs.List.{fold}
use Rattle.std.proofs.lemmas.List.Sums.{fold-append}
use Rattle.std.proofs.lemmas.List.{take_all, take_more, map-append}

-- what is made of one item more, and of all
pub mapped-more : {A B : Type 0} (f : A → B) (xs : List A) (i : ℕ) (d : A) (now later : List B) (y : B) → i < length xs → now ≡ map f (take i xs)
    → y ≡ f (get_or xs i d) → later ≡ now ++ y ∷ [] → later ≡ map f (take (i + 1) xs)
mapped-more f xs i d now later y h e v g =
    g ∙ ap (λ z. now ++ z ∷ []) v ∙ ap (λ zs. zs ++ f (get_or xs i d) ∷ []) e ∙ sym (map-append f (take i xs) (get_or xs i d ∷ []))
    ∙ ap (map f) (sym (take_more xs i d h))

pub mapped-all : {A B : Type 0} (f : A → B) (xs : List A) (i : ℕ) (now : List B) → length xs ≤ i → now ≡ map f (take i xs) → now ≡ map f xs
mapped-all f xs i now h e = e ∙ ap (map f) (take_all i xs h)

-- the same after what was there
pub pushed-more : {A B : Type 0} (f : A → B) (xs : List A) (i : ℕ) (d : A) (old now later : List B) (y : B) → i < length xs
    → now ≡ old ++ map f (take i xs) → y ≡ f (get_or xs i d) → later ≡ now ++ y ∷ [] → later ≡ old ++ map f (take (i + 1) xs)
pushed-more f xs i d old now later y h e v g =
    g ∙ ap (λ z. now ++ z ∷ []) v ∙ ap (λ zs. zs ++ f (get_or xs i d) ∷ []) e ∙ append_assoc old (map f (take i xs)) (f (get_or xs i d) ∷ [])
    ∙ ap (λ zs. old ++ zs) (sym (map-append f (take i xs) (get_or xs i d ∷ []))) ∙ ap (λ zs. old ++ map f zs) (sym (take_more xs i d h))

pub pushed-all : {A B : Type 0} (f : A → B) (xs : List A) (i : ℕ) (old now : List B) → length xs ≤ i → now ≡ old ++ map f (take i xs) → now ≡ old ++ map f xs
pushed-all f xs i old now h e = e ∙ ap (λ zs. old ++ map f zs) (take_all i xs h)

-- what a fold is after what is made of one item more
pub folded-more : {A B C : Type 0} (f : B → A → B) (g : C → A) (b : B) (xs : List C) (i : ℕ) (d : C) (now later : B) → i < length xs
    → now ≡ fold f b (map g (take i xs)) → later ≡ f now (g (get_or xs i d)) → later ≡ fold f b (map g (take (i + 1) xs))
folded-more f g b xs i d now later h e l =
    l ∙ ap (λ z. f z (g (get_or xs i d))) e ∙ sym (fold-append f b (map g (take i xs)) (g (get_or xs i d) ∷ []))
    ∙ ap (fold f b) (sym (map-append g (take i xs) (get_or xs i d ∷ []))) ∙ ap (λ zs. fold f b (map g zs)) (sym (take_more xs i d h))

pub folded-all : {A B C : Type 0} (f : B → A → B) (g : C → A) (b : B) (xs : List C) (i : ℕ) (now : B) → length xs ≤ i
    → now ≡ fold f b (map g (take i xs)) → now ≡ fold f b (map g xs)
folded-all f g b xs i now h e = e ∙ ap (λ zs. fold f b (map g zs)) (take_all i xs h)

-- the first item that passes
pub find-here : {A : Type 0} (p : A → Bool) (xs : List A) (i : ℕ) (d : A) → i < length xs → find p (take i xs) ≡ None → p (get_or xs i d) ≡ true
    → find p xs ≡ Some (get_or xs i d)
find-here p [] i d h e g = absurd (omega (arith, h))
find-here {A} p (x ∷ xs) zero d h e g = ap (λ (b : Bool). cond b (Some x) (find p xs)) g
find-here {A} p (x ∷ xs) (suc i) d h e g = later (p x) refl (λ k. find-here p xs i d (omega arith) k g) where
  later : (b : Bool) → p x ≡ b → (find p (take i xs) ≡ None → find p xs ≡ Some (get_or xs i d)) → find p (x ∷ xs) ≡ Some (get_or xs i d)
  later true is rest = absurd (let clash = sym (ap (λ (c : Bool). cond c (Some x) (find p (take i xs))) is) ∙ e in cc)
  later false is rest =
      ap (λ (c : Bool). cond c (Some x) (find p xs)) is ∙ rest (sym (ap (λ (c : Bool). cond c (Some x) (find p (take i xs))) is) ∙ e)

find-append : {A : Type 0} (p : A → Bool) (xs : List A) (x : A) → find p xs ≡ None → p x ≡ false → find p (xs ++ x ∷ []) ≡ None
find-append {A} p [] x e g = ap (λ (b : Bool). cond b (Some x) None) g
find-append {A} p (a ∷ xs) x e g = later (p a) refl (λ k. find-append p xs x k g) where
  later : (b : Bool) → p a ≡ b → (find p xs ≡ None → find p (xs ++ x ∷ []) ≡ None) → find p ((a ∷ xs) ++ x ∷ []) ≡ None
  later true is rest = absurd (let clash = sym (ap (λ (c : Bool). cond c (Some a) (find p xs)) is) ∙ e in cc)
  later false is rest =
      ap (λ (c : Bool). cond c (Some a) (find p (xs ++ x ∷ []))) is ∙ rest (sym (ap (λ (c : Bool). cond c (Some a) (find p xs)) is) ∙ e)

-- no item up to this one passes
pub find-none : {A : Type 0} (p : A → Bool) (xs : List A) (i : ℕ) (d : A) → i < length xs → find p (take i xs) ≡ None → p (get_or xs i d) ≡ false
    → find p (take (i + 1) xs) ≡ None
find-none p xs i d h e g = ap (find p) (take_more xs i d h) ∙ find-append p (take i xs) (get_or xs i d) e g

pub find-all : {A : Type 0} (p : A → Bool) (xs : List A) (i : ℕ) → length xs ≤ i → find p (take i xs) ≡ None → find p xs ≡ None
find-all p xs i h e = sym (ap (find p) (take_all i xs h)) ∙ e
