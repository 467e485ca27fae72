-- A list that is added to another one node by node.
use Rattle.std.proofs.Common.{◌≡◌, ℕ, ◌+◌, ◌<◌, Option, Some, None, List, [], ◌∷◌, ◌++◌, length, slice_get, refl, sym, ap, ◌∙◌, arith, append_assoc, append-nil}
use Rattle.std.proofs.lemmas.List.{length-append}
use Rattle.sa_links.specs.Lists.{Lists, list_at, IsNext}

-- some nodes of list l were added to `was`, which made it `now`, and this is the next one
pub record IsCopied (c : Lists) (l : ℕ) (was now : List ℕ) (after : Option ℕ) : Type 0 where
  pub front : List ℕ
  pub back : List ℕ
  pub split : list_at c.lists l ≡ front ++ back
  pub out : now ≡ was ++ front
  pub next : after ≡ slice_get back 0

pub none_yet : (c : Lists) (l : ℕ) (was : List ℕ) (next : Option ℕ) → next ≡ slice_get (list_at c.lists l) 0 → IsCopied c l was was next
none_yet c l was next first = record {
  front = [];
  back = list_at c.lists l;
  split = refl;
  out = sym (append-nil was);
  next = first;
}

pub one_more : (c : Lists) (l : ℕ) (was now : List ℕ) (x : ℕ) (next : Option ℕ) → IsCopied c l was now (Some x) → IsNext c x next
    → IsCopied c l was (now ++ x ∷ []) next
one_more c l was now x next h after = go h.back h.split h.next
  where
    go : (back : List ℕ) → list_at c.lists l ≡ h.front ++ back → Some x ≡ slice_get back 0 → IsCopied c l was (now ++ x ∷ []) next
    go [] split first = absurd (let e : Some x ≡ None = first in cc)
    go (y ∷ ys) split first =
        let here : x ≡ y = cc in
        let at : list_at c.lists l ≡ h.front ++ x ∷ ys = split ∙ ap (λ z. h.front ++ z ∷ ys) (sym here) in
        record {
          front = h.front ++ x ∷ [];
          back = ys;
          split = at ∙ sym (append_assoc h.front (x ∷ []) ys);
          out = ap (λ z. z ++ x ∷ []) h.out ∙ append_assoc was h.front (x ∷ []);
          next = after l h.front ys at;
        }

pub all_there : (c : Lists) (l : ℕ) (was now : List ℕ) → IsCopied c l was now None → now ≡ was ++ list_at c.lists l
all_there c l was now h = go h.back h.split h.next
  where
    go : (back : List ℕ) → list_at c.lists l ≡ h.front ++ back → None ≡ slice_get back 0 → now ≡ was ++ list_at c.lists l
    go [] split first = h.out ∙ ap (λ z. was ++ z) (sym (split ∙ append-nil h.front))
    go (y ∷ ys) split first = absurd (let e : None ≡ Some y = first in cc)

-- a node is left to be added
pub some_left : (c : Lists) (l : ℕ) (was now : List ℕ) (x : ℕ) → IsCopied c l was now (Some x) → length now < length was + length (list_at c.lists l)
some_left c l was now x h = go h.back h.split h.next
  where
    go : (back : List ℕ) → list_at c.lists l ≡ h.front ++ back → Some x ≡ slice_get back 0 → length now < length was + length (list_at c.lists l)
    go [] split first = absurd (let e : Some x ≡ None = first in cc)
    go (y ∷ ys) split first =
        let all : length (list_at c.lists l) ≡ length h.front + length (y ∷ ys) = ap length split ∙ length-append h.front (y ∷ ys) in
        let out : length now ≡ length was + length h.front = ap length h.out ∙ length-append was h.front in
        omega arith
