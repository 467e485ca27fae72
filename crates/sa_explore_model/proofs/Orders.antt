-- The order of schedules: the shorter first, and of those of one length by the first processor in which they differ.
use Rattle.std.proofs.Common.{◌≡◌, ℕ, ◌<◌, ◌≤◌, ◌⊎◌, inl, inr, List, [], ◌∷◌, ◌++◌, length, refl, sym, ap, subst, ◌∙◌, arith, length-append}
use Rattle.sa_base.specs.declared.number.ProcNo.{ProcNo}
use Rattle.sa_explore_model.specs.Order.{IsNotAfter, ComesFirst}

-- STRICTLY: of one length, and less at the first place at which they differ.
abbrev pub IsLess : List ProcNo → List ProcNo → Type 0
IsLess [] qs = ⊥
IsLess (p ∷ ps) [] = ⊥
IsLess (p ∷ ps) (q ∷ qs) = (p.0 < q.0) ⊎ ((p ≡ q) × IsLess ps qs)

abbrev pub Precedes : List ProcNo → List ProcNo → Type 0
Precedes ps qs = (length ps < length qs) ⊎ ((length ps ≡ length qs) × IsLess ps qs)

pub same-proc : (p q : ProcNo) → p.0 ≡ q.0 → p ≡ q
same-proc p q e = let of : ℕ → ProcNo = λ n. record { 0 = n } in ap of e

less-append : (ps qs xs ys : List ProcNo) → IsLess ps qs → IsLess (ps ++ xs) (qs ++ ys)
less-append [] qs xs ys h = absurd h
less-append (p ∷ ps) [] xs ys h = absurd h
less-append (p ∷ ps) (q ∷ qs) xs ys h = elim h [ inl lt ↦ inl lt | inr r ↦ inr (r.0, less-append ps qs xs ys r.1) ]

less-last : (ps : List ProcNo) (p q : ProcNo) → p.0 < q.0 → IsLess (ps ++ p ∷ []) (ps ++ q ∷ [])
less-last [] p q lt = inl lt
less-last (r ∷ ps) p q lt = inr (refl, less-last ps p q lt)

not_after-less : (ps qs : List ProcNo) → IsLess ps qs → IsNotAfter ps qs
not_after-less [] qs h = absurd h
not_after-less (p ∷ ps) [] h = absurd h
not_after-less (p ∷ ps) (q ∷ qs) h = elim h [ inl lt ↦ inl lt | inr r ↦ inr (r.0, not_after-less ps qs r.1) ]

not_after-refl : (ps : List ProcNo) → IsNotAfter ps ps
not_after-refl [] = tt
not_after-refl (p ∷ ps) = inr (refl, not_after-refl ps)

not_after-trans : (xs ys zs : List ProcNo) → IsNotAfter xs ys → IsNotAfter ys zs → IsNotAfter xs zs
not_after-trans [] ys zs f g = tt
not_after-trans (a ∷ xs) [] zs f g = absurd f
not_after-trans (a ∷ xs) (b ∷ ys) [] f g = absurd g
not_after-trans (a ∷ xs) (b ∷ ys) (c ∷ zs) f g =
    elim f [
      | inl lt ↦ elim g [
        | inl more ↦ inl (omega arith)
        | inr same ↦ inl (subst (λ (z : ProcNo). a.0 < z.0) same.0 lt)
      ]
      | inr is ↦ elim g [
        | inl more ↦ inl (subst (λ (z : ProcNo). z.0 < c.0) (sym is.0) more)
        | inr same ↦ inr (is.0 ∙ same.0, not_after-trans xs ys zs is.1 same.1)
      ]
    ]

not_after-append : (ps qs xs : List ProcNo) → length ps ≡ length qs → IsNotAfter ps qs → IsNotAfter (ps ++ xs) (qs ++ xs)
not_after-append [] [] xs size h = not_after-refl xs
not_after-append [] (q ∷ qs) xs size h = absurd (omega arith)
not_after-append (p ∷ ps) [] xs size h = absurd h
not_after-append (p ∷ ps) (q ∷ qs) xs size h =
    elim h [ inl lt ↦ inl lt | inr r ↦ inr (r.0, not_after-append ps qs xs (omega arith) r.1) ]

not_after-behind : (xs ps qs : List ProcNo) → IsNotAfter ps qs → IsNotAfter (xs ++ ps) (xs ++ qs)
not_after-behind [] ps qs h = h
not_after-behind (a ∷ xs) ps qs h = inr (refl, not_after-behind xs ps qs h)

-- SHORTER FIRST

pub first-refl : (ps : List ProcNo) → ComesFirst ps ps
first-refl ps = inr (refl, not_after-refl ps)

pub first-trans : (xs ys zs : List ProcNo) → ComesFirst xs ys → ComesFirst ys zs → ComesFirst xs zs
first-trans xs ys zs f g =
    elim f [
      | inl lt ↦ elim g [ inl more ↦ inl (omega arith) | inr same ↦ inl (let e = same.0 in omega arith) ]
      | inr is ↦ elim g [
        | inl more ↦ inl (let e = is.0 in omega arith)
        | inr same ↦ inr (is.0 ∙ same.0, not_after-trans xs ys zs is.1 same.1)
      ]
    ]

-- the same turns more
pub first-append : (ps qs xs : List ProcNo) → ComesFirst ps qs → ComesFirst (ps ++ xs) (qs ++ xs)
first-append ps qs xs h =
    let one = length-append ps xs in
    let two = length-append qs xs in
    elim h [ inl lt ↦ inl (omega arith) | inr r ↦ inr (let e = r.0 in omega arith, not_after-append ps qs xs r.0 r.1) ]

-- the same turns before
pub first-behind : (xs ps qs : List ProcNo) → ComesFirst ps qs → ComesFirst (xs ++ ps) (xs ++ qs)
first-behind xs ps qs h =
    let one = length-append xs ps in
    let two = length-append xs qs in
    elim h [ inl lt ↦ inl (omega arith) | inr r ↦ inr (let e = r.0 in omega arith, not_after-behind xs ps qs r.1) ]

-- more turns of the second
pub first-more : (ps qs xs : List ProcNo) → ComesFirst ps qs → ComesFirst ps (qs ++ xs)
first-more ps qs [] h = subst (λ (z : List ProcNo). ComesFirst ps z) (sym (end-nil qs)) h
  where
    end-nil : (xs : List ProcNo) → xs ++ [] ≡ xs
    end-nil [] = refl
    end-nil (x ∷ xs) = ap (λ (z : List ProcNo). x ∷ z) (end-nil xs)
first-more ps qs (a ∷ xs) h =
    let size = length-append qs (a ∷ xs) in
    elim h [ inl lt ↦ inl (omega arith) | inr r ↦ inl (let e = r.0 in omega arith) ]

pub length-first : (ps qs : List ProcNo) → ComesFirst ps qs → length ps ≤ length qs
length-first ps qs h = elim h [ inl lt ↦ omega arith | inr r ↦ (let e = r.0 in omega arith) ]

pub precedes-first : (ps qs : List ProcNo) → Precedes ps qs → ComesFirst ps qs
precedes-first ps qs h = elim h [ inl lt ↦ inl lt | inr r ↦ inr (r.0, not_after-less ps qs r.1) ]

-- a turn more of each
pub precedes-more : (ps qs : List ProcNo) (p q : ProcNo) → Precedes ps qs → Precedes (ps ++ p ∷ []) (qs ++ q ∷ [])
precedes-more ps qs p q h =
    let one = length-append ps (p ∷ []) in
    let two = length-append qs (q ∷ []) in
    elim h [ inl lt ↦ inl (omega arith) | inr r ↦ inr (let e = r.0 in omega arith, less-append ps qs (p ∷ []) (q ∷ []) r.1) ]

pub precedes-last : (ps : List ProcNo) (p q : ProcNo) → p.0 < q.0 → Precedes (ps ++ p ∷ []) (ps ++ q ∷ [])
precedes-last ps p q lt =
    let one = length-append ps (p ∷ []) in
    let two = length-append ps (q ∷ []) in
    inr (omega arith, less-last ps p q lt)
